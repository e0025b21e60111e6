-- The tests in their order, and then what the passes give.
use mathlib.Core.Path.{refl, sym, ◌∙◌}
use native.Mathlib.Omega.{arith}
use Rattle.shortener.proofs.ShortenedByPasses.{too_long, work_short, text_refused, no_room, all_written}
use Rattle.shortener.proofs.shortest.Goals as goal

pub returns-then-text-gt-LONGEST_INPUT : goal.returns-then-text-gt-LONGEST_INPUT
returns-then-text-gt-LONGEST_INPUT c =
    let a = c.args in
    let all =
    too_long a.form a.text.now a.buffer.now a.work.now c.if-text-gt-LONGEST_INPUT.true in
    record { value = all.0; buffer_after = all.1.0; work_after = all.1.1 }

pub returns-then-work-lt-LEAST_WORK : goal.returns-then-work-lt-LEAST_WORK
returns-then-work-lt-LEAST_WORK c =
    let a = c.args in
    let all =
    work_short a.form a.text.now a.buffer.now a.work.now c.if-text-gt-LONGEST_INPUT.false c.if-work-lt-LEAST_WORK.true in
    record { value = all.0; buffer_after = all.1.0; work_after = all.1.1 }

pub returns-in-Some : goal.returns-in-Some
returns-in-Some c =
    let a = c.args in
    let r = c.in-Some.refused in
    let all =
    text_refused a.form a.text.now a.buffer.now a.work.now c.if-text-gt-LONGEST_INPUT.false c.if-work-lt-LEAST_WORK.false r.refusal r.place
    (sym c.in-Some.is ∙ c.refusal.ensures) in
    record { value = all.0; buffer_after = all.1.0; work_after = all.1.1 }

pub returns-then-length-buffer : goal.returns-then-length-buffer
returns-then-length-buffer c =
    let a = c.args in
    let all =
    no_room a.form a.text.now a.buffer.now a.work.now c.if-text-gt-LONGEST_INPUT.false c.if-work-lt-LEAST_WORK.false
    (sym c.in_default.is ∙ c.refusal.ensures) _ (c.weigh-length.ensures.length_value refl) c.if-length-buffer.true in
    record { value = all.0; buffer_after = all.1.0; work_after = all.1.1 }

pub returns : goal.returns
returns c =
    let a = c.args in
    let all =
    all_written a.form a.text.now a.buffer.now a.work.now c.if-text-gt-LONGEST_INPUT.false c.if-work-lt-LEAST_WORK.false
    (sym c.in_default.is ∙ c.refusal.ensures) _ (c.weigh-length.ensures.length_value refl) (omega arith) _ _
    c.write.ensures.buffer_after c.write.ensures.work_after in
    record { value = all.0; buffer_after = all.1.0; work_after = all.1.1 }
