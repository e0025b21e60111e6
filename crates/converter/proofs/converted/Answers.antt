-- The four ways that `ConvertedByTwoPasses` tells apart.
use mathlib.Core.Path.{sym, ◌∙◌}
use native.Mathlib.Omega.{arith}
use Rattle.std.proofs.lemmas.Result.{err_from_is_err_and}
use Rattle.converter.proofs.ConvertedByTwoPasses.{too_long, refused_at, no_room, written}
use Rattle.converter.proofs.converted.Goals as goal

pub returns-then-text-gt-LONGEST_TEXT : goal.returns-then-text-gt-LONGEST_TEXT
returns-then-text-gt-LONGEST_TEXT c =
    let s = c.args in
    let both = too_long s.form s.to s.text.now s.buffer.now c.if-text-gt-LONGEST_TEXT.true in
    record { value = both.0; buffer_after = both.1 }

pub returns-in_err-length : goal.returns-in_err-length
returns-in_err-length c =
    let s = c.args in
    let handed = err_from_is_err_and c.from_residual.result c.from_residual.ensures.1 in
    let both =
    refused_at s.form s.to s.text.now s.buffer.now c.if-text-gt-LONGEST_TEXT.false _ _
    (sym c.in_err-length.was ∙ c.pass.ensures.value) in
    rw (handed.1, handed.2) (record { value = both.0; buffer_after = both.1 })

pub returns-then-length-buffer : goal.returns-then-length-buffer
returns-then-length-buffer c =
    let s = c.args in
    let second = c.pass-then-length-buffer in
    let both =
    written s.form s.to s.text.now s.buffer.now c.if-text-gt-LONGEST_TEXT.false _ (sym c.in_ok-length.was ∙ c.pass.ensures.value)
    (omega arith) _ _ second.ensures.value second.ensures.buffer_after in
    record { value = both.0; buffer_after = both.1 }

pub returns-else-length-buffer : goal.returns-else-length-buffer
returns-else-length-buffer c =
    let s = c.args in
    let both =
    no_room s.form s.to s.text.now s.buffer.now c.if-text-gt-LONGEST_TEXT.false _ (sym c.in_ok-length.was ∙ c.pass.ensures.value)
    (omega arith) in
    record { value = both.0; buffer_after = both.1 }
