-- Each way out is a law of a byte inside a sequence; where the byte is not 2/1, no opening stands there.
use Rattle.std.proofs.Common.{sym, ◌∙◌, arith}
use Rattle.items.specs.Items.{after_escape}
use Rattle.items.proofs.InsideSequences.{past_the_end_lem, below_intermediates, goes_on, ends_there, above_finals}
use Rattle.items.proofs.OpeningsAhead.{not_opened, another_byte, past_second, after_second}
use Rattle.items.proofs.sequence.after_escape.Goals as goal

pub returns-then-place-text : goal.returns-then-place-text
returns-then-place-text c =
    let a = c.args in
    let end = c.if-place-text.true in
    c.refused.ensures ∙ past_the_end_lem a.form a.text.now a.place _ _ end ∙
    not_opened a.form a.text.now a.place (after_escape a.form a.text.now a.place)
    (past_second a.form a.text.now a.place end)

pub returns-then-byte-lt-FIRST_INTERMEDIATE : goal.returns-then-byte-lt-FIRST_INTERMEDIATE
returns-then-byte-lt-FIRST_INTERMEDIATE c =
    let a = c.args in
    let inside = c.if-place-text.false in
    c.not_of_sequence.ensures ∙ below_intermediates _ _ _ _ _ inside c.if-byte-lt-FIRST_INTERMEDIATE.true ∙
    another_byte a.form a.text.now a.place (after_escape a.form a.text.now a.place) inside (λ e. omega (arith, e, c.if-byte-lt-FIRST_INTERMEDIATE.true))

pub returns-then-byte-le-LAST_INTERMEDIATE : goal.returns-then-byte-le-LAST_INTERMEDIATE
returns-then-byte-le-LAST_INTERMEDIATE c =
    let inside = c.if-place-text.false in
    c.after_one.ensures ∙
    after_second _ _ _ c.requires.0 inside _
    (sym (goes_on _ _ _ _ _ inside c.if-byte-lt-FIRST_INTERMEDIATE.false c.if-byte-le-LAST_INTERMEDIATE.true))

pub returns-then-byte-le-LAST_FINAL : goal.returns-then-byte-le-LAST_FINAL
returns-then-byte-le-LAST_FINAL c =
    let ended = c.before.before.before in
    let a = ended.args in
    let inside = ended.if-place-text.false in
    (rw (c.effect_of_none-effect.ensures, c.two.ensures.0) at c.meant.ensures) ∙
    ends_there _ _ _ _ _ inside ended.if-byte-le-LAST_INTERMEDIATE.false ended.if-byte-le-LAST_FINAL.true ∙
    another_byte a.form a.text.now a.place (after_escape a.form a.text.now a.place) inside
    (λ e. omega (arith, e, ended.if-byte-le-LAST_INTERMEDIATE.false))

pub returns : goal.returns
returns c =
    let a = c.args in
    let inside = c.if-place-text.false in
    c.not_of_sequence-2.ensures ∙ above_finals _ _ _ _ _ inside c.if-byte-le-LAST_FINAL.false ∙
    another_byte a.form a.text.now a.place (after_escape a.form a.text.now a.place) inside (λ e. omega (arith, e, c.if-byte-le-LAST_FINAL.false))
