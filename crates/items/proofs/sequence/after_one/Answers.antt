-- Each way out is a law of a byte inside a sequence; where the byte is not 4/0, no opening stands there.
use Rattle.std.proofs.Common.{sym, ◌∙◌, arith}
use Rattle.items.proofs.InsideSequences.{past_the_end_lem, below_intermediates, goes_on, ends_there, above_finals}
use Rattle.items.proofs.OpeningsAhead.{not_opened_after, past_opening, other_final}
use Rattle.items.proofs.sequence.after_one.Goals as goal

pub returns-then-place-text : goal.returns-then-place-text
returns-then-place-text c =
    c.refused.ensures ∙ past_the_end_lem _ _ _ _ _ c.if-place-text.true ∙
    not_opened_after _ _ _ _ (past_opening _ _ _ _ c.if-place-text.true)

pub returns-then-byte-lt-FIRST_INTERMEDIATE : goal.returns-then-byte-lt-FIRST_INTERMEDIATE
returns-then-byte-lt-FIRST_INTERMEDIATE c =
    let inside = c.if-place-text.false in
    c.not_of_sequence.ensures ∙ below_intermediates _ _ _ _ _ inside c.if-byte-lt-FIRST_INTERMEDIATE.true ∙
    not_opened_after _ _ _ _ (other_final _ _ _ _ inside (λ e. omega (arith, e, c.if-byte-lt-FIRST_INTERMEDIATE.true)))

pub returns-then-byte-le-LAST_INTERMEDIATE : goal.returns-then-byte-le-LAST_INTERMEDIATE
returns-then-byte-le-LAST_INTERMEDIATE c =
    let inside = c.if-place-text.false in
    c.after_two.ensures ∙ goes_on _ _ _ _ _ inside c.if-byte-lt-FIRST_INTERMEDIATE.false c.if-byte-le-LAST_INTERMEDIATE.true ∙
    not_opened_after _ _ _ _ (other_final _ _ _ _ inside (λ e. omega (arith, e, c.if-byte-le-LAST_INTERMEDIATE.true)))

pub returns-then-byte-le-LAST_FINAL : goal.returns-then-byte-le-LAST_FINAL
returns-then-byte-le-LAST_FINAL c =
    let no = c.before.before.before in
    let ended = no.before.before in
    let inside = ended.if-place-text.false in
    (rw (c.effect_of_one-effect.ensures, c.three.ensures.0) at c.meant.ensures) ∙
    ends_there _ _ _ _ _ inside ended.if-byte-le-LAST_INTERMEDIATE.false ended.if-byte-le-LAST_FINAL.true ∙
    not_opened_after _ _ _ _ (sym no.is_opening.ensures ∙ no.if-is_opening.false)

pub returns : goal.returns
returns c =
    let inside = c.if-place-text.false in
    c.not_of_sequence-2.ensures ∙ above_finals _ _ _ _ _ inside c.if-byte-le-LAST_FINAL.false ∙
    not_opened_after _ _ _ _ (other_final _ _ _ _ inside (λ e. omega (arith, e, c.if-byte-le-LAST_FINAL.false)))
