-- Each way out is a law of a byte inside a sequence.
use Rattle.std.proofs.Common.{◌∙◌}
use Rattle.items.proofs.InsideSequences.{past_the_end_lem, below_intermediates, goes_on, ends_there, above_finals}
use Rattle.items.proofs.sequence.after_two.Goals as goal

pub returns-then-place-text : goal.returns-then-place-text
returns-then-place-text c = c.refused.ensures ∙ past_the_end_lem _ _ _ _ _ c.if-place-text.true

pub returns-then-byte-lt-FIRST_INTERMEDIATE : goal.returns-then-byte-lt-FIRST_INTERMEDIATE
returns-then-byte-lt-FIRST_INTERMEDIATE c =
    c.not_of_sequence.ensures ∙
    below_intermediates _ _ _ _ _ c.if-place-text.false c.if-byte-lt-FIRST_INTERMEDIATE.true

pub returns-then-byte-le-LAST_INTERMEDIATE : goal.returns-then-byte-le-LAST_INTERMEDIATE
returns-then-byte-le-LAST_INTERMEDIATE c =
    c.refused-then-byte-le-LAST_INTERMEDIATE.ensures ∙
    goes_on _ _ _ _ _ c.if-place-text.false c.if-byte-lt-FIRST_INTERMEDIATE.false c.if-byte-le-LAST_INTERMEDIATE.true

pub returns-then-byte-le-LAST_FINAL : goal.returns-then-byte-le-LAST_FINAL
returns-then-byte-le-LAST_FINAL c =
    let ended = c.before.before.before in
    (rw (c.effect_of_two-effect.ensures, c.piece_of_several.ensures.0) at c.meant.ensures) ∙
    ends_there _ _ _ _ _ ended.if-place-text.false ended.if-byte-le-LAST_INTERMEDIATE.false ended.if-byte-le-LAST_FINAL.true

pub returns : goal.returns
returns c =
    c.not_of_sequence-2.ensures ∙
    above_finals _ _ _ _ _ c.if-place-text.false c.if-byte-le-LAST_FINAL.false
