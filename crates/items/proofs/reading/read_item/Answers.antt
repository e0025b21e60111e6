-- A letter is a law of its own, and each other way out is a law of an item's first byte.
use Rattle.std.proofs.Common.{sym, ◌∙◌}
use Rattle.items.proofs.FirstBytes.{at_escape, at_another_form, at_control, at_graphic}
use Rattle.items.proofs.ItemsOfBytes.{letter_item}
use Rattle.items.proofs.reading.read_item.Goals as goal
use Rattle.items.proofs.reading.read_item.Goals.{else-taken-eq-NONE-via-then-taken-eq-NONE+else-byte-eq-ESC}
use Rattle.items.proofs.reading.read_item.Goals.{else-taken-eq-NONE-via-else-taken-eq-NONE}
use Rattle.items.proofs.reading.read_item.Goals.{else-taken-eq-NONE-2-via-then-taken-eq-NONE-2+else-is_control}
use Rattle.items.proofs.reading.read_item.Goals.{else-taken-eq-NONE-2-via-else-taken-eq-NONE-2}

pub returns-then-is_letter : goal.returns-then-is_letter
returns-then-is_letter c = (
  (rw (c.element_of.ensures, c.one.ensures.1) at c.character.ensures) ∙
      sym (letter_item _ _ _ _ c.if-place-text.false (sym c.is_letter.ensures ∙ c.if-is_letter.true)),
  c.character.result.small,
)

pub returns-then-byte-eq-ESC : goal.returns-then-byte-eq-ESC
returns-then-byte-eq-ESC c = (
  c.after_escape.ensures ∙
      at_escape _ _ _ _ c.if-place-text.false (sym c.single-taken.ensures ∙ c.if-taken-eq-NONE.true) c.if-byte-eq-ESC.true,
  c.after_escape.result.small,
)

pub returns-then-not-form_has : goal.returns-then-not-form_has
returns-then-not-form_has c = (
  c.refused.ensures ∙
      at_another_form _ _ _ _ c.if-place-text.false
      (sym c.form_has.ensures ∙ c.if-not-form_has.true),
  c.refused.result.small,
)

pub returns-then-is_control : goal.returns-then-is_control
returns-then-is_control c = (
  c.control.ensures ∙
      at_control _ _ _ _ c.if-place-text.false (sym c.single-taken.ensures ∙ c.if-taken-eq-NONE-2.true)
      (λ e. elim c.else-taken-eq-NONE.branch [
        | else-taken-eq-NONE-via-then-taken-eq-NONE+else-byte-eq-ESC w ↦ w.if-byte-eq-ESC.false e
        | else-taken-eq-NONE-via-else-taken-eq-NONE w ↦ w.if-taken-eq-NONE.false c.if-taken-eq-NONE-2.true
      ])
      (sym c.form_has.ensures ∙ c.if-not-form_has.false)
      (sym c.is_control.ensures ∙ c.if-is_control.true),
  c.control.result.small,
)

pub returns : goal.returns
returns c = (
  c.graphic.ensures ∙
      at_graphic _ _ _ _ c.if-place-text.false
      (sym c.form_has.ensures ∙ c.if-not-form_has.false)
      (λ ground.
      elim c.else-taken-eq-NONE-2.branch [
        | else-taken-eq-NONE-2-via-then-taken-eq-NONE-2+else-is_control w ↦ sym w.is_control.ensures ∙ w.if-is_control.false
        | else-taken-eq-NONE-2-via-else-taken-eq-NONE-2 w ↦ absurd (w.if-taken-eq-NONE-2.false (c.single-taken.ensures ∙ ground))
      ]),
  c.graphic.result.small,
)
