-- By what the item is: an opening, an answer or a shift.
use mathlib.Core.Path.{refl, sym, ◌∙◌}
use borrow.Author.Rules.{rules}
use Rattle.escapes.proofs.WordNumbers.{no_word}
use Rattle.shortener.proofs.WeighingByItems.{opening_goes, answer_goes, shift_goes, unit_fit}
use Rattle.shortener.proofs.input.Input.weigh_item.Goals as goal
use Rattle.escapes.specs.Effects.{opening_word, as_word}

pub returns-then-eq : goal.returns-then-eq
returns-then-eq c =
    let opening = c.over_opening.ensures in
    let both =
    opening_goes c.requires.by_index c.requires.place_in_bounds c.next_item-item.result c.next_item-item.ensures _ _ _ (search rules)
    c.starting.ensures opening.value opening.work_after in
    record { place_lt_place = both.0; by_index_2 = both.1 }

pub invariant_of-unit : goal.invariant_of-unit
invariant_of-unit c = record {
  fit = unit_fit c.requires.by_index c.requires.place_in_bounds c.next_item-item.result c.next_item-item.ensures (search rules)
      (sym c.is_unit.ensures ∙ c.if-is_unit.true) (search rules);
}

pub returns-then-is_unit : goal.returns-then-is_unit
returns-then-is_unit c =
    let answer = c.over_answer.ensures in
    let both =
    answer_goes c.requires.by_index c.requires.place_in_bounds c.next_item-item.result c.next_item-item.ensures _ _ _ c.code_of-code.result
    (no_word c.next_item-item.result.effect.word (as_word opening_word) (sym c.eq.ensures ∙ c.if-eq.false))
    (sym c.is_unit.ensures ∙ c.if-is_unit.true) c.code_of-code.ensures.0
    c.change.ensures answer.value answer.work_after in
    record { place_lt_place = both.0; by_index_2 = both.1 }

pub returns : goal.returns
returns c =
    let both =
    shift_goes c.requires.by_index c.requires.place_in_bounds c.next_item-item.result c.next_item-item.ensures _ _ _ (search rules)
    (sym c.is_unit.ensures ∙ c.if-is_unit.false) c.change-2.ensures refl refl in
    record { place_lt_place = both.0; by_index_2 = both.1 }
