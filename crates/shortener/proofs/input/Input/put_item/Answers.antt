-- By what the item is: an opening, an answer or a shift.
use mathlib.Core.Path.{refl, sym, ◌∙◌}
use native.Mathlib.Omega.{arith}
use borrow.Author.Rules.{rules}
use Rattle.escapes.proofs.WordNumbers.{no_word}
use Rattle.shortener.proofs.PuttingByItems.{opening_room, opening_goes, answer_room, answer_goes, shift_goes}
use Rattle.shortener.proofs.input.Input.put_item.Goals as goal
use Rattle.escapes.specs.Effects.{opening_word, as_word}

pub put_opening_at-requires : goal.put_opening_at-requires
put_opening_at-requires c =
    let room = opening_room c.requires.by_index c.requires.place_in_bounds c.next_item-item.result c.next_item-item.ensures (search rules) in
    (room.0, omega (arith, room.1, c.requires.place_in_bounds, c.args.self.short))

pub returns-then-eq : goal.returns-then-eq
returns-then-eq c =
    let opening = c.put_opening_at.ensures in
    let both =
    opening_goes c.requires.by_index c.requires.place_in_bounds c.next_item-item.result c.next_item-item.ensures _ _ _ (search rules)
    c.starting.ensures opening.value opening.buffer_after in
    record { place_lt_place = both.0; by_index_2 = both.1 }

pub invariant_of-unit : goal.invariant_of-unit
invariant_of-unit c =
    let room =
    answer_room c.requires.by_index c.requires.place_in_bounds c.next_item-item.result c.next_item-item.ensures
    (no_word c.next_item-item.result.effect.word (as_word opening_word) (sym c.eq.ensures ∙ c.if-eq.false))
    (sym c.is_unit.ensures ∙ c.if-is_unit.true) (search rules) in
    record { fit = room.0 }

pub put_answer-requires : goal.put_answer-requires
put_answer-requires c =
    let room =
    answer_room c.requires.by_index c.requires.place_in_bounds c.next_item-item.result c.next_item-item.ensures
    (no_word c.next_item-item.result.effect.word (as_word opening_word) (sym c.eq.ensures ∙ c.if-eq.false))
    (sym c.is_unit.ensures ∙ c.if-is_unit.true) (search rules) in
    record { unit_in_bounds = room.1; piece_in_bounds = room.2 }

pub returns-then-is_unit : goal.returns-then-is_unit
returns-then-is_unit c =
    let answer = c.put_answer.ensures in
    let both =
    answer_goes c.requires.by_index c.requires.place_in_bounds c.next_item-item.result c.next_item-item.ensures _ _ _
    (no_word c.next_item-item.result.effect.word (as_word opening_word) (sym c.eq.ensures ∙ c.if-eq.false))
    (sym c.is_unit.ensures ∙ c.if-is_unit.true)
    c.change.ensures answer.value answer.buffer_after in
    record { place_lt_place = both.0; by_index_2 = both.1 }

pub returns : goal.returns
returns c =
    let both =
    shift_goes c.requires.by_index c.requires.place_in_bounds c.next_item-item.result c.next_item-item.ensures _ _ _
    (no_word c.next_item-item.result.effect.word (as_word opening_word) (sym c.eq.ensures ∙ c.if-eq.false))
    (sym c.is_unit.ensures ∙ c.if-is_unit.false) c.change.ensures refl refl in
    record { place_lt_place = both.0; by_index_2 = both.1 }
