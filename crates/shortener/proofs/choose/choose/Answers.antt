-- The invariant: from the place that is left the choices stand, and what is after it costs what its codes say.
use Rattle.std.proofs.Common.{◌≡◌, ℕ, suc, ◌-◌, List, get_or, ap, ◌∙◌, arith}
use Rattle.paper.specs.declared.Element.{Element}
use Rattle.shortener.specs.declared.by_element.ByElement.{ByElement}
use Rattle.shortener.specs.declared.code.Code.{Code}
use Rattle.shortener.specs.ByElements.{at_element, by_element}
use Rattle.shortener.specs.Choices.{costs_with, choices_with, packed_choices}
use Rattle.shortener.proofs.CodesAsBytes.{few_told}
use Rattle.shortener.proofs.ChosenFromTheEnd.{chosen_from, cost_from, none_chosen, none_costs, small_from, one_chosen, one_costs}
use Rattle.shortener.proofs.choose.choose.Goals as goal

pub loop-left-init : goal.loop-left-init
loop-left-init c =
    let a = c.args in
    record { work_is = none_chosen a.count a.work.now; later_is = c.nothing-later.ensures ∙ none_costs a.count a.work.now }

pub turn_or_opening-now-requires : goal.turn_or_opening-now-requires
turn_or_opening-now-requires c =
    let l = c.loop-left in
    let a = c.args in (
      small_from l.left a.count a.work.now l.later l.invariant.later_is (omega arith) (omega arith),
      rw c.unpacked.ensures (few_told (get_or l.work (l.left - 1) 0)),
    )

pub loop-left-preserved : goal.loop-left-preserved
loop-left-preserved c =
    let l = c.loop-left in
    let a = c.args in
    let t = c.turn_or_opening-now in
    let codes : List ℕ = a.work.now in
    let n : ℕ = l.left - 1 in
    let on : l.left ≡ suc n = omega arith in
    let so_far = l.invariant.work_is ∙ ap (λ (k : ℕ). chosen_from k a.count codes) on in
    let after = l.invariant.later_is ∙ ap (λ (k : ℕ). cost_from k a.count codes) on in
    let choices =
    c.packed.ensures ∙ ap (λ (f : ByElement Element). packed_choices (at_element f)) t.ensures.choices_value ∙
    ap (λ (code : Code). packed_choices (choices_with code (at_element l.later))) c.unpacked.ensures in
    let costs = t.ensures.costs_value ∙ ap (λ (code : Code). by_element (costs_with code (at_element l.later))) c.unpacked.ensures in
    record {
      work_is = one_chosen n a.count codes l.work l.later (omega arith) (omega arith) so_far after c.packed.result choices;
      later_is = one_costs n a.count codes l.work l.later (omega arith) (omega arith) so_far after t.result.costs costs;
    }
