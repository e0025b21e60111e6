-- The loop keeps `Weighing` from item to item; at the end no step is left.
use Prim.Native.Nat.{ℕ, ◌+◌}
use mathlib.Core.Path.{sym, ap, ◌∙◌, subst}
use mathlib.Core.List.{List}
use native.Mathlib.Omega.{arith}
use Rattle.paper.specs.declared.Element.TheVariants.{G0}
use Rattle.items.specs.States.{starting_cells}
use Rattle.shortener.specs.ByElements.{at_element}
use Rattle.shortener.specs.Weighing.{Weighing}
use Rattle.shortener.specs.declared.weigh.Weighed.{Weighed}
use Rattle.shortener.proofs.StepsByItems.{going_at_start}
use Rattle.shortener.proofs.WaysGoOn.{lowest_at}
use Rattle.shortener.proofs.WeighingGoesOn.{weighing_starts, weighed_all, written_all}
use Rattle.shortener.proofs.input.Input.weigh.Goals as goal

pub loop-weighed-init : goal.loop-weighed-init
loop-weighed-init c =
    let a = c.args in
    let text : List ℕ = a.self.text.now in
    let work : List ℕ = a.work.now in
    subst (λ (cells : List ℕ). Weighing a.self.form text work cells (record { place = 0; count = 0; length = 0; ways = c.first_ways.result }) work)
    (sym c.starting-state.ensures)
    (subst (λ (ways : _). Weighing a.self.form text work starting_cells (record { place = 0; count = 0; length = 0; ways = ways }) work)
    (sym c.first_ways.ensures)
    (weighing_starts a.self.form text work (going_at_start a.self.form text c.requires)))

pub overflow_add-result : goal.overflow_add-result
overflow_add-result c = let w : Weighed = c.loop-weighed.weighed in
    let p = c.loop-weighed.invariant in
    omega (arith, c.lowest.ensures, lowest_at (at_element w.ways) G0, p.bounded.each G0, p.going.reading.within, c.args.self.short)

pub returns : goal.returns
returns c =
    let loop = c.loop-weighed in
    let p = loop.invariant in
    let past = c.loop-weighed-test.false in record {
      length_value = λ none. ap (λ (n : ℕ). loop.weighed.length + n) c.lowest.ensures ∙ weighed_all p past none;
      work_after = λ room. written_all p past room;
    }
