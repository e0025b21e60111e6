use Prim.Native.Nat.{ℕ, ◌-◌, ◌≤◌}
use mathlib.Core.List.{List}
use lib.ListN.{length}
use Rattle.paper.specs.Results.{element_number}
use Rattle.paper.specs.declared.Element.{Element}
use Rattle.items.specs.States.{starting_cells}
use Rattle.converter.specs.Passing.{Passes}
use Rattle.converter.proofs.conversion.Conversion.stretch.Given as goal

abbrev pub invariant-loop-here : goal.invariant-loop-here
invariant-loop-here l =
    (l.place ≤ l.here) ×
    ((lent : List ℕ) → Passes l.self.form l.self.to l.self.text.now lent starting_cells (element_number Element.G0) l.at l.place l.initial.buffer →
    Passes l.self.form l.self.to l.self.text.now lent l.state l.shown.0 l.put l.here l.buffer)

abbrev pub decreases-loop-here : goal.decreases-loop-here
decreases-loop-here l = length l.self.text.now - l.here
