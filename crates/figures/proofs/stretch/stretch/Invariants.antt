-- Whatever the first refusal was, what is counted where the stretch begins is counted at this place.
use Prim.Native.Nat.{◌-◌, ◌≤◌}
use lib.ListN.{length}
use Rattle.items.specs.States.{starting_cells}
use Rattle.figures.specs.Counting.{Counts}
use Rattle.figures.proofs.stretch.stretch.Given as goal
use Rattle.std.specs.Prelude.{Option}
use Rattle.paper.specs.declared.Refused.{Refused}

abbrev pub invariant-loop-here : goal.invariant-loop-here
invariant-loop-here l =
    (l.place ≤ l.here) ×
    ((first : Option Refused) → Counts l.form l.text starting_cells l.initial.counts first l.place → Counts l.form l.text l.state l.counts first l.here)

abbrev pub decreases-loop-here : goal.decreases-loop-here
decreases-loop-here l = length l.text - l.here
