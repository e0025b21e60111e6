-- What is counted at the place where the run begins is counted at this place.
use Prim.Native.Nat.{◌≤◌, ◌-◌}
use lib.ListN.{length}
use Rattle.figures.specs.Counting.{GoesOn}
use Rattle.figures.proofs.run.count_run.Given as goal

abbrev pub invariant-loop-here : goal.invariant-loop-here
invariant-loop-here l =
    (l.place ≤ l.here) × GoesOn l.fn.form l.text l.state l.initial.counts l.place l.counts l.here

abbrev pub decreases-loop-here : goal.decreases-loop-here
decreases-loop-here l = length l.text - l.here
