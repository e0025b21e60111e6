-- What is counted so far, between two stretches.
use Prim.Native.Nat.{◌-◌}
use lib.ListN.{length}
use Rattle.items.specs.States.{starting_cells}
use Rattle.figures.specs.Counting.{Counts}
use Rattle.figures.proofs.count.Given as goal

abbrev pub invariant-loop-place : goal.invariant-loop-place
invariant-loop-place l = Counts l.form l.text starting_cells l.counts l.first l.place

abbrev pub decreases-loop-place : goal.decreases-loop-place
decreases-loop-place l = length l.text - l.place
