-- How many bytes the blocks so far have, all of which pass, how many are controls, and how many are controls or 2/0.
use Prim.Native.Nat.{◌-◌}
use lib.ListN.{length}
use Rattle.figures.proofs.RunsCount.{Passed}
use Rattle.figures.proofs.run.Run.count_blocks.Given as goal

abbrev pub invariant-loop-controls : goal.invariant-loop-controls
invariant-loop-controls l = Passed l.self.lane l.self.text.now l.place l.here l.controls l.low

abbrev pub decreases-loop-controls : goal.decreases-loop-controls
decreases-loop-controls l = length l.self.text.now - l.here
