-- The invariant is that of blocks, byte by byte.
use Prim.Native.Nat.{◌-◌}
use lib.ListN.{length}
use Rattle.figures.proofs.RunsCount.{Passed}
use Rattle.figures.proofs.run.Run.count_singly.Given as goal

abbrev pub invariant-loop-first : goal.invariant-loop-first
invariant-loop-first l = Passed l.self.lane l.self.text.now l.place l.here l.controls l.low

abbrev pub decreases-loop-first : goal.decreases-loop-first
decreases-loop-first l = length l.self.text.now - l.here
