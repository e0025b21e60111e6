-- The invariant: `all` says whether the bytes tried so far pass.
use mathlib.Core.Path.{◌≡◌}
use Rattle.lane.specs.Passing.{pass_all}
use Rattle.lane.proofs.block_passes.Given as goal

abbrev pub invariant-loop-byte : goal.invariant-loop-byte
invariant-loop-byte l = l.all ≡ pass_all l.lane l.block 0 l.byte-index
