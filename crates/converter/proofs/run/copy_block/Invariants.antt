-- The bytes of the block so far are the copies.
use mathlib.Core.Path.{◌≡◌}
use mathlib.Core.List.{◌++◌, map}
use lib.ListN.{take, drop}
use Rattle.converter.specs.Runs.{copied_by}
use Rattle.converter.proofs.run.copy_block.Given as goal

abbrev pub invariant-loop-byte : goal.invariant-loop-byte
invariant-loop-byte l =
    l.byte-items ≡ map (copied_by l.way) (take l.byte-index l.initial.byte-items) ++ drop l.byte-index l.initial.byte-items
