-- So many of the bytes looked at so far.
use mathlib.Core.Path.{◌≡◌}
use lib.Dec.{leb}
use lib.ListN.{take}
use Rattle.std.specs.Prelude.{count_by}
use Rattle.figures.proofs.run.up_to.Given as goal

abbrev pub invariant-loop-byte : goal.invariant-loop-byte
invariant-loop-byte l = l.count ≡ count_by (λ b. leb b l.bound) (take l.byte-index l.byte-items)
