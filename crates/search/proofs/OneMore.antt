-- One byte more, counted up to the most that 16 bits hold.
use Prim.Native.Nat.{ℕ, ◌+◌}
use mathlib.Core.Path.{◌≡◌}
use native.Mathlib.Omega.{arith}
use Rattle.std.specs.Prelude.{min}
use Rattle.std.proofs.lemmas.Bool.Decides.{nat_tests}
use Rattle.paper.specs.Searching.{one_more}

pub one_more_is : (n : ℕ) → min (n + 1) 65535 ≡ one_more n
unfolding one_more
one_more_is n = grind (arith, nat_tests)
