-- A plain byte that is quiet passes, and from SPACE on each is quiet.
use Prim.Native.Nat.{ℕ, ◌≤◌}
use mathlib.Core.Path.{◌≡◌, refl, sym}
use mathlib.Core.Bool.{Bool, true, false}
use native.Mathlib.Omega.{arith}
use borrow.Author.Tests.{le-leb, ne_eqb}
use Rattle.paper.specs.Choice.{◌gives◌or◌, between}
use Rattle.paper.specs.CodeTable.{so, si, esc}
use Rattle.paper.proofs.Choices.{above_bounds}
use Rattle.lane.specs.declared.Lane.{Lane}
use Rattle.lane.specs.Passing.{is_quiet, passes}

true_anyway : (t : Bool) → true ≡ (t gives true or true)
true_anyway true = refl
true_anyway false = refl

pub plain_quiet : (x : Lane) (b : ℕ) → b ≤ x.plain → is_quiet b ≡ true → true ≡ passes x b
unfolding passes
plain_quiet x b h quiet = rw (le-leb b x.plain h, quiet) (true_anyway (between x.first x.last b))

from_space : (b : ℕ) → 32 ≤ b → is_quiet b ≡ true
unfolding is_quiet
from_space b k = rw (ne_eqb b esc (λ e. omega arith), above_bounds so si b (omega arith) (omega arith))

pub passes_from_space : (x : Lane) (b : ℕ) → 32 ≤ b → b ≤ x.plain → passes x b ≡ true
passes_from_space x b h k = sym (plain_quiet x b k (from_space b h))
