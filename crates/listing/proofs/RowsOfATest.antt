-- A choice by a test is the row that the test leaves.
use mathlib.Core.Path.{◌≡◌}
use mathlib.Core.List.{List}
use Prim.Native.Nat.{ℕ, ◌≤◌, ◌<◌}
use lib.Dec.{leb}
use lib.ListN.{length}
use borrow.Author.Tests.{le-leb, lt-leb}
use native.Mathlib.Omega.{arith}
use Rattle.std.proofs.lemmas.Bool.Decides.{nat_tests}
use Rattle.std.specs.Prelude.{Ok, Err}
use Rattle.paper.specs.declared.Refused.{Refused}
use Rattle.paper.specs.Choice.{◌gives◌or◌}
use Rattle.paper.specs.Lister.{line_fits}

pub first_row : {A : Type 0} (m n : ℕ) (a b : A) → m ≤ n → (leb m n gives a or b) ≡ a
first_row m n a b h = rw (le-leb m n h)

pub second_row : {A : Type 0} (m n : ℕ) (a b : A) → n < m → (leb m n gives a or b) ≡ b
second_row m n a b h = rw (lt-leb m n h)

-- and the row tells what the test said
pub fits_lem : (room : ℕ) (line : List ℕ) {count : ℕ} → Ok count ≡ line_fits room line → (length line ≤ room) × (count ≡ length line)
fits_lem room line {count} h = grind (arith, nat_tests)

pub full_lem : (room : ℕ) (line : List ℕ) {refused : Refused} → Err refused ≡ line_fits room line → room < length line
full_lem room line {refused} h = grind (arith, nat_tests)
