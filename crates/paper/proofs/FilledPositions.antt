-- How many positions a kind of set has and how many of the mapped sets' are filled, counted over all bytes.
use Prim.Native.Nat.{ℕ, ◌+◌}
use mathlib.Core.Path.{◌≡◌, refl}
use mathlib.Core.Bool.{Bool, true, false}
use mathlib.Core.List.{List, [], ◌∷◌}
use Rattle.paper.specs.Choice.{◌gives◌or◌, between, numbers}
use Rattle.paper.specs.Words.{Kind, Of94, Of96, Set, SetByte, OfSpace, OfDelete, OfSet, Outside}
use Rattle.paper.specs.Sets.{size_of, set_byte}
use Rattle.paper.specs.Starting.{latin, greek}
use Rattle.paper.specs.LatinGreek.{greek_number, number_in}
use Rattle.std.specs.Prelude.{Option, Some, None}

abbrev how_many : (ℕ → Bool) → List ℕ → ℕ
how_many f [] = 0
how_many f (b ∷ bs) = (f b gives 1 or 0) + how_many f bs

abbrev all_bytes : List ℕ
all_bytes = numbers 256 0

abbrev is_of_set : SetByte → Bool
is_of_set OfSpace = false
is_of_set OfDelete = false
is_of_set OfSet = true
is_of_set Outside = false

pub positions_of_kind : (k : Kind) → how_many (λ b. is_of_set (set_byte k b)) all_bytes ≡ size_of k
unfolding set_byte between
positions_of_kind Of94 = refl
positions_of_kind Of96 = refl

abbrev is_filled : Option ℕ → Bool
is_filled (Some u) = true
is_filled None = false

abbrev pub filled : Set → ℕ
filled x = how_many (λ b. is_filled (number_in x b)) all_bytes

-- 90 characters; with 94 and SPACE, the 185 of ECMA-118
pub filled_positions : (filled latin ≡ 94) × (filled greek ≡ 90) × (filled latin + filled greek + 1 ≡ 185)
unfolding number_in set_byte between greek_number
filled_positions = (refl, refl, refl)
