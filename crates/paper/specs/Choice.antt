-- A choice by tests, so that a table of the paper is written a row to a line: `test gives answer or` the next row.
use Rattle.std.specs.Prelude.{ℕ, zero, suc, Bool, true, false, List, [], ◌∷◌, leb, eqb}

infixr 5 ◌gives◌or◌
abbrev pub ◌gives◌or◌ : {A : Type 0} → Bool → A → A → A
◌gives◌or◌ true a b = a
◌gives◌or◌ false a b = b

-- from the first number to the last, both counted
unfoldable pub between : ℕ → ℕ → ℕ → Bool
between first last n = leb first n gives leb n last or false

-- one of these numbers
abbrev pub one_of : List ℕ → ℕ → Bool
one_of [] n = false
one_of (m ∷ ms) n = eqb n m gives true or one_of ms n

-- so many numbers that follow each other, from the first
abbrev pub numbers : ℕ → ℕ → List ℕ
numbers zero first = []
numbers (suc n) first = first ∷ numbers n (suc first)
