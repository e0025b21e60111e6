-- No rule of the paper: for contracts of this layer.
-- The size of a set, kind and count, in one number: twice the bytes to a character after the first, and one more for 96 type.
use Rattle.std.specs.Prelude.{ℕ, ◌+◌, ◌%◌, Bool, true, false, ltb, eqb}
use Rattle.paper.specs.Choice.{◌gives◌or◌}
use Rattle.paper.specs.declared.Kind.{Kind}
use Rattle.paper.specs.declared.Count.{Count}
use Rattle.paper.specs.declared.Set.{Set}

-- a set of one byte to a character
abbrev pub one_byte : Kind → ℕ → Set
one_byte kind last = record { kind = kind; count = Count.One; last = last }

abbrev pub kind_number : Kind → ℕ
kind_number Kind.Of94 = 0
kind_number Kind.Of96 = 1

abbrev pub count_number : Count → ℕ
count_number Count.One = 0
count_number Count.Two = 2
count_number Count.Three = 4

abbrev pub size_number : Kind → Count → ℕ
size_number k n = count_number n + kind_number k

abbrev pub size_of_set : Set → ℕ
size_of_set x = size_number x.kind x.count

-- and back
unfoldable pub kind_of : ℕ → Kind
kind_of x = eqb (x % 2) (kind_number Kind.Of94) gives Kind.Of94 or Kind.Of96

unfoldable pub count_of : ℕ → Count
count_of x =
    ltb x (count_number Count.Two) gives Count.One or
    ltb x (count_number Count.Three) gives Count.Two or
    Count.Three

-- one byte to a character
unfoldable pub is_one : ℕ → Bool
is_one x = ltb x (count_number Count.Two)

abbrev pub is_of94 : Kind → Bool
is_of94 Kind.Of94 = true
is_of94 Kind.Of96 = false
