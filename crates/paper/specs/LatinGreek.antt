-- Latin/Greek: the Unicode numbers of 94 F 4/2 and 96 F 4/6, and back.
use Rattle.std.specs.Prelude.{ℕ, ◌+◌, Bool, false, List, [], ◌∷◌, eqb, Option, Some, None}
use Rattle.paper.specs.Choice.{◌gives◌or◌, between, one_of, numbers}
use Rattle.paper.specs.Words.{Column, Row, Kind, Of94, Of96, Count, Set, SetByte, OfSpace, OfDelete, Position}
use Rattle.paper.specs.Words.{OfSet, Outside, Located}
use Rattle.paper.specs.CodeTable.{byte_at, position_of, bit8}
use Rattle.paper.specs.Sets.{size_of, space, set_byte}
use Rattle.paper.specs.Starting.{latin, greek}

-- 96 F 4/6, as 8-bit byte
abbrev pub unused : List ℕ
unused = 0xA4 ∷ 0xA5 ∷ 0xAA ∷ 0xAE ∷ 0xD2 ∷ 0xFF ∷ []

abbrev pub left_quote : ℕ
left_quote = 0x2018

abbrev pub right_quote : ℕ
right_quote = 0x2019

abbrev pub bar : ℕ
bar = 0x2015

-- what a letter's number has more than its byte
abbrev pub letters : ℕ
letters = 0x2D0

unfoldable pub greek_number : ℕ → Option ℕ
greek_number b =
    one_of unused b gives None or
    eqb b 0xA1 gives Some left_quote or
    eqb b 0xA2 gives Some right_quote or
    eqb b 0xAF gives Some bar or
    between 0xA0 0xB3 b gives Some b or
    one_of (0xB7 ∷ 0xBB ∷ 0xBD ∷ []) b gives Some b or
    between 0xB4 0xFE b gives Some (b + letters) or
    None

-- what stands at a position of a set, or no number where the byte is no position of it
abbrev pub at_position : SetByte → Option ℕ → Option ℕ
at_position OfSpace n = None
at_position OfDelete n = None
at_position OfSet n = n
at_position Outside n = None

-- the number of a set's position byte: 94 F 4/2, the byte; 96 F 4/6, by its rule; no other set is mapped
abbrev pub number_by : Count → Kind → ℕ → ℕ → Option ℕ
number_by Count.One Of94 f b = eqb f latin.last gives Some b or None
number_by Count.One Of96 f b = eqb f greek.last gives greek_number (bit8 + b) or None
number_by Count.Two k f b = None
number_by Count.Three k f b = None

unfoldable pub number_in : Set → ℕ → Option ℕ
number_in x b = at_position (set_byte x.kind b) (number_by x.count x.kind x.last b)

-- lookup there: a column outside 2 to 7, a row above 15 or more than one byte has no number
abbrev pub number_made : Set → Option ℕ → Option ℕ
number_made x (Some b) = number_in x b
number_made x None = None

abbrev pub unicode_of : Set → Count → Column → Row → Option ℕ
unicode_of x Count.One c r = number_made x (byte_at c r)
unicode_of x Count.Two c r = None
unicode_of x Count.Three c r = None

-- lookup back: the first position of the two sets that has the number
abbrev pub position_bytes : List ℕ
position_bytes = numbers (size_of Of96) space

abbrev pub is_number : ℕ → Option ℕ → Bool
is_number n (Some m) = eqb m n
is_number n None = false

abbrev pub located_at : Set → Position → Located
located_at x p = record { set = x; position = p }

abbrev pub position_with : ℕ → Set → ℕ → Option Located → Option Located
position_with n x b other = is_number n (number_in x b) gives Some (located_at x (position_of b)) or other

abbrev pub first_with : ℕ → Set → List ℕ → Option Located → Option Located
first_with n x [] other = other
first_with n x (b ∷ bs) other = position_with n x b (first_with n x bs other)

unfoldable pub locate : ℕ → Option Located
locate n = first_with n latin position_bytes (first_with n greek position_bytes None)
