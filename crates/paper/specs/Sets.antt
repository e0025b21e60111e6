-- Elements: C0, C1, G0 to G3. A set is its size and its Final Byte F.
use Rattle.std.specs.Prelude.{ℕ, eqb}
use Rattle.paper.specs.Choice.{◌gives◌or◌, between}
use Rattle.paper.specs.Words.{ControlElement, Element, G0, G1, G2, G3, Kind, Of94, Of96, Count, Set, Sets}
use Rattle.paper.specs.Words.{SetByte, OfSpace, OfDelete, OfSet, Outside}

-- of 94 or 96 type
abbrev pub size_of : Kind → ℕ
size_of Of94 = 94
size_of Of96 = 96

-- how many bytes there are to a character
abbrev pub bytes_of : Count → ℕ
bytes_of Count.One = 1
bytes_of Count.Two = 2
bytes_of Count.Three = 3

-- 2/0 and 7/15: SPACE and DELETE under 94 type, positions of the set under 96 type
abbrev pub space : ℕ
space = 0x20

abbrev pub delete : ℕ
delete = 0x7F

-- a byte of columns 2 to 7
abbrev pub position_byte : Kind → ℕ → SetByte
position_byte Of94 b =
    eqb b space gives OfSpace or
    eqb b delete gives OfDelete or
    OfSet
position_byte Of96 b = OfSet

-- any byte: no position is outside columns 2 to 7
unfoldable pub set_byte : Kind → ℕ → SetByte
set_byte k b = between space delete b gives position_byte k b or Outside

-- the set that an element has
abbrev pub set_in : Sets → Element → Set
set_in t G0 = t.g0
set_in t G1 = t.g1
set_in t G2 = t.g2
set_in t G3 = t.g3

-- the Final Byte of the control set that C0 or C1 has
abbrev pub controls_in : Sets → ControlElement → ℕ
controls_in t ControlElement.C0 = t.c0
controls_in t ControlElement.C1 = t.c1

-- a set designated into an element
abbrev pub designated : Sets → Element → Set → Sets
designated t G0 x = record { c0 = t.c0; c1 = t.c1; g0 = x; g1 = t.g1; g2 = t.g2; g3 = t.g3 }
designated t G1 x = record { c0 = t.c0; c1 = t.c1; g0 = t.g0; g1 = x; g2 = t.g2; g3 = t.g3 }
designated t G2 x = record { c0 = t.c0; c1 = t.c1; g0 = t.g0; g1 = t.g1; g2 = x; g3 = t.g3 }
designated t G3 x = record { c0 = t.c0; c1 = t.c1; g0 = t.g0; g1 = t.g1; g2 = t.g2; g3 = x }

-- the control set of a Final Byte designated into C0 or C1
abbrev pub designated_controls : Sets → ControlElement → ℕ → Sets
designated_controls t ControlElement.C0 f = record { c0 = f; c1 = t.c1; g0 = t.g0; g1 = t.g1; g2 = t.g2; g3 = t.g3 }
designated_controls t ControlElement.C1 f = record { c0 = t.c0; c1 = f; g0 = t.g0; g1 = t.g1; g2 = t.g2; g3 = t.g3 }
