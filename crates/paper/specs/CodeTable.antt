-- Code table: c/r is column c, row r: the byte 16c + r.
-- So a byte that is written in hex shows its column and its row: 2/8 is 0x28, 5/15 is 0x5F.
use Rattle.std.specs.Prelude.{ℕ, ◌+◌, ◌*◌, ◌/◌, ◌%◌, Bool, true, leb, Option, Some, None}
use Rattle.paper.specs.Choice.{◌gives◌or◌}
use Rattle.paper.specs.Words.{Column, Row, Position, Area, Form, Seven, Eight}

-- columns and rows are numbered 0 to 15
abbrev pub highest : ℕ
highest = 15

unfoldable pub byte_at : Column → Row → Option ℕ
byte_at c r =
    leb c.0 highest gives
    (leb r.0 highest gives Some (16 * c.0 + r.0) or None) or
    None

-- a byte taken apart
unfoldable pub position_of : ℕ → Position
position_of b = record { column = record { 0 = b / 16 }; row = record { 0 = b % 16 } }

-- columns 0 and 1 are C0, 2 to 7 GL, 8 and 9 C1, 10 to 15 GR
abbrev pub last_of_c0 : ℕ
last_of_c0 = 1

abbrev pub last_of_gl : ℕ
last_of_gl = 7

abbrev pub last_of_c1 : ℕ
last_of_c1 = 9

unfoldable pub column_area : Column → Area
column_area c =
    leb c.0 last_of_c0 gives Area.C0 or
    leb c.0 last_of_gl gives Area.GL or
    leb c.0 last_of_c1 gives Area.C1 or
    Area.GR

abbrev pub area_of : ℕ → Area
area_of b = column_area (position_of b).column

-- a 7-bit form has columns 0 to 7 only
unfoldable pub form_has_column : Form → Column → Bool
form_has_column Seven c = leb c.0 last_of_gl
form_has_column Eight c = true

abbrev pub form_has : Form → ℕ → Bool
form_has m b = form_has_column m (position_of b).column

-- a byte of columns 8 to 15 is the one 8 columns before it with bit 8 set
abbrev pub bit8 : ℕ
bit8 = 0x80

-- SO, SI and ESC, which keep their places in every C0 set (H)
abbrev pub so : ℕ
so = 0x0E

abbrev pub si : ℕ
si = 0x0F

abbrev pub esc : ℕ
esc = 0x1B
