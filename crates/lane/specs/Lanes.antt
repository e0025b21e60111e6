-- No rule of the paper: for contracts of this layer.
-- What passes in a state, and the word of a byte that does.
use Rattle.std.specs.Prelude.{ℕ, ◌+◌, ◌-◌, Bool, List, ltb, eqb}
use Rattle.paper.specs.Choice.{◌gives◌or◌}
use Rattle.paper.specs.CodeTable.{bit8}
use Rattle.paper.specs.Sets.{space, delete}
use Rattle.paper.specs.Results.{char_word, space_word, control_word}
use Rattle.paper.specs.declared.Form.{Form}
use Rattle.paper.specs.declared.Kind.{Kind}
use Rattle.paper.specs.declared.Count.{Count}
use Rattle.charsets.specs.Sizes.{size_number, kind_of, is_of94}
use Rattle.items.specs.States.{left_in, right_in, size_in}
use Rattle.lane.specs.declared.Lane.{Lane}

-- the positions of a set of a kind
abbrev pub first_position : Kind → ℕ
first_position Kind.Of94 = space + 1
first_position Kind.Of96 = space

abbrev pub last_position : Kind → ℕ
last_position Kind.Of94 = delete - 1
last_position Kind.Of96 = delete

-- no byte stands within these bounds
abbrev pub first_of_none : ℕ
first_of_none = 1

abbrev pub last_of_none : ℕ
last_of_none = 0

abbrev pub plain_to : ℕ → Lane
plain_to plain = record { plain = plain; first = first_of_none; last = last_of_none }

abbrev pub positions_of : ℕ → Kind → Lane
positions_of plain k = record { plain = plain; first = bit8 + first_position k; last = bit8 + last_position k }

-- the last byte of GL that is a position of a set of one byte, or SPACE; where there are several bytes to a character the last of C0
unfoldable pub last_plain : ℕ → ℕ
last_plain x =
    eqb x (size_number Kind.Of94 Count.One) gives last_position Kind.Of94 or
    eqb x (size_number Kind.Of96 Count.One) gives last_position Kind.Of96 or
    space - 1

-- beside the plain bytes the positions of a set of one byte in GR
unfoldable pub lane_with : ℕ → ℕ → Lane
lane_with plain x =
    eqb x (size_number Kind.Of94 Count.One) gives positions_of plain Kind.Of94 or
    eqb x (size_number Kind.Of96 Count.One) gives positions_of plain Kind.Of96 or
    plain_to plain

-- on the ground, by the sets in GL and GR; a text in 7-bit form has no GR
abbrev pub lane_of : Form → List ℕ → Lane
lane_of Form.Seven cells = plain_to (last_plain (size_in cells (left_in cells)))
lane_of Form.Eight cells = lane_with (last_plain (size_in cells (left_in cells))) (size_in cells (right_in cells))

-- 2/0 is SPACE in GL
abbrev pub has_space : List ℕ → Bool
has_space cells = is_of94 (kind_of (size_in cells (left_in cells)))

-- the word of a byte that passes
unfoldable pub word_in : Bool → ℕ → ℕ
word_in spaced b =
    ltb space b gives char_word or
    ltb b space gives control_word or
    spaced gives space_word or
    char_word
