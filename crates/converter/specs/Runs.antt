-- No rule of the paper: for the contracts of private functions.
-- The lane of a conversion: which bytes pass, and how they are written; and what stands between words for a space.
use Rattle.std.specs.Prelude.{ℕ, ◌+◌, ◌-◌, ◌<◌, ◌≡◌, Bool, true, false, List, [], ◌∷◌, map, take, drop}
use Rattle.std.specs.Prelude.{ltb, leb, eqb, length, get_or}
use Rattle.paper.specs.Choice.{◌gives◌or◌, between}
use Rattle.paper.specs.CodeTable.{bit8, so, si}
use Rattle.paper.specs.Sets.{space}
use Rattle.paper.specs.Results.{element_number, refused_word}
use Rattle.paper.specs.declared.Form.{Form}
use Rattle.paper.specs.declared.Kind.{Kind}
use Rattle.paper.specs.declared.Count.{Count}
use Rattle.paper.specs.declared.Element.{Element}
use Rattle.charsets.specs.Sizes.{size_number, kind_of}
use Rattle.escapes.specs.Effects.{plain}
use Rattle.escapes.specs.Effects.{word_number}
use Rattle.escapes.specs.declared.effect.Word.{Word}
use Rattle.items.specs.States.{left_in, right_in, size_in, element_of}
use Rattle.items.specs.Items.{item_at}
use Rattle.items.specs.Letters.{is_letter}
use Rattle.lane.specs.Passing.{passes}
use Rattle.lane.specs.Lanes.{first_position, last_position, first_of_none, last_of_none, plain_to, positions_of}
use Rattle.lane.specs.Gaps as lane
use Rattle.converter.specs.Writing.{alone, writes}
use Rattle.converter.specs.declared.run.Way.{Way}

-- bytes of GL as they are; no byte stands within the bounds
abbrev pub low_as_it_is : Way
low_as_it_is = record { lane = plain_to (last_position Kind.Of94); first = first_of_none; last = last_of_none }

-- positions of a set in GL are written in GR, and those of one in GR are written in GL
abbrev pub low_raised : Kind → Way
low_raised k = record { lane = plain_to (last_position k); first = first_position k; last = last_position k }

abbrev pub high_lowered : Kind → Way
high_lowered k = record { lane = positions_of (space - 1) k; first = bit8 + first_position k; last = bit8 + last_position k }

-- by the byte of a letter: in 8-bit form characters of G1 are of GR
unfoldable pub way_of : Form → List ℕ → ℕ → Way
way_of Form.Seven cells b = ltb b bit8 gives low_as_it_is or high_lowered (kind_of (size_in cells (element_of cells b)))
way_of Form.Eight cells b =
    eqb (element_of cells b) (element_number Element.G1) gives low_raised (kind_of (size_in cells (element_of cells b))) or low_as_it_is

-- bit 8 is changed within the bounds
unfoldable pub copied_by : Way → ℕ → ℕ
copied_by way b = between way.first way.last b gives (ltb b bit8 gives b + bit8 or b - bit8) or b

-- so many bytes from a place on
abbrev pub copied_bytes : Way → List ℕ → ℕ → ℕ → List ℕ
copied_bytes way text place n = map (copied_by way) (take n (drop place text))

-- a byte that is an item which changes nothing, and is written as its copy
pub record Copied (m to : Form) (cells : List ℕ) (shown : ℕ) (text : List ℕ) (way : Way) (place : ℕ) : Type 0 where
  pub word : Word
  pub value : ℕ
  pub bytes : List ℕ
  pub below : word_number word < refused_word
  pub reads : item_at m cells text place ≡ record { effect = plain word value; bytes = bytes; place = place + 1 }
  pub wrote : writes to shown cells (plain word value) bytes ≡ alone (copied_by way (get_or text place 0) ∷ []) shown

-- every byte that passes is
abbrev pub Copies : Form → Form → List ℕ → ℕ → List ℕ → Way → Type 0
Copies m to cells shown text way =
    (place : ℕ) → place < length text → passes way.lane (get_or text place 0) ≡ true → Copied m to cells shown text way place

-- ---- between words

-- SPACE is SPACE in GL and takes SI, and the letter of GR after it takes SO
unfoldable pub gap_in_seven : List ℕ → Bool
gap_in_seven cells =
    eqb (left_in cells) (element_number Element.G0) gives
    (eqb (right_in cells) (element_number Element.G1) gives
    (eqb (size_in cells (element_number Element.G0)) (size_number Kind.Of94 Count.One) gives
    eqb (size_in cells (element_number Element.G1)) (size_number Kind.Of96 Count.One) or
    false) or
    false) or
    false

-- by the byte of a letter
unfoldable pub has_gaps : Form → List ℕ → ℕ → Bool
has_gaps Form.Seven cells b = ltb b bit8 gives false or gap_in_seven cells
has_gaps Form.Eight cells b = lane.has_gaps cells

-- SPACE and a letter of GR
unfoldable pub space_ahead : List ℕ → ℕ → Bool
space_ahead text place =
    leb (place + 2) (length text) gives
    (eqb (get_or text place 0) space gives between (bit8 + first_position Kind.Of94) (bit8 + last_position Kind.Of94) (get_or text (place + 1) 0) or false) or
    false

abbrev pub gap_ahead : Form → List ℕ → ℕ → Bool
gap_ahead Form.Seven text place = space_ahead text place
gap_ahead Form.Eight text place = lane.gap_ahead text place

abbrev pub gap_length : Form → ℕ
gap_length Form.Seven = 2
gap_length Form.Eight = 3

abbrev pub gap_bytes : Form → List ℕ → ℕ → List ℕ
gap_bytes Form.Seven text place = si ∷ space ∷ so ∷ (get_or text (place + 1) 0 - bit8) ∷ []
gap_bytes Form.Eight text place = space ∷ []

-- ---- where a run begins

-- a letter of an element that is written in one byte
unfoldable pub in_one_byte : Form → ℕ → ℕ → ℕ → Bool
in_one_byte Form.Seven shown element b = eqb element shown
in_one_byte Form.Eight shown element b = ltb b bit8 gives ltb element (element_number Element.G2) or false

-- a run begins with this byte
pub record Begins (m to : Form) (cells : List ℕ) (shown b : ℕ) : Type 0 where
  pub letter : is_letter m cells b ≡ true
  pub short : in_one_byte to shown (element_of cells b) b ≡ true
