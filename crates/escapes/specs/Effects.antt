-- No rule of the paper: for contracts of this layer.
-- What a meaning does, in numbers: the word of its answer, the cell of the state that it changes, and what the cell has then. A cell of
-- an element is the paper's number of the element, and has the size of its set; GL and GR have the element that they show.
use Rattle.std.specs.Prelude.{ℕ, ◌+◌, Bool, nat_le, eqb}
use Rattle.paper.specs.Choice.{◌gives◌or◌}
use Rattle.paper.specs.Results.{control_element_number, element_number}
use Rattle.paper.specs.Results.{control_word, designate_word, shift_word, other_word, refused_word, instep_word}
use Rattle.paper.specs.declared.ControlElement.{ControlElement}
use Rattle.paper.specs.declared.Element.{Element}
use Rattle.paper.specs.declared.Shift.{Shift}
use Rattle.paper.specs.declared.Meaning.{Meaning}
use Rattle.charsets.specs.Sizes.{size_number, kind_of, count_of}
use Rattle.escapes.specs.declared.effect.Word.{Word}
use Rattle.escapes.specs.declared.effect.Cell.{Cell}
use Rattle.escapes.specs.declared.effect.Effect.{Effect}

-- a word by its place in the paper's list; an opening that is taken whole, and what is past the end of a text, have places after it
abbrev pub opening_word : ℕ
opening_word = instep_word + 1

abbrev pub past_word : ℕ
past_word = instep_word + 2

abbrev pub as_word : ℕ → Word
as_word n = record { 0 = n }

abbrev pub word_number : Word → ℕ
word_number word = word.0

-- a stretch of a text ends at an item that has this word: a refusal, or one whose place is after a refusal's
abbrev pub ends_stretch : Word → Bool
ends_stretch word = nat_le refused_word (word_number word)

-- after the elements: what GL and GR show, the element that a single shift takes, and a cell that nothing reads
abbrev pub cell_of_gl : ℕ
cell_of_gl = 6

abbrev pub cell_of_gr : ℕ
cell_of_gr = 7

abbrev pub cell_of_single : ℕ
cell_of_single = 8

abbrev pub nowhere : ℕ
nowhere = 9

abbrev pub as_cell : ℕ → Cell
as_cell n = record { 0 = n }

abbrev pub cell_number : Cell → ℕ
cell_number cell = cell.0

abbrev pub cell_of_control_element : ControlElement → Cell
cell_of_control_element w = as_cell (control_element_number w)

abbrev pub cell_of_element : Element → Cell
cell_of_element e = as_cell (element_number e)

abbrev pub effect : Word → Cell → ℕ → Effect
effect word cell value = record { word = word; cell = cell; value = value }

-- what changes nothing
abbrev pub plain : Word → ℕ → Effect
plain word value = effect word (as_cell nowhere) value

abbrev pub shows_in_gl : ℕ → Effect
shows_in_gl element = effect (as_word shift_word) (as_cell cell_of_gl) element

abbrev pub shows_in_gr : ℕ → Effect
shows_in_gr element = effect (as_word shift_word) (as_cell cell_of_gr) element

abbrev pub takes_one : ℕ → Effect
takes_one element = effect (as_word shift_word) (as_cell cell_of_single) element

abbrev pub shift_effect : Shift → Effect
shift_effect Shift.LS0 = shows_in_gl (element_number Element.G0)
shift_effect Shift.LS1 = shows_in_gl (element_number Element.G1)
shift_effect Shift.LS2 = shows_in_gl (element_number Element.G2)
shift_effect Shift.LS3 = shows_in_gl (element_number Element.G3)
shift_effect Shift.LS1R = shows_in_gr (element_number Element.G1)
shift_effect Shift.LS2R = shows_in_gr (element_number Element.G2)
shift_effect Shift.LS3R = shows_in_gr (element_number Element.G3)
shift_effect Shift.SS2 = takes_one (element_number Element.G2)
shift_effect Shift.SS3 = takes_one (element_number Element.G3)

-- what a meaning does. A control set has one size, so its cell has always the same
abbrev pub effect_of : Meaning → Effect
effect_of Meaning.NoMeaning = plain (as_word refused_word) 0
effect_of Meaning.Other = plain (as_word other_word) 0
effect_of (Meaning.Function n) = plain (as_word control_word) n
effect_of (Meaning.Shifts h) = shift_effect h
effect_of (Meaning.DesignateControls w) = effect (as_word designate_word) (cell_of_control_element w) 0
effect_of (Meaning.Designate e k n) = effect (as_word designate_word) (cell_of_element e) (size_number k n)

-- and back: by the word, then by the cell and the value
unfoldable pub shift_by : ℕ → ℕ → Shift
shift_by cell element =
    eqb cell cell_of_gl gives
    (eqb element (element_number Element.G0) gives Shift.LS0 or
    eqb element (element_number Element.G1) gives Shift.LS1 or
    eqb element (element_number Element.G2) gives Shift.LS2 or
    Shift.LS3) or
    eqb cell cell_of_gr gives
    (eqb element (element_number Element.G1) gives Shift.LS1R or
    eqb element (element_number Element.G2) gives Shift.LS2R or
    Shift.LS3R) or
    eqb element (element_number Element.G2) gives Shift.SS2 or
    Shift.SS3

unfoldable pub designation_by : ℕ → ℕ → Meaning
designation_by cell value =
    eqb cell (control_element_number ControlElement.C0) gives Meaning.DesignateControls ControlElement.C0 or
    eqb cell (control_element_number ControlElement.C1) gives Meaning.DesignateControls ControlElement.C1 or
    eqb cell (element_number Element.G0) gives Meaning.Designate Element.G0 (kind_of value) (count_of value) or
    eqb cell (element_number Element.G1) gives Meaning.Designate Element.G1 (kind_of value) (count_of value) or
    eqb cell (element_number Element.G2) gives Meaning.Designate Element.G2 (kind_of value) (count_of value) or
    Meaning.Designate Element.G3 (kind_of value) (count_of value)

unfoldable pub meaning_by : Effect → Meaning
meaning_by x =
    eqb (word_number x.word) control_word gives Meaning.Function x.value or
    eqb (word_number x.word) designate_word gives designation_by (cell_number x.cell) x.value or
    eqb (word_number x.word) shift_word gives Meaning.Shifts (shift_by (cell_number x.cell) x.value) or
    eqb (word_number x.word) other_word gives Meaning.Other or
    Meaning.NoMeaning
