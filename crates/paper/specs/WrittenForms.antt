-- The two written forms. A writer writes the sequence of a text anew. The forms differ in C1 functions, of which the single shifts
-- are two, in the area that a character comes from, in the locking shifts before it, and at a mark; all else is written alike.
use Rattle.std.specs.Prelude.{ℕ, ◌+◌, ◌%◌, Bool, false, List, [], ◌∷◌, ◌++◌, map}
use Rattle.paper.specs.Choice.{◌gives◌or◌, one_of}
use Rattle.paper.specs.Words.{Form, Seven, Eight, ControlElement, Element, G0, G1, G2, G3, Kind, Of94, Of96, Count}
use Rattle.paper.specs.Words.{Set, Sets, Intermediates, GraphicArea, PositionBytes, Reader, Answer}
use Rattle.paper.specs.CodeTable.{bit8, so, si, esc}
use Rattle.paper.specs.Sets.{space, delete, set_in, designated, designated_controls}
use Rattle.paper.specs.Starting.{starting_sets, started, opening_end}
use Rattle.paper.specs.Marks.{is_mark}
use Rattle.paper.specs.Answering.{answer_to}
use Rattle.paper.specs.Sequences.{function_of_ss2, function_of_ss3, final_of_function, intermediate_of, several, is_short}
use Rattle.paper.specs.Sequences.{intermediate_of_controls}
use Rattle.paper.specs.Results.{control_size, position_values, sequence_values, word_of, nothing_yet_word, shift_word}

-- The sequence of a text is its answers without shifts and nothing-yet, and its marks, each in its place.
pub data Entry : Type 0 where
  given : Answer → Entry
  mark : Entry

abbrev pub left_out : Answer → Bool
left_out a = one_of (nothing_yet_word ∷ shift_word ∷ []) (word_of a)

abbrev pub with_answer : Answer → List Entry → List Entry
with_answer a l = left_out a gives l or given a ∷ l

abbrev pub with_mark : Bool → List Entry → List Entry
with_mark is_one l = is_one gives mark ∷ l or l

abbrev pub sequence_from : Reader → List ℕ → List Entry
sequence_from r [] = []
sequence_from r (b ∷ bs) =
    with_answer (answer_to r b).answer (with_mark (is_mark r b) (sequence_from (answer_to r b).reader bs))

abbrev pub sequence_of : Form → List ℕ → List Entry
sequence_of m text = sequence_from (started m) text

-- ---- what is written alike in both forms

-- sequences in their place
abbrev pub sequence_bytes : Intermediates → ℕ → List ℕ
sequence_bytes s f = esc ∷ sequence_values s f

-- 94 sets of 2 bytes into G0 with F 4/0 to 4/2 take the short sequence; G0 has sets of 94 type alone
abbrev pub takes_short : Element → ℕ → Bool
takes_short G0 f = is_short f
takes_short G1 f = false
takes_short G2 f = false
takes_short G3 f = false

abbrev pub intermediates_of : Count → Kind → Element → ℕ → Intermediates
intermediates_of Count.One k e f = Intermediates.One (intermediate_of k e)
intermediates_of Count.Two k e f =
    takes_short e f gives Intermediates.One several or Intermediates.Two several (intermediate_of k e)
intermediates_of Count.Three k e f = Intermediates.Two several (intermediate_of k e)

abbrev pub designation_bytes : Element → Set → List ℕ
designation_bytes e x = sequence_bytes (intermediates_of x.count x.kind e x.last) x.last

-- ---- what is not

-- 7-bit: a C1 function is ESC Fe. 8-bit: a C1 function is its byte. The remainder makes a byte of any number; a reader's numbers are
-- 0 to 31
abbrev pub function_bytes : Form → ℕ → List ℕ
function_bytes Seven n = esc ∷ (final_of_function + n % control_size) ∷ []
function_bytes Eight n = (bit8 + n % control_size) ∷ []

-- G2 and G3 characters always take SS2 (1B 4E, or 8E) or SS3 (1B 4F, or 8F)
abbrev pub single_shift : Form → Element → List ℕ
single_shift m G0 = []
single_shift m G1 = []
single_shift m G2 = function_bytes m function_of_ss2
single_shift m G3 = function_bytes m function_of_ss3

-- 7-bit: all from GL. 8-bit: G0 from GL, G1 from GR, G2 and G3 as GL bytes
abbrev pub area_for : Form → Element → GraphicArea
area_for Seven e = GraphicArea.GL
area_for Eight G0 = GraphicArea.GL
area_for Eight G1 = GraphicArea.GR
area_for Eight G2 = GraphicArea.GL
area_for Eight G3 = GraphicArea.GL

-- a position byte as a byte of the area; the remainder as above
abbrev pub byte_from : GraphicArea → ℕ → ℕ
byte_from GraphicArea.GL p = p
byte_from GraphicArea.GR p = bit8 + p % bit8

abbrev pub character_bytes : Form → Element → PositionBytes → List ℕ
character_bytes m e p = single_shift m e ++ map (byte_from (area_for m e)) (position_values p)

-- an answer, but for the locking shift before it; of shifts, nothing-yet and refusals nothing is written
abbrev pub bytes_of_answer : Form → Answer → List ℕ
bytes_of_answer m Answer.NothingYet = []
bytes_of_answer m (Answer.Char e x p) = character_bytes m e p
bytes_of_answer m Answer.Space = space ∷ []
bytes_of_answer m Answer.Delete = delete ∷ []
bytes_of_answer m (Answer.Control ControlElement.C0 f n) = n ∷ []
bytes_of_answer m (Answer.Control ControlElement.C1 f n) = function_bytes m n
bytes_of_answer m (Answer.DesignateControls w f) = sequence_bytes (Intermediates.One (intermediate_of_controls w)) f
bytes_of_answer m (Answer.Designate e x) = designation_bytes e x
bytes_of_answer m (Answer.Shift h) = []
bytes_of_answer m (Answer.Other s f) = sequence_bytes s f
bytes_of_answer m (Answer.Refused r) = []
bytes_of_answer m Answer.Skipped = []
bytes_of_answer m (Answer.InStep n) = []

-- ---- locking shifts

-- what a writer knows: the sets, and the element that GL shows. GR shows G1 throughout
pub record Writer : Type 0 where
  pub sets : Sets
  pub gl : Element

-- Both writers begin in the starting state.
abbrev pub writer_at_start : Writer
writer_at_start = record { sets = starting_sets; gl = G0 }

-- none, SI or SO
pub data Locking : Type 0 where
  none : Locking
  shift_in : Locking
  shift_out : Locking

abbrev pub locking_bytes : Locking → List ℕ
locking_bytes none = []
locking_bytes shift_in = si ∷ []
locking_bytes shift_out = so ∷ []

abbrev pub gl_with : Locking → Element → Element
gl_with none gl = gl
gl_with shift_in gl = G0
gl_with shift_out gl = G1

-- 7-bit: G0 and G1 characters get SI or SO first if GL shows another element; the character's element, and GL's
abbrev pub before_character : Element → Element → Locking
before_character G0 G0 = none
before_character G0 G1 = shift_in
before_character G0 G2 = shift_in
before_character G0 G3 = shift_in
before_character G1 G0 = shift_out
before_character G1 G1 = none
before_character G1 G2 = shift_out
before_character G1 G3 = shift_out
before_character G2 gl = none
before_character G3 gl = none

-- 7-bit: SPACE and DELETE get SI first exactly if GL shows a 96-type set
abbrev pub before_space : Kind → Locking
before_space Of94 = none
before_space Of96 = shift_in

abbrev pub locking_in_seven : Writer → Answer → Locking
locking_in_seven w Answer.NothingYet = none
locking_in_seven w (Answer.Char e x p) = before_character e w.gl
locking_in_seven w Answer.Space = before_space (set_in w.sets w.gl).kind
locking_in_seven w Answer.Delete = before_space (set_in w.sets w.gl).kind
locking_in_seven w (Answer.Control v f n) = none
locking_in_seven w (Answer.DesignateControls v f) = none
locking_in_seven w (Answer.Designate e x) = none
locking_in_seven w (Answer.Shift h) = none
locking_in_seven w (Answer.Other s f) = none
locking_in_seven w (Answer.Refused r) = none
locking_in_seven w Answer.Skipped = none
locking_in_seven w (Answer.InStep n) = none

-- 8-bit: before an answer no locking shift is written
abbrev pub locking : Form → Writer → Answer → Locking
locking Seven w a = locking_in_seven w a
locking Eight w a = none

-- ---- a sequence

abbrev pub written_for : Form → Writer → Answer → List ℕ
written_for m w a = locking_bytes (locking m w a) ++ bytes_of_answer m a

-- a designation that was written has its effect
abbrev pub sets_with : Sets → Answer → Sets
sets_with t Answer.NothingYet = t
sets_with t (Answer.Char e x p) = t
sets_with t Answer.Space = t
sets_with t Answer.Delete = t
sets_with t (Answer.Control w f n) = t
sets_with t (Answer.DesignateControls w f) = designated_controls t w f
sets_with t (Answer.Designate e x) = designated t e x
sets_with t (Answer.Shift h) = t
sets_with t (Answer.Other s f) = t
sets_with t (Answer.Refused r) = t
sets_with t Answer.Skipped = t
sets_with t (Answer.InStep n) = t

abbrev pub writer_after : Form → Writer → Answer → Writer
writer_after m w a = record { sets = sets_with w.sets a; gl = gl_with (locking m w a) w.gl }

-- At a mark the 8-bit writer writes 0F 1B 7E and the 7-bit writer 0E 0F, after the designations already written, and GL then shows G0.
abbrev pub entry_bytes : Form → Writer → Entry → List ℕ
entry_bytes m w (given a) = written_for m w a
entry_bytes m w mark = opening_end m

abbrev pub writer_past : Form → Writer → Entry → Writer
writer_past m w (given a) = writer_after m w a
writer_past m w mark = record { sets = w.sets; gl = G0 }

abbrev pub written_from : Form → Writer → List Entry → List ℕ
written_from m w [] = []
written_from m w (e ∷ l) = entry_bytes m w e ++ written_from m (writer_past m w e) l

-- the written form of a sequence
abbrev pub written : Form → List Entry → List ℕ
written m sequence = written_from m writer_at_start sequence
