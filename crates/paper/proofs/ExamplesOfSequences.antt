-- For each row of the paper's table of sequences what it says of some sequences, in one table and proved by one computation,
-- in both forms; and what the meanings answer and do.
use Prim.Native.Nat.{ℕ}
use mathlib.Core.Path.{◌≡◌, refl}
use mathlib.Core.List.{List, [], ◌∷◌, map}
use Rattle.paper.specs.Choice.{between}
use Rattle.paper.specs.Words.{Form, Seven, Eight, ControlElement, Element, G0, G1, G2, G3, Kind, Of94, Of96}
use Rattle.paper.specs.Words.{Count, Sets, Intermediate, Final, Neither, Intermediates, Shift, LS0, LS1, LS2}
use Rattle.paper.specs.Words.{LS3, LS1R, LS2R, LS3R, SS2, SS3, Meaning, NoMeaning, Function, Shifts}
use Rattle.paper.specs.Sequences.{sequence_byte, c1_function, shift_or_other, designation, short_designation}
use Rattle.paper.specs.Sequences.{several_bytes, meaning_of_none, by_intermediate, meaning_of_one, meaning_of_two}
use Rattle.paper.specs.Sequences.{meaning_of, sequence_answer, sets_after, gl_after, gr_after}
use Rattle.paper.specs.Sets.{size_of, bytes_of, designated, designated_controls}
use Rattle.paper.specs.Results.{control_element_number, element_number, shift_number, word_of, values_of}

-- the bytes after ESC and what they mean
pub record Example : Type 0 where
  pub intermediates : Intermediates
  pub last : ℕ
  pub means : Meaning

abbrev alone : ℕ → Meaning → Example
alone f w = record { intermediates = Intermediates.None; last = f; means = w }

abbrev one : ℕ → ℕ → Meaning → Example
one i f w = record { intermediates = Intermediates.One i; last = f; means = w }

abbrev two : ℕ → ℕ → ℕ → Meaning → Example
two i j f w = record { intermediates = Intermediates.Two i j; last = f; means = w }

abbrev pub sequence_examples : List Example
sequence_examples =
    -- 3/x: other
    alone 0x30 Meaning.Other ∷ alone 0x3F Meaning.Other ∷
    -- 4/0 to 5/15: the C1 function 0 to 31; 4/14 is SS2, 4/15 SS3
    alone 0x40 (Function 0) ∷ alone 0x45 (Function 5) ∷ alone 0x4D (Function 13) ∷ alone 0x4E (Shifts SS2) ∷ alone 0x4F (Shifts SS3) ∷
    alone 0x50 (Function 16) ∷ alone 0x5F (Function 31) ∷
    -- 6/14, 6/15: LS2, LS3
    alone 0x6E (Shifts LS2) ∷ alone 0x6F (Shifts LS3) ∷
    -- the rest of 6/0 to 7/14: other
    alone 0x60 Meaning.Other ∷ alone 0x6D Meaning.Other ∷ alone 0x70 Meaning.Other ∷ alone 0x7B Meaning.Other ∷
    -- 2/0 F, 2/3 F, 2/6 F: other
    one 0x20 0x30 Meaning.Other ∷ one 0x20 0x7E Meaning.Other ∷ one 0x23 0x30 Meaning.Other ∷ one 0x23 0x7E Meaning.Other ∷
    one 0x26 0x30 Meaning.Other ∷ one 0x26 0x7E Meaning.Other ∷
    -- 2/1 F, 2/2 F: designate C0, C1
    one 0x21 0x30 (Meaning.DesignateControls ControlElement.C0) ∷ one 0x21 0x7E (Meaning.DesignateControls ControlElement.C0) ∷
    one 0x22 0x30 (Meaning.DesignateControls ControlElement.C1) ∷ one 0x22 0x7E (Meaning.DesignateControls ControlElement.C1) ∷
    -- 2/8 to 2/11 F: 94 set into G0 to G3
    one 0x28 0x30 (Meaning.Designate G0 Of94 Count.One) ∷ one 0x28 0x7E (Meaning.Designate G0 Of94 Count.One) ∷
    one 0x29 0x30 (Meaning.Designate G1 Of94 Count.One) ∷ one 0x29 0x7E (Meaning.Designate G1 Of94 Count.One) ∷
    one 0x2A 0x30 (Meaning.Designate G2 Of94 Count.One) ∷ one 0x2A 0x7E (Meaning.Designate G2 Of94 Count.One) ∷
    one 0x2B 0x30 (Meaning.Designate G3 Of94 Count.One) ∷ one 0x2B 0x7E (Meaning.Designate G3 Of94 Count.One) ∷
    -- 2/13 to 2/15 F: 96 set into G1 to G3
    one 0x2D 0x30 (Meaning.Designate G1 Of96 Count.One) ∷ one 0x2D 0x7E (Meaning.Designate G1 Of96 Count.One) ∷
    one 0x2E 0x30 (Meaning.Designate G2 Of96 Count.One) ∷ one 0x2E 0x7E (Meaning.Designate G2 Of96 Count.One) ∷
    one 0x2F 0x30 (Meaning.Designate G3 Of96 Count.One) ∷ one 0x2F 0x7E (Meaning.Designate G3 Of96 Count.One) ∷
    -- 2/4 F, F 4/0 to 4/2: 94 set of 2 bytes into G0
    one 0x24 0x40 (Meaning.Designate G0 Of94 Count.Two) ∷ one 0x24 0x42 (Meaning.Designate G0 Of94 Count.Two) ∷
    one 0x24 0x3F NoMeaning ∷ one 0x24 0x43 NoMeaning ∷
    -- 2/4, one of the seven, F: 2 bytes for F in columns 4 and 5, 3 for column 6, no meaning in column 3 or 7
    two 0x24 0x28 0x42 (Meaning.Designate G0 Of94 Count.Two) ∷ two 0x24 0x29 0x40 (Meaning.Designate G1 Of94 Count.Two) ∷
    two 0x24 0x2D 0x5F (Meaning.Designate G1 Of96 Count.Two) ∷ two 0x24 0x2B 0x60 (Meaning.Designate G3 Of94 Count.Three) ∷
    two 0x24 0x2E 0x6F (Meaning.Designate G2 Of96 Count.Three) ∷ two 0x24 0x28 0x3F NoMeaning ∷ two 0x24 0x28 0x70 NoMeaning ∷
    -- every other sequence has no meaning: ESC 2/12 is no G0 set, and 2/4 comes first of two
    one 0x2C 0x42 NoMeaning ∷ one 0x25 0x40 NoMeaning ∷ one 0x27 0x41 NoMeaning ∷ two 0x24 0x2C 0x42 NoMeaning ∷
    two 0x23 0x21 0x41 NoMeaning ∷ two 0x20 0x20 0x41 NoMeaning ∷ two 0x28 0x20 0x42 NoMeaning ∷ two 0x20 0x28 0x42 NoMeaning ∷
    two 0x25 0x29 0x42 NoMeaning ∷ two 0x28 0x28 0x42 NoMeaning ∷ two 0x2F 0x2D 0x60 NoMeaning ∷
    -- nor has one with another byte in an intermediate's or the final's place
    one 0x1F 0x41 NoMeaning ∷ one 0x30 0x41 NoMeaning ∷ two 0x1F 0x28 0x42 NoMeaning ∷ two 0x24 0x38 0x42 NoMeaning ∷
    alone 0x2F NoMeaning ∷ alone 0x7F NoMeaning ∷ one 0x20 0x2F NoMeaning ∷ one 0x28 0x7F NoMeaning ∷ two 0x24 0x28 0x7F NoMeaning ∷ []

pub sequences_mean : (m : Form) →
    map (λ (w : Example). meaning_of m w.intermediates w.last) sequence_examples ≡ map (λ (w : Example). w.means) sequence_examples
unfolding between c1_function shift_or_other designation short_designation several_bytes meaning_of_none by_intermediate meaning_of_one meaning_of_two
sequences_mean m = refl

-- 7/14, 7/13, 7/12: LS1R, LS2R, LS3R; no meaning in 7-bit form
pub right_shifts_mean :
    (map (meaning_of Eight Intermediates.None) (0x7E ∷ 0x7D ∷ 0x7C ∷ []) ≡ Shifts LS1R ∷ Shifts LS2R ∷ Shifts LS3R ∷ []) ×
    (map (meaning_of Seven Intermediates.None) (0x7E ∷ 0x7D ∷ 0x7C ∷ []) ≡ NoMeaning ∷ NoMeaning ∷ NoMeaning ∷ [])
unfolding between shift_or_other meaning_of_none
right_shifts_mean = (refl, refl)

-- there is no C1 function above 31
pub c1_functions : map c1_function (0 ∷ 14 ∷ 15 ∷ 31 ∷ 32 ∷ []) ≡ Function 0 ∷ Shifts SS2 ∷ Shifts SS3 ∷ Function 31 ∷ NoMeaning ∷ []
unfolding c1_function
c1_functions = refl

-- ESC, up to two intermediates (column 2), one final (3/0 to 7/14)
pub bytes_of_sequences :
    map sequence_byte (0x1F ∷ 0x20 ∷ 0x2F ∷ 0x30 ∷ 0x7E ∷ 0x7F ∷ 0xA0 ∷ []) ≡
    Neither ∷ Intermediate ∷ Intermediate ∷ Final ∷ Final ∷ Neither ∷ Neither ∷ []
unfolding sequence_byte between
bytes_of_sequences = refl

abbrev shifts : List Shift
shifts = LS0 ∷ LS1 ∷ LS2 ∷ LS3 ∷ LS1R ∷ LS2R ∷ LS3R ∷ SS2 ∷ SS3 ∷ []

-- LS0 to LS3 into GL, LS1R to LS3R into GR; what else was shown stays
pub shifts_show : (e : Element) →
    (map (gl_after e) shifts ≡ G0 ∷ G1 ∷ G2 ∷ G3 ∷ e ∷ e ∷ e ∷ e ∷ e ∷ []) ×
    (map (gr_after e) shifts ≡ e ∷ e ∷ e ∷ e ∷ G1 ∷ G2 ∷ G3 ∷ e ∷ e ∷ [])
shifts_show e = (refl, refl)

-- a meaning of each sort, at any sets and any sequence with two intermediates
module _ (t : Sets) (i j f n : ℕ) (h : Shift) (w : ControlElement) (e : Element) (k : Kind) (c : Count) where
  abbrev meanings : List Meaning
  meanings = NoMeaning ∷ Meaning.Other ∷ Function n ∷ Shifts h ∷ Meaning.DesignateControls w ∷ Meaning.Designate e k c ∷ []

  abbrev answered : Meaning → List ℕ
  answered m = let a = sequence_answer t m (Intermediates.Two i j) f in word_of a ∷ values_of a

  -- what the final answers, by the paper's words and values
  pub sequences_answer :
      map answered meanings ≡
      (8 ∷ 4 ∷ []) ∷
      (7 ∷ i ∷ j ∷ f ∷ []) ∷
      (4 ∷ 1 ∷ t.c1 ∷ n ∷ []) ∷
      (6 ∷ shift_number h ∷ []) ∷
      (5 ∷ control_element_number w ∷ 32 ∷ f ∷ []) ∷
      (5 ∷ element_number e ∷ size_of k ∷ bytes_of c ∷ f ∷ []) ∷
      []
  sequences_answer = refl

  -- what it leaves: only a designation changes the sets
  pub sequences_leave :
      map (λ m. sets_after t m f) meanings ≡
      t ∷ t ∷ t ∷ t ∷ designated_controls t w f ∷ designated t e (record { kind = k; count = c; last = f }) ∷ []
  sequences_leave = refl
