-- The paper's number and values of each case of an answer: demands and examples speak through these.
use Rattle.std.specs.Prelude.{ℕ, List, [], ◌∷◌, ◌++◌, Option, Some, None, Result, Ok, Err}
use Rattle.paper.specs.Words.{ControlElement, Element, G0, G1, G2, G3, Set, Intermediates, Shift, LS0, Refused}
use Rattle.paper.specs.Words.{LS1, LS2, LS3, LS1R, LS2R, LS3R, SS2, SS3, PositionBytes, Refusal, Answer}
use Rattle.paper.specs.Words.{EndWord, Figures, Listed, Located}
use Rattle.paper.specs.Sets.{size_of, bytes_of}
use Rattle.paper.specs.Refusals.{number_of}

-- elements: C0, C1, G0 to G3
abbrev pub control_element_number : ControlElement → ℕ
control_element_number ControlElement.C0 = 0
control_element_number ControlElement.C1 = 1

abbrev pub element_number : Element → ℕ
element_number G0 = 2
element_number G1 = 3
element_number G2 = 4
element_number G3 = 5

-- a set's size, 32 for controls, then its Final Byte
abbrev pub control_size : ℕ
control_size = 32

abbrev pub controls_values : ℕ → List ℕ
controls_values f = control_size ∷ f ∷ []

abbrev pub set_values : Set → List ℕ
set_values x = size_of x.kind ∷ bytes_of x.count ∷ x.last ∷ []

abbrev pub position_values : PositionBytes → List ℕ
position_values (PositionBytes.One a) = a ∷ []
position_values (PositionBytes.Two a b) = a ∷ b ∷ []
position_values (PositionBytes.Three a b c) = a ∷ b ∷ c ∷ []

-- LS0 to LS3, LS1R to LS3R, SS2, SS3
abbrev pub shift_number : Shift → ℕ
shift_number LS0 = 0
shift_number LS1 = 1
shift_number LS2 = 2
shift_number LS3 = 3
shift_number LS1R = 4
shift_number LS2R = 5
shift_number LS3R = 6
shift_number SS2 = 7
shift_number SS3 = 8

-- the bytes after ESC
abbrev pub sequence_values : Intermediates → ℕ → List ℕ
sequence_values Intermediates.None f = f ∷ []
sequence_values (Intermediates.One i) f = i ∷ f ∷ []
sequence_values (Intermediates.Two i j) f = i ∷ j ∷ f ∷ []

-- nothing yet, char, space, delete, control, designate, shift, other, refused, skipped, instep
abbrev pub nothing_yet_word : ℕ
nothing_yet_word = 0

abbrev pub char_word : ℕ
char_word = 1

abbrev pub space_word : ℕ
space_word = 2

abbrev pub delete_word : ℕ
delete_word = 3

abbrev pub control_word : ℕ
control_word = 4

abbrev pub designate_word : ℕ
designate_word = 5

abbrev pub shift_word : ℕ
shift_word = 6

abbrev pub other_word : ℕ
other_word = 7

abbrev pub refused_word : ℕ
refused_word = 8

abbrev pub skipped_word : ℕ
skipped_word = 9

abbrev pub instep_word : ℕ
instep_word = 10

abbrev pub word_of : Answer → ℕ
word_of Answer.NothingYet = nothing_yet_word
word_of (Answer.Char e x p) = char_word
word_of Answer.Space = space_word
word_of Answer.Delete = delete_word
word_of (Answer.Control w f n) = control_word
word_of (Answer.DesignateControls w f) = designate_word
word_of (Answer.Designate e x) = designate_word
word_of (Answer.Shift h) = shift_word
word_of (Answer.Other s f) = other_word
word_of (Answer.Refused r) = refused_word
word_of Answer.Skipped = skipped_word
word_of (Answer.InStep n) = instep_word

abbrev pub values_of : Answer → List ℕ
values_of Answer.NothingYet = []
values_of (Answer.Char e x p) = element_number e ∷ (set_values x ++ position_values p)
values_of Answer.Space = []
values_of Answer.Delete = []
values_of (Answer.Control w f n) = control_element_number w ∷ f ∷ n ∷ []
values_of (Answer.DesignateControls w f) = control_element_number w ∷ controls_values f
values_of (Answer.Designate e x) = element_number e ∷ set_values x
values_of (Answer.Shift h) = shift_number h ∷ []
values_of (Answer.Other s f) = sequence_values s f
values_of (Answer.Refused r) = number_of r ∷ []
values_of Answer.Skipped = []
values_of (Answer.InStep n) = n ∷ []

-- whole, inside or lost
abbrev pub end_of : EndWord → ℕ
end_of EndWord.Whole = 0
end_of EndWord.Inside = 1
end_of EndWord.Lost = 2

-- what a call returns: the number of its refusal, 0 where it has none, and its values
pub record Returned : Type 0 where
  pub refusal : ℕ
  pub values : List ℕ

-- a refused lookup returns its number and value 0
abbrev pub refused_lookup : Refusal → Returned
refused_lookup r = record { refusal = number_of r; values = 0 ∷ [] }

abbrev pub returned_made : Option ℕ → Returned
returned_made (Some b) = record { refusal = 0; values = b ∷ [] }
returned_made None = refused_lookup Refusal.NoNumber

abbrev pub returned_number : Option ℕ → Returned
returned_number (Some n) = record { refusal = 0; values = n ∷ [] }
returned_number None = refused_lookup Refusal.NoNumber

abbrev pub returned_position : Option Located → Returned
returned_position (Some l) = record { refusal = 0; values = set_values l.set ++ (l.position.column.0 ∷ l.position.row.0 ∷ []) }
returned_position None = refused_lookup Refusal.NotMapped

-- a survey returns its figures in their order, then the first refusal's number and place, 0 and 0 where there is none, and the
-- end; nothing where it refuses
abbrev pub first_values : Option Refused → List ℕ
first_values None = 0 ∷ 0 ∷ []
first_values (Some r) = number_of r.refusal ∷ r.place ∷ []

abbrev pub figures_values : Figures → List ℕ
figures_values f =
    f.characters ∷ f.spaces ∷ f.deletes ∷ f.controls ∷ f.designations ∷ f.shifts ∷ f.others ∷ f.refusals ∷ f.insteps ∷
    (first_values f.first ++ (end_of f.end ∷ []))

abbrev pub returned_survey : Result Figures Refusal → Returned
returned_survey (Ok f) = record { refusal = 0; values = figures_values f }
returned_survey (Err r) = record { refusal = number_of r; values = [] }

-- a listing returns the length of what it wrote, 0 where it refuses, and where there is more the place to go on with; the
-- reader there has no number
abbrev pub returned_listing : Result Listed Refusal → Returned
returned_listing (Ok (Listed.Done n)) = record { refusal = 0; values = n ∷ [] }
returned_listing (Ok (Listed.More n at r)) = record { refusal = 0; values = n ∷ at ∷ [] }
returned_listing (Err r) = record { refusal = number_of r; values = 0 ∷ [] }

-- a conversion returns a place, 0 where it does not refuse, and the length of its output, 0 where it refuses
abbrev pub returned_conversion : Result ℕ Refused → Returned
returned_conversion (Ok n) = record { refusal = 0; values = 0 ∷ n ∷ [] }
returned_conversion (Err r) = record { refusal = number_of r.refusal; values = r.place ∷ 0 ∷ [] }
