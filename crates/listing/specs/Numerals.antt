-- The paper's lines with their numbers shut: `decimal` opens into a tree of twenty choices wherever it stands, `numeral` stays
-- one term.
use Rattle.std.specs.Prelude.{ℕ, List, [], ◌∷◌, ◌++◌}
use Rattle.paper.specs.declared.Answer.{Answer}
use Rattle.paper.specs.declared.EndWord.{EndWord}
use Rattle.paper.specs.declared.Set.{Set}
use Rattle.paper.specs.Sets.{space}
use Rattle.paper.specs.Refusals.{number_of}
use Rattle.paper.specs.Lister.{ascii, decimal, hex, control_element_name, element_name, size_name, shift_name, position_fields}
use Rattle.paper.specs.Lister.{sequence_fields, end_name, line_end}

-- each field after a space
abbrev pub fields : List (List ℕ) → List ℕ
fields [] = []
fields (field ∷ more) = space ∷ (field ++ fields more)

-- a field, the others and the line's end
abbrev pub parted : List ℕ → List (List ℕ) → List ℕ
parted field more = field ++ (fields more ++ (line_end ∷ []))

unfoldable pub numeral : ℕ → List ℕ
numeral n = decimal n

unfoldable pub size_numeral : Set → List ℕ
size_numeral x = size_name x

-- the answer word and its fields
abbrev pub answer_fields : Answer → List (List ℕ)
answer_fields Answer.NothingYet = []
answer_fields (Answer.Char e x p) = ascii "char" ∷ element_name e ∷ size_numeral x ∷ hex x.last ∷ position_fields p
answer_fields Answer.Space = ascii "space" ∷ []
answer_fields Answer.Delete = ascii "delete" ∷ []
answer_fields (Answer.Control w f n) = ascii "control" ∷ control_element_name w ∷ hex f ∷ hex n ∷ []
answer_fields (Answer.DesignateControls w f) = ascii "designate" ∷ control_element_name w ∷ ascii "32" ∷ hex f ∷ []
answer_fields (Answer.Designate e x) = ascii "designate" ∷ element_name e ∷ size_numeral x ∷ hex x.last ∷ []
answer_fields (Answer.Shift h) = ascii "shift" ∷ shift_name h ∷ []
answer_fields (Answer.Other s f) = ascii "other" ∷ sequence_fields s f
answer_fields (Answer.Refused n) = ascii "refused" ∷ numeral (number_of n) ∷ []
answer_fields Answer.Skipped = []
answer_fields (Answer.InStep n) = ascii "instep" ∷ numeral n ∷ []

-- `line_of`
abbrev pub answer_line : ℕ → Answer → List ℕ
answer_line at Answer.NothingYet = []
answer_line at Answer.Skipped = []
answer_line at a = parted (numeral at) (answer_fields a)

-- `end_line`
abbrev pub last_line : ℕ → EndWord → List ℕ
last_line n w = parted (ascii "end") (numeral n ∷ end_name w ∷ [])
