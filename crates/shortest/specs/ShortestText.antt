-- The text that is written, made step by step. That it is the shortest is proved (TheShortestText), so nothing here has to be believed.
-- Before each answer GL goes on showing what it shows, or one locking shift is written: whatever costs least up to the next opening,
-- and of equals the first in byte order. An opening is written whole, and GL then shows G0.
use Rattle.std.specs.Prelude.{ℕ, zero, suc, ◌+◌, ◌*◌, Bool, true, false, List, [], ◌∷◌, ◌++◌, map, ltb, eqb, length}
use Rattle.paper.specs.Choice.{◌gives◌or◌}
use Rattle.paper.specs.CodeTable.{so, si}
use Rattle.paper.specs.Sets.{set_in}
use Rattle.paper.specs.Starting.{starting_sets, opening}
use Rattle.paper.specs.Sequences.{final_of_ls2, final_of_ls3}
use Rattle.paper.specs.Results.{element_number, position_values}
use Rattle.paper.specs.WrittenForms.{Entry, given, mark, sequence_bytes, byte_from, character_bytes, bytes_of_answer, sets_with}
use Rattle.paper.specs.declared.Form.{Form}
use Rattle.paper.specs.declared.Kind.{Kind}
use Rattle.paper.specs.declared.Element.{Element}
use Rattle.paper.specs.declared.Element.TheVariants.{G0, G1, G2, G3}
use Rattle.paper.specs.declared.Sets.{Sets}
use Rattle.paper.specs.declared.Intermediates.{Intermediates}
use Rattle.paper.specs.declared.GraphicArea.{GraphicArea}
use Rattle.paper.specs.declared.Answer.{Answer}
use Rattle.paper.proofs.WhatCanBeWritten.{Steps, ended, said, opened}

-- ---- the steps of a sequence

-- the six designations before a mark are its opening's: so many of them are still to come, going back from it
pub record Gathered : Type 0 where
  pub left : ℕ
  pub steps : Steps

abbrev pub before : Answer → ℕ → Steps → Gathered
before a zero s = record { left = 0; steps = said a s }
before a (suc zero) s = record { left = 0; steps = opened s }
before a (suc (suc n)) s = record { left = suc n; steps = s }

abbrev pub gathered : List Entry → Gathered
gathered [] = record { left = 0; steps = ended }
gathered (given a ∷ l) = before a (gathered l).left (gathered l).steps
gathered (mark ∷ l) = record { left = 6; steps = (gathered l).steps }

abbrev pub steps_of : List Entry → Steps
steps_of l = (gathered l).steps

-- ---- an answer while GL shows an element

abbrev pub is_shown : Element → Element → Bool
is_shown gl e = eqb (element_number gl) (element_number e)

-- a single shift takes characters of G2 and G3; SPACE and DELETE are read where GL shows a set of 94 type
abbrev pub is_taken : Element → Element → Bool
is_taken gl G0 = is_shown gl G0
is_taken gl G1 = is_shown gl G1
is_taken gl G2 = true
is_taken gl G3 = true

abbrev pub is_of94 : Kind → Bool
is_of94 Kind.Of94 = true
is_of94 Kind.Of96 = false

-- whether it can be written there
abbrev pub fits : Sets → Element → Answer → Bool
fits t gl Answer.NothingYet = true
fits t gl (Answer.Char e x p) = is_taken gl e
fits t gl Answer.Space = is_of94 (set_in t gl).kind
fits t gl Answer.Delete = is_of94 (set_in t gl).kind
fits t gl (Answer.Control w f n) = true
fits t gl (Answer.DesignateControls w f) = true
fits t gl (Answer.Designate e x) = true
fits t gl (Answer.Shift h) = true
fits t gl (Answer.Other s f) = true
fits t gl (Answer.Refused r) = true
fits t gl Answer.Skipped = true
fits t gl (Answer.InStep n) = true

-- a character of what GL shows needs no single shift
abbrev pub bytes_under : Element → Answer → List ℕ
bytes_under gl Answer.NothingYet = []
bytes_under gl (Answer.Char e x p) = is_shown gl e gives map (byte_from GraphicArea.GL) (position_values p) or character_bytes Form.Seven e p
bytes_under gl Answer.Space = bytes_of_answer Form.Seven Answer.Space
bytes_under gl Answer.Delete = bytes_of_answer Form.Seven Answer.Delete
bytes_under gl (Answer.Control w f n) = bytes_of_answer Form.Seven (Answer.Control w f n)
bytes_under gl (Answer.DesignateControls w f) = bytes_of_answer Form.Seven (Answer.DesignateControls w f)
bytes_under gl (Answer.Designate e x) = bytes_of_answer Form.Seven (Answer.Designate e x)
bytes_under gl (Answer.Shift h) = []
bytes_under gl (Answer.Other s f) = bytes_of_answer Form.Seven (Answer.Other s f)
bytes_under gl (Answer.Refused r) = []
bytes_under gl Answer.Skipped = []
bytes_under gl (Answer.InStep n) = []

-- more than a shift, an answer and a shift back cost
abbrev pub far : ℕ
far = 16

abbrev pub cost : Sets → Answer → Element → ℕ
cost t a gl = fits t gl a gives length (bytes_under gl a) or far

-- ---- locking shifts

abbrev pub shift_to : Element → List ℕ
shift_to G0 = si ∷ []
shift_to G1 = so ∷ []
shift_to G2 = sequence_bytes Intermediates.None final_of_ls2
shift_to G3 = sequence_bytes Intermediates.None final_of_ls3

abbrev pub shift_from : Element → Element → List ℕ
shift_from gl e = is_shown gl e gives [] or shift_to e

-- the first two bytes as one number, so that byte order is the order of numbers
abbrev pub rank : List ℕ → ℕ
rank [] = 0
rank (a ∷ []) = a * 0x100
rank (a ∷ b ∷ l) = a * 0x100 + b

-- ---- the choice, by what each element costs from here on once GL shows it

abbrev pub moving : (Element → ℕ) → Element → ℕ
moving c e = length (shift_to e) + c e

abbrev pub cheaper : (Element → ℕ) → Element → Element → Element
cheaper c e other = ltb (moving c other) (moving c e) gives other or e

-- in byte order: SO, SI, LS2, LS3
abbrev pub cheapest : (Element → ℕ) → Element
cheapest c = cheaper c (cheaper c (cheaper c G1 G0) G2) G3

-- whether GL goes on showing what it shows; these bytes would come first
abbrev pub stays : (Element → ℕ) → Element → List ℕ → Bool
stays c gl bytes =
    ltb (c gl) (moving c (cheapest c)) gives true or
    eqb (c gl) (moving c (cheapest c)) gives ltb (rank bytes) (rank (shift_to (cheapest c))) or
    false

abbrev pub chosen : (Element → ℕ) → Element → List ℕ → Element
chosen c gl bytes = stays c gl bytes gives gl or cheapest c

abbrev pub least : (Element → ℕ) → Element → ℕ
least c gl = ltb (moving c (cheapest c)) (c gl) gives moving c (cheapest c) or c gl

-- ---- the text

-- what is left costs, by what GL shows, up to the next opening
unfoldable pub cost_of : Steps → Sets → Element → ℕ
cost_of ended t gl = 0
cost_of (said a s) t gl = least (λ e. cost t a e + cost_of s (sets_with t a) e) gl
cost_of (opened s) t gl = 0

abbrev pub costs : Answer → Steps → Sets → Element → ℕ
costs a s t e = cost t a e + cost_of s (sets_with t a) e

unfoldable pub shortest_from : Steps → Sets → Element → List ℕ
shortest_from ended t gl = []
shortest_from (said a s) t gl =
    let e = chosen (costs a s t) gl (bytes_under gl a) in
    shift_from gl e ++ (bytes_under e a ++ shortest_from s (sets_with t a) e)
shortest_from (opened s) t gl = opening Form.Seven ++ shortest_from s starting_sets G0

abbrev pub shortest_of : List Entry → List ℕ
shortest_of sequence = shortest_from (steps_of sequence) starting_sets G0
