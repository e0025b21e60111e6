-- Some shortest texts, computed: those of the readings of request #108, characters of each element and of two bytes, SPACE and DELETE after a
-- set of 96 type, and openings.
use Prim.Native.Nat.{ℕ}
use mathlib.Core.Path.{◌≡◌, refl}
use mathlib.Core.List.{List, [], ◌∷◌, ◌++◌, map}
use Rattle.paper.specs.Choice.{between}
use Rattle.paper.specs.CodeTable.{column_area, form_has_column, position_of}
use Rattle.paper.specs.Sets.{set_byte}
use Rattle.paper.specs.Sequences.{sequence_byte, c1_function, shift_or_other, meaning_of_none, designation}
use Rattle.paper.specs.Sequences.{short_designation, by_intermediate, meaning_of_one, several_bytes, meaning_of_two}
use Rattle.paper.specs.Searching.{matched_with, one_more}
use Rattle.paper.specs.Characters.{c0_byte, byte_in, character}
use Rattle.paper.specs.Answering.{means, answer_in_step, answer_lost, answer_to}
use Rattle.paper.specs.declared.Form.{Form}
use Rattle.shortest.specs.ShortestText.{cost_of, shortest_from}
use Rattle.shortest.specs.Shortening.{shortest_text}

pub record Example : Type 0 where
  pub form : Form
  pub text : List ℕ
  pub shortest : List ℕ

-- the 18 bytes that both openings begin with
abbrev designations : List ℕ
designations =
    0x1B ∷ 0x21 ∷ 0x40 ∷ 0x1B ∷ 0x22 ∷ 0x43 ∷ 0x1B ∷ 0x28 ∷ 0x42 ∷ 0x1B ∷ 0x2D ∷ 0x46 ∷ 0x1B ∷ 0x2E ∷ 0x41 ∷ 0x1B ∷ 0x2F ∷ 0x4C ∷ []

abbrev eight : List ℕ → List ℕ → Example
eight text shortest = record { form = Form.Eight; text = text; shortest = shortest }

abbrev seven : List ℕ → List ℕ → Example
seven text shortest = record { form = Form.Seven; text = text; shortest = shortest }

abbrev pub examples : List Example
examples =
    -- byte order moves shifts forward
    eight (0x10 ∷ 0xC1 ∷ []) (0x0E ∷ 0x10 ∷ 0x41 ∷ []) ∷
    eight (0x0A ∷ 0xC1 ∷ []) (0x0A ∷ 0x0E ∷ 0x41 ∷ []) ∷
    eight (0x1B ∷ 0x29 ∷ 0x42 ∷ 0xC1 ∷ []) (0x0E ∷ 0x1B ∷ 0x29 ∷ 0x42 ∷ 0x41 ∷ []) ∷
    eight (0x8E ∷ 0x41 ∷ []) (0x1B ∷ 0x4E ∷ 0x41 ∷ []) ∷
    eight (0x8E ∷ 0x41 ∷ 0x8E ∷ 0x42 ∷ []) (0x1B ∷ 0x6E ∷ 0x41 ∷ 0x42 ∷ []) ∷
    -- G3, and two bytes to a character
    eight (0x8F ∷ 0x41 ∷ 0x8F ∷ 0x42 ∷ []) (0x1B ∷ 0x6F ∷ 0x41 ∷ 0x42 ∷ []) ∷
    eight (0x1B ∷ 0x24 ∷ 0x2A ∷ 0x41 ∷ 0x8E ∷ 0x30 ∷ 0x31 ∷ []) (0x1B ∷ 0x24 ∷ 0x2A ∷ 0x41 ∷ 0x1B ∷ 0x4E ∷ 0x30 ∷ 0x31 ∷ []) ∷
    -- SPACE and DELETE are read from a set of 94 type
    eight (0xC1 ∷ 0x20 ∷ []) (0x0E ∷ 0x41 ∷ 0x0F ∷ 0x20 ∷ []) ∷
    eight (0xC1 ∷ 0x7F ∷ []) (0x0E ∷ 0x41 ∷ 0x0F ∷ 0x7F ∷ []) ∷
    eight (0x41 ∷ 0xC1 ∷ 0x20 ∷ []) (0x41 ∷ 0x0E ∷ 0x41 ∷ 0x0F ∷ 0x20 ∷ []) ∷
    eight (0x1B ∷ 0x29 ∷ 0x42 ∷ 0xC1 ∷ 0x20 ∷ []) (0x0E ∷ 0x1B ∷ 0x29 ∷ 0x42 ∷ 0x41 ∷ 0x20 ∷ []) ∷
    -- a C1 control, an other sequence, the short sequence for a 94 set of 2 bytes
    eight (0x85 ∷ 0x1B ∷ 0x23 ∷ 0x38 ∷ []) (0x1B ∷ 0x45 ∷ 0x1B ∷ 0x23 ∷ 0x38 ∷ []) ∷
    eight (0x1B ∷ 0x24 ∷ 0x28 ∷ 0x42 ∷ []) (0x1B ∷ 0x24 ∷ 0x42 ∷ []) ∷
    -- shifts that no answer needs are left out; SS2 comes before LS2 in byte order
    seven (0x0E ∷ 0x0F ∷ 0x1B ∷ 0x6E ∷ 0x41 ∷ 0x0E ∷ []) (0x1B ∷ 0x4E ∷ 0x41 ∷ []) ∷
    seven [] [] ∷
    -- an opening is written whole
    seven (0x0E ∷ 0x41 ∷ designations ++ (0x0E ∷ 0x0F ∷ 0x41 ∷ [])) (0x0E ∷ 0x41 ∷ designations ++ (0x0E ∷ 0x0F ∷ 0x41 ∷ [])) ∷
    eight (designations ++ (0x0F ∷ 0x1B ∷ 0x7E ∷ 0xC1 ∷ [])) (designations ++ (0x0E ∷ 0x0F ∷ 0x0E ∷ 0x41 ∷ [])) ∷
    []

pub examples_hold : map (λ (x : Example). shortest_text x.form x.text) examples ≡ map (λ (x : Example). x.shortest) examples
unfolding between column_area form_has_column position_of set_byte sequence_byte c1_function shift_or_other meaning_of_none designation
    short_designation by_intermediate meaning_of_one several_bytes meaning_of_two matched_with one_more c0_byte byte_in character means
    answer_in_step answer_lost answer_to cost_of shortest_from
examples_hold = refl
