-- What some texts have, computed: a text with every figure in it, one that is never refused, and the count of skipped bytes where
-- it stops; and a first refusal is the first.
use Prim.Native.Nat.{ℕ}
use mathlib.Core.Path.{◌≡◌, refl}
use mathlib.Core.List.{List, [], ◌∷◌, ◌++◌, map}
use Rattle.paper.specs.Choice.{between}
use Rattle.paper.specs.Words.{Form, Seven, Eight}
use Rattle.paper.specs.CodeTable.{column_area, form_has_column, position_of}
use Rattle.paper.specs.Sets.{set_byte}
use Rattle.paper.specs.Starting.{opening}
use Rattle.paper.specs.Sequences.{sequence_byte, c1_function, shift_or_other, meaning_of_none, designation}
use Rattle.paper.specs.Sequences.{short_designation, by_intermediate, meaning_of_one, several_bytes, meaning_of_two}
use Rattle.paper.specs.Searching.{matched_with, skipped_bytes, one_more}
use Rattle.paper.specs.Characters.{c0_byte, byte_in, character}
use Rattle.paper.specs.Answering.{means, answer_in_step, answer_lost, answer_to}
use Rattle.paper.specs.Surveying.{figures_of}
use Rattle.paper.specs.Results.{figures_values}

pub record Example : Type 0 where
  pub form : Form
  pub bytes : List ℕ
  -- characters, spaces, deletes, controls, designations, shifts, others, refusals, insteps; the first refusal and its place;
  -- the end
  pub figures : List ℕ

abbrev pub figure_examples : List Example
figure_examples =
    -- every figure
    record {
      form = Eight;
      bytes =
          (0x41 ∷ 0x0A ∷ 0x85 ∷ 0x0D ∷ 0x7F ∷ 0x7F ∷ 0x0E ∷ 0x0F ∷ 0x1B ∷ 0x6F ∷ 0x8E ∷ 0x20 ∷ 0x1B ∷ 0x7E ∷ 0x0F ∷ []) ++
          opening Eight ++ (0x1B ∷ 0x30 ∷ 0xC1 ∷ 0x20 ∷ 0x1B ∷ 0x28 ∷ 0x0E ∷ 0x41 ∷ []) ++ opening Eight ++
          (0x1B ∷ 0x1B ∷ []) ++ opening Eight ++ (0x8E ∷ 0xC1 ∷ []);
      figures = 3 ∷ 1 ∷ 2 ∷ 3 ∷ 6 ∷ 9 ∷ 1 ∷ 3 ∷ 2 ∷ 2 ∷ 42 ∷ 2 ∷ [];
    } ∷
    -- never refused, and inside at the end
    record {
      form = Seven;
      bytes = 0x41 ∷ 0x20 ∷ 0x0E ∷ 0x41 ∷ 0x1B ∷ [];
      figures = 2 ∷ 1 ∷ 0 ∷ 0 ∷ 0 ∷ 1 ∷ 0 ∷ 0 ∷ 0 ∷ 0 ∷ 0 ∷ 1 ∷ [];
    } ∷
    -- nothing to read
    record { form = Seven; bytes = []; figures = 0 ∷ 0 ∷ 0 ∷ 0 ∷ 0 ∷ 0 ∷ 0 ∷ 0 ∷ 0 ∷ 0 ∷ 0 ∷ 0 ∷ [] } ∷
    []

pub figures_hold :
    map (λ (x : Example). figures_values (figures_of x.form x.bytes)) figure_examples ≡
    map (λ (x : Example). x.figures) figure_examples
unfolding between column_area form_has_column position_of set_byte sequence_byte c1_function shift_or_other meaning_of_none designation
    short_designation by_intermediate meaning_of_one several_bytes meaning_of_two matched_with one_more c0_byte byte_in character means
    answer_in_step answer_lost answer_to
figures_hold = refl

-- 65,535 if more
pub skipped_at_most :
    (map skipped_bytes (21 ∷ 65534 ∷ 65535 ∷ 65536 ∷ 100000 ∷ []) ≡ 21 ∷ 65534 ∷ 65535 ∷ 65535 ∷ 65535 ∷ []) ×
    (map one_more (0 ∷ 20 ∷ 65534 ∷ 65535 ∷ []) ≡ 1 ∷ 21 ∷ 65535 ∷ 65535 ∷ [])
unfolding skipped_bytes one_more
skipped_at_most = (refl, refl)
