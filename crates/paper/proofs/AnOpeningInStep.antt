-- An opening that comes to a reader in step makes it the starting reader, as is computed. On the ground each sequence of it designates
-- or shifts, so that sets, GL and GR are those of the start; in 7-bit form no shift reaches GR, which must show G1 before.
-- Inside a sequence, after a single shift and inside a character its first byte is refused, and the search that begins with this
-- byte finds it.
use Prim.Native.Nat.{ℕ}
use mathlib.Core.Path.{◌≡◌, refl, ap, ◌∙◌}
use lib.ListN.{drop}
use Rattle.paper.specs.Choice.{between}
use Rattle.paper.specs.Words.{Form, Seven, Eight, Element, G1, Sets, GraphicArea, Within, Standing, Reader}
use Rattle.paper.specs.CodeTable.{column_area, form_has_column, position_of, esc}
use Rattle.paper.specs.Sets.{set_byte}
use Rattle.paper.specs.Starting.{started, opening}
use Rattle.paper.specs.Sequences.{sequence_byte, c1_function, shift_or_other, meaning_of_none, designation}
use Rattle.paper.specs.Sequences.{by_intermediate, meaning_of_one}
use Rattle.paper.specs.Characters.{c0_byte, byte_in}
use Rattle.paper.specs.Searching.{matched_with, one_more}
use Rattle.paper.specs.Marks.{recording}
use Rattle.paper.specs.Answering.{means, answer_in_step, answer_lost, answer_to}
use Rattle.paper.specs.Texts.{reader_after}
use Rattle.paper.proofs.RecordsOfOpenings.{record_along}

abbrev pub reading : Form → Sets → Element → Element → ℕ → Within → Reader
reading m t l g k w = record { form = m; sets = t; gl = l; gr = g; gone = k; standing = Standing.InStep w }

-- what GR can show: in 7-bit form G1 alone
abbrev shown_in_gr : Form → Element → Element
shown_in_gr Seven e = G1
shown_in_gr Eight e = e

-- after a single shift and inside a character its first byte is refused; the rest is searched for, however many bytes are counted
module _ (t : Sets) (l g : Element) (k : ℕ) where
  abbrev lost_at_first : Form → ℕ → Reader
  lost_at_first m n = record { form = m; sets = t; gl = l; gr = g; gone = 0; standing = Standing.Lost 1 n }

  rest_found : (m : Form) (n : ℕ) → reader_after (lost_at_first m n) (drop 1 (opening m)) ≡ started m
  unfolding matched_with one_more answer_lost answer_to
  rest_found Seven n = refl
  rest_found Eight n = refl

  finds : (m : Form) (w : Within) {n : ℕ} → (answer_to (reading m t l g k w) esc).reader ≡ lost_at_first m n →
      reader_after (reading m t l g k w) (opening m) ≡ started m
  finds Seven w {n} e = ap (λ (r : Reader). reader_after r (drop 1 (opening Seven))) e ∙ rest_found Seven n
  finds Eight w {n} e = ap (λ (r : Reader). reader_after r (drop 1 (opening Eight))) e ∙ rest_found Eight n

computed : (m : Form) (w : Within) (t : Sets) (l g : Element) (k : ℕ) → record_along m k (opening m) ≡ 0 →
    reader_after (reading m t l (shown_in_gr m g) k w) (opening m) ≡ started m
unfolding between column_area form_has_column position_of set_byte sequence_byte c1_function shift_or_other meaning_of_none designation
    by_intermediate meaning_of_one matched_with one_more c0_byte byte_in means answer_in_step answer_lost answer_to
computed Seven Within.Ground t l g k none = ap (λ (j : ℕ). recording j (started Seven)) none
computed Seven (Within.Sequence s) t l g k none = finds t l G1 k Seven (Within.Sequence s) refl
computed Seven (Within.SingleShift e) t l g k none = finds t l G1 k Seven (Within.SingleShift e) refl
computed Seven (Within.Character e GraphicArea.GL p) t l g k none =
    finds t l G1 k Seven (Within.Character e GraphicArea.GL p) refl
computed Seven (Within.Character e GraphicArea.GR p) t l g k none =
    finds t l G1 k Seven (Within.Character e GraphicArea.GR p) refl
computed Eight Within.Ground t l g k none = ap (λ (j : ℕ). recording j (started Eight)) none
computed Eight (Within.Sequence s) t l g k none = finds t l g k Eight (Within.Sequence s) refl
computed Eight (Within.SingleShift e) t l g k none = finds t l g k Eight (Within.SingleShift e) refl
computed Eight (Within.Character e GraphicArea.GL p) t l g k none =
    finds t l g k Eight (Within.Character e GraphicArea.GL p) refl
computed Eight (Within.Character e GraphicArea.GR p) t l g k none =
    finds t l g k Eight (Within.Character e GraphicArea.GR p) refl

pub from_in_step : (m : Form) (w : Within) (t : Sets) (l g : Element) (k : ℕ) → (m ≡ Seven → g ≡ G1) → record_along m k (opening m) ≡ 0 →
    reader_after (reading m t l g k w) (opening m) ≡ started m
from_in_step Seven w t l g k shows none =
    ap (λ (e : Element). reader_after (reading Seven t l e k w) (opening Seven)) (shows refl) ∙ computed Seven w t l g k none
from_in_step Eight w t l g k shows none = computed Eight w t l g k none
