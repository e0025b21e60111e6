-- A gap is two or three items, after which the state and what GL shows in the output are what they were.
use Prim.Native.Nat.{ℕ, ◌+◌, ◌-◌, ◌%◌, ◌≤◌}
use mathlib.Core.Path.{◌≡◌, refl, sym, ap, ◌∙◌, subst}
use mathlib.Core.Bool.{Bool, true}
use mathlib.Core.List.{List, [], ◌∷◌}
use native.Mathlib.Nat.{add-zero}
use native.Mathlib.Omega.{arith}
use borrow.Author.Tests.{ltb-false, leb-true, eqb-true}
use lib.Dec.{ltb, leb, eqb}
use lib.ListN.{length, get_or}
use lib.Seq.{sets, length-sets}
use Rattle.paper.specs.CodeTable.{form_has, bit8, so, si}
use Rattle.paper.specs.Sets.{space}
use Rattle.paper.specs.Results.{element_number}
use Rattle.paper.specs.declared.Form.{Form}
use Rattle.paper.specs.declared.Element.{Element}
use Rattle.paper.proofs.Choices.{impossible, gives_by, between_bounds}
use Rattle.charsets.specs.Sizes.{kind_of, is_one}
use Rattle.items.specs.States.{single_in, left_in, right_in, size_in, element_of}
use Rattle.items.specs.Items.{shifts}
use Rattle.items.specs.Letters.{is_letter}
use Rattle.items.proofs.ItemsOfBytes.{eight_has, letter_is, position_item, space_item_lem}
use Rattle.lane.proofs.EachPasses.{both_true}
use Rattle.lane.proofs.LaneItems.{shown_in_gr_lem, space_item}
use Rattle.lane.proofs.GapItems.{gap_is, GapItems, gap_items, after_in, after_space}
use Rattle.converter.specs.Passing.{Passes}
use Rattle.converter.specs.Writing.{shifted_to, in_seven, writes}
use Rattle.converter.specs.Runs.{gap_in_seven, has_gaps, space_ahead, gap_ahead, gap_length, gap_bytes, in_one_byte}
use Rattle.converter.proofs.PassByItems.{item_goes_on}
use Rattle.converter.proofs.RunsGoOn.{sets_more, same_passes, plain_goes_on}
use Rattle.converter.proofs.WaysCopy.{form_of_gr}
use Rattle.escapes.specs.Effects.{as_word}
use Rattle.paper.specs.Results.{char_word, space_word}

-- ---- what the tests mean

-- the state of a gap to 7-bit form
record Gaps (cells : List ℕ) : Type 0 where
  left_is : left_in cells ≡ element_number Element.G0
  right_is : right_in cells ≡ element_number Element.G1
  g0_is : size_in cells (element_number Element.G0) ≡ 0
  g1_is : size_in cells (element_number Element.G1) ≡ 1

seven_gaps : (cells : List ℕ) → gap_in_seven cells ≡ true → Gaps cells
unfolding gap_in_seven
seven_gaps cells e =
    let w = both_true (eqb (left_in cells) (element_number Element.G0)) _ e in
    let v = both_true (eqb (right_in cells) (element_number Element.G1)) _ w.1 in
    let u = both_true (eqb (size_in cells (element_number Element.G0)) 0) _ v.1 in
    record { left_is = eqb-true _ _ w.0; right_is = eqb-true _ _ v.0; g0_is = eqb-true _ _ u.0; g1_is = eqb-true _ _ u.1 }

pub record SpaceAhead (text : List ℕ) (place : ℕ) : Type 0 where
  pub inside : place + 2 ≤ length text
  pub is_space : get_or text place 0 ≡ space
  pub low : 0xA1 ≤ get_or text (place + 1) 0
  pub high : get_or text (place + 1) 0 ≤ 0xFE

pub space_is_ahead : (text : List ℕ) (place : ℕ) → space_ahead text place ≡ true → SpaceAhead text place
unfolding space_ahead
space_is_ahead text place e =
    let w = both_true (leb (place + 2) (length text)) _ e in
    let v = both_true (eqb (get_or text place 0) space) _ w.1 in
    let u = between_bounds 0xA1 0xFE (get_or text (place + 1) 0) v.1 in
    record { inside = leb-true _ _ w.0; is_space = eqb-true _ _ v.0; low = u.0; high = u.1 }

-- ---- the items

module _ {m : Form} {text lent cells : List ℕ} {shown at place : ℕ} {buffer : List ℕ} where
  -- SPACE after SI, and the letter after SO
  seven_goes_on : Passes m Form.Seven text lent cells shown at place buffer → m ≡ Form.Eight → single_in cells ≡ 0 →
      shown ≡ element_number Element.G1 → Gaps cells → SpaceAhead text place → (after : List ℕ) → length after ≡ length buffer →
      (at + 4 ≤ length lent → after ≡ sets buffer at (gap_bytes Form.Seven text place)) →
      Passes m Form.Seven text lent cells shown (at + 4) (place + 2) after
  unfolding writes in_seven shifted_to kind_of is_one
  seven_goes_on p form ground is g a after long stored =
      let next : ℕ = get_or text (place + 1) 0 in
      let first : List ℕ = si ∷ space ∷ [] in
      let second : List ℕ = so ∷ (next - bit8) ∷ [] in
      let there : place + 1 + 1 ≡ place + 2 = omega arith in
      let written : at + 2 + 2 ≡ at + 4 = omega arith in
      let lowered : next % bit8 ≡ next - bit8 = omega (arith, a.low, a.high) in
      let in_gr : element_of cells next ≡ element_number Element.G1 = shown_in_gr_lem cells next (omega (arith, a.low)) ∙ g.right_is in
      let half : Passes m Form.Seven text lent cells (element_number Element.G0) (at + 2) (place + 1) (sets buffer at first) =
      plain_goes_on p (omega (arith, a.inside)) ground (as_word space_word) 0 (space ∷ []) (omega arith)
      (space_item_lem m cells text place (omega (arith, a.inside)) ground a.is_space (rw (g.left_is, g.g0_is)))
      first (element_number Element.G0) (rw (is, g.g1_is)) (sets buffer at first) (length-sets buffer at first) (λ h. refl) in
      subst (λ (n : ℕ). Passes m Form.Seven text lent cells shown (at + 4) n after) there
      (subst (λ (n : ℕ). Passes m Form.Seven text lent cells shown n (place + 1 + 1) after) written
      (subst (λ (n : ℕ). Passes m Form.Seven text lent cells n (at + 2 + 2) (place + 1 + 1) after) (sym is)
      (plain_goes_on half (omega (arith, a.inside)) ground (as_word char_word) (element_of cells next) (next % bit8 ∷ []) (omega arith)
      (position_item m cells text (place + 1) (omega (arith, a.inside)) ground (ap (λ (f : Form). form_has f next) form ∙ eight_has next)
      (omega (arith, a.low, a.high)) (omega (arith, a.low, a.high)) (rw (in_gr, g.g1_is)))
      second (element_number Element.G1) (rw (in_gr, lowered)) after (long ∙ sym (length-sets buffer at first))
      (λ h. stored (omega arith) ∙ sets_more buffer at first second))))

  -- SI, SPACE and SO, of which SPACE is written
  eight_goes_on : Passes m Form.Eight text lent cells shown at place buffer → GapItems m cells text place → (after : List ℕ) →
      length after ≡ length buffer → (at + 1 ≤ length lent → after ≡ sets buffer at (gap_bytes Form.Eight text place)) →
      Passes m Form.Eight text lent cells shown (at + 1) (place + 3) after
  unfolding writes
  eight_goes_on p g after long stored =
      let one_more_lem : place + 1 + 1 ≡ place + 2 = omega arith in
      let there : place + 2 + 1 ≡ place + 3 = omega arith in
      let shifted : Passes m Form.Eight text lent (after_in cells) shown at (place + 1) buffer =
      subst (λ (n : ℕ). Passes m Form.Eight text lent (after_in cells) shown n (place + 1) buffer) (add-zero at)
      (item_goes_on p (omega (arith, g.inside)) (shifts (element_number Element.G0) (place + 1)) g.shift_in (omega arith)
      buffer refl (λ h. refl)) in
      let spaced : Passes m Form.Eight text lent (after_space cells) shown (at + 1) (place + 2) after =
      subst (λ (n : ℕ). Passes m Form.Eight text lent (after_space cells) shown (at + 1) n after) one_more_lem
      (item_goes_on shifted (omega (arith, g.inside)) (space_item (place + 1 + 1)) g.space_sign (omega arith) after long stored) in
      subst (λ (n : ℕ). Passes m Form.Eight text lent cells shown (at + 1) n after) there
      (subst (λ (n : ℕ). Passes m Form.Eight text lent cells shown n (place + 2 + 1) after) (add-zero (at + 1))
      (same_passes g.same
      (item_goes_on spaced (omega (arith, g.inside)) (shifts (element_number Element.G1) (place + 2 + 1)) g.shift_out (omega arith)
      after refl (λ h. refl))))

pub gap_goes_on : (m to : Form) {text lent cells : List ℕ} {shown at place : ℕ} {buffer : List ℕ} (b : ℕ) →
    Passes m to text lent cells shown at place buffer → has_gaps to cells b ≡ true → is_letter m cells b ≡ true →
    in_one_byte to shown (element_of cells b) b ≡ true → gap_ahead to text place ≡ true → (after : List ℕ) → length after ≡ length buffer →
    (at + length (gap_bytes to text place) ≤ length lent → after ≡ sets buffer at (gap_bytes to text place)) →
    Passes m to text lent cells shown (at + length (gap_bytes to text place)) (place + gap_length to) after
unfolding has_gaps in_one_byte
gap_goes_on m Form.Seven {text} {lent} {cells} {shown} {at} {place} {buffer} b p has letter short ahead =
    let l = letter_is m cells b letter in
    gives_by (λ (t : Bool). t ≡ true → (after : List ℕ) → length after ≡ length buffer →
    (at + 4 ≤ length lent → after ≡ sets buffer at (gap_bytes Form.Seven text place)) →
    Passes m Form.Seven text lent cells shown (at + 4) (place + 2) after) (ltb b bit8)
    (λ low e. impossible (cc))
    (λ t e.
    let high = ltb-false b bit8 t in
    let g = seven_gaps cells e in
    seven_goes_on p (form_of_gr m b l.has high) l.ground
    (sym (eqb-true _ _ short) ∙ shown_in_gr_lem cells b high ∙ g.right_is) g (space_is_ahead text place ahead)) has
gap_goes_on m Form.Eight {text} {lent} {cells} {shown} {at} {place} b p has letter short ahead =
    eight_goes_on p (gap_items m cells text place p.reader p.stands (letter_is m cells b letter).ground has ahead)

-- a gap stands inside the text
pub gap_inside : (to : Form) (text : List ℕ) (place : ℕ) → gap_ahead to text place ≡ true → place + gap_length to ≤ length text
gap_inside Form.Seven text place e = (space_is_ahead text place e).inside
gap_inside Form.Eight text place e = (gap_is text place e).inside
