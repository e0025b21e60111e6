-- SI, SPACE and SO are three items, after which the state is what it was.
use Prim.Native.Nat.{ℕ, ◌+◌, ◌≤◌}
use mathlib.Core.Path.{◌≡◌, refl, sym, ap, ◌∙◌, subst}
use mathlib.Core.Bool.{true}
use mathlib.Core.List.{List}
use native.Mathlib.Omega.{arith}
use borrow.Author.Tests.{leb-true, eqb-true}
use lib.Dec.{leb, eqb}
use lib.ListN.{length, get_or, set}
use Rattle.paper.specs.CodeTable.{so, si}
use Rattle.paper.specs.Sets.{space}
use Rattle.paper.specs.Results.{element_number, space_word}
use Rattle.paper.specs.declared.Form.{Form}
use Rattle.paper.specs.declared.Kind.{Kind}
use Rattle.paper.specs.declared.Kind.TheVariants.{Of94, Of96}
use Rattle.paper.specs.declared.Element.{Element}
use Rattle.paper.specs.declared.Reader.{Reader}
use Rattle.paper.proofs.Choices.{impossible}
use Rattle.charsets.specs.Sizes.{kind_of, is_of94}
use Rattle.escapes.specs.Effects.{nowhere, plain, shows_in_gl}
use Rattle.escapes.specs.declared.effect.Word.{Word}
use Rattle.items.specs.States.{single_in, left_in, size_in, changed, none, cells_of, Stands}
use Rattle.items.specs.Items.{shifts, item_at}
use Rattle.items.proofs.ItemsOfBytes.{shift_out_item, shift_in_item, space_item_lem}
use Rattle.items.proofs.StatesKept.{Same, on_ground_lem}
use Rattle.lane.specs.Gaps.{has_gaps, gap_ahead}
use Rattle.lane.proofs.EachPasses.{both_true}
use Rattle.lane.proofs.LaneItems.{space_item}
use Rattle.escapes.specs.Effects.{as_word}

-- ---- what the tests mean

pub record Ahead (text : List ℕ) (place : ℕ) : Type 0 where
  pub inside : place + 3 ≤ length text
  pub is_si : get_or text place 0 ≡ si
  pub is_space : get_or text (place + 1) 0 ≡ space
  pub is_so : get_or text (place + 2) 0 ≡ so

pub gap_is : (text : List ℕ) (place : ℕ) → gap_ahead text place ≡ true → Ahead text place
unfolding gap_ahead
gap_is text place e =
    let w = both_true (leb (place + 3) (length text)) _ e in
    let v = both_true (eqb (get_or text place 0) si) _ w.1 in
    let u = both_true (eqb (get_or text (place + 1) 0) space) _ v.1 in
    record { inside = leb-true _ _ w.0; is_si = eqb-true _ _ v.0; is_space = eqb-true _ _ u.0; is_so = eqb-true _ _ u.1 }

pub kind_is_94 : (k : Kind) → is_of94 k ≡ true → k ≡ Of94
kind_is_94 Of94 e = refl
kind_is_94 Of96 e = impossible (cc)

-- ---- the items

abbrev pub after_in : List ℕ → List ℕ
after_in cells = changed (shows_in_gl (element_number Element.G0)) cells

abbrev pub after_space : List ℕ → List ℕ
after_space cells = changed (plain (as_word space_word) 0) (after_in cells)

abbrev pub after_out : List ℕ → List ℕ
after_out cells = changed (shows_in_gl (element_number Element.G1)) (after_space cells)

pub record GapItems (m : Form) (cells text : List ℕ) (place : ℕ) : Type 0 where
  pub inside : place + 3 ≤ length text
  pub shift_in : item_at m cells text place ≡ shifts (element_number Element.G0) (place + 1)
  pub space_sign : item_at m (after_in cells) text (place + 1) ≡ space_item (place + 1 + 1)
  pub shift_out : item_at m (after_space cells) text (place + 2) ≡ shifts (element_number Element.G1) (place + 2 + 1)
  pub same : Same (after_out cells) cells

on_the_ground : (m : Form) (r : Reader) (left : ℕ) (text : List ℕ) (place : ℕ) → Ahead text place →
    element_number r.gl ≡ element_number Element.G1 → kind_of (size_in (cells_of r none left) (element_number Element.G0)) ≡ Of94 →
    GapItems m (cells_of r none left) text place
on_the_ground m r left text place a gl g0 =
    let cells : List ℕ = cells_of r none left in record {
      inside = a.inside;
      shift_in = shift_in_item m cells text place (omega (arith, a.inside)) refl a.is_si;
      space_sign = space_item_lem m (after_in cells) text (place + 1) (omega (arith, a.inside)) refl a.is_space g0;
      shift_out = shift_out_item m (after_space cells) text (place + 2) (omega (arith, a.inside)) refl a.is_so;
      same = ap (λ (shown : ℕ). set (set cells nowhere 0) 6 shown) (sym gl);
    }

pub gap_items : (m : Form) (cells text : List ℕ) (place : ℕ) (r : Reader) → Stands cells r → single_in cells ≡ 0 →
    has_gaps cells ≡ true → gap_ahead text place ≡ true → GapItems m cells text place
unfolding has_gaps
gap_items m cells text place r s ground gaps ahead =
    let w = both_true (eqb (left_in cells) (element_number Element.G1)) _ gaps in
    let is : cells ≡ cells_of r none s.left = on_ground_lem s ground in
    subst (λ (c : List ℕ). GapItems m c text place) (sym is)
    (on_the_ground m r s.left text place (gap_is text place ahead)
    (ap left_in (sym is) ∙ eqb-true (left_in cells) (element_number Element.G1) w.0)
    (ap (λ (c : List ℕ). kind_of (size_in c (element_number Element.G0))) (sym is) ∙
    kind_is_94 (kind_of (size_in cells (element_number Element.G0))) w.1))
