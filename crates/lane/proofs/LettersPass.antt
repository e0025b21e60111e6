-- A letter passes the lane of its state: its set has one byte to a character, and 2/1 to 7/14 are positions of every set.
use Prim.Native.Nat.{ℕ, ◌/◌, ◌≤◌, ◌<◌}
use mathlib.Core.Path.{◌≡◌, refl, sym, ap, ◌∙◌}
use mathlib.Core.Bool.{true}
use mathlib.Core.List.{List}
use mathlib.Core.Logic.{◌⊎◌, inl, inr, ⊎_elim}
use native.Mathlib.Omega.{arith}
use borrow.Author.Tests.{leb-true, ltb-true}
use Rattle.paper.specs.CodeTable.{form_has, form_has_column, position_of, bit8}
use Rattle.paper.specs.declared.Form.{Form}
use Rattle.paper.specs.declared.Kind.{Kind}
use Rattle.paper.specs.declared.Kind.TheVariants.{Of94, Of96}
use Rattle.charsets.specs.Sizes.{kind_of, is_one}
use Rattle.items.specs.States.{left_in, right_in, size_in}
use Rattle.items.specs.Letters.{is_letter}
use Rattle.items.proofs.ItemsOfBytes.{Letter, letter_is}
use Rattle.lane.specs.Passing.{passes}
use Rattle.lane.specs.Lanes.{first_position, last_position, positions_of, last_plain, lane_with, lane_of}
use Rattle.lane.proofs.EachPasses.{bound_passes, plain_passes}
use Rattle.lane.proofs.LaneItems.{less_or_not, plain_with, shown_in_gl, shown_in_gr_lem}

one_of_two : (x : ℕ) → is_one x ≡ true → (x ≡ 0) ⊎ (x ≡ 1)
unfolding is_one
one_of_two x e =
    let h = ltb-true x 2 e in
    ⊎_elim (λ low. inl (omega arith)) (λ high. inr (omega arith)) (less_or_not x 1)

pub plain_by_kind : (x : ℕ) → is_one x ≡ true → last_plain x ≡ last_position (kind_of x)
unfolding last_plain kind_of
plain_by_kind x one = ⊎_elim (λ e. rw e) (λ e. rw e) (one_of_two x one)

pub lane_by_kind : (p x : ℕ) → is_one x ≡ true → lane_with p x ≡ positions_of p (kind_of x)
unfolding lane_with kind_of
lane_by_kind p x one = ⊎_elim (λ e. rw e) (λ e. rw e) (one_of_two x one)

pub seven_below : (b : ℕ) → form_has Form.Seven b ≡ true → b < bit8
unfolding form_has_column position_of
seven_below b e = let h = leb-true (b / 16) 7 e in omega arith

pub bounds_by_kind : (k : Kind) → (first_position k ≤ 0x21) × (0x7E ≤ last_position k) × (last_position k ≤ 0x7F)
bounds_by_kind Of94 = (omega arith, omega arith, omega arith)
bounds_by_kind Of96 = (omega arith, omega arith, omega arith)

plain_of : (m : Form) (cells : List ℕ) → (lane_of m cells).plain ≡ last_plain (size_in cells (left_in cells))
plain_of Form.Seven cells = refl
plain_of Form.Eight cells = plain_with _ _

pub letter_passes : (m : Form) (cells : List ℕ) (b : ℕ) → b < 0x100 → is_letter m cells b ≡ true → passes (lane_of m cells) b ≡ true
letter_passes m cells b most letter =
    let l = letter_is m cells b letter in
    ⊎_elim
    (λ low.
    let x : ℕ = size_in cells (left_in cells) in
    let one : is_one x ≡ true = ap (λ (e : ℕ). is_one (size_in cells e)) (sym (shown_in_gl cells b low)) ∙ l.one in
    let is = plain_of m cells ∙ plain_by_kind x one in
    plain_passes (lane_of m cells) b (omega (arith, l.low)) (omega (arith, is, bounds_by_kind (kind_of x), l.high)))
    (λ high. in_gr m l high)
    (less_or_not b bit8)
  where
    in_gr : (m : Form) → Letter m cells b → bit8 ≤ b → passes (lane_of m cells) b ≡ true
    in_gr Form.Seven l high = absurd (omega (arith, seven_below b l.has, high))
    in_gr Form.Eight l high =
        let x : ℕ = size_in cells (right_in cells) in
        let one : is_one x ≡ true = ap (λ (e : ℕ). is_one (size_in cells e)) (sym (shown_in_gr_lem cells b high)) ∙ l.one in
        let w = bounds_by_kind (kind_of x) in
        rw (lane_by_kind (last_plain (size_in cells (left_in cells))) x one)
        (bound_passes (positions_of (last_plain (size_in cells (left_in cells))) (kind_of x)) b
        (omega (arith, w, l.low)) (omega (arith, w, l.high)))
