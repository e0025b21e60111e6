-- The tests of an item's first byte are those of `item_of_byte`, and ESC, which is tried before them, is a control of both forms.
use Rattle.std.proofs.Common.{◌≡◌, ℕ, suc, ◌+◌, ◌-◌, ◌<◌, Bool, true, false, eqb, List, length, get_or}
use Rattle.std.proofs.Common.{refl, ap, add-one, arith, ne_eqb, eqb-true}
use borrow.Author.Tests.{lt-leb}
use Rattle.paper.specs.CodeTable.{area_of, column_area, position_of, form_has, form_has_column, esc}
use Rattle.paper.specs.Starting.{opening}
use Rattle.paper.specs.declared.Form.{Form}
use Rattle.paper.specs.declared.Refusal.{Refusal}
use Rattle.paper.proofs.Choices.{impossible, gives_by}
use Rattle.items.specs.States.{single_in}
use Rattle.items.specs.Items.{Item, refused, is_control, after_escape, control_at, control_or_sequence, graphic_at, item_of_byte}
use Rattle.items.specs.Items.{opens_at, item_at, opened_or}
use Rattle.items.proofs.OpeningsAhead.{ahead, ahead_byte, ahead_not}

esc_begins : (m : Form) (cells text : List ℕ) (place : ℕ) → item_of_byte m cells 0 esc text place ≡ after_escape m text (place + 1)
unfolding item_of_byte control_or_sequence form_has_column column_area position_of
esc_begins Form.Seven cells text place = refl
esc_begins Form.Eight cells text place = refl

esc_in_form : (m : Form) → form_has m esc ≡ true
unfolding form_has_column position_of
esc_in_form Form.Seven = refl
esc_in_form Form.Eight = refl

some_bytes : (m : Form) → 0 < length (opening m)
some_bytes Form.Seven = omega arith
some_bytes Form.Eight = omega arith

-- an opening begins with ESC
pub opens_not : (m : Form) (cells text : List ℕ) (place : ℕ) → place < length text →
    (single_in cells ≡ 0 → get_or text place 0 ≡ esc → ⊥) → opens_at m cells text place ≡ false
unfolding opens_at
opens_not m cells text place inside other = gives_by (λ (t : Bool). t ≡ false) (eqb (single_in cells) 0)
    (λ ground. ahead_not m text place 0 (some_bytes m) inside (other (eqb-true (single_in cells) 0 ground)))
    (λ taken. refl)

module _ (m : Form) (cells text : List ℕ) (place : ℕ) (inside : place < length text) where
  abbrev byte : ℕ
  byte = get_or text place 0

  abbrev At : Item → Type 0
  At i = i ≡ item_at m cells text place

  pub at_escape : single_in cells ≡ 0 → byte ≡ esc → At (opened_or m text (place + 1) (after_escape m text (place + 1)))
  unfolding item_at opens_at
  at_escape ground e =
      let there : place + 1 - 1 ≡ place = omega arith in
      let second : ahead m text (place + 1) 1 ≡ ahead m text (suc place) 1 = ap (λ (n : ℕ). ahead m text n 1) (add-one place) in
      rw (
        lt-leb (length text) place inside,
        ground,
        ahead_byte m text place 0 (some_bytes m) inside,
        e,
        esc_begins m cells text place,
        there,
        second,
      )

  pub at_another_form : form_has m byte ≡ false → At (refused Refusal.ByteOfEightBits place)
  unfolding item_at item_of_byte
  at_another_form form =
      rw (
        lt-leb (length text) place inside,
        opens_not m cells text place inside (λ ground e. impossible (cc (ap (form_has m) e, esc_in_form m))),
        form,
      )

  pub at_control : single_in cells ≡ 0 → (byte ≡ esc → ⊥) → form_has m byte ≡ true → is_control (area_of byte) ≡ true →
      At (control_at byte place (place + 1))
  unfolding item_at item_of_byte control_or_sequence
  at_control ground other form control =
      rw (
        lt-leb (length text) place inside,
        opens_not m cells text place inside (λ ground e. other e),
        form,
        ground,
        control,
        ne_eqb byte esc other,
      )

  pub at_graphic : form_has m byte ≡ true → (single_in cells ≡ 0 → is_control (area_of byte) ≡ false) →
      At (graphic_at m cells (single_in cells) byte text place)
  unfolding item_at item_of_byte column_area position_of
  at_graphic form graphic =
      rw (
        lt-leb (length text) place inside,
        opens_not m cells text place inside (λ ground e. impossible (cc (graphic ground, ap (λ (b : ℕ). is_control (area_of b)) e))),
        form,
      )
      (gives_by (λ (i : Item). graphic_at m cells (single_in cells) byte text place ≡ i) (eqb (single_in cells) 0)
      (λ ground. rw (graphic (eqb-true (single_in cells) 0 ground))) (λ taken. refl))
