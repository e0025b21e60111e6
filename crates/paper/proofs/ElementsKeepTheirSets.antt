-- A designation changes the element that it names and no other, by cases on the elements.
use Prim.Native.Nat.{ℕ}
use mathlib.Core.Path.{◌≡◌, refl}
use Rattle.paper.specs.Words.{ControlElement, Element, G0, G1, G2, G3, Set, Sets}
use Rattle.paper.specs.Sets.{set_in, controls_in, designated, designated_controls}

module _ (t : Sets) (x : Set) where
  pub designated_has : (e : Element) → set_in (designated t e x) e ≡ x
  designated_has G0 = refl
  designated_has G1 = refl
  designated_has G2 = refl
  designated_has G3 = refl

  pub designated_keeps : (e other : Element) → (e ≡ other → ⊥) → set_in (designated t e x) other ≡ set_in t other
  designated_keeps G0 G0 d = absurd (d refl)
  designated_keeps G0 G1 d = refl
  designated_keeps G0 G2 d = refl
  designated_keeps G0 G3 d = refl
  designated_keeps G1 G0 d = refl
  designated_keeps G1 G1 d = absurd (d refl)
  designated_keeps G1 G2 d = refl
  designated_keeps G1 G3 d = refl
  designated_keeps G2 G0 d = refl
  designated_keeps G2 G1 d = refl
  designated_keeps G2 G2 d = absurd (d refl)
  designated_keeps G2 G3 d = refl
  designated_keeps G3 G0 d = refl
  designated_keeps G3 G1 d = refl
  designated_keeps G3 G2 d = refl
  designated_keeps G3 G3 d = absurd (d refl)

  pub designated_keeps_controls : (e : Element) (w : ControlElement) → controls_in (designated t e x) w ≡ controls_in t w
  designated_keeps_controls G0 ControlElement.C0 = refl
  designated_keeps_controls G0 ControlElement.C1 = refl
  designated_keeps_controls G1 ControlElement.C0 = refl
  designated_keeps_controls G1 ControlElement.C1 = refl
  designated_keeps_controls G2 ControlElement.C0 = refl
  designated_keeps_controls G2 ControlElement.C1 = refl
  designated_keeps_controls G3 ControlElement.C0 = refl
  designated_keeps_controls G3 ControlElement.C1 = refl

module _ (t : Sets) (f : ℕ) where
  pub controls_has : (w : ControlElement) → controls_in (designated_controls t w f) w ≡ f
  controls_has ControlElement.C0 = refl
  controls_has ControlElement.C1 = refl

  pub controls_keeps : (w other : ControlElement) → (w ≡ other → ⊥) →
      controls_in (designated_controls t w f) other ≡ controls_in t other
  controls_keeps ControlElement.C0 ControlElement.C0 d = absurd (d refl)
  controls_keeps ControlElement.C0 ControlElement.C1 d = refl
  controls_keeps ControlElement.C1 ControlElement.C0 d = refl
  controls_keeps ControlElement.C1 ControlElement.C1 d = absurd (d refl)

  pub controls_keeps_sets : (w : ControlElement) (e : Element) → set_in (designated_controls t w f) e ≡ set_in t e
  controls_keeps_sets ControlElement.C0 G0 = refl
  controls_keeps_sets ControlElement.C0 G1 = refl
  controls_keeps_sets ControlElement.C0 G2 = refl
  controls_keeps_sets ControlElement.C0 G3 = refl
  controls_keeps_sets ControlElement.C1 G0 = refl
  controls_keeps_sets ControlElement.C1 G1 = refl
  controls_keeps_sets ControlElement.C1 G2 = refl
  controls_keeps_sets ControlElement.C1 G3 = refl
