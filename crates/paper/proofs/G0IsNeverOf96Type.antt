-- G0 is never of 96 type: it is of 94 type at the start, and no row of the table of sequences puts a 96 set there.
use Prim.Native.Nat.{ℕ}
use mathlib.Core.Path.{◌≡◌, refl}
use mathlib.Core.List.{List, [], ◌∷◌}
use Rattle.paper.specs.Words.{Form, Seven, Eight, ControlElement, Element, G0, G1, G2, G3, Of94, Count, Sets}
use Rattle.paper.specs.Words.{Intermediates, Shift, Meaning}
use Rattle.paper.specs.Sequences.{right_shift, meaning_of, sets_after}
use Rattle.paper.specs.Starting.{starting_sets}
use Rattle.paper.proofs.TableOfSequences.{Lasts, Rows, every_meaning}

-- a meaning that keeps G0 of 94 type
abbrev Keeps : Meaning → Type 0
Keeps m = (t : Sets) (f : ℕ) → t.g0.kind ≡ Of94 → (sets_after t m f).g0.kind ≡ Of94

keeps_right : (m : Form) (s : Shift) → Keeps (right_shift m s)
keeps_right Seven s t f h = h
keeps_right Eight s t f h = h

keeps_controls : (w : ControlElement) → Keeps (Meaning.DesignateControls w)
keeps_controls ControlElement.C0 t f h = h
keeps_controls ControlElement.C1 t f h = h

keeps_of94 : (f : ℕ) (e : Element) (n : Count) → Lasts n f → Keeps (Meaning.Designate e Of94 n)
keeps_of94 f G0 n lasts t g h = refl
keeps_of94 f G1 n lasts t g h = h
keeps_of94 f G2 n lasts t g h = h
keeps_of94 f G3 n lasts t g h = h

keeps : (m : Form) (f : ℕ) → Rows m f Keeps
keeps m f = record {
  no_meaning = λ t f h. h;
  other = λ t f h. h;
  function = λ n e t f h. h;
  ss2 = λ t f h. h;
  ss3 = λ t f h. h;
  ls2 = λ t f h. h;
  ls3 = λ t f h. h;
  right = keeps_right m;
  controls = keeps_controls;
  of94 = keeps_of94 f;
  of96_in_g1 = λ n lasts t f h. h;
  of96_in_g2 = λ n lasts t f h. h;
  of96_in_g3 = λ n lasts t f h. h;
}

-- the sets after any sequences, each its intermediates and its final
pub record Sequence : Type 0 where
  pub intermediates : Intermediates
  pub last : ℕ

abbrev pub sets_after_all : Form → Sets → List Sequence → Sets
sets_after_all m t [] = t
sets_after_all m t (s ∷ l) = sets_after_all m (sets_after t (meaning_of m s.intermediates s.last) s.last) l

g0_stays_of_94_type : (m : Form) (l : List Sequence) (t : Sets) → t.g0.kind ≡ Of94 → (sets_after_all m t l).g0.kind ≡ Of94
g0_stays_of_94_type m [] t h = h
g0_stays_of_94_type m (s ∷ l) t h =
    g0_stays_of_94_type m l (sets_after t (meaning_of m s.intermediates s.last) s.last)
    (every_meaning m s.last Keeps (keeps m s.last) s.intermediates t s.last h)

pub g0_is_of_94_type : (m : Form) (l : List Sequence) → (sets_after_all m starting_sets l).g0.kind ≡ Of94
g0_is_of_94_type m l = g0_stays_of_94_type m l starting_sets refl
