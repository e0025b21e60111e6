-- A reader has the same state whatever stands in the cell that nothing reads; so an item that changes no other cell leaves the state as it
-- is.
use Rattle.std.proofs.Common.{◌≡◌, ℕ, zero, suc, List, [], ◌∷◌, get_or, set, sym, refl, ap, ◌∙◌, subst, arith}
use Rattle.paper.specs.declared.Element.{Element}
use Rattle.paper.specs.declared.Reader.{Reader}
use Rattle.escapes.specs.Effects.{nowhere, plain}
use Rattle.escapes.specs.declared.effect.Word.{Word}
use Rattle.items.specs.States.{single_in, changed, Single, none, one, single_number, cells_of, Stands}

-- the same but for that cell
abbrev pub Same : List ℕ → List ℕ → Type 0
Same c d = set c nowhere 0 ≡ set d nowhere 0

set_back : (d : List ℕ) (i v : ℕ) → set (set d i v) i (get_or d i 0) ≡ d
set_back [] i v = refl
set_back (x ∷ d) zero v = refl
set_back (x ∷ d) (suc i) v = ap (λ (l : List ℕ). x ∷ l) (set_back d i v)

pub same_stands : {c d : List ℕ} {r : Reader} → Same c d → Stands c r → Stands d r
same_stands {c} {d} {r} same s = record {
  single = s.single;
  left = get_or d nowhere 0;
  has =
      sym (set_back d nowhere 0) ∙
      ap (λ (l : List ℕ). set l nowhere (get_or d nowhere 0)) (sym same ∙ ap (λ (l : List ℕ). set l nowhere 0) s.has);
  stands = s.stands;
  nothing_gone = s.nothing_gone;
}

-- on the ground no single shift takes a character

no_single : (t : Single) → single_number t ≡ 0 → t ≡ none
no_single none e = refl
no_single (one Element.G0) e = absurd (omega arith)
no_single (one Element.G1) e = absurd (omega arith)
no_single (one Element.G2) e = absurd (omega arith)
no_single (one Element.G3) e = absurd (omega arith)

pub on_ground_lem : {c : List ℕ} {r : Reader} (s : Stands c r) → single_in c ≡ 0 → c ≡ cells_of r none s.left
on_ground_lem {c} {r} s ground =
    s.has ∙ ap (λ (t : Single). cells_of r t s.left) (no_single s.single (ap single_in (sym s.has) ∙ ground))

pub plain_same : {c : List ℕ} {r : Reader} → Stands c r → single_in c ≡ 0 → (word : Word) (value : ℕ) → Same (changed (plain word value) c) c
plain_same {c} s ground word value =
    subst (λ (l : List ℕ). Same (changed (plain word value) l) l) (sym (on_ground_lem s ground)) refl
