-- What a choice by tests gives has whatever each of its rows has; and what two functions answer alike along a list of
-- numbers that follow each other, they answer alike at each of these numbers.
use Prim.Native.Nat.{ℕ, zero, suc, ◌+◌, ◌-◌, ◌≤◌, ◌<◌}
use mathlib.Core.Path.{◌≡◌, refl, ◌∙◌, sym, ap}
use mathlib.Core.Bool.{Bool, true, false}
use mathlib.Core.List.{List, [], ◌∷◌, map}
use native.Mathlib.Nat.{add-zero, add-suc, suc-add, le_of_suc-le-suc, not-suc-le-zero}
use native.Mathlib.Omega.{arith}
use borrow.Author.Tests.{leb-true, le-leb, lt-leb}
use lib.Dec.{leb}
use lib.ListN.{get_or}
use Rattle.paper.specs.Choice.{◌gives◌or◌, between, numbers}

-- what two constructors' clash is turned to
pub impossible : {A : Type 0} → ◌≡◌ {A = ℕ} 0 1 → A
impossible z = absurd (omega arith)

pub gives_has : {A : Type 0} (P : A → Type 0) (t : Bool) {a b : A} → P a → P b → P (t gives a or b)
gives_has P true p q = p
gives_has P false p q = q

-- and where each row may use what the tests before it and its own said
pub gives_by : {A : Type 0} (P : A → Type 0) (t : Bool) {a b : A} → (t ≡ true → P a) → (t ≡ false → P b) → P (t gives a or b)
gives_by P true p q = p refl
gives_by P false p q = q refl

both_true : (s t : Bool) → (s gives t or false) ≡ true → (s ≡ true) × (t ≡ true)
both_true true t e = (refl, e)
both_true false t e = impossible (cc)

pub between_bounds : (first last n : ℕ) → between first last n ≡ true → (first ≤ n) × (n ≤ last)
unfolding between
between_bounds first last n e =
    let h = both_true (leb first n) (leb n last) e in
    (leb-true first n h.0, leb-true n last h.1)

pub in_bounds : (first last n : ℕ) → first ≤ n → n ≤ last → between first last n ≡ true
unfolding between
in_bounds first last n low high = rw (le-leb first n low, le-leb n last high)

pub above_bounds : (first last n : ℕ) → first ≤ n → last < n → between first last n ≡ false
unfolding between
above_bounds first last n low high = rw (le-leb first n low, lt-leb n last high)

-- the function of a list's entries, against the function of the numbers that follow each other
pub alike : {A : Type 0} (f g : ℕ → A) (l : List ℕ) (n first : ℕ) → map f l ≡ map g (numbers n first) →
    (k : ℕ) → k < n → f (get_or l k 0) ≡ g (first + k)
alike f g l zero first e k h = absurd (not-suc-le-zero h)
alike f g [] (suc n) first e k h = impossible (cc)
alike f g (x ∷ l) (suc n) first e zero h = rw add-zero (cc)
alike f g (x ∷ l) (suc n) first e (suc k) h = rw (add-suc, ← suc-add) (alike f g l n (suc first) (cc) k (le_of_suc-le-suc h))

numbers_at : (n first k : ℕ) → k < n → get_or (numbers n first) k 0 ≡ first + k
numbers_at zero first k h = absurd (not-suc-le-zero h)
numbers_at (suc n) first zero h = sym (add-zero first)
numbers_at (suc n) first (suc k) h = numbers_at n (suc first) k (le_of_suc-le-suc h) ∙ suc-add first k ∙ sym (add-suc first k)

-- two functions of the numbers that follow each other
pub agree : {A : Type 0} (f g : ℕ → A) (n first : ℕ) → map f (numbers n first) ≡ map g (numbers n first) →
    (k : ℕ) → first ≤ k → k < first + n → f k ≡ g k
agree f g n first e k low high =
    let below : k - first < n = omega arith in
    let there : first + (k - first) ≡ k = omega arith in
    ap f (sym (numbers_at n first (k - first) below ∙ there)) ∙ alike f g (numbers n first) n first e (k - first) below ∙ ap g there
