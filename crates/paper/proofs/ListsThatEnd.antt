-- Bytes that end with others, as a test that computes and as a fact; and the longest beginning of a list with which bytes end,
-- found by the test: no longer beginning stands there.
use Prim.Native.Nat.{ℕ, zero, suc, ◌-◌, ◌≤◌}
use mathlib.Core.Path.{◌≡◌, refl, sym, ap, ◌∙◌, subst}
use mathlib.Core.Logic.{⊎_elim}
use mathlib.Core.Bool.{Bool, true, false}
use mathlib.Core.List.{List, [], ◌∷◌, ◌++◌, append_assoc, append-nil}
use native.Mathlib.Omega.{arith}
use native.Mathlib.Nat.{le_of_suc-le-suc, eq-or-lt_of_le}
use borrow.Author.Tests.{eqb-true, eq-eqb}
use lib.Dec.{eqb}
use lib.ListN.{take, drop, length, length-append, take-append-drop}
use lib.Seq.{drop_at, take-append_seam}
use Rattle.paper.specs.Choice.{◌gives◌or◌}
use Rattle.paper.specs.Searching.{same_on, same, begins_with, ends_with, longest}
use Rattle.paper.proofs.Choices.{impossible}

-- the bytes w end with p
pub record Tail (w p : List ℕ) : Type 0 where
  pub front : List ℕ
  pub is : w ≡ front ++ p

both : (far : Bool) (b c : ℕ) → (far gives eqb b c or false) ≡ true → (far ≡ true) × (b ≡ c)
both true b c e = (refl, eqb-true b c e)
both false b c e = impossible (cc)

same_on_lem : (far : Bool) (bs cs : List ℕ) → same_on far bs cs ≡ true → (far ≡ true) × (bs ≡ cs)
same_on_lem far [] [] e = (e, refl)
same_on_lem far [] (c ∷ cs) e = impossible (cc)
same_on_lem far (b ∷ bs) [] e = impossible (cc)
same_on_lem far (b ∷ bs) (c ∷ cs) e =
    let rest = same_on_lem (far gives eqb b c or false) bs cs e in
    let head = both far b c rest.0 in
    (head.0, λ i. head.1 i ∷ rest.1 i)

same_self : (bs : List ℕ) → same bs bs ≡ true
same_self [] = refl
same_self (b ∷ bs) = rw (eq-eqb b b refl) (same_self bs)

-- ---- bytes that begin with others

pub begins_rest : (bs start : List ℕ) → begins_with bs start ≡ true → bs ≡ start ++ drop (length start) bs
begins_rest bs start e =
    sym (take-append-drop (length start) bs) ∙
    ap (λ (l : List ℕ). l ++ drop (length start) bs) (same_on_lem true (take (length start) bs) start e).1

-- byte by byte
none_same : (bs cs : List ℕ) → same_on false bs cs ≡ false
none_same [] [] = refl
none_same [] (c ∷ cs) = refl
none_same (b ∷ bs) [] = refl
none_same (b ∷ bs) (c ∷ cs) = none_same bs cs

pub begins_byte : (b : ℕ) (bs : List ℕ) (c : ℕ) (cs : List ℕ) →
    begins_with (b ∷ bs) (c ∷ cs) ≡ (eqb b c gives begins_with bs cs or false)
begins_byte b bs c cs = by (eqb b c)
  where
    by : (t : Bool) → same_on t (take (length cs) bs) cs ≡ (t gives begins_with bs cs or false)
    by true = refl
    by false = none_same (take (length cs) bs) cs

pub rest_begins : (start rest : List ℕ) → begins_with (start ++ rest) start ≡ true
rest_begins start rest = rw (take-append_seam start rest) (same_self start)

-- ---- bytes that end with others

pub ends_tail : (w p : List ℕ) → ends_with w p ≡ true → Tail w p
ends_tail w p e =
    let n : ℕ = length w - length p in
    record {
      front = take n w;
      is = sym (take-append-drop n w) ∙ ap (λ (l : List ℕ). take n w ++ l) (same_on_lem true (drop n w) p e).1;
    }

pub tail_ends : (w p : List ℕ) → Tail w p → ends_with w p ≡ true
tail_ends w p t =
    let u : List ℕ = t.front in
    let n : length u ≡ length (u ++ p) - length p = omega (arith, length-append u p) in
    rw (t.is, drop_at u p (length (u ++ p) - length p) n) (same_self p)

pub no_tail : (w p : List ℕ) → (Tail w p → ⊥) → ends_with w p ≡ false
no_tail w p none = by (ends_with w p) refl
  where
    by : (t : Bool) → ends_with w p ≡ t → t ≡ false
    by true e = absurd (none (ends_tail w p e))
    by false e = refl

-- the last byte, and what stands before it
pub last_byte : (xs ys : List ℕ) (a b : ℕ) → xs ++ (a ∷ []) ≡ ys ++ (b ∷ []) → (xs ≡ ys) × (a ≡ b)
last_byte [] [] a b e = (refl, cc)
last_byte [] (y ∷ ys) a b e = let k = ap length e in absurd (omega (arith, length-append ys (b ∷ []), k))
last_byte (x ∷ xs) [] a b e = let k = ap length e in absurd (omega (arith, length-append xs (a ∷ []), k))
last_byte (x ∷ xs) (y ∷ ys) a b e =
    let rest : xs ++ (a ∷ []) ≡ ys ++ (b ∷ []) = cc in
    let r = last_byte xs ys a b rest in
    (cc, r.1)

-- of two ends of the same bytes the shorter is an end of the longer
pub shorter : (u v p q : List ℕ) → u ++ p ≡ v ++ q → length q ≤ length p → Tail p q
shorter [] v p q e n = record { front = v; is = e }
shorter (x ∷ u) [] p q e n = let k = ap length e in absurd (omega (arith, length-append u p, k))
shorter (x ∷ u) (y ∷ v) p q e n = let rest : u ++ p ≡ v ++ q = cc in shorter u v p q rest n

pub tail_with : (w p : List ℕ) (b : ℕ) → Tail w p → Tail (w ++ (b ∷ [])) (p ++ (b ∷ []))
tail_with w p b t = record { front = t.front; is = rw t.is (append_assoc t.front p (b ∷ [])) }

pub tail_of : (w p q : List ℕ) → Tail w p → Tail p q → Tail w q
tail_of w p q t s = record {
  front = t.front ++ s.front;
  is = t.is ∙ (ap (λ (l : List ℕ). t.front ++ l) s.is ∙ sym (append_assoc t.front s.front q));
}

-- w ends with the first k bytes of the whole, and with no longer beginning of at most n bytes
pub record Longest (whole w : List ℕ) (n k : ℕ) : Type 0 where
  pub here : Tail w (take k whole)
  pub within : k ≤ n
  pub most : (j : ℕ) → j ≤ n → Tail w (take j whole) → j ≤ k

pub longest_is : (whole w : List ℕ) (n : ℕ) → Longest whole w n (longest whole w n)
longest_is whole w zero = record { here = record { front = w; is = sym (append-nil w) }; within = omega arith; most = λ j h t. h }
longest_is whole w (suc n) = by (ends_with w (take (suc n) whole)) refl (longest whole w n) (longest_is whole w n)
  where
    by : (t : Bool) → ends_with w (take (suc n) whole) ≡ t → (k : ℕ) → Longest whole w n k →
        Longest whole w (suc n) (t gives suc n or k)
    by true e k r = record { here = ends_tail w (take (suc n) whole) e; within = omega arith; most = λ j h t. h }
    by false e k r = record {
      here = r.here;
      within = let h : k ≤ n = r.within in omega arith;
      most = λ j h t. ⊎_elim
          (λ q. let f : ends_with w (take (suc n) whole) ≡ true =
          tail_ends w (take (suc n) whole) (subst (λ (i : ℕ). Tail w (take i whole)) q t) in
          impossible (cc))
          (λ l. r.most j (le_of_suc-le-suc l) t)
          (eq-or-lt_of_le h);
    }
