-- Shorter first, then byte order: an order of texts, kept where texts are put together piece by piece; of two texts that are neither after
-- the other there is one.
use Prim.Native.Nat.{ℕ, ◌<◌, ◌≤◌}
use mathlib.Core.Path.{◌≡◌, refl, ◌∙◌}
use mathlib.Core.Logic.{◌⊎◌, inl, inr, ⊎_elim}
use mathlib.Core.List.{List, [], ◌∷◌, ◌++◌}
use native.Mathlib.Omega.{arith}
use lib.ListN.{length, length-append}
use Rattle.shortest.specs.ByteOrder.{InByteOrder, nothing, lower, alike, NotAfter, shorter, as_long}

itself_in_order : (x : List ℕ) → InByteOrder x x
itself_in_order [] = nothing
itself_in_order (a ∷ x) = alike (itself_in_order x)

on_in_order : {x y z : List ℕ} → InByteOrder x y → InByteOrder y z → InByteOrder x z
on_in_order nothing q = nothing
on_in_order (lower h) (lower k) = lower (omega arith)
on_in_order (lower h) (alike q) = lower h
on_in_order (alike p) (lower k) = lower k
on_in_order (alike p) (alike q) = alike (on_in_order p q)

both_in_order : {v x z : List ℕ} (u : List ℕ) → length v ≡ length u → InByteOrder v u → InByteOrder x z → InByteOrder (v ++ x) (u ++ z)
both_in_order [] n nothing q = q
both_in_order (b ∷ u) n nothing q = absurd (omega arith)
both_in_order (b ∷ u) n (lower h) q = lower h
both_in_order (b ∷ u) n (alike p) q = alike (both_in_order u (omega arith) p q)

pub by_length : (x y : List ℕ) → length x < length y → NotAfter x y
by_length x y h = shorter h

pub by_bytes : (x y : List ℕ) → length x ≡ length y → InByteOrder x y → NotAfter x y
by_bytes x y h p = as_long h p

pub not_after_itself : (x : List ℕ) → NotAfter x x
not_after_itself x = as_long refl (itself_in_order x)

pub nothing_first : (y : List ℕ) → NotAfter [] y
nothing_first [] = as_long refl nothing
nothing_first (b ∷ y) = by_length [] (b ∷ y) (omega arith)

pub not_after_on : {x y z : List ℕ} → NotAfter x y → NotAfter y z → NotAfter x z
not_after_on {x} {y} {z} (shorter h) (shorter k) = by_length x z (omega arith)
not_after_on {x} {y} {z} (shorter h) (as_long k q) = by_length x z (omega arith)
not_after_on {x} {y} {z} (as_long h p) (shorter k) = by_length x z (omega arith)
not_after_on (as_long h p) (as_long k q) = as_long (h ∙ k) (on_in_order p q)

pub not_after_both : {v u x z : List ℕ} → NotAfter v u → NotAfter x z → NotAfter (v ++ x) (u ++ z)
not_after_both {v} {u} {x} {z} (shorter h) (shorter k) =
    by_length (v ++ x) (u ++ z) (omega (arith, length-append v x, length-append u z))
not_after_both {v} {u} {x} {z} (shorter h) (as_long k q) =
    by_length (v ++ x) (u ++ z) (omega (arith, length-append v x, length-append u z))
not_after_both {v} {u} {x} {z} (as_long h p) (shorter k) =
    by_length (v ++ x) (u ++ z) (omega (arith, length-append v x, length-append u z))
not_after_both {v} {u} {x} {z} (as_long h p) (as_long k q) =
    by_bytes (v ++ x) (u ++ z) (omega (arith, length-append v x, length-append u z)) (both_in_order u h p q)

pub no_longer : {x y : List ℕ} → NotAfter x y → length x ≤ length y
no_longer (shorter h) = omega arith
no_longer (as_long h p) = omega arith

-- ---- of two texts that are not after each other there is one

-- the first byte is lower, or the same with the rest in order
first_bytes : {a b : ℕ} {x y : List ℕ} → InByteOrder (a ∷ x) (b ∷ y) → (a < b) ⊎ ((a ≡ b) × InByteOrder x y)
first_bytes (lower h) = inl h
first_bytes (alike p) = inr (refl, p)

one_in_order : (x y : List ℕ) → length x ≡ length y → InByteOrder x y → InByteOrder y x → x ≡ y
one_in_order [] [] n p q = refl
one_in_order [] (b ∷ y) n p q = absurd (omega arith)
one_in_order (a ∷ x) [] n p q = absurd (omega arith)
one_in_order (a ∷ x) (b ∷ y) n p q =
    ⊎_elim
    (λ h. ⊎_elim (λ k. absurd (omega arith)) (λ k. absurd (omega arith)) (first_bytes q))
    (λ h. ⊎_elim
    (λ k. absurd (omega arith))
    (λ k. let e = one_in_order x y (omega arith) h.1 k.1 in let f = h.0 in cc)
    (first_bytes q))
    (first_bytes p)

pub one_of_two : {x y : List ℕ} → NotAfter x y → NotAfter y x → x ≡ y
one_of_two (shorter h) (shorter k) = absurd (omega arith)
one_of_two (shorter h) (as_long k q) = absurd (omega arith)
one_of_two (as_long h p) (shorter k) = absurd (omega arith)
one_of_two {x} {y} (as_long h p) (as_long k q) = one_in_order x y h p q
