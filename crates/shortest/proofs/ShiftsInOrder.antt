-- Byte order by rank: a locking shift against another, and against an answer's bytes, whatever follows each.
use Prim.Native.Nat.{ℕ, ◌+◌, ◌*◌, ◌<◌, ◌≤◌}
use mathlib.Core.Path.{◌≡◌, refl, subst, sym}
use mathlib.Core.List.{List, ◌∷◌, ◌++◌}
use mathlib.Core.Logic.{⊎_elim}
use native.Mathlib.Omega.{arith}
use native.Mathlib.Nat.{eq-or-lt_of_le}
use Rattle.paper.specs.CodeTable.{so, si, esc}
use Rattle.paper.specs.Sequences.{final_of_ls2, final_of_ls3}
use Rattle.paper.specs.declared.Element.{Element}
use Rattle.paper.specs.declared.Element.TheVariants.{G0, G1, G2, G3}
use Rattle.shortest.specs.ByteOrder.{InByteOrder, lower, alike}
use Rattle.shortest.specs.ShortestText.{shift_to, rank}
use Rattle.shortest.proofs.BytesOfAnAnswer.{Clear, byte_alone, two_bytes}

first_lower : (a b : ℕ) (x y : List ℕ) → a < b → InByteOrder (a ∷ x) (b ∷ y)
first_lower a b x y h = lower h

second_lower : (a b : ℕ) (x y : List ℕ) → a ≡ b → InByteOrder x y → InByteOrder (a ∷ x) (b ∷ y)
second_lower a b x y e h = subst (λ (n : ℕ). InByteOrder (a ∷ x) (n ∷ y)) e (alike h)

pub shifts_in_order : (e k : Element) (x y : List ℕ) → rank (shift_to e) < rank (shift_to k) → InByteOrder (shift_to e ++ x) (shift_to k ++ y)
shifts_in_order G0 G2 x y h = first_lower si esc _ _ (omega arith)
shifts_in_order G0 G3 x y h = first_lower si esc _ _ (omega arith)
shifts_in_order G1 G0 x y h = first_lower so si _ _ (omega arith)
shifts_in_order G1 G2 x y h = first_lower so esc _ _ (omega arith)
shifts_in_order G1 G3 x y h = first_lower so esc _ _ (omega arith)
shifts_in_order G2 G3 x y h = alike (first_lower final_of_ls2 final_of_ls3 _ _ (omega arith))
shifts_in_order G3 G3 x y h = absurd (omega arith)
shifts_in_order _ _ x y h = absurd (omega arith)

-- two shifts that rank alike are one
pub one_shift_of_a_rank : (e k : Element) → rank (shift_to e) ≡ rank (shift_to k) → e ≡ k
one_shift_of_a_rank G0 G0 h = refl
one_shift_of_a_rank G1 G1 h = refl
one_shift_of_a_rank G2 G2 h = refl
one_shift_of_a_rank G3 G3 h = refl
one_shift_of_a_rank _ _ h = absurd (omega arith)

-- an answer's bytes that rank before LS2 or LS3: a lower byte, or ESC and a lower one
escape_after : (b d f : ℕ) (x y : List ℕ) → d < 0x100 → f < 0x100 → b * 0x100 + d < esc * 0x100 + f →
    InByteOrder (b ∷ d ∷ x) (esc ∷ f ∷ y)
escape_after b d f x y low small h = ⊎_elim
    (λ (same : b ≡ esc). second_lower b esc (d ∷ x) (f ∷ y) same (first_lower d f x y (omega arith)))
    (λ (less : b < esc). first_lower b esc (d ∷ x) (f ∷ y) less)
    (eq-or-lt_of_le (omega arith))

pub bytes_first : {own : List ℕ} (e : Element) (x y : List ℕ) → Clear own → rank own < rank (shift_to e) →
    InByteOrder (own ++ x) (shift_to e ++ y)
bytes_first G0 x y (byte_alone b not_esc not_so not_si) h = first_lower b si x y (omega arith)
bytes_first G1 x y (byte_alone b not_esc not_so not_si) h = first_lower b so x y (omega arith)
bytes_first G2 x y (byte_alone b not_esc not_so not_si) h = first_lower b esc x _ (omega (arith, not_esc))
bytes_first G3 x y (byte_alone b not_esc not_so not_si) h = first_lower b esc x _ (omega (arith, not_esc))
bytes_first G0 x y (two_bytes b d l low not_so not_si no_shift) h = first_lower b si _ y (omega arith)
bytes_first G1 x y (two_bytes b d l low not_so not_si no_shift) h = first_lower b so _ y (omega arith)
bytes_first G2 x y (two_bytes b d l low not_so not_si no_shift) h = escape_after b d final_of_ls2 (l ++ x) y low (omega arith) h
bytes_first G3 x y (two_bytes b d l low not_so not_si no_shift) h = escape_after b d final_of_ls3 (l ++ x) y low (omega arith) h

-- and that do not
escape_before : (b d f : ℕ) (x y : List ℕ) → d < 0x100 → f < 0x100 → (b ≡ esc → d ≡ f → ⊥) → esc * 0x100 + f ≤ b * 0x100 + d →
    InByteOrder (esc ∷ f ∷ y) (b ∷ d ∷ x)
escape_before b d f x y low small other h = ⊎_elim
    (λ (same : esc ≡ b).
    let apart : d ≡ f → ⊥ = other (sym same) in
    second_lower esc b (f ∷ y) (d ∷ x) same (first_lower f d y x (omega (arith, apart))))
    (λ (less : esc < b). first_lower esc b (f ∷ y) (d ∷ x) less)
    (eq-or-lt_of_le (omega arith))

pub shift_first : {own : List ℕ} (e : Element) (x y : List ℕ) → Clear own → rank (shift_to e) ≤ rank own →
    InByteOrder (shift_to e ++ y) (own ++ x)
shift_first G0 x y (byte_alone b not_esc not_so not_si) h = first_lower si b y x (omega (arith, not_si))
shift_first G1 x y (byte_alone b not_esc not_so not_si) h = first_lower so b y x (omega (arith, not_so))
shift_first G2 x y (byte_alone b not_esc not_so not_si) h = first_lower esc b _ x (omega arith)
shift_first G3 x y (byte_alone b not_esc not_so not_si) h = first_lower esc b _ x (omega arith)
shift_first G0 x y (two_bytes b d l low not_so not_si no_shift) h = first_lower si b y _ (omega (arith, not_si))
shift_first G1 x y (two_bytes b d l low not_so not_si no_shift) h = first_lower so b y _ (omega (arith, not_so))
shift_first G2 x y (two_bytes b d l low not_so not_si no_shift) h =
    escape_before b d final_of_ls2 (l ++ x) y low (omega arith) (λ e. (no_shift e).0) h
shift_first G3 x y (two_bytes b d l low not_so not_si no_shift) h =
    escape_before b d final_of_ls3 (l ++ x) y low (omega arith) (λ e. (no_shift e).1) h
