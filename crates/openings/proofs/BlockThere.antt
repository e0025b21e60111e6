-- Sixteen bytes are the same where two times eight of them are the same number.
use Prim.Native.Nat.{ℕ, zero, suc, ◌+◌, ◌<◌, ◌≤◌}
use mathlib.Core.Path.{◌≡◌, refl, sym, ap, ◌∙◌}
use mathlib.Core.Bool.{Bool, true, false}
use mathlib.Core.List.{List, [], ◌∷◌, ◌++◌, append-nil}
use native.Mathlib.Numerals.{towards_suc}
use native.Mathlib.Omega.{arith}
use borrow.Author.Tests.{eqb-true, ltb-true}
use lib.Dec.{ltb}
use lib.ListN.{length, get_or, take, drop, length-append, take-append-drop}
use lib.Seq.{drop-cons}
use Rattle.std.proofs.Math.ListN.{drop_of_length-le}
use Rattle.std.proofs.lemmas.List.{length-drop}
use Rattle.std.proofs.lemmas.Nat.{le_bytes_8}
use Rattle.std.specs.Int.{w64, from_le_bytes, to_le_bytes}
use Rattle.std.specs.Str.{bytes_eq}
use Rattle.std.specs.Prelude.{nat_eq}
use Rattle.std.proofs.lemmas.Slice.Eq.{bytes_eq-Decides}
use Rattle.paper.specs.Choice.{◌gives◌or◌}
use Rattle.paper.specs.Starting.{opening_start}
use Rattle.paper.specs.Searching.{begins_with}
use Rattle.paper.proofs.Choices.{impossible}
use Rattle.paper.proofs.ListsThatEnd.{begins_rest}
use Rattle.openings.specs.Blocks.{eight}
use Rattle.openings.proofs.RestThere.{same_truth}

pub too_few : (bs start : List ℕ) → length bs < length start → false ≡ begins_with bs start
too_few bs start h = same_truth false (begins_with bs start) (λ e. impossible (cc))
    (λ e. absurd (omega (arith, ap length (begins_rest bs start e), length-append start (drop (length start) bs))))

abbrev pub Bytes : List ℕ → Type 0
Bytes bs = (k : ℕ) → get_or bs k 0 < 256

no_bytes : Bytes []
no_bytes k = omega arith

byte_more : (b : ℕ) (bs : List ℕ) → b < 256 → Bytes bs → Bytes (b ∷ bs)
byte_more b bs h below zero = h
byte_more b bs h below (suc k) = below k

-- a test that computes
abbrev all_below : List ℕ → Bool
all_below [] = true
all_below (b ∷ bs) = ltb b 256 gives all_below bs or false

both_true : (s t : Bool) → (s gives t or false) ≡ true → (s ≡ true) × (t ≡ true)
both_true true t e = (refl, e)
both_true false t e = impossible (cc)

each_below : (bs : List ℕ) → all_below bs ≡ true → Bytes bs
each_below [] e = no_bytes
each_below (b ∷ bs) e = let w = both_true (ltb b 256) (all_below bs) e in byte_more b bs (ltb-true b 256 w.0) (each_below bs w.1)

eight_below : (bs : List ℕ) (p : ℕ) → Bytes bs → Bytes (eight bs p)
eight_below bs p below zero = below p
eight_below bs p below (suc zero) = below (p + 1)
eight_below bs p below (suc (suc zero)) = below (p + 2)
eight_below bs p below (suc (suc (suc zero))) = below (p + 3)
eight_below bs p below (suc (suc (suc (suc zero)))) = below (p + 4)
eight_below bs p below (suc (suc (suc (suc (suc zero))))) = below (p + 5)
eight_below bs p below (suc (suc (suc (suc (suc (suc zero)))))) = below (p + 6)
eight_below bs p below (suc (suc (suc (suc (suc (suc (suc zero))))))) = below (p + 7)
eight_below bs p below (suc (suc (suc (suc (suc (suc (suc (suc k)))))))) = omega arith

same_eight : (bs cs : List ℕ) (p q : ℕ) → Bytes bs → Bytes cs →
    from_le_bytes w64 (eight bs p) ≡ from_le_bytes w64 (eight cs q) → eight bs p ≡ eight cs q
same_eight bs cs p q below below' e =
    sym (le_bytes_8 (eight bs p) _ refl (eight_below bs p below) refl) ∙ ap (to_le_bytes w64) e ∙
    le_bytes_8 (eight cs q) _ refl (eight_below cs q below') refl

eight_there : (bs : List ℕ) (p : ℕ) → p + 8 ≤ length bs → take 8 (drop p bs) ≡ eight bs p
eight_there bs p room = simp towards_suc (rw (
  drop-cons bs p 0 (omega arith),
  drop-cons bs (suc p) 0 (omega arith),
  drop-cons bs (suc (suc p)) 0 (omega arith),
  drop-cons bs (suc (suc (suc p))) 0 (omega arith),
  drop-cons bs (suc (suc (suc (suc p)))) 0 (omega arith),
  drop-cons bs (suc (suc (suc (suc (suc p))))) 0 (omega arith),
  drop-cons bs (suc (suc (suc (suc (suc (suc p)))))) 0 (omega arith),
  drop-cons bs (suc (suc (suc (suc (suc (suc (suc p))))))) 0 (omega arith),
) refl)

of_sixteen : (bs : List ℕ) → length bs ≡ 16 → bs ≡ eight bs 0 ++ eight bs 8
of_sixteen bs long =
    let second : drop 8 bs ≡ eight bs 8 =
    sym (take-append-drop 8 (drop 8 bs)) ∙
    ap (λ (l : List ℕ). take 8 (drop 8 bs) ++ l) (drop_of_length-le (drop 8 bs) {i = 8} (omega (arith, length-drop 8 bs, long))) ∙
    append-nil _ ∙ eight_there bs 8 (omega (arith, long)) in
    sym (take-append-drop 8 bs) ∙ ap (λ (l : List ℕ). l ++ drop 8 bs) (eight_there bs 0 (omega (arith, long))) ∙
    ap (λ (l : List ℕ). eight bs 0 ++ l) second

start_below : Bytes opening_start
start_below = each_below opening_start refl

pub same_block : (bs : List ℕ) → Bytes bs → length bs ≡ 16 → from_le_bytes w64 (eight bs 0) ≡ from_le_bytes w64 (eight opening_start 2) →
    nat_eq (from_le_bytes w64 (eight bs 8)) (from_le_bytes w64 (eight opening_start 10)) ≡ bytes_eq bs (drop 2 opening_start)
same_block bs below long first = same_truth _ _
    (λ e.
    let second = eqb-true (from_le_bytes w64 (eight bs 8)) (from_le_bytes w64 (eight opening_start 10)) e in
    (bytes_eq-Decides bs (drop 2 opening_start)).1
    (of_sixteen bs long ∙ ap (λ (l : List ℕ). l ++ eight bs 8) (same_eight bs opening_start 0 2 below start_below first) ∙
    ap (λ (l : List ℕ). eight opening_start 2 ++ l) (same_eight bs opening_start 8 10 below start_below second)))
    (λ e. ap (λ (l : List ℕ). nat_eq (from_le_bytes w64 (eight l 8)) (from_le_bytes w64 (eight opening_start 10)))
    ((bytes_eq-Decides bs (drop 2 opening_start)).0 e))
