-- Of the four locking shifts the one that is chosen has the least cost, and among those that cost as much it comes first in byte order:
-- cost and rank, taken as one number, are nowhere lower.
use Prim.Native.Nat.{ℕ, ◌+◌, ◌*◌, ◌<◌, ◌≤◌}
use native.Mathlib.Omega.{arith}
use borrow.Author.Tests.{ltb-true, ltb-false}
use lib.Dec.{ltb}
use lib.ListN.{length}
use Rattle.paper.specs.declared.Element.{Element}
use Rattle.paper.specs.declared.Element.TheVariants.{G0, G1, G2, G3}
use Rattle.paper.proofs.Choices.{gives_by}
use Rattle.shortest.specs.ShortestText.{shift_to, rank, moving, cheaper, cheapest, least}

pub shift_length : (e : Element) → (1 ≤ length (shift_to e)) × (length (shift_to e) ≤ 2)
shift_length G0 = (omega arith, omega arith)
shift_length G1 = (omega arith, omega arith)
shift_length G2 = (omega arith, omega arith)
shift_length G3 = (omega arith, omega arith)

pub rank_of_shift : (e : Element) → rank (shift_to e) < 0x10000
rank_of_shift G0 = omega arith
rank_of_shift G1 = omega arith
rank_of_shift G2 = omega arith
rank_of_shift G3 = omega arith

module _ (c : Element → ℕ) where
  abbrev pub key : Element → ℕ
  key e = moving c e * 0x10000 + rank (shift_to e)

  -- of two, where the first comes first in byte order
  cheaper_key : (e other : Element) → rank (shift_to e) ≤ rank (shift_to other) →
      (key (cheaper c e other) ≤ key e) × (key (cheaper c e other) ≤ key other)
  cheaper_key e other first =
      gives_by (λ (x : Element). (key x ≤ key e) × (key x ≤ key other)) (ltb (moving c other) (moving c e))
      (λ h. (omega (arith, ltb-true (moving c other) (moving c e) h, rank_of_shift other), omega arith))
      (λ h. (omega arith, omega (arith, ltb-false (moving c other) (moving c e) h, rank_of_shift e)))

  -- what is chosen of some is one of them
  one_of : (P : Element → Type 0) (e other : Element) → P e → P other → P (cheaper c e other)
  one_of P e other h k = gives_by P (ltb (moving c other) (moving c e)) (λ x. k) (λ x. h)

  pub cheapest_key : (e : Element) → key (cheapest c) ≤ key e
  cheapest_key e =
      let one : Element = cheaper c G1 G0 in
      let two : Element = cheaper c one G2 in
      let Before : Element → Element → Type 0 = λ x y. rank (shift_to x) ≤ rank (shift_to y) in
      let first = cheaper_key G1 G0 (omega arith) in
      let second = cheaper_key one G2 (one_of (λ x. Before x G2) G1 G0 (omega arith) (omega arith)) in
      let third = cheaper_key two G3
      (one_of (λ x. Before x G3) one G2 (one_of (λ x. Before x G3) G1 G0 (omega arith) (omega arith)) (omega arith)) in
      by e third.0 third.1 second.0 second.1 first.0 first.1
    where
      by : (e : Element) {a b d : ℕ} → a ≤ b → a ≤ key G3 → b ≤ d → b ≤ key G2 → d ≤ key G1 → d ≤ key G0 → a ≤ key e
      by G0 p q r s u v = omega arith
      by G1 p q r s u v = omega arith
      by G2 p q r s u v = omega arith
      by G3 p q r s u v = omega arith

  -- so it costs least
  pub cheapest_moves : (e : Element) → moving c (cheapest c) ≤ moving c e
  cheapest_moves e = omega (arith, cheapest_key e, rank_of_shift e)

  pub least_moves : (gl : Element) → least c gl ≤ moving c (cheapest c)
  least_moves gl =
      gives_by (λ (n : ℕ). n ≤ moving c (cheapest c)) (ltb (moving c (cheapest c)) (c gl)) (λ h. omega arith)
      (λ h. omega (arith, ltb-false (moving c (cheapest c)) (c gl) h))

  -- whatever GL shows, one shift is enough
  pub one_shift_more : (gl e : Element) → least c gl ≤ length (shift_to e) + least c e
  one_shift_more gl e =
      gives_by (λ (n : ℕ). least c gl ≤ length (shift_to e) + n) (ltb (moving c (cheapest c)) (c e)) (λ h. omega (arith, least_moves gl))
      (λ h. omega (arith, least_moves gl, cheapest_moves e))
