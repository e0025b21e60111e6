-- Going forward keeps the least sum: what it has cost to come so far with an element in GL, and what is left costs from there. At the end
-- nothing is left, and the least of the ways is the length up to there.
use Prim.Native.Nat.{ℕ, ◌+◌, ◌<◌, ◌≤◌}
use Rattle.std.proofs.Common.{min, ⊎_elim}
use Rattle.std.proofs.lemmas.Bool.{cases_lt}
use mathlib.Core.Path.{◌≡◌, refl, sym, subst}
use native.Mathlib.Omega.{arith}
use borrow.Author.Tests.{ltb-true}
use lib.Dec.{ltb}
use lib.ListN.{length}
use Rattle.paper.specs.WrittenForms.{sets_with}
use Rattle.paper.specs.declared.Element.{Element}
use Rattle.paper.specs.declared.Element.TheVariants.{G0, G1, G2, G3}
use Rattle.paper.specs.declared.Sets.{Sets}
use Rattle.paper.specs.declared.Answer.{Answer}
use Rattle.paper.proofs.Choices.{gives_by}
use Rattle.paper.proofs.WhatCanBeWritten.{Steps, said}
use Rattle.shortest.specs.ShortestText.{cost, shift_to, moving, cheapest, least, cost_of, costs}
use Rattle.shortest.proofs.WhatIsChosen.{near}
use Rattle.shortener.specs.ByElements.{lowest_of}
use Rattle.shortener.specs.Ways.{first_ways, with, further, Closed}

-- ---- the lowest of four

min_has : (P : ℕ → Type 0) (a b : ℕ) → P a → P b → P (min a b)
min_has P a b p q = ⊎_elim (λ h. subst P (left a b h) p) (λ h. subst P (right a b h) q) (cases_lt a b)
  where
    left : (a b : ℕ) → a < b → a ≡ min a b
    left a b h = omega arith

    right : (a b : ℕ) → b ≤ a → b ≡ min a b
    right a b h = omega arith

pub lowest_has : (P : ℕ → Type 0) (n : Element → ℕ) → ((e : Element) → P (n e)) → P (lowest_of n)
lowest_has P n f = min_has P _ (n G3) (min_has P _ (n G2) (min_has P (n G0) (n G1) (f G0) (f G1)) (f G2)) (f G3)

pub lowest_at : (n : Element → ℕ) (e : Element) → lowest_of n ≤ n e
lowest_at n G0 = omega arith
lowest_at n G1 = omega arith
lowest_at n G2 = omega arith
lowest_at n G3 = omega arith

-- two that are nowhere above each other
both_ways : (m n : ℕ) → m ≤ n → n ≤ m → m ≡ n
both_ways m n h k = omega arith

-- ---- at the start

pub first_closed : Closed first_ways
first_closed G0 G0 = omega arith
first_closed G0 G1 = omega arith
first_closed G0 G2 = omega arith
first_closed G0 G3 = omega arith
first_closed G1 G0 = omega arith
first_closed G1 G1 = omega arith
first_closed G1 G2 = omega arith
first_closed G1 G3 = omega arith
first_closed G2 G0 = omega arith
first_closed G2 G1 = omega arith
first_closed G2 G2 = omega arith
first_closed G2 G3 = omega arith
first_closed G3 G0 = omega arith
first_closed G3 G1 = omega arith
first_closed G3 G2 = omega arith
first_closed G3 G3 = omega arith

pub first_total : (s : Steps) (t : Sets) → lowest_of (with first_ways (cost_of s t)) ≡ cost_of s t G0
first_total s t =
    both_ways (lowest_of (with first_ways (cost_of s t))) (cost_of s t G0) (omega (arith, lowest_at (with first_ways (cost_of s t)) G0))
    (lowest_has (λ (n : ℕ). cost_of s t G0 ≤ n) (with first_ways (cost_of s t)) by)
  where
    by : (e : Element) → cost_of s t G0 ≤ first_ways e + cost_of s t e
    by G0 = omega arith
    by G1 = near s t G0 G1
    by G2 = near s t G0 G2
    by G3 = near s t G0 G3

-- ---- with one unit more

module _ (ways rates : Element → ℕ) where
  abbrev after : Element → ℕ
  after = further ways rates

  abbrev through : Element → ℕ
  through = with ways rates

  pub further_low : (e : Element) → after e ≤ ways e + rates e
  further_low e = omega arith

  least_through : (e : Element) → lowest_of through ≤ after e
  least_through e = min_has (λ (n : ℕ). lowest_of through ≤ n) (through e) (lowest_of through + length (shift_to e)) (lowest_at through e) (omega arith)

  pub further_closed : Closed after
  further_closed e k = omega (arith, least_through e)

module _ (ways : Element → ℕ) (closed : Closed ways) (a : Answer) (s : Steps) (t : Sets) where
  abbrev next : Element → ℕ
  next = cost_of s (sets_with t a)

  abbrev c : Element → ℕ
  c = costs a s t

  abbrev on : Element → ℕ
  on = further ways (cost t a)

  -- the two sums
  abbrev now_left : ℕ
  now_left = lowest_of (with ways (cost_of (said a s) t))

  abbrev then_left : ℕ
  then_left = lowest_of (with on next)

  said_cost : (e : Element) → cost_of (said a s) t e ≡ least c e
  unfolding cost_of
  said_cost e = refl

  least_low : (e : Element) → least c e ≤ c e
  least_low e =
      gives_by (λ (n : ℕ). n ≤ c e) (ltb (moving c (cheapest c)) (c e)) (λ h. omega (arith, ltb-true (moving c (cheapest c)) (c e) h))
      (λ h. omega arith)

  now_low : (e : Element) → now_left ≤ ways e + c e
  now_low e = omega (arith, lowest_at (with ways (cost_of (said a s) t)) e, said_cost e, least_low e)

  no_more : now_left ≤ then_left
  no_more = lowest_has (λ (n : ℕ). now_left ≤ n) (with on next) by
    where
      through : Element → ℕ
      through = with ways (cost t a)

      shifted : (k : Element) → now_left ≤ lowest_of through + length (shift_to k) + next k
      shifted k = lowest_has (λ (n : ℕ). now_left ≤ n + length (shift_to k) + next k) through
          (λ e. omega (arith, now_low e, near s (sets_with t a) e k))

      by : (k : Element) → now_left ≤ on k + next k
      by k = min_has (λ (n : ℕ). now_left ≤ n + next k) (through k) (lowest_of through + length (shift_to k)) (omega (arith, now_low k)) (shifted k)

  no_less : then_left ≤ now_left
  no_less = lowest_has (λ (n : ℕ). then_left ≤ n) (with ways (cost_of (said a s) t)) by
    where
      then_low : (e : Element) → then_left ≤ ways e + c e
      then_low e = omega (arith, lowest_at (with on next) e, further_low ways (cost t a) e)

      by : (e : Element) → then_left ≤ ways e + cost_of (said a s) t e
      by e =
          subst (λ (n : ℕ). then_left ≤ ways e + n) (sym (said_cost e))
          (gives_by (λ (n : ℕ). then_left ≤ ways e + n) (ltb (moving c (cheapest c)) (c e))
          (λ h. omega (arith, then_low (cheapest c), closed e (cheapest c)))
          (λ h. then_low e))

  pub further_total : now_left ≡ then_left
  further_total = both_ways now_left then_left no_more no_less
