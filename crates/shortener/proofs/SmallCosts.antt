-- What a code costs, and what the codes of a text cost, is small.
use Rattle.std.proofs.Common.{◌≡◌, ℕ, ◌*◌, ◌+◌, ◌≤◌, Bool, List, [], ◌∷◌, length, le_refl, sym, subst, arith, ltb}
use borrow.Author.Tests.{ltb-true}
use Rattle.paper.specs.Choice.{◌gives◌or◌}
use Rattle.paper.specs.declared.Element.{Element}
use Rattle.paper.specs.declared.Element.TheVariants.{G0, G1, G2, G3}
use Rattle.paper.proofs.Choices.{gives_has, gives_by}
use Rattle.shortest.specs.ShortestText.{is_of94, is_shown, moving, cheapest, least}
use Rattle.shortener.specs.declared.code.Code.{Code}
use Rattle.shortener.specs.declared.by_element.ByElement.{ByElement}
use Rattle.shortener.specs.ByElements.{at_element, by_element, AtMost}
use Rattle.shortener.specs.Codes.{cost_alone, cost_by, is_opening, count_in, unpacked}
use Rattle.shortener.specs.Choices.{with_code, costs_by}
use Rattle.shortener.proofs.CodesAsBytes.{at_each, few_told}

-- one choice more
either : (most : ℕ) (t : Bool) {a b : ℕ} → a ≤ most → b ≤ most → (t gives a or b) ≤ most
either most t p q = gives_has (λ (n : ℕ). n ≤ most) t p q

small_alone : (own : Element) (n : ℕ) → n ≤ 15 → cost_alone own n ≤ 17
small_alone G0 n few = omega arith
small_alone G1 n few = omega arith
small_alone G2 n few = omega arith
small_alone G3 n few = omega arith

pub small_cost : (code : Code) → count_in code ≤ 15 → (e : Element) → cost_by code e ≤ 17
small_cost (Code.Character own n) few e = either 17 (is_shown e own) (omega arith) (small_alone own n few)
small_cost (Code.SpaceOrDelete kinds) few e = either 17 (is_of94 (at_element kinds e)) (omega arith) (omega arith)
small_cost (Code.Alike place n) few e = omega arith
small_cost Code.Opening few e = omega arith

-- ---- and so a sum with it

pub small_code : (code : Code) (by : ByElement ℕ) → count_in code ≤ 15 → by ≡ by_element (cost_by code) → AtMost 17 by
small_code code by few is = subst (AtMost 17) (sym is) (record { each = λ e. omega (arith, at_each (cost_by code) e, small_cost code few e) })

pub small_sum : (m n : ℕ) (first second sum : ByElement ℕ) → sum ≡ by_element (λ e. at_element first e + at_element second e) →
    AtMost m first → AtMost n second → AtMost (m + n) sum
small_sum m n first second sum is p q =
    subst (AtMost (m + n)) (sym is)
    (record { each = λ e. omega (arith, at_each (λ e. at_element first e + at_element second e) e, p.each e, q.each e) })

-- ---- of the codes of a text

lower_than : (m n : ℕ) → (ltb m n gives m or n) ≤ n
lower_than m n = gives_by (λ (k : ℕ). k ≤ n) (ltb m n) (λ h. omega (arith, ltb-true m n h)) (λ h. le_refl n)

pub small_costs : (l : List ℕ) (e : Element) → costs_by l e ≤ 17 * length l
unfolding costs_by
small_costs [] e = omega arith
small_costs (byte ∷ l) e =
    let code : Code = unpacked byte in
    let c : Element → ℕ = with_code code (costs_by l) in
    let h = small_cost code (few_told byte) e in
    let k = small_costs l e in
    let lower : least c e ≤ c e = lower_than (moving c (cheapest c)) (c e) in
    either (17 * length (byte ∷ l)) (is_opening code) (omega arith) (omega arith)
