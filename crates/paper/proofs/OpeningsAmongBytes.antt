-- Where an opening can stand among bytes. Fewer bytes than it has hold none. No opening overlaps itself: no beginning of it, short of
-- all of it, is also its end, as one computed test of all beginnings shows; so where part of an opening stands before an
-- unbroken one, none is complete before the last byte of that one.
use Prim.Native.Nat.{ℕ, ◌-◌, ◌<◌, ◌≤◌}
use mathlib.Core.Path.{◌≡◌, refl, sym, ap}
use mathlib.Core.Bool.{Bool, true, false}
use mathlib.Core.List.{List, ◌++◌}
use native.Mathlib.Omega.{arith}
use lib.ListN.{take, length, length-append}
use lib.Seq.{length-take-le}
use Rattle.paper.specs.Words.{Form, Seven, Eight}
use Rattle.paper.specs.Starting.{opening}
use Rattle.paper.specs.Searching.{ends_with}
use Rattle.paper.specs.Texts.{NoOpeningIn}
use Rattle.paper.proofs.Choices.{impossible, agree}
use Rattle.paper.proofs.ListsThatEnd.{Tail, tail_ends, no_tail, shorter}

pub opening_length : (length (opening Eight) ≡ 21) × (length (opening Seven) ≡ 20)
opening_length = (refl, refl)

pub too_few : (m : Form) (bs : List ℕ) → length bs < length (opening m) → NoOpeningIn m bs
too_few m bs few o =
    let parts = length-append (o.before ++ opening m) o.after in
    let more = length-append o.before (opening m) in
    absurd (omega (arith, parts, more, ap length o.is))

abbrev is_its_end : Form → ℕ → Bool
is_its_end m j = ends_with (opening m) (take j (opening m))

pub no_overlap : (m : Form) (j : ℕ) → 1 ≤ j → j < length (opening m) → is_its_end m j ≡ false
no_overlap Seven j some less = agree (is_its_end Seven) (λ i. false) (length (opening Seven) - 1) 1 refl j some (omega arith)
no_overlap Eight j some less = agree (is_its_end Eight) (λ i. false) (length (opening Eight) - 1) 1 refl j some (omega arith)

-- whatever came before
pub not_complete_inside : (m : Form) (seen : List ℕ) (j : ℕ) → 1 ≤ j → j < length (opening m) →
    ends_with (seen ++ take j (opening m)) (opening m) ≡ false
not_complete_inside m seen j some less = no_tail (seen ++ take j (opening m)) (opening m) (λ t.
    let short : length (take j (opening m)) ≡ j = length-take-le j (opening m) (omega arith) in
    let inside : Tail (opening m) (take j (opening m)) =
    shorter t.front seen (opening m) (take j (opening m)) (sym t.is) (omega arith) in
    let overlaps : is_its_end m j ≡ true = tail_ends (opening m) (take j (opening m)) inside in
    let none : is_its_end m j ≡ false = no_overlap m j some less in
    impossible (cc))
