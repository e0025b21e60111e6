-- Each mapped set has one position byte that can have a number, so looking there finds what the search of both sets finds.
use Prim.Native.Nat.{ℕ, ◌%◌}
use mathlib.Core.Path.{◌≡◌, refl, ◌∙◌, sym}
use mathlib.Core.Logic.{⊎_elim}
use mathlib.Core.Bool.{Bool, true, false}
use mathlib.Core.List.{map}
use native.Mathlib.Omega.{arith}
use borrow.Author.Tests.{eq-eqb}
use Rattle.paper.specs.Choice.{◌gives◌or◌, between}
use Rattle.paper.specs.declared.Kind.TheVariants.{Of96}
use Rattle.paper.specs.declared.Set.{Set}
use Rattle.paper.specs.declared.Located.{Located}
use Rattle.paper.specs.CodeTable.{byte_at, position_of, bit8}
use Rattle.paper.specs.Sets.{size_of, space, set_byte}
use Rattle.paper.specs.Starting.{latin, greek}
use Rattle.paper.specs.LatinGreek.{greek_number, number_in, number_made, is_number, position_with, locate, position_bytes, located_at}
use Rattle.paper.proofs.Choices.{impossible, agree}
use Rattle.paper.proofs.ThereAndBack.{Mapped, stands, found}
use Rattle.paper.proofs.BackAndThere.{is_number_lem, back_and_there}
use Rattle.unicode_numbers.specs.Lookup.{greek_byte}
use Rattle.std.specs.Prelude.{Option, Some, None}
use Rattle.std.specs.Option.{MatchOption}

-- what a rule for the byte makes of a position's own number
abbrev again : (ℕ → ℕ) → ℕ → Option ℕ → ℕ
again f b (Some u) = f u
again f b None = b

abbrev Only : Set → (ℕ → ℕ) → Type 0
Only x f = map (λ b. again f b (number_in x b)) position_bytes ≡ map (λ b. b) position_bytes

only_latin : Only latin (λ u. u % bit8)
unfolding number_in set_byte between
only_latin = refl

only_greek : Only greek greek_byte
unfolding number_in set_byte between greek_number greek_byte
only_greek = refl

-- a number that stands at a byte stands where the rule says
at_only : (x : Set) (f : ℕ → ℕ) → Only x f → (b u : ℕ) → number_in x b ≡ Some u → is_number u (number_in x (f u)) ≡ true
at_only x f only b u e =
    let s = stands x b u e in
    let low = s.low in
    let high = s.high in
    let there : f u ≡ b = rw e at (agree (λ b. again f b (number_in x b)) (λ b. b) (size_of Of96) space only b low (omega arith)) in
    rw (there, e) (eq-eqb u u refl)

only_mapped : (x : Set) (b u : ℕ) → Mapped x → number_in x b ≡ Some u →
    is_number u (number_in latin (u % bit8)) ≡ false → is_number u (number_in greek (greek_byte u)) ≡ false → ⊥
only_mapped x b u m e p q =
    ⊎_elim
    (λ h. let t : true ≡ false = sym (at_only latin (λ u. u % bit8) only_latin b u (rw h at e)) ∙ p in impossible (cc))
    (λ h. let t : true ≡ false = sym (at_only greek greek_byte only_greek b u (rw h at e)) ∙ q in impossible (cc))
    m

-- nothing else has the number
made : (x : Set) (u : ℕ) (m : Option ℕ) → number_made x m ≡ Some u →
    is_number u (number_in latin (u % bit8)) ≡ false → is_number u (number_in greek (greek_byte u)) ≡ false → ⊥
made x u (Some b) e p q = only_mapped x b u (stands x b u e).mapped e p q
made x u None e p q = impossible (cc)

nowhere : (u : ℕ) (r : Option Located) → locate u ≡ r →
    is_number u (number_in latin (u % bit8)) ≡ false → is_number u (number_in greek (greek_byte u)) ≡ false → r ≡ None
nowhere u (Some l) e no-latin no-greek =
    absurd (made l.set u (byte_at l.position.column l.position.row) (back_and_there u l.set l.position e) no-latin no-greek)
nowhere u None e no-latin no-greek = refl

chosen : (u : ℕ) (s t : Bool) → is_number u (number_in latin (u % bit8)) ≡ s → is_number u (number_in greek (greek_byte u)) ≡ t →
    locate u ≡ (s gives Some (located_at latin (position_of (u % bit8))) or t gives Some (located_at greek (position_of (greek_byte u))) or None)
chosen u true t p q = found latin (u % bit8) u (is_number_lem u (number_in latin (u % bit8)) p)
chosen u false true p q = found greek (greek_byte u) u (is_number_lem u (number_in greek (greek_byte u)) q)
chosen u false false p q = nowhere u (locate u) refl p q

pub only_position : (u : ℕ) → locate u ≡ position_with u latin (u % bit8) (position_with u greek (greek_byte u) None)
only_position u = chosen u (is_number u (number_in latin (u % bit8))) (is_number u (number_in greek (greek_byte u))) refl refl

-- so the first of the two that is found there is what the search finds
first_or_next : (t : Bool) (l : Located) (next r : Option Located) → MatchOption (t gives Some l or None) (r ≡ next) (λ x. r ≡ Some x) →
    r ≡ (t gives Some l or next)
first_or_next true l next r e = e
first_or_next false l next r e = e

pub one_of_two : (u : ℕ) (p r : Option Located) → p ≡ position_with u latin (u % bit8) None →
    MatchOption p (r ≡ position_with u greek (greek_byte u) None) (λ x. r ≡ Some x) → r ≡ locate u
one_of_two u p r e found =
    first_or_next (is_number u (number_in latin (u % bit8))) (located_at latin (position_of (u % bit8)))
    (position_with u greek (greek_byte u) None) r (rw e at found) ∙ sym (only_position u)
