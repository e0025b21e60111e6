-- A code that is packed into a byte is told by the byte.
use Rattle.std.proofs.Common.{◌≡◌, ℕ, ◌+◌, ◌-◌, ◌*◌, ◌/◌, ◌%◌, ◌≤◌, refl, ap, ◌∙◌, arith, eqb, ltb}
use borrow.Author.Tests.{lt-ltb, le-ltb, ne_eqb}
use Rattle.paper.specs.declared.Kind.{Kind}
use Rattle.paper.specs.declared.Kind.TheVariants.{Of94, Of96}
use Rattle.paper.specs.declared.Element.{Element}
use Rattle.paper.specs.declared.Element.TheVariants.{G0, G1, G2, G3}
use Rattle.paper.proofs.Choices.{gives_has}
use Rattle.shortener.specs.declared.by_element.ByElement.{ByElement}
use Rattle.shortener.specs.declared.code.Place.{Place}
use Rattle.shortener.specs.declared.code.Code.{Code}
use Rattle.shortener.specs.ByElements.{at_element, by_element, index_of, element_at}
use Rattle.shortener.specs.Codes.{of_space_or_delete, of_alike, of_opening, count_in, kind_bit, kind_at}
use Rattle.shortener.specs.Codes.{bit_of, mask_of, place_number, place_at, packed, unpacked}

-- ---- what is said of each element

pub at_each : {A : Type 0} (n : Element → A) (e : Element) → at_element (by_element n) e ≡ n e
at_each n G0 = refl
at_each n G1 = refl
at_each n G2 = refl
at_each n G3 = refl

pub same_each : {A : Type 0} (n : Element → A) → at_element (by_element n) ≡ n
same_each n = λ i e. at_each n e i

pub index_bound : (e : Element) → index_of e ≤ 3
index_bound G0 = omega arith
index_bound G1 = omega arith
index_bound G2 = omega arith
index_bound G3 = omega arith

pub element_back : (e : Element) → element_at (index_of e) ≡ e
element_back G0 = refl
element_back G1 = refl
element_back G2 = refl
element_back G3 = refl

-- ---- of a character

character_told : (own : Element) (n : ℕ) → n ≤ 15 → unpacked (16 * index_of own + n) ≡ Code.Character own n
unfolding unpacked
character_told own n few =
    let row : (16 * index_of own + n) / 16 ≡ index_of own = omega arith in
    let rest : (16 * index_of own + n) % 16 ≡ n = omega arith in
    rw (lt-ltb (16 * index_of own + n) of_space_or_delete (omega (arith, index_bound own)), row, rest)
    (ap (λ (e : Element). Code.Character e n) (element_back own))

-- ---- of SPACE or DELETE

bit_bound : (k : Kind) → kind_bit k ≤ 1
bit_bound Of94 = omega arith
bit_bound Of96 = omega arith

kind_back : (k : Kind) → kind_at (kind_bit k) ≡ k
kind_back Of94 = refl
kind_back Of96 = refl

module _ (kinds : ByElement Kind) where
  abbrev byte : ℕ
  byte = of_space_or_delete + mask_of kinds

  mask_bound : mask_of kinds ≤ 15
  mask_bound = omega (arith, bit_bound kinds.g0, bit_bound kinds.g1, bit_bound kinds.g2, bit_bound kinds.g3)

  bit_back : (e : Element) → bit_of (mask_of kinds) e ≡ kind_bit (at_element kinds e)
  bit_back G0 = omega (arith, bit_bound kinds.g0, bit_bound kinds.g1, bit_bound kinds.g2, bit_bound kinds.g3)
  bit_back G1 = omega (arith, bit_bound kinds.g0, bit_bound kinds.g1, bit_bound kinds.g2, bit_bound kinds.g3)
  bit_back G2 = omega (arith, bit_bound kinds.g0, bit_bound kinds.g1, bit_bound kinds.g2, bit_bound kinds.g3)
  bit_back G3 = omega (arith, bit_bound kinds.g0, bit_bound kinds.g1, bit_bound kinds.g2, bit_bound kinds.g3)

  kinds_back : by_element (λ e. kind_at (bit_of (mask_of kinds) e)) ≡ kinds
  kinds_back =
      let back : (e : Element) → kind_at (bit_of (mask_of kinds) e) ≡ at_element kinds e =
      λ e. ap kind_at (bit_back e) ∙ kind_back (at_element kinds e) in
      λ i. record { g0 = back G0 i; g1 = back G1 i; g2 = back G2 i; g3 = back G3 i }

  space_or_delete_told : unpacked byte ≡ Code.SpaceOrDelete kinds
  unfolding unpacked
  space_or_delete_told =
      let mask : byte % 16 ≡ mask_of kinds = omega (arith, mask_bound) in
      rw (le-ltb byte of_space_or_delete (omega arith), lt-ltb byte of_alike (omega (arith, mask_bound)), mask)
      (ap (λ (k : ByElement Kind). Code.SpaceOrDelete k) kinds_back)

-- ---- of what is written alike

place_bound : (p : Place) → place_number p ≤ 2
place_bound Place.First = omega arith
place_bound Place.Middle = omega arith
place_bound Place.Last = omega arith

place_back : (p : Place) → place_at (place_number p) ≡ p
place_back Place.First = refl
place_back Place.Middle = refl
place_back Place.Last = refl

alike_told : (p : Place) (n : ℕ) → n ≤ 15 → unpacked (of_alike + 16 * place_number p + n) ≡ Code.Alike p n
unfolding unpacked
alike_told p n few =
    let byte : ℕ = of_alike + 16 * place_number p + n in
    let low = place_bound p in
    let row : (of_alike + 16 * place_number p + n) / 16 - of_alike / 16 ≡ place_number p = omega (arith, low) in
    let rest : (of_alike + 16 * place_number p + n) % 16 ≡ n = omega (arith, low) in
    rw (
      le-ltb (of_alike + 16 * place_number p + n) of_space_or_delete (omega arith),
      le-ltb (of_alike + 16 * place_number p + n) of_alike (omega arith),
      ne_eqb (of_alike + 16 * place_number p + n) of_opening (λ e. omega (arith, low)),
      row,
      rest,
    )
    (ap (λ (q : Place). Code.Alike q n) (place_back p))

opening_told : unpacked of_opening ≡ Code.Opening
unfolding unpacked
opening_told = refl

-- ---- and so of each code

pub code_told : (code : Code) → count_in code ≤ 15 → unpacked (packed code) ≡ code
unfolding packed
code_told (Code.Character own n) few = character_told own n few
code_told (Code.SpaceOrDelete kinds) few = space_or_delete_told kinds
code_told (Code.Alike p n) few = alike_told p n few
code_told Code.Opening few = opening_told

-- what a byte tells has 15 bytes at the most
pub few_told : (byte : ℕ) → count_in (unpacked byte) ≤ 15
unfolding unpacked
few_told byte =
    let P : Code → Type 0 = λ c. count_in c ≤ 15 in
    gives_has P (ltb byte of_space_or_delete) (omega arith)
    (gives_has P (ltb byte of_alike) (omega arith) (gives_has P (eqb byte of_opening) (omega arith) (omega arith)))
