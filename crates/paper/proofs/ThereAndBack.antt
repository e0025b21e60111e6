-- Demand 2, characters: a position that has a number is found by it. Only the two mapped sets have numbers; along the 96
-- position bytes of each, one computation looks every number up again.
use Prim.Native.Nat.{ℕ, ◌+◌, ◌≤◌}
use mathlib.Core.Path.{◌≡◌, refl, ◌∙◌, sym, ap}
use mathlib.Core.Logic.{◌⊎◌, inl, inr, ⊎_elim}
use mathlib.Core.Bool.{Bool, true, false}
use mathlib.Core.List.{map}
use native.Mathlib.Omega.{arith}
use borrow.Author.Tests.{eqb-true}
use lib.Dec.{eqb}
use Rattle.paper.specs.Choice.{◌gives◌or◌, between}
use Rattle.paper.specs.Words.{Column, Row, Kind, Of94, Of96, Count, Set, SetByte, OfSpace, OfDelete, Position}
use Rattle.paper.specs.Words.{OfSet, Outside, Located}
use Rattle.paper.specs.CodeTable.{byte_at, position_of, bit8}
use Rattle.paper.specs.Sets.{size_of, position_byte, set_byte, space, delete}
use Rattle.paper.specs.Starting.{latin, greek}
use Rattle.paper.specs.LatinGreek.{greek_number, at_position, number_by, number_in, number_made, unicode_of, locate, located_at}
use Rattle.paper.specs.LatinGreek.{position_bytes}
use Rattle.paper.proofs.Choices.{impossible, between_bounds, agree}
use Rattle.paper.proofs.MadeAndTakenApart.{apart_again}
use Rattle.std.specs.Prelude.{Option, Some, None}

-- a byte that has a number is a position of its set, so one of the 96
inside_at_lem : (p : SetByte) (t : Bool) → (t gives p or Outside) ≡ OfSet → t ≡ true
inside_at_lem p true e = refl
inside_at_lem p false e = impossible (cc)

pub inside : (k : Kind) (b : ℕ) → set_byte k b ≡ OfSet → (space ≤ b) × (b ≤ delete)
unfolding set_byte
inside k b e = between_bounds space delete b (inside_at_lem (position_byte k b) (between space delete b) e)

at_position_lem : (p : SetByte) (n : Option ℕ) (u : ℕ) → at_position p n ≡ Some u → (p ≡ OfSet) × (n ≡ Some u)
at_position_lem OfSpace n u e = impossible (cc)
at_position_lem OfDelete n u e = impossible (cc)
at_position_lem OfSet n u e = (refl, e)
at_position_lem Outside n u e = impossible (cc)

-- only the two mapped sets have numbers
named : (t : Bool) (m : Option ℕ) (u : ℕ) → (t gives m or None) ≡ Some u → t ≡ true
named true m u e = refl
named false m u e = impossible (cc)

abbrev pub Mapped : Set → Type 0
Mapped x = (x ≡ latin) ⊎ (x ≡ greek)

mapped_by : (n : Count) (k : Kind) (f b u : ℕ) → number_by n k f b ≡ Some u → Mapped (record { kind = k; count = n; last = f })
mapped_by Count.One Of94 f b u e =
    let last = eqb-true f latin.last (named (eqb f latin.last) (Some b) u e) in
    inl (λ i. record { kind = Of94; count = Count.One; last = last i })
mapped_by Count.One Of96 f b u e =
    let last = eqb-true f greek.last (named (eqb f greek.last) (greek_number (bit8 + b)) u e) in
    inr (λ i. record { kind = Of96; count = Count.One; last = last i })
mapped_by Count.Two k f b u e = impossible (cc)
mapped_by Count.Three k f b u e = impossible (cc)

-- what a number says of where it stands
pub record Stands (x : Set) (b : ℕ) : Type 0 where
  pub mapped : Mapped x
  pub low : space ≤ b
  pub high : b ≤ delete

pub stands : (x : Set) (b u : ℕ) → number_in x b ≡ Some u → Stands x b
unfolding number_in
stands x b u e =
    let h = at_position_lem (set_byte x.kind b) (number_by x.count x.kind x.last b) u e in
    let i = inside x.kind b h.0 in
    record { mapped = mapped_by x.count x.kind x.last b u h.1; low = i.0; high = i.1 }

-- each number of a mapped set, looked up again, is where it stood
abbrev again : Set → ℕ → Option ℕ → Option Located
again x b (Some u) = locate u
again x b None = Some (located_at x (position_of b))

abbrev Again : Set → Type 0
Again x = map (λ b. again x b (number_in x b)) position_bytes ≡ map (λ b. Some (located_at x (position_of b))) position_bytes

latin_again : Again latin
unfolding locate number_in set_byte between greek_number position_of
latin_again = refl

greek_again : Again greek
unfolding locate number_in set_byte between greek_number position_of
greek_again = refl

mapped_again : (x : Set) → Mapped x → Again x
mapped_again x m = ⊎_elim (λ e. rw e latin_again) (λ e. rw e greek_again) m

pub found : (x : Set) (b u : ℕ) → number_in x b ≡ Some u → locate u ≡ Some (located_at x (position_of b))
found x b u e =
    let s = stands x b u e in
    let low = s.low in
    let high = s.high in
    let alike = mapped_again x s.mapped in
    rw e at (agree (λ b. again x b (number_in x b)) (λ b. Some (located_at x (position_of b))) (size_of Of96) space alike b low (omega arith))

-- more than one byte has no number
pub one_byte_lem : (x : Set) (n : Count) (c : Column) (r : Row) (u : ℕ) → unicode_of x n c r ≡ Some u → n ≡ Count.One
one_byte_lem x Count.One c r u e = refl
one_byte_lem x Count.Two c r u e = impossible (cc)
one_byte_lem x Count.Three c r u e = impossible (cc)

-- the theorem, over every set, every number of position bytes and every position
made_there : (x : Set) (c : Column) (r : Row) (u : ℕ) (m : Option ℕ) → byte_at c r ≡ m → number_made x m ≡ Some u →
    locate u ≡ Some (located_at x (record { column = c; row = r }))
made_there x c r u (Some b) p e = found x b u e ∙ ap (λ (p : Position). Some (located_at x p)) (apart_again c r b p)
made_there x c r u None p e = impossible (cc)

pub there_and_back : (x : Set) (n : Count) (c : Column) (r : Row) (u : ℕ) →
    unicode_of x n c r ≡ Some u → locate u ≡ Some (located_at x (record { column = c; row = r }))
there_and_back x n c r u e = made_there x c r u (byte_at c r) refl (rw (one_byte_lem x n c r u e) at e)

-- so no two positions share a number, within a set or across the two
pub one_position : (x y : Set) (c d : Column) (r s : Row) (u : ℕ) →
    unicode_of x Count.One c r ≡ Some u → unicode_of y Count.One d s ≡ Some u →
    Some (located_at x (record { column = c; row = r })) ≡ Some (located_at y (record { column = d; row = s }))
one_position x y c d r s u p q = sym (there_and_back x Count.One c r u p) ∙ there_and_back y Count.One d s u q
