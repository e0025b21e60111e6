-- Demand 2, characters: a number that is found stands at the position found, since the search hands out no position but one
-- that has the number.
use Prim.Native.Nat.{ℕ}
use mathlib.Core.Path.{◌≡◌, refl, ◌∙◌, ap}
use mathlib.Core.Bool.{Bool, true, false}
use mathlib.Core.List.{List, [], ◌∷◌}
use native.Mathlib.Omega.{arith}
use borrow.Author.Tests.{eqb-true}
use Rattle.paper.specs.Choice.{◌gives◌or◌}
use Rattle.paper.specs.Words.{Position, Count, Set, Located}
use Rattle.paper.specs.CodeTable.{position_of}
use Rattle.paper.specs.Starting.{latin, greek}
use Rattle.paper.specs.LatinGreek.{number_in, number_made, unicode_of, is_number, first_with, locate, position_bytes, located_at}
use Rattle.paper.proofs.MadeAndTakenApart.{made_again}
use Rattle.paper.proofs.ThereAndBack.{stands}
use Rattle.paper.proofs.Choices.{impossible}
use Rattle.std.specs.Prelude.{Option, Some, None}

pub is_number_lem : (u : ℕ) (n : Option ℕ) → is_number u n ≡ true → n ≡ Some u
is_number_lem u (Some m) e = ap Some (eqb-true m u e)
is_number_lem u None e = impossible (cc)

-- an answer is right that names a position with the number
abbrev Right : ℕ → Option Located → Type 0
Right u (Some l) = unicode_of l.set Count.One l.position.column l.position.row ≡ Some u
Right u None = Unit

right_first : (u : ℕ) (x : Set) (b : ℕ) (other : Option Located) (t : Bool) → is_number u (number_in x b) ≡ t → Right u other →
    Right u (t gives Some (located_at x (position_of b)) or other)
right_first u x b other true e r =
    let has = is_number_lem u (number_in x b) e in
    let high = (stands x b u has).high in
    ap (number_made x) (made_again b (omega arith)) ∙ has
right_first u x b other false e r = r

right : (u : ℕ) (x : Set) (l : List ℕ) (other : Option Located) → Right u other → Right u (first_with u x l other)
right u x [] other r = r
right u x (b ∷ bs) other r = right_first u x b (first_with u x bs other) (is_number u (number_in x b)) refl (right u x bs other r)

pub back_and_there : (u : ℕ) (x : Set) (p : Position) → locate u ≡ Some (located_at x p) →
    unicode_of x Count.One p.column p.row ≡ Some u
unfolding locate
back_and_there u x p e =
    let in_greek = right u greek position_bytes None tt in
    rw e at (right u latin position_bytes (first_with u greek position_bytes None) in_greek)
