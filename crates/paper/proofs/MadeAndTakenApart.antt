-- A byte taken apart makes itself again, and what a column and a row make is taken apart into them: 16c + r is a
-- quotient and a remainder by 16.
use Prim.Native.Nat.{ℕ, ◌+◌, ◌*◌, ◌/◌, ◌%◌, ◌≤◌, ◌<◌}
use mathlib.Core.Path.{◌≡◌, refl, ◌∙◌, sym, ap}
use mathlib.Core.Bool.{Bool, true, false}
use native.Mathlib.Omega.{arith}
use borrow.Author.Tests.{le-leb, leb-true}
use lib.Dec.{leb}
use Rattle.paper.specs.Choice.{◌gives◌or◌}
use Rattle.paper.specs.Words.{Column, Row, Area, Form, Seven, Eight}
use Rattle.paper.specs.CodeTable.{highest, byte_at, position_of, last_of_c0, last_of_gl, last_of_c1, column_area}
use Rattle.paper.specs.CodeTable.{form_has_column}
use Rattle.paper.proofs.Choices.{impossible}
use Rattle.std.specs.Prelude.{Some, None}

pub made_again : (b : ℕ) → b < 256 → byte_at (position_of b).column (position_of b).row ≡ Some b
unfolding byte_at position_of
made_again b h =
    let low : b / 16 ≤ highest = omega arith in
    let row : b % 16 ≤ highest = omega arith in
    simp (le-leb _ _ low, le-leb _ _ row) (ap Some (omega arith))

apart : (c r b : ℕ) (s t : Bool) → leb c highest ≡ s → leb r highest ≡ t →
    (s gives (t gives Some (16 * c + r) or None) or None) ≡ Some b →
    (b / 16 ≡ c) × (b % 16 ≡ r)
apart c r b true true p q e =
    let made : 16 * c + r ≡ b = cc in
    let small : r ≤ highest = leb-true r highest q in
    (omega arith, omega arith)
apart c r b true false p q e = impossible (cc)
apart c r b false t p q e = impossible (cc)

pub apart_again : (c : Column) (r : Row) (b : ℕ) → byte_at c r ≡ Some b → position_of b ≡ record { column = c; row = r }
unfolding byte_at position_of
apart_again c r b e =
    let h = apart c.0 r.0 b (leb c.0 highest) (leb r.0 highest) refl refl e in
    λ i. record { column = record { 0 = h.0 i }; row = record { 0 = h.1 i } }

-- the areas that a form has
abbrev pub has_area : Form → Area → Bool
has_area Seven Area.C0 = true
has_area Seven Area.GL = true
has_area Seven Area.C1 = false
has_area Seven Area.GR = false
has_area Eight a = true

column_of_seven : (c : Column) (s t u : Bool) → leb c.0 last_of_c0 ≡ s → leb c.0 last_of_gl ≡ t →
    t ≡ has_area Seven (s gives Area.C0 or t gives Area.GL or u gives Area.C1 or Area.GR)
column_of_seven c true t u p q = sym q ∙ le-leb c.0 last_of_gl (let low : c.0 ≤ last_of_c0 = leb-true c.0 last_of_c0 p in omega arith)
column_of_seven c false true u p q = refl
column_of_seven c false false true p q = refl
column_of_seven c false false false p q = refl

pub form_has_areas : (m : Form) (c : Column) → form_has_column m c ≡ has_area m (column_area c)
unfolding form_has_column column_area
form_has_areas Seven c = column_of_seven c _ _ (leb c.0 last_of_c1) refl refl
form_has_areas Eight c = refl
