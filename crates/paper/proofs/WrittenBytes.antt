-- Where the bytes that a writer writes stand in the code table, by what is known of them: the tests that a reader made leave only
-- numbers of the column or columns in question.
use Prim.Native.Nat.{ℕ, ◌+◌, ◌-◌, ◌/◌, ◌%◌, ◌≤◌, ◌<◌}
use mathlib.Core.Path.{◌≡◌, refl, ap, ◌∙◌}
use mathlib.Core.Bool.{true}
use native.Mathlib.Omega.{arith}
use borrow.Author.Tests.{leb-true, le-leb, lt-leb}
use lib.Dec.{leb, eqb}
use Rattle.paper.specs.Choice.{between}
use Rattle.paper.specs.Words.{Form, Seven, Eight, Area, Kind, SetByte, OfSet, SequenceByte, Intermediate, Final, Meaning}
use Rattle.paper.specs.Words.{Function, GraphicArea}
use Rattle.paper.specs.CodeTable.{position_of, column_area, area_of, form_has, bit8}
use Rattle.paper.specs.Sets.{space, delete, set_byte}
use Rattle.paper.specs.Sequences.{is_intermediate, is_final, first_final, last_final, sequence_byte, function_of_ss2, function_of_ss3}
use Rattle.paper.specs.Sequences.{last_function, c1_function, final_of_function, meaning_of_none}
use Rattle.paper.specs.Characters.{position_in, byte_in}
use Rattle.paper.specs.WrittenForms.{byte_from}
use Rattle.paper.proofs.Choices.{impossible, gives_by, between_bounds, in_bounds, above_bounds}
use Rattle.paper.proofs.MadeAndTakenApart.{has_area, form_has_areas}

-- ---- areas

area_of_gl : (b : ℕ) → space ≤ b → b ≤ delete → area_of b ≡ Area.GL
unfolding column_area position_of
area_of_gl b low high =
    let l : 1 < b / 16 = omega arith in
    let h : b / 16 ≤ 7 = omega arith in
    rw (lt-leb (b / 16) 1 l, le-leb (b / 16) 7 h)

pub area_of_c1 : (n : ℕ) → n ≤ last_function → area_of (bit8 + n) ≡ Area.C1
unfolding column_area position_of
area_of_c1 n high =
    let k : 1 < (bit8 + n) / 16 = omega arith in
    let l : 7 < (bit8 + n) / 16 = omega arith in
    let h : (bit8 + n) / 16 ≤ 9 = omega arith in
    rw (lt-leb ((bit8 + n) / 16) 1 k, lt-leb ((bit8 + n) / 16) 7 l, le-leb ((bit8 + n) / 16) 9 h)

area_of_gr : (q : ℕ) → space ≤ q → area_of (bit8 + q) ≡ Area.GR
unfolding column_area position_of
area_of_gr q low =
    let k : 1 < (bit8 + q) / 16 = omega arith in
    let l : 7 < (bit8 + q) / 16 = omega arith in
    let h : 9 < (bit8 + q) / 16 = omega arith in
    rw (lt-leb ((bit8 + q) / 16) 1 k, lt-leb ((bit8 + q) / 16) 7 l, lt-leb ((bit8 + q) / 16) 9 h)

pub form_has_area : (m : Form) (b : ℕ) (a : Area) → area_of b ≡ a → has_area m a ≡ true → form_has m b ≡ true
form_has_area m b a e h = form_has_areas m (position_of b).column ∙ ap (has_area m) e ∙ h

pub both_have_c0 : (m : Form) → has_area m Area.C0 ≡ true
both_have_c0 Seven = refl
both_have_c0 Eight = refl

pub both_have_gl : (m : Form) → has_area m Area.GL ≡ true
both_have_gl Seven = refl
both_have_gl Eight = refl

-- ---- position bytes

pub of_set_bounds : (k : Kind) (q : ℕ) → set_byte k q ≡ OfSet → (space ≤ q) × (q ≤ delete)
unfolding set_byte
of_set_bounds k q =
    gives_by (λ (s : SetByte). s ≡ OfSet → (space ≤ q) × (q ≤ delete)) (between space delete q)
    (λ within e. between_bounds space delete q within) (λ outside e. impossible (cc))

abbrev pub area_in : GraphicArea → Area
area_in GraphicArea.GL = Area.GL
area_in GraphicArea.GR = Area.GR

-- a position byte as a byte of the area is read as that position byte
pub record ByteOf (a : GraphicArea) (k : Kind) (q : ℕ) : Type 0 where
  pub area : area_of (byte_from a q) ≡ area_in a
  pub of_set : byte_in a k (byte_from a q) ≡ OfSet
  pub position : position_in a (byte_from a q) ≡ q

pub byte_of : (a : GraphicArea) (k : Kind) (q : ℕ) → set_byte k q ≡ OfSet → ByteOf a k q
unfolding byte_in
byte_of GraphicArea.GL k q e =
    let h = of_set_bounds k q e in
    record { area = area_of_gl q h.0 h.1; of_set = e; position = refl }
byte_of GraphicArea.GR k q e =
    let h = of_set_bounds k q e in
    let low : q % bit8 ≡ q = omega (arith, h.1) in
    let off : (bit8 + q % bit8) % bit8 ≡ q = omega (arith, h.1) in
    let high : bit8 ≤ bit8 + q % bit8 = omega arith in
    record {
      area = ap (λ (p : ℕ). area_of (bit8 + p)) low ∙ area_of_gr q h.0;
      of_set = rw (le-leb bit8 (bit8 + q % bit8) high, off) e;
      position = off;
    }

-- ---- bytes of a sequence

pub intermediate_bounds : (i : ℕ) → sequence_byte i ≡ Intermediate → (0x20 ≤ i) × (i ≤ 0x2F)
unfolding sequence_byte
intermediate_bounds i =
    let P : SequenceByte → Type 0 = λ s. s ≡ Intermediate → (0x20 ≤ i) × (i ≤ 0x2F) in
    gives_by P (is_intermediate i) (λ is e. between_bounds 0x20 0x2F i is)
    (λ not. gives_by P (is_final i) (λ is e. impossible (cc)) (λ neither e. impossible (cc)))

pub intermediate_area : (i : ℕ) → sequence_byte i ≡ Intermediate → area_of i ≡ Area.GL
intermediate_area i e = let h = intermediate_bounds i e in area_of_gl i h.0 (omega (arith, h.1))

pub final_is : (f : ℕ) → sequence_byte f ≡ Final → is_final f ≡ true
unfolding sequence_byte
final_is f =
    let P : SequenceByte → Type 0 = λ s. s ≡ Final → is_final f ≡ true in
    gives_by P (is_intermediate f) (λ is e. impossible (cc))
    (λ not. gives_by P (is_final f) (λ is e. is) (λ neither e. impossible (cc)))

pub final_area : (f : ℕ) → sequence_byte f ≡ Final → area_of f ≡ Area.GL
final_area f e =
    let h = between_bounds first_final last_final f (final_is f e) in
    area_of_gl f (omega (arith, h.0)) (omega (arith, h.1))

-- ---- C1 functions

pub function_low : (n : ℕ) → c1_function n ≡ Function n → n ≤ last_function
unfolding c1_function
function_low n =
    let P : Meaning → Type 0 = λ w. w ≡ Function n → n ≤ last_function in
    gives_by P (eqb n function_of_ss2) (λ is e. impossible (cc))
    (λ ss2. gives_by P (eqb n function_of_ss3) (λ is e. impossible (cc))
    (λ ss3. gives_by P (leb n last_function) (λ low e. leb-true n last_function low) (λ high e. impossible (cc))))

-- ESC Fe: its final, and what it means
pub function_final : (n : ℕ) → n ≤ last_function → sequence_byte (final_of_function + n) ≡ Final
unfolding sequence_byte
function_final n h =
    rw (
      above_bounds 0x20 0x2F (final_of_function + n) (omega arith) (omega arith),
      in_bounds first_final last_final (final_of_function + n) (omega arith) (omega arith),
    )

pub function_meaning : (m : Form) (n : ℕ) (w : Meaning) → n ≤ last_function → c1_function n ≡ w →
    meaning_of_none m (final_of_function + n) ≡ w
unfolding meaning_of_none
function_meaning m n w h e =
    let off : final_of_function + n - final_of_function ≡ n = omega arith in
    rw (
      above_bounds first_final 0x3F (final_of_function + n) (omega arith) (omega arith),
      in_bounds final_of_function 0x5F (final_of_function + n) (omega arith) (omega arith),
      off,
    ) e
