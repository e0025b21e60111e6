-- What each row of the table of sequences has, the meaning of every sequence has, by one walk over the table. A row may use what
-- the tests that led to it said.
use Prim.Native.Nat.{ℕ, ◌-◌}
use mathlib.Core.Path.{◌≡◌}
use mathlib.Core.Bool.{true}
use native.Mathlib.Omega.{arith}
use lib.Dec.{leb, eqb}
use Rattle.paper.specs.Choice.{between}
use Rattle.paper.specs.Words.{Form, ControlElement, Element, G0, G1, G2, G3, Of94, Of96, Count, Intermediates, Shift}
use Rattle.paper.specs.Words.{LS2, LS3, LS1R, LS2R, LS3R, SS2, SS3, Meaning, NoMeaning, Function, Shifts}
use Rattle.paper.specs.Sequences.{first_final, last_final, is_final, function_of_ss2, function_of_ss3, last_function, c1_function}
use Rattle.paper.specs.Sequences.{final_of_function, intermediate_of, several, is_short, intermediate_of_controls, right_shift, shift_or_other}
use Rattle.paper.specs.Sequences.{meaning_of_none, designation, short_designation, by_intermediate, meaning_of_one}
use Rattle.paper.specs.Sequences.{several_bytes, meaning_of_two, meaning_of}
use Rattle.paper.proofs.Choices.{gives_has, gives_by, between_bounds, in_bounds}

-- the Final Bytes of a set's byte count: any final; columns 4 and 5; column 6
abbrev pub Lasts : Count → ℕ → Type 0
Lasts Count.One f = Unit {0}
Lasts Count.Two f = between 0x40 0x5F f ≡ true
Lasts Count.Three f = between 0x60 0x6F f ≡ true

-- the rows of a final, by what they mean: a 96 set goes into G1 to G3 alone, and what shifts into GR depends on the form
pub record Rows (m : Form) (f : ℕ) (P : Meaning → Type 0) : Type 0 where
  pub no_meaning : P NoMeaning
  pub other : P Meaning.Other
  pub function : (n : ℕ) → c1_function n ≡ Function n → P (Function n)
  pub ss2 : P (Shifts SS2)
  pub ss3 : P (Shifts SS3)
  pub ls2 : P (Shifts LS2)
  pub ls3 : P (Shifts LS3)
  pub right : (h : Shift) → P (right_shift m h)
  pub controls : (w : ControlElement) → P (Meaning.DesignateControls w)
  pub of94 : (e : Element) (n : Count) → Lasts n f → P (Meaning.Designate e Of94 n)
  pub of96_in_g1 : (n : Count) → Lasts n f → P (Meaning.Designate G1 Of96 n)
  pub of96_in_g2 : (n : Count) → Lasts n f → P (Meaning.Designate G2 Of96 n)
  pub of96_in_g3 : (n : Count) → Lasts n f → P (Meaning.Designate G3 Of96 n)

-- the short sequence's finals are of 2 bytes
short_lasts : (f : ℕ) → is_short f ≡ true → Lasts Count.Two f
short_lasts f short = let h = between_bounds 0x40 0x42 f short in in_bounds 0x40 0x5F f h.0 (omega (arith, h.1))

module _ (m : Form) (f : ℕ) (P : Meaning → Type 0) (rows : Rows m f P) where
  pub every_c1_function : (n : ℕ) → P (c1_function n)
  unfolding c1_function
  every_c1_function n =
      gives_by P (eqb n function_of_ss2) (λ ss2. rows.ss2)
      (λ ss2. gives_by P (eqb n function_of_ss3) (λ ss3. rows.ss3)
      (λ ss3. gives_by P (leb n last_function) (λ low. rows.function n (rw (ss2, ss3, low))) (λ high. rows.no_meaning)))

  of_shift : P (shift_or_other m f)
  unfolding shift_or_other
  of_shift =
      gives_has P (eqb f 0x6E) rows.ls2
      (gives_has P (eqb f 0x6F) rows.ls3
      (gives_has P (eqb f 0x7E) (rows.right LS1R)
      (gives_has P (eqb f 0x7D) (rows.right LS2R) (gives_has P (eqb f 0x7C) (rows.right LS3R) rows.other))))

  of_none : P (meaning_of_none m f)
  unfolding meaning_of_none
  of_none =
      gives_has P (between first_final 0x3F f) rows.other
      (gives_has P (between final_of_function 0x5F f) (every_c1_function (f - final_of_function))
      (gives_has P (between 0x60 last_final f) of_shift rows.no_meaning))

  of_designation : (i : ℕ) (n : Count) → Lasts n f → P (designation i n)
  unfolding designation
  of_designation i n lasts =
      gives_has P (eqb i (intermediate_of Of94 G0)) (rows.of94 G0 n lasts)
      (gives_has P (eqb i (intermediate_of Of94 G1)) (rows.of94 G1 n lasts)
      (gives_has P (eqb i (intermediate_of Of94 G2)) (rows.of94 G2 n lasts)
      (gives_has P (eqb i (intermediate_of Of94 G3)) (rows.of94 G3 n lasts)
      (gives_has P (eqb i (intermediate_of Of96 G1)) (rows.of96_in_g1 n lasts)
      (gives_has P (eqb i (intermediate_of Of96 G2)) (rows.of96_in_g2 n lasts)
      (gives_has P (eqb i (intermediate_of Of96 G3)) (rows.of96_in_g3 n lasts) rows.no_meaning))))))

  of_short : P (short_designation f)
  unfolding short_designation
  of_short =
      gives_by P (is_short f) (λ short. rows.of94 G0 Count.Two (short_lasts f short)) (λ long. rows.no_meaning)

  of_one : (i : ℕ) → P (by_intermediate i f)
  unfolding by_intermediate
  of_one i =
      gives_has P (eqb i 0x20) rows.other
      (gives_has P (eqb i 0x23) rows.other
      (gives_has P (eqb i 0x26) rows.other
      (gives_has P (eqb i (intermediate_of_controls ControlElement.C0)) (rows.controls ControlElement.C0)
      (gives_has P (eqb i (intermediate_of_controls ControlElement.C1)) (rows.controls ControlElement.C1)
      (gives_has P (eqb i several) of_short (of_designation i Count.One tt))))))

  of_several : (j : ℕ) → P (several_bytes j f)
  unfolding several_bytes
  of_several j =
      gives_by P (between 0x40 0x5F f) (λ two. of_designation j Count.Two two)
      (λ more. gives_by P (between 0x60 0x6F f) (λ three. of_designation j Count.Three three) (λ none. rows.no_meaning))

  pub every_meaning : (s : Intermediates) → P (meaning_of m s f)
  unfolding meaning_of_one meaning_of_two
  every_meaning Intermediates.None = of_none
  every_meaning (Intermediates.One i) = gives_has P (is_final f) (of_one i) rows.no_meaning
  every_meaning (Intermediates.Two i j) = gives_has P (eqb i several) (of_several j) rows.no_meaning
