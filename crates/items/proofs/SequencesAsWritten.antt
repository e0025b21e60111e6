-- A sequence is written as it was read: its bytes are those that the paper writes for its meaning, but for a set of several bytes into G0
-- that has a short sequence, which takes that one. By one walk over the table.
use Rattle.std.proofs.Common.{◌≡◌, ℕ, ◌-◌, true, eqb, leb, List, refl, ap, ◌∙◌, arith, eqb-true}
use Rattle.paper.specs.Choice.{◌gives◌or◌, between}
use Rattle.paper.specs.Sequences.{first_final, last_final, is_final, function_of_ss2, function_of_ss3, last_function, c1_function, right_shift}
use Rattle.paper.specs.Sequences.{shift_or_other, final_of_function, meaning_of_none, intermediate_of, designation, several, is_short}
use Rattle.paper.specs.Sequences.{short_designation, intermediate_of_controls, by_intermediate, meaning_of_one, several_bytes, meaning_of_two, meaning_of}
use Rattle.paper.specs.WrittenForms.{sequence_bytes, designation_bytes}
use Rattle.paper.specs.declared.Form.{Form}
use Rattle.paper.specs.declared.ControlElement.{ControlElement}
use Rattle.paper.specs.declared.Kind.{Kind}
use Rattle.paper.specs.declared.Kind.TheVariants.{Of94, Of96}
use Rattle.paper.specs.declared.Count.{Count}
use Rattle.paper.specs.declared.Element.{Element}
use Rattle.paper.specs.declared.Element.TheVariants.{G0, G1, G2, G3}
use Rattle.paper.specs.declared.Intermediates.{Intermediates}
use Rattle.paper.specs.declared.Meaning.{Meaning}
use Rattle.paper.specs.declared.Shift.{Shift}
use Rattle.paper.proofs.Choices.{gives_has, gives_by, between_bounds, above_bounds}
use Rattle.items.specs.Items.{several_bytes_of, bytes_read}

-- the bytes of a sequence that has this meaning
abbrev pub Bytes : Meaning → Intermediates → ℕ → List ℕ → Type 0
Bytes Meaning.NoMeaning i f bytes = Unit {0}
Bytes Meaning.Other i f bytes = bytes ≡ sequence_bytes i f
Bytes (Meaning.Function n) i f bytes = Unit {0}
Bytes (Meaning.Shifts h) i f bytes = Unit {0}
Bytes (Meaning.DesignateControls v) i f bytes = bytes ≡ sequence_bytes (Intermediates.One (intermediate_of_controls v)) f
Bytes (Meaning.Designate e k n) i f bytes = bytes ≡ designation_bytes e (record { kind = k; count = n; last = f })

-- a 96 set goes into G1 to G3 alone
abbrev Into : Kind → Element → Type 0
Into Of94 e = Unit {0}
Into Of96 G0 = ⊥
Into Of96 G1 = Unit {0}
Into Of96 G2 = Unit {0}
Into Of96 G3 = Unit {0}

module _ (m : Form) (i : Intermediates) (f : ℕ) (bytes : List ℕ) where
  abbrev P : Meaning → Type 0
  P w = Bytes w i f bytes

  pub of_function : (n : ℕ) → Bytes (c1_function n) i f bytes
  unfolding c1_function
  of_function n =
      gives_has P (eqb n function_of_ss2) tt
      (gives_has P (eqb n function_of_ss3) tt (gives_has P (leb n last_function) tt tt))

  of_right : (form : Form) (h : Shift) → P (right_shift form h)
  of_right Form.Seven h = tt
  of_right Form.Eight h = tt

  of_shift : bytes ≡ sequence_bytes i f → P (shift_or_other m f)
  unfolding shift_or_other
  of_shift other =
      gives_has P (eqb f 0x6E) tt
      (gives_has P (eqb f 0x6F) tt
      (gives_has P (eqb f 0x7E) (of_right m Shift.LS1R)
      (gives_has P (eqb f 0x7D) (of_right m Shift.LS2R) (gives_has P (eqb f 0x7C) (of_right m Shift.LS3R) other))))

  of_designation : (j : ℕ) (n : Count) →
      ((k : Kind) (e : Element) → Into k e → j ≡ intermediate_of k e →
      bytes ≡ designation_bytes e (record { kind = k; count = n; last = f })) → P (designation j n)
  unfolding designation
  of_designation j n row =
      let by : (k : Kind) (e : Element) → Into k e → eqb j (intermediate_of k e) ≡ true → P (Meaning.Designate e k n) =
      λ k e into same. row k e into (eqb-true j (intermediate_of k e) same) in
      gives_by P (eqb j (intermediate_of Of94 G0)) (by Of94 G0 tt) λ _.
      gives_by P (eqb j (intermediate_of Of94 G1)) (by Of94 G1 tt) λ _.
      gives_by P (eqb j (intermediate_of Of94 G2)) (by Of94 G2 tt) λ _.
      gives_by P (eqb j (intermediate_of Of94 G3)) (by Of94 G3 tt) λ _.
      gives_by P (eqb j (intermediate_of Of96 G1)) (by Of96 G1 tt) λ _.
      gives_by P (eqb j (intermediate_of Of96 G2)) (by Of96 G2 tt) λ _.
      gives_by P (eqb j (intermediate_of Of96 G3)) (by Of96 G3 tt) λ _. tt

of_one_intermediate : (j f : ℕ) → Bytes (by_intermediate j f) (Intermediates.One j) f (sequence_bytes (Intermediates.One j) f)
unfolding by_intermediate short_designation
of_one_intermediate j f =
    let i : Intermediates = Intermediates.One j in
    let bytes : List ℕ = sequence_bytes i f in
    let P : Meaning → Type 0 = λ (w : Meaning). Bytes w i f bytes in
    let alike : (n : ℕ) → eqb j n ≡ true → bytes ≡ sequence_bytes (Intermediates.One n) f =
    λ n same. ap (λ (x : ℕ). sequence_bytes (Intermediates.One x) f) (eqb-true j n same) in
    gives_has P (eqb j 0x20) refl
    (gives_has P (eqb j 0x23) refl
    (gives_has P (eqb j 0x26) refl
    (gives_by P (eqb j (intermediate_of_controls ControlElement.C0)) (alike (intermediate_of_controls ControlElement.C0)) λ _.
    gives_by P (eqb j (intermediate_of_controls ControlElement.C1)) (alike (intermediate_of_controls ControlElement.C1)) λ _.
    gives_by P (eqb j several)
    (λ same. gives_by P (is_short f) (λ short. rw short (alike several same)) (λ _. tt)) λ _.
    of_designation Form.Eight i f bytes j Count.One (λ k e into same. ap (λ (x : ℕ). sequence_bytes (Intermediates.One x) f) same))))

-- of several bytes: into G0 the short sequence where there is one
two_bytes : (k : Kind) (e : Element) (f : ℕ) → Into k e →
    several_bytes_of (intermediate_of k e) f ≡ designation_bytes e (record { kind = k; count = Count.Two; last = f })
unfolding several_bytes_of
two_bytes Of94 G0 f into =
    gives_by (λ (x : Intermediates). (is_short f gives sequence_bytes (Intermediates.One several) f or
    sequence_bytes (Intermediates.Two several (intermediate_of Of94 G0)) f) ≡ sequence_bytes x f) (is_short f)
    (λ short. rw short) (λ long. rw long)
two_bytes Of94 G1 f into = refl
two_bytes Of94 G2 f into = refl
two_bytes Of94 G3 f into = refl
two_bytes Of96 G0 f into = absurd into
two_bytes Of96 G1 f into = refl
two_bytes Of96 G2 f into = refl
two_bytes Of96 G3 f into = refl

three_bytes : (j f : ℕ) → between 0x60 0x6F f ≡ true → several_bytes_of j f ≡ sequence_bytes (Intermediates.Two several j) f
unfolding several_bytes_of
three_bytes j f in-column =
    let low = (between_bounds 0x60 0x6F f in-column).0 in
    rw (above_bounds 0x40 0x42 f (omega (arith, low)) (omega (arith, low)))
    (gives_has (λ (bytes : List ℕ). bytes ≡ sequence_bytes (Intermediates.Two several j) f) (eqb j (intermediate_of Of94 G0)) refl refl)

of_several : (s : Intermediates) (j f : ℕ) → Bytes (several_bytes j f) s f (several_bytes_of j f)
unfolding several_bytes
of_several s j f =
    let bytes : List ℕ = several_bytes_of j f in
    let P : Meaning → Type 0 = λ (w : Meaning). Bytes w s f bytes in
    gives_by P (between 0x40 0x5F f)
    (λ _. of_designation Form.Eight s f bytes j Count.Two
    (λ k e into same. ap (λ (x : ℕ). several_bytes_of x f) same ∙ two_bytes k e f into)) λ _.
    gives_by P (between 0x60 0x6F f)
    (λ three. of_designation Form.Eight s f bytes j Count.Three
    (λ k e into same. three_bytes j f three ∙ ap (λ (x : ℕ). sequence_bytes (Intermediates.Two several x) f) same)) λ _. tt

pub read_bytes : (m : Form) (i : Intermediates) (f : ℕ) → Bytes (meaning_of m i f) i f (bytes_read i f)
unfolding meaning_of_none meaning_of_one meaning_of_two
read_bytes m Intermediates.None f =
    let i : Intermediates = Intermediates.None in
    let bytes : List ℕ = sequence_bytes i f in
    let P : Meaning → Type 0 = λ (w : Meaning). Bytes w i f bytes in
    gives_has P (between first_final 0x3F f) refl
    (gives_has P (between final_of_function 0x5F f) (of_function m i f bytes (f - final_of_function))
    (gives_has P (between 0x60 last_final f) (of_shift m i f bytes refl) tt))
read_bytes m (Intermediates.One j) f =
    gives_has (λ (w : Meaning). Bytes w (Intermediates.One j) f (sequence_bytes (Intermediates.One j) f)) (is_final f)
    (of_one_intermediate j f) tt
read_bytes m (Intermediates.Two j k) f =
    gives_has (λ (w : Meaning). Bytes w (Intermediates.Two j k) f (several_bytes_of k f)) (eqb j several)
    (of_several (Intermediates.Two j k) k f) tt
