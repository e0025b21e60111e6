-- The sequence that is written for a designation means that designation in both forms, once over byte count, type and element; so
-- does the one for a control set. Their intermediates are intermediates.
use Prim.Native.Nat.{ℕ}
use mathlib.Core.Path.{◌≡◌, refl}
use mathlib.Core.Bool.{true}
use native.Mathlib.Omega.{arith}
use Rattle.paper.specs.Choice.{between}
use Rattle.paper.specs.Words.{Form, ControlElement, Element, G0, G1, G2, G3, Kind, Of94, Of96, Count, Intermediate, Intermediates}
use Rattle.paper.specs.Words.{Meaning}
use Rattle.paper.specs.Sequences.{is_final, sequence_byte, intermediate_of, designation, several, short_designation}
use Rattle.paper.specs.Sequences.{intermediate_of_controls, by_intermediate, meaning_of_one, several_bytes, meaning_of_two, meaning_of}
use Rattle.paper.specs.WrittenForms.{takes_short, intermediates_of}
use Rattle.paper.proofs.Choices.{impossible, gives_by, between_bounds, above_bounds}
use Rattle.paper.proofs.TableOfSequences.{Lasts}
use Rattle.paper.proofs.WhatCanBeWritten.{AllIntermediate, MayHave}

-- ---- intermediates

intermediate_of_lem : (k : Kind) (e : Element) → sequence_byte (intermediate_of k e) ≡ Intermediate
unfolding sequence_byte between
intermediate_of_lem Of94 G0 = refl
intermediate_of_lem Of94 G1 = refl
intermediate_of_lem Of94 G2 = refl
intermediate_of_lem Of94 G3 = refl
intermediate_of_lem Of96 G0 = refl
intermediate_of_lem Of96 G1 = refl
intermediate_of_lem Of96 G2 = refl
intermediate_of_lem Of96 G3 = refl

intermediate_of_several : sequence_byte several ≡ Intermediate
unfolding sequence_byte between
intermediate_of_several = refl

pub intermediate_of_controls_lem : (w : ControlElement) → sequence_byte (intermediate_of_controls w) ≡ Intermediate
unfolding sequence_byte between
intermediate_of_controls_lem ControlElement.C0 = refl
intermediate_of_controls_lem ControlElement.C1 = refl

pub designation_leads : (n : Count) (k : Kind) (e : Element) (f : ℕ) → AllIntermediate (intermediates_of n k e f)
designation_leads Count.One k e f = intermediate_of_lem k e
designation_leads Count.Two k e f =
    gives_by AllIntermediate (takes_short e f) (λ short. intermediate_of_several) (λ long. (intermediate_of_several, intermediate_of_lem k e))
designation_leads Count.Three k e f = (intermediate_of_several, intermediate_of_lem k e)

-- ---- what they mean

into : (k : Kind) (e : Element) (n : Count) → MayHave e k → designation (intermediate_of k e) n ≡ Meaning.Designate e k n
unfolding designation
into Of94 G0 n h = refl
into Of94 G1 n h = refl
into Of94 G2 n h = refl
into Of94 G3 n h = refl
into Of96 G0 n h = absurd h
into Of96 G1 n h = refl
into Of96 G2 n h = refl
into Of96 G3 n h = refl

-- of one byte to a character
of_one : (k : Kind) (e : Element) (f : ℕ) → MayHave e k → by_intermediate (intermediate_of k e) f ≡ Meaning.Designate e k Count.One
unfolding by_intermediate designation
of_one Of94 G0 f h = refl
of_one Of94 G1 f h = refl
of_one Of94 G2 f h = refl
of_one Of94 G3 f h = refl
of_one Of96 G0 f h = absurd h
of_one Of96 G1 f h = refl
of_one Of96 G2 f h = refl
of_one Of96 G3 f h = refl

-- the short sequence is for G0, which has no 96 set
short_means : (k : Kind) (e : Element) (f : ℕ) → is_final f ≡ true → MayHave e k → takes_short e f ≡ true →
    meaning_of_one several f ≡ Meaning.Designate e k Count.Two
unfolding meaning_of_one by_intermediate short_designation
short_means Of94 G0 f final h short = rw (final, short)
short_means Of96 G0 f final h short = absurd h
short_means k G1 f final h short = impossible (cc)
short_means k G2 f final h short = impossible (cc)
short_means k G3 f final h short = impossible (cc)

two_means : (k : Kind) (e : Element) (f : ℕ) → MayHave e k → Lasts Count.Two f →
    meaning_of_two several (intermediate_of k e) f ≡ Meaning.Designate e k Count.Two
unfolding meaning_of_two several_bytes
two_means k e f h lasts = rw lasts (into k e Count.Two h)

three_means : (k : Kind) (e : Element) (f : ℕ) → MayHave e k → Lasts Count.Three f →
    meaning_of_two several (intermediate_of k e) f ≡ Meaning.Designate e k Count.Three
unfolding meaning_of_two several_bytes
three_means k e f h lasts =
    let b = between_bounds 0x60 0x6F f lasts in
    rw (above_bounds 0x40 0x5F f (omega (arith, b.0)) (omega (arith, b.0)), lasts) (into k e Count.Three h)

pub designation_means : (n : Count) (k : Kind) (e : Element) (f : ℕ) (m : Form) → is_final f ≡ true → MayHave e k → Lasts n f →
    meaning_of m (intermediates_of n k e f) f ≡ Meaning.Designate e k n
unfolding meaning_of_one
designation_means Count.One k e f m final h lasts = rw final (of_one k e f h)
designation_means Count.Two k e f m final h lasts =
    gives_by (λ (s : Intermediates). meaning_of m s f ≡ Meaning.Designate e k Count.Two) (takes_short e f)
    (λ short. short_means k e f final h short) (λ long. two_means k e f h lasts)
designation_means Count.Three k e f m final h lasts = three_means k e f h lasts

pub controls_mean : (w : ControlElement) (m : Form) (f : ℕ) → is_final f ≡ true →
    meaning_of m (Intermediates.One (intermediate_of_controls w)) f ≡ Meaning.DesignateControls w
unfolding meaning_of_one by_intermediate
controls_mean ControlElement.C0 m f final = rw final
controls_mean ControlElement.C1 m f final = rw final
