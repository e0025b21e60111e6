-- The bytes that are written for a sequence are read to its final, which answers by what the sequence means; a control, SPACE, DELETE
-- and a locking shift are read as they are written.
use Prim.Native.Nat.{ℕ, ◌+◌, ◌-◌, ◌%◌, ◌≤◌}
use mathlib.Core.Path.{◌≡◌, refl, sym, ap, ◌∙◌, subst}
use mathlib.Core.Bool.{true}
use mathlib.Core.List.{List, ◌∷◌, ◌++◌}
use native.Mathlib.Omega.{arith}
use Rattle.paper.specs.Choice.{between}
use Rattle.paper.specs.Words.{Form, Seven, Eight, ControlElement, Area, Element, Kind, Of94, Sets, SequenceByte, Intermediate, Final}
use Rattle.paper.specs.Words.{Intermediates, Meaning, GraphicArea, Within, Reader, Answer, Answered}
use Rattle.paper.specs.CodeTable.{position_of, column_area, bit8, esc}
use Rattle.paper.specs.Sets.{space, delete, set_in, set_byte}
use Rattle.paper.specs.Sequences.{last_function, final_of_function, sequence_byte, c1_function, meaning_of}
use Rattle.paper.specs.Characters.{says, waits, c0_byte, byte_in, first_in_gl}
use Rattle.paper.specs.Answering.{means, intermediate, sequence_at}
use Rattle.paper.specs.Results.{control_size}
use Rattle.paper.specs.WrittenForms.{Entry, with_answer, sequence_bytes, function_bytes}
use Rattle.paper.proofs.MadeAndTakenApart.{has_area}
use Rattle.paper.proofs.WhatCanBeWritten.{AllIntermediate, ControlOfC0}
use Rattle.paper.proofs.WrittenBytes.{form_has_area, both_have_c0, both_have_gl, intermediate_area, final_area, area_of_c1}
use Rattle.paper.proofs.WrittenBytes.{function_final, function_meaning}
use Rattle.paper.proofs.AnswersWithoutTheRecord.{answer_of}
use Rattle.paper.proofs.ReadingOn.{ReadsAs, Goes, reads_on, reader_with, in_form, on_ground_lem}

module _ (m : Form) (t : Sets) (gl gr : Element) where
  abbrev here : Within → Reader
  here w = reader_with m t gl gr w

  -- ---- sequences

  escape : answer_of (here Within.Ground) esc ≡ waits (Within.Sequence Intermediates.None) (here Within.Ground)
  unfolding column_area position_of c0_byte
  escape = on_ground_lem m t gl gr esc Area.C0 refl (both_have_c0 m)

  reads_intermediate : (s : Intermediates) (i : ℕ) → sequence_byte i ≡ Intermediate →
      answer_of (here (Within.Sequence s)) i ≡ intermediate s i (here (Within.Sequence s))
  reads_intermediate s i e =
      in_form m t gl gr (Within.Sequence s) i (form_has_area m i Area.GL (intermediate_area i e) (both_have_gl m)) ∙
      ap (λ (k : SequenceByte). sequence_at k s i (here (Within.Sequence s))) e

  -- what the final of a sequence answers
  abbrev pub at_final : Intermediates → ℕ → Meaning → Answered
  at_final s f w = means w s f (here (Within.Sequence s))

  reads_final : (s : Intermediates) (f : ℕ) (w : Meaning) → sequence_byte f ≡ Final → meaning_of m s f ≡ w →
      answer_of (here (Within.Sequence s)) f ≡ at_final s f w
  reads_final s f w final e =
      in_form m t gl gr (Within.Sequence s) f (form_has_area m f Area.GL (final_area f final) (both_have_gl m)) ∙
      ap (λ (k : SequenceByte). sequence_at k s f (here (Within.Sequence s))) final ∙ ap (at_final s f) e

  pub reads_sequence : (s : Intermediates) (f : ℕ) (w : Meaning) (bs : List ℕ) (l : List Entry) → AllIntermediate s →
      sequence_byte f ≡ Final → meaning_of m s f ≡ w → Goes (at_final s f w).answer → ReadsAs (at_final s f w).reader bs l →
      ReadsAs (here Within.Ground) (sequence_bytes s f ++ bs)
      (with_answer (at_final s f w).answer l)
  reads_sequence Intermediates.None f w bs l leads final e fine more =
      let led : Within = Within.Sequence Intermediates.None in
      reads_on (here Within.Ground) esc (waits led (here Within.Ground)) (f ∷ bs) _ escape tt
      (reads_on (here led) f (at_final Intermediates.None f w) bs l
      (reads_final Intermediates.None f w final e) fine more)
  reads_sequence (Intermediates.One i) f w bs l leads final e fine more =
      let led : Within = Within.Sequence Intermediates.None in
      let one : Within = Within.Sequence (Intermediates.One i) in
      reads_on (here Within.Ground) esc (waits led (here Within.Ground)) (i ∷ f ∷ bs) _ escape tt
      (reads_on (here led) i (waits one (here led)) (f ∷ bs) _ (reads_intermediate Intermediates.None i leads) tt
      (reads_on (here one) f (at_final (Intermediates.One i) f w) bs l (reads_final (Intermediates.One i) f w final e) fine more))
  reads_sequence (Intermediates.Two i j) f w bs l leads final e fine more =
      let led : Within = Within.Sequence Intermediates.None in
      let one : Within = Within.Sequence (Intermediates.One i) in
      let two : Within = Within.Sequence (Intermediates.Two i j) in
      reads_on (here Within.Ground) esc (waits led (here Within.Ground)) (i ∷ j ∷ f ∷ bs) _ escape tt
      (reads_on (here led) i (waits one (here led)) (j ∷ f ∷ bs) _ (reads_intermediate Intermediates.None i leads.0) tt
      (reads_on (here one) j (waits two (here one)) (f ∷ bs) _ (reads_intermediate (Intermediates.One i) j leads.1) tt
      (reads_on (here two) f (at_final (Intermediates.Two i j) f w) bs l (reads_final (Intermediates.Two i j) f w final e) fine more)))

  -- ---- single bytes

  pub reads_c0 : (f n : ℕ) → ControlOfC0 t f n →
      answer_of (here Within.Ground) n ≡ says (Answer.Control ControlElement.C0 t.c0 n) (here Within.Ground)
  unfolding c0_byte
  reads_c0 f n h = on_ground_lem m t gl gr n Area.C0 h.area (both_have_c0 m) ∙ rw (h.not_esc, h.not_so, h.not_si)

  -- a C1 function by its byte
  reads_c1 : (n : ℕ) → n ≤ last_function → has_area m Area.C1 ≡ true →
      answer_of (here Within.Ground) (bit8 + n) ≡ means (c1_function n) Intermediates.None (bit8 + n) (here Within.Ground)
  reads_c1 n low has =
      let off : bit8 + n - bit8 ≡ n = omega arith in
      on_ground_lem m t gl gr (bit8 + n) Area.C1 (area_of_c1 n low) has ∙
      ap (λ (k : ℕ). means (c1_function k) Intermediates.None (bit8 + n) (here Within.Ground)) off

  -- SPACE and DELETE, where GL shows a set of 94 type
  pub reads_space : (set_in t gl).kind ≡ Of94 → answer_of (here Within.Ground) space ≡ says Answer.Space (here Within.Ground)
  unfolding column_area position_of byte_in set_byte between
  reads_space e =
      on_ground_lem m t gl gr space Area.GL refl (both_have_gl m) ∙
      ap (λ (k : Kind). first_in_gl (byte_in GraphicArea.GL k space) gl (set_in t gl) space (here Within.Ground)) e

  pub reads_delete : (set_in t gl).kind ≡ Of94 → answer_of (here Within.Ground) delete ≡ says Answer.Delete (here Within.Ground)
  unfolding column_area position_of byte_in set_byte between
  reads_delete e =
      on_ground_lem m t gl gr delete Area.GL refl (both_have_gl m) ∙
      ap (λ (k : Kind). first_in_gl (byte_in GraphicArea.GL k delete) gl (set_in t gl) delete (here Within.Ground)) e

function_itself : (n : ℕ) → n ≤ last_function → n % control_size ≡ n
function_itself n low = omega arith

-- a C1 function, a single shift among them, in either form: whatever it answers from wherever it is read
pub reads_function : (m : Form) (t : Sets) (gl gr : Element) (n : ℕ) (w : Meaning) (a : Answered) (bs : List ℕ) (l : List Entry) →
    n ≤ last_function → c1_function n ≡ w →
    ((f : ℕ) (v : Within) → means w Intermediates.None f (reader_with m t gl gr v) ≡ a) → Goes a.answer →
    ReadsAs a.reader bs l →
    ReadsAs (reader_with m t gl gr Within.Ground) (function_bytes m n ++ bs) (with_answer a.answer l)
reads_function Seven t gl gr n w a bs l low e answers fine more =
    let f : ℕ = final_of_function + n in
    let led : Within = Within.Sequence Intermediates.None in
    let ground : Reader = reader_with Seven t gl gr Within.Ground in
    let all : List Entry = with_answer a.answer l in
    subst (λ (k : ℕ). ReadsAs ground (esc ∷ (final_of_function + k) ∷ bs) all) (sym (function_itself n low))
    (reads_on ground esc (waits led ground) (f ∷ bs) all (escape Seven t gl gr) tt
    (reads_on (reader_with Seven t gl gr led) f a bs l
    (reads_final Seven t gl gr Intermediates.None f w (function_final n low) (function_meaning Seven n w low e) ∙ answers f led) fine more))
reads_function Eight t gl gr n w a bs l low e answers fine more =
    let b : ℕ = bit8 + n in
    let ground : Reader = reader_with Eight t gl gr Within.Ground in
    let all : List Entry = with_answer a.answer l in
    subst (λ (k : ℕ). ReadsAs ground ((bit8 + k) ∷ bs) all) (sym (function_itself n low))
    (reads_on ground b a bs l
    (reads_c1 Eight t gl gr n low refl ∙ ap (λ (w : Meaning). means w Intermediates.None b ground) e ∙ answers b Within.Ground) fine more)
