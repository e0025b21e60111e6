-- The text that is written is read as its sequence, marks included: each answer where it fits, each locking shift before an answer that does
-- not begin with SI, so that no opening is made by chance, and each opening whole.
use Prim.Native.Nat.{ℕ}
use mathlib.Core.Path.{◌≡◌, refl, sym, subst}
use mathlib.Core.Bool.{Bool, true, false}
use mathlib.Core.List.{List, ◌∷◌, ◌++◌}
use Rattle.paper.specs.Choice.{◌gives◌or◌, between}
use Rattle.paper.specs.Starting.{starting_sets}
use Rattle.paper.specs.Sets.{set_in}
use Rattle.paper.specs.Sequences.{sequence_byte, meaning_of_none, shift_or_other, final_of_ls2, final_of_ls3}
use Rattle.paper.specs.Answering.{means}
use Rattle.paper.specs.WrittenForms.{Entry, given, left_out, character_bytes, sets_with}
use Rattle.paper.specs.declared.Form.{Form}
use Rattle.paper.specs.declared.Kind.{Kind}
use Rattle.paper.specs.declared.Kind.TheVariants.{Of94, Of96}
use Rattle.paper.specs.declared.Set.{Set}
use Rattle.paper.specs.declared.Shift.{Shift}
use Rattle.paper.specs.declared.Element.{Element}
use Rattle.paper.specs.declared.Element.TheVariants.{G0, G1, G2, G3}
use Rattle.paper.specs.declared.Sets.{Sets}
use Rattle.paper.specs.declared.Intermediates.{Intermediates}
use Rattle.paper.specs.declared.Meaning.TheVariants.{Shifts}
use Rattle.paper.specs.declared.GraphicArea.{GraphicArea}
use Rattle.paper.specs.declared.PositionBytes.{PositionBytes}
use Rattle.paper.specs.declared.Within.{Within}
use Rattle.paper.specs.declared.Reader.{Reader}
use Rattle.paper.specs.declared.Answer.{Answer}
use Rattle.paper.proofs.Choices.{impossible}
use Rattle.paper.proofs.WrittenBytes.{both_have_gl}
use Rattle.paper.proofs.WhatCanBeWritten.{CanBeWritten, Steps, ended, said, opened, entries_of, AllCanBeWritten}
use Rattle.paper.proofs.ReadingOn.{ReadsAs, reader_with, NoShiftIn, reads_si, reads_so}
use Rattle.paper.proofs.WrittenCharactersReadBack.{begins_in_gl, reads_character}
use Rattle.paper.proofs.WrittenSequencesReadBack.{reads_sequence}
use Rattle.paper.proofs.WrittenAnswersReadBack.{Shows, reads_back, reads_opening, keeps_g0}
use Rattle.shortest.specs.ShortestText.{is_shown, is_taken, is_of94, fits, bytes_under, shift_to, cheapest, costs, shortest_from}
use Rattle.shortest.proofs.BytesOfAnAnswer.{Clear, byte_alone, two_bytes, clear_bytes}
use Rattle.shortest.proofs.ReadInSevenBits.{positions}
use Rattle.shortest.proofs.WhatIsChosen.{shown_is, stays_where_it_fits, best_fits, onward, by_the_way}

module _ (t : Sets) where
  abbrev here : Element → Reader
  here gl = reader_with Form.Seven t gl G1 Within.Ground

  -- ---- an answer where it fits

  of_94 : (k : Kind) → is_of94 k ≡ true → k ≡ Of94
  of_94 Of94 h = refl
  of_94 Of96 h = impossible (cc)

  -- what is not shown is taken by a single shift
  shows_or_single : (gl e : Element) → is_taken gl e ≡ true → is_shown gl e ≡ false → Shows Form.Seven e gl
  shows_or_single gl G0 taken other = impossible (cc)
  shows_or_single gl G1 taken other = impossible (cc)
  shows_or_single gl G2 taken other = tt
  shows_or_single gl G3 taken other = tt

  module _ (gl : Element) (bs : List ℕ) (l : List Entry) where
    character_reads : (e : Element) (x : Set) (p : PositionBytes) → CanBeWritten t (Answer.Char e x p) → is_taken gl e ≡ true →
        ReadsAs (here gl) bs l → ReadsAs (here gl) (bytes_under gl (Answer.Char e x p) ++ bs) (given (Answer.Char e x p) ∷ l)
    character_reads e x p can taken more = by (is_shown gl e) refl
      where
        by : (b : Bool) → is_shown gl e ≡ b →
            ReadsAs (here gl) ((b gives positions p or character_bytes Form.Seven e p) ++ bs) (given (Answer.Char e x p) ∷ l)
        by true is =
            subst (λ (x : Set). ReadsAs (here gl) (positions p ++ bs) (given (Answer.Char e x p) ∷ l)) (sym can.of_element)
            (reads_character Form.Seven t gl G1 p Within.Ground e GraphicArea.GL bs l
            (begins_in_gl Form.Seven t gl G1 e (shown_is gl e is)) (both_have_gl Form.Seven) can.whole can.of_set more)
        by false other = reads_back t gl bs l (Answer.Char e x p) Form.Seven refl can (shows_or_single gl e taken other) more

    answer_reads : (a : Answer) → left_out a ≡ false → CanBeWritten t a → fits t gl a ≡ true →
        ReadsAs (reader_with Form.Seven (sets_with t a) gl G1 Within.Ground) bs l → ReadsAs (here gl) (bytes_under gl a ++ bs) (given a ∷ l)
    answer_reads Answer.NothingYet stays can fit more = impossible (cc)
    answer_reads (Answer.Char e x p) stays can fit more = character_reads e x p can fit more
    answer_reads Answer.Space stays can fit more =
        reads_back t gl bs l Answer.Space Form.Seven refl can (of_94 (set_in t gl).kind fit) more
    answer_reads Answer.Delete stays can fit more =
        reads_back t gl bs l Answer.Delete Form.Seven refl can (of_94 (set_in t gl).kind fit) more
    answer_reads (Answer.Control w f n) stays can fit more = reads_back t gl bs l (Answer.Control w f n) Form.Seven refl can tt more
    answer_reads (Answer.DesignateControls w f) stays can fit more =
        reads_back t gl bs l (Answer.DesignateControls w f) Form.Seven refl can tt more
    answer_reads (Answer.Designate e x) stays can fit more = reads_back t gl bs l (Answer.Designate e x) Form.Seven refl can tt more
    answer_reads (Answer.Shift s) stays can fit more = impossible (cc)
    answer_reads (Answer.Other s f) stays can fit more = reads_back t gl bs l (Answer.Other s f) Form.Seven refl can tt more
    answer_reads _ stays can fit more = absurd can

    -- ---- a locking shift

    shift_reads : (e : Element) → NoShiftIn bs → ReadsAs (here e) bs l → ReadsAs (here gl) (shift_to e ++ bs) l
    unfolding means meaning_of_none shift_or_other sequence_byte between
    shift_reads G0 other more = reads_si t gl G1 bs l more
    shift_reads G1 other more = reads_so t gl G1 bs l other more
    shift_reads G2 other more =
        reads_sequence Form.Seven t gl G1 Intermediates.None final_of_ls2 (Shifts Shift.LS2) bs l tt refl refl tt more
    shift_reads G3 other more =
        reads_sequence Form.Seven t gl G1 Intermediates.None final_of_ls3 (Shifts Shift.LS3) bs l tt refl refl tt more

no_shift_in : {bytes : List ℕ} (bs : List ℕ) → Clear bytes → NoShiftIn (bytes ++ bs)
no_shift_in bs (byte_alone b not_esc not_so not_si) = not_si
no_shift_in bs (two_bytes b d l low not_so not_si no_shift) = not_si

-- ---- the text

pub text_reads_back : (s : Steps) (t : Sets) (gl : Element) → t.g0.kind ≡ Of94 → AllCanBeWritten t s →
    ReadsAs (reader_with Form.Seven t gl G1 Within.Ground) (shortest_from s t gl) (entries_of s)
unfolding shortest_from
text_reads_back ended t gl g0 all = record { never = λ at. refl; whole = refl; sequence = λ k least. refl }
text_reads_back (said a s) t gl g0 all =
    let best : Element = cheapest (costs a s t) in
    let reads : (e : Element) → fits t e a ≡ true → ReadsAs (reader_with Form.Seven t e G1 Within.Ground) (onward a s t e) (given a ∷ entries_of s) =
    λ e fit. answer_reads t e (shortest_from s (sets_with t a) e) (entries_of s) a all.0 all.1 fit
    (text_reads_back s (sets_with t a) e (keeps_g0 a t all.1 g0) all.2) in
    by_the_way a s t gl (λ (text : List ℕ). ReadsAs (reader_with Form.Seven t gl G1 Within.Ground) text (given a ∷ entries_of s))
    (λ h. reads gl (stays_where_it_fits a s t g0 gl h))
    (λ h. shift_reads t gl (onward a s t best) (given a ∷ entries_of s) best
    (no_shift_in (shortest_from s (sets_with t a) best) (clear_bytes a t best all.0 all.1)) (reads best (best_fits a s t g0)))
text_reads_back (opened s) t gl g0 all =
    reads_opening Form.Seven t gl (shortest_from s starting_sets G0) (entries_of s) (text_reads_back s starting_sets G0 refl all)
