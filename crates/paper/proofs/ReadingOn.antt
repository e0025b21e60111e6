-- Bytes that are read as a sequence, refuse nothing and end whole, said of a reader and put together byte by byte: what a byte is
-- answered joins the sequence of the bytes after it. What is written between marks is SI nowhere in 8-bit form, and in 7-bit form
-- SO only before a byte that is not SI, so that no opening is completed there.
use Prim.Native.Nat.{ℕ, suc, ◌<◌, ◌≤◌}
use mathlib.Core.Path.{◌≡◌, refl, sym, ap, ◌∙◌, subst}
use mathlib.Core.Logic.{⊎_elim}
use mathlib.Core.Bool.{true}
use mathlib.Core.List.{List, [], ◌∷◌}
use native.Mathlib.Omega.{arith}
use native.Mathlib.Nat.{eq-or-lt_of_le}
use lib.Dec.{eqb}
use lib.ListN.{length, get_or}
use Rattle.paper.specs.Choice.{between}
use Rattle.paper.specs.Words.{Form, Seven, Eight, Area, Element, G0, G1, Sets, LS0, LS1, LS2, LS3, LS1R, LS2R, LS3R, SS2, SS3, Refused}
use Rattle.paper.specs.Words.{GraphicArea, Within, Standing, Reader, Answer, Answered, EndWord}
use Rattle.paper.specs.CodeTable.{area_of, form_has, column_area, form_has_column, position_of, so, si}
use Rattle.paper.specs.Sets.{set_byte}
use Rattle.paper.specs.Starting.{opening_start, opening}
use Rattle.paper.specs.Sequences.{sequence_byte}
use Rattle.paper.specs.Searching.{matched_with}
use Rattle.paper.specs.Marks.{recording, is_complete, unless_complete, recorded}
use Rattle.paper.specs.Characters.{c0_byte, byte_in}
use Rattle.paper.specs.Answering.{ground_at, answer_within, answer_in_step, answer_lost, answer_standing, answer_to, end_of_text}
use Rattle.paper.specs.Texts.{reader_after, answers_from}
use Rattle.paper.specs.Surveying.{first_refusal, refusal_or}
use Rattle.paper.specs.WrittenForms.{Entry, with_answer, sequence_from}
use Rattle.paper.proofs.Choices.{gives_has}
use Rattle.paper.proofs.MadeAndTakenApart.{has_area}
use Rattle.paper.proofs.AnswersWithoutTheRecord.{answer_of, record_of, answers_alike, reader_alike}
use Rattle.paper.proofs.BeginningsThatFallBack.{matched_at_most, without, less_without, falls_back}
use Rattle.paper.proofs.RecordsNotCompleted.{length_of, from_gone, from_gone_lem, no_mark, breaks_off}
use Rattle.paper.proofs.WrittenBytes.{form_has_area}
use Rattle.std.specs.Prelude.{Option, None}

-- how many bytes the two openings have in common
abbrev pub common : ℕ
common = length opening_start

-- Read from here, the bytes refuse nothing, end whole and have this sequence, however much of the common bytes of an opening has gone by
pub record ReadsAs (r : Reader) (bytes : List ℕ) (l : List Entry) : Type 0 where
  pub never : (at : ℕ) → first_refusal (answers_from at r bytes) ≡ None
  pub whole : end_of_text (reader_after r bytes) ≡ EndWord.Whole
  pub sequence : (k : ℕ) → k ≤ common → sequence_from (recording k r) bytes ≡ l

-- ---- a byte, and then the rest

-- a byte after which no more of an opening has gone by than the common bytes
abbrev pub StaysWithin : Form → ℕ → Type 0
StaysWithin m b = (k : ℕ) → k ≤ common → matched_with m k b ≤ common

pub all_longer : (m : Form) → common < length_of m
all_longer Seven = omega arith
all_longer Eight = omega arith

abbrev NoRefusal : Answer → Type 0
NoRefusal a = (later : Option Refused) (at : ℕ) → refusal_or later at a ≡ later

taken_over : (m : Form) (k : ℕ) → k ≤ common → (after before : Standing) → recorded after before m k ≤ common
taken_over m k h (Standing.InStep w) (Standing.InStep v) = gives_has (λ (j : ℕ). j ≤ common) (is_complete m k) (omega arith) h
taken_over m k h (Standing.InStep w) (Standing.Lost i n) = omega arith
taken_over m k h (Standing.Lost i n) before = omega arith

pub joins_after : (r : Reader) (b : ℕ) (bs : List ℕ) (l : List Entry) → StaysWithin r.form b → NoRefusal (answer_of r b).answer →
    ReadsAs (answer_of r b).reader bs l → ReadsAs r (b ∷ bs) (with_answer (answer_of r b).answer l)
unfolding answer_to
joins_after r b bs l stays fine more =
    let after : Reader = (answer_of r b).reader in
    record {
      never = λ at.
          fine (first_refusal (answers_from (suc at) (answer_to r b).reader bs)) at ∙
          ap first_refusal (answers_alike bs (suc at) (record_of r b) after.gone after) ∙ more.never (suc at);
      whole = ap end_of_text (reader_alike bs (record_of r b) after.gone after) ∙ more.whole;
      sequence = λ k h.
          let now : ℕ = matched_with r.form k b in
          from_gone_lem r b bs k ∙ no_mark r b bs now (omega (arith, stays k h, all_longer r.form)) ∙
          ap (with_answer (answer_of r b).answer)
          (more.sequence (recorded after.standing r.standing r.form now)
          (taken_over r.form now (stays k h) after.standing r.standing));
    }

-- ---- an answer that is neither a refusal nor a locking shift by SI or SO

abbrev pub Goes : Answer → Type 0
Goes Answer.NothingYet = Unit {0}
Goes (Answer.Char e x p) = Unit {0}
Goes Answer.Space = Unit {0}
Goes Answer.Delete = Unit {0}
Goes (Answer.Control w f n) = Unit {0}
Goes (Answer.DesignateControls w f) = Unit {0}
Goes (Answer.Designate e x) = Unit {0}
Goes (Answer.Shift LS0) = ⊥
Goes (Answer.Shift LS1) = ⊥
Goes (Answer.Shift LS2) = Unit {0}
Goes (Answer.Shift LS3) = Unit {0}
Goes (Answer.Shift LS1R) = Unit {0}
Goes (Answer.Shift LS2R) = Unit {0}
Goes (Answer.Shift LS3R) = Unit {0}
Goes (Answer.Shift SS2) = Unit {0}
Goes (Answer.Shift SS3) = Unit {0}
Goes (Answer.Other s f) = Unit {0}
Goes (Answer.Refused r) = ⊥
Goes Answer.Skipped = ⊥
Goes (Answer.InStep n) = ⊥

no_refusal : (a : Answer) → Goes a → NoRefusal a
no_refusal Answer.NothingYet h later at = refl
no_refusal (Answer.Char e x p) h later at = refl
no_refusal Answer.Space h later at = refl
no_refusal Answer.Delete h later at = refl
no_refusal (Answer.Control w f n) h later at = refl
no_refusal (Answer.DesignateControls w f) h later at = refl
no_refusal (Answer.Designate e x) h later at = refl
no_refusal (Answer.Shift s) h later at = refl
no_refusal (Answer.Other s f) h later at = refl
no_refusal (Answer.Refused r) h later at = absurd h
no_refusal Answer.Skipped h later at = refl
no_refusal (Answer.InStep n) h later at = refl

-- SI and SO are answered by a shift or refused
abbrev Stops : Answered → Type 0
Stops a = Goes a.answer → ⊥

stops_lost : (b : ℕ) (k n : ℕ) (r : Reader) → Stops (answer_lost k n b r)
unfolding answer_lost
stops_lost b k n r h = gives_has Stops (eqb (matched_with r.form k b) (length (opening r.form))) (λ x. x) (λ x. x) h

stops_at_si : (s : Standing) (r : Reader) → Stops (answer_standing s si r)
unfolding between column_area position_of set_byte sequence_byte c0_byte byte_in answer_in_step
stops_at_si (Standing.InStep Within.Ground) r = gives_has Stops (form_has r.form si) (λ h. h) (λ h. h)
stops_at_si (Standing.InStep (Within.Sequence s)) r = gives_has Stops (form_has r.form si) (λ h. h) (λ h. h)
stops_at_si (Standing.InStep (Within.SingleShift e)) r = gives_has Stops (form_has r.form si) (λ h. h) (λ h. h)
stops_at_si (Standing.InStep (Within.Character e GraphicArea.GL p)) r = gives_has Stops (form_has r.form si) (λ h. h) (λ h. h)
stops_at_si (Standing.InStep (Within.Character e GraphicArea.GR p)) r = gives_has Stops (form_has r.form si) (λ h. h) (λ h. h)
stops_at_si (Standing.Lost k n) r = stops_lost si k n r

stops_at_so : (s : Standing) (r : Reader) → Stops (answer_standing s so r)
unfolding between column_area position_of set_byte sequence_byte c0_byte byte_in answer_in_step
stops_at_so (Standing.InStep Within.Ground) r = gives_has Stops (form_has r.form so) (λ h. h) (λ h. h)
stops_at_so (Standing.InStep (Within.Sequence s)) r = gives_has Stops (form_has r.form so) (λ h. h) (λ h. h)
stops_at_so (Standing.InStep (Within.SingleShift e)) r = gives_has Stops (form_has r.form so) (λ h. h) (λ h. h)
stops_at_so (Standing.InStep (Within.Character e GraphicArea.GL p)) r = gives_has Stops (form_has r.form so) (λ h. h) (λ h. h)
stops_at_so (Standing.InStep (Within.Character e GraphicArea.GR p)) r = gives_has Stops (form_has r.form so) (λ h. h) (λ h. h)
stops_at_so (Standing.Lost k n) r = stops_lost so k n r

-- and any other byte does not go on past the common bytes
pub stays_within : (m : Form) (b : ℕ) → (b ≡ get_or (opening m) common 0 → ⊥) → StaysWithin m b
unfolding matched_with
stays_within m b other k h = ⊎_elim
    (λ (all : k ≡ common).
    let back = falls_back (opening m) common (omega arith) (omega (arith, all_longer m)) b (λ less e. other e) in
    let less : without (opening m) common < common = less_without (opening m) common (omega arith) (omega (arith, all_longer m)) in
    omega (
      arith,
      ap (λ (k : ℕ). matched_with m k b) all,
      back,
      matched_at_most (opening m) (without (opening m) common) b (omega (arith, all_longer m)),
    ))
    (λ (less : k < common). omega (arith, matched_at_most (opening m) k b (omega (arith, all_longer m))))
    (eq-or-lt_of_le h)

one_more_at_most : (k b : ℕ) → k ≤ common → matched_with Seven k b ≤ suc common
unfolding matched_with
one_more_at_most k b h = omega (arith, matched_at_most (opening Seven) k b (omega arith))

neither : (m : Form) (b : ℕ) → (b ≡ so → ⊥) → (b ≡ si → ⊥) → StaysWithin m b
neither Seven b not_so not_si = stays_within Seven b not_so
neither Eight b not_so not_si = stays_within Eight b not_si

goes_within : (r : Reader) (b : ℕ) → Goes (answer_of r b).answer → StaysWithin r.form b
goes_within r b goes = neither r.form b
    (λ e. stops_at_so r.standing (recording 0 r) (subst (λ (c : ℕ). Goes (answer_of r c).answer) e goes))
    (λ e. stops_at_si r.standing (recording 0 r) (subst (λ (c : ℕ). Goes (answer_of r c).answer) e goes))

abbrev JoinsAfter : Reader → ℕ → List ℕ → List Entry → Answered → Type 0
JoinsAfter r b bs l a = Goes a.answer → ReadsAs a.reader bs l → ReadsAs r (b ∷ bs) (with_answer a.answer l)

pub reads_on : (r : Reader) (b : ℕ) (a : Answered) (bs : List ℕ) (l : List Entry) → answer_of r b ≡ a → JoinsAfter r b bs l a
reads_on r b a bs l e =
    subst (JoinsAfter r b bs l) e (λ goes more.
    joins_after r b bs l (goes_within r b goes) (no_refusal (answer_of r b).answer goes) more)

-- ---- a reader of a form, that has these sets and shows these elements

abbrev pub reader_with : Form → Sets → Element → Element → Within → Reader
reader_with m t gl gr w = record { form = m; sets = t; gl = gl; gr = gr; gone = 0; standing = Standing.InStep w }

module _ (m : Form) (t : Sets) (gl gr : Element) where
  abbrev here : Within → Reader
  here w = reader_with m t gl gr w

  pub in_form : (w : Within) (b : ℕ) → form_has m b ≡ true → answer_of (here w) b ≡ answer_within w b (here w)
  unfolding answer_in_step
  in_form w b e = rw e

  pub on_ground_lem : (b : ℕ) (a : Area) → area_of b ≡ a → has_area m a ≡ true →
      answer_of (here Within.Ground) b ≡ ground_at a b (here Within.Ground)
  on_ground_lem b a e h =
      in_form Within.Ground b (form_has_area m b a e h) ∙ ap (λ (a : Area). ground_at a b (here Within.Ground)) e

-- ---- a locking shift in 7-bit form moves GL alone

-- these bytes do not begin with SI
abbrev pub NoShiftIn : List ℕ → Type 0
NoShiftIn [] = Unit {0}
NoShiftIn (b ∷ bs) = b ≡ si → ⊥

module _ (t : Sets) (gl gr : Element) (bs : List ℕ) (l : List Entry) where
  abbrev in_seven : Element → Reader
  in_seven e = reader_with Seven t e gr Within.Ground

  pub reads_si : ReadsAs (in_seven G0) bs l → ReadsAs (in_seven gl) (si ∷ bs) l
  unfolding column_area position_of form_has_column c0_byte answer_in_step
  reads_si more =
      joins_after (in_seven gl) si bs l (stays_within Seven si (λ e. absurd (omega (arith, e)))) (λ later at. refl) more

  -- after SO one byte more than the common ones may have gone by, and then the next byte is not the last of an opening
  past_common : (bytes : List ℕ) → NoShiftIn bytes → ReadsAs (in_seven G1) bytes l → (k : ℕ) → k ≤ suc common →
      sequence_from (recording k (in_seven G1)) bytes ≡ l
  past_common [] other more k most = more.sequence 0 (omega arith)
  past_common (c ∷ cs) other more k most = ⊎_elim
      (λ (one : k ≡ suc common).
      let r : Reader = in_seven G1 in
      let less : without (opening Seven) (suc common) < suc common = less_without (opening Seven) (suc common) (omega arith) (omega arith) in
      ap (λ (j : ℕ). sequence_from (recording j r) (c ∷ cs)) one ∙ from_gone_lem r c cs (suc common) ∙
      ap (from_gone r c cs) (breaks_off Seven (suc common) (omega arith) (omega arith) c other) ∙
      sym (from_gone_lem r c cs (without (opening Seven) (suc common))) ∙
      more.sequence (without (opening Seven) (suc common)) (omega arith))
      (λ (less : k < suc common). more.sequence k (omega arith))
      (eq-or-lt_of_le most)

  pub reads_so : NoShiftIn bs → ReadsAs (in_seven G1) bs l → ReadsAs (in_seven gl) (so ∷ bs) l
  unfolding column_area position_of form_has_column c0_byte answer_in_step answer_to
  reads_so other more =
      let r : Reader = in_seven gl in
      record {
        never = λ at. ap first_refusal (answers_alike bs (suc at) (record_of r so) 0 (in_seven G1)) ∙ more.never (suc at);
        whole = ap end_of_text (reader_alike bs (record_of r so) 0 (in_seven G1)) ∙ more.whole;
        sequence = λ k h.
            let now : ℕ = matched_with Seven k so in
            let few : now ≤ suc common = one_more_at_most k so h in
            from_gone_lem r so bs k ∙ no_mark r so bs now (omega arith) ∙
            past_common bs other more (unless_complete Seven now)
            (gives_has (λ (j : ℕ). j ≤ suc common) (is_complete Seven now) (omega arith) few);
      }
