-- A pass goes on by one byte: its answer is written, or it is the refusal of the text; or by an opening, which is written whole; and what
-- holds where the text ends.
use Prim.Native.Nat.{ℕ, ◌+◌, ◌<◌, ◌≤◌}
use mathlib.Core.Path.{◌≡◌, refl, sym, ap, ◌∙◌, subst}
use mathlib.Core.Bool.{true}
use mathlib.Core.List.{List, [], ◌∷◌, ◌++◌, append_assoc, append-nil}
use native.Mathlib.Omega.{arith}
use lib.ListN.{length, drop, get_or, length-append, drop_of_length-le}
use lib.Seq.{sets}
use Rattle.paper.specs.Starting.{started, opening}
use Rattle.paper.specs.Searching.{begins_with}
use Rattle.paper.specs.Marks.{recording}
use Rattle.paper.specs.Answering.{answer_to, end_of_text}
use Rattle.paper.specs.Texts.{reader_after, answers_from}
use Rattle.paper.specs.LentBuffers.{over}
use Rattle.paper.specs.Surveying.{refusal_or, first_refusal, first_of}
use Rattle.paper.specs.WrittenForms.{Entry, sequence_from, written_for, writer_after, written_from}
use Rattle.paper.specs.Conversions.{refusal_at_end, refusal_in, output}
use Rattle.paper.specs.declared.Form.{Form}
use Rattle.paper.specs.declared.EndWord.{EndWord}
use Rattle.paper.specs.declared.Within.{Within}
use Rattle.paper.specs.declared.Element.{Element}
use Rattle.paper.specs.declared.Standing.{Standing}
use Rattle.paper.specs.declared.Reader.{Reader}
use Rattle.paper.specs.declared.Refusal.{Refusal}
use Rattle.paper.specs.declared.Answer.{Answer}
use Rattle.paper.proofs.LawfulAnswers.{IsInStep}
use Rattle.paper.proofs.AnswersWithoutTheRecord.{answer_of}
use Rattle.paper.proofs.RecordsNotCompleted.{form_of}
use Rattle.paper.proofs.OpeningsTakenWhole.{ShowsG1, shows_of}
use Rattle.paper.proofs.WrittenAnswersReadBack.{written_opening}
use Rattle.paper.proofs.WrittenTurnByTurn.{one_turn, sets_by_the_answer}
use Rattle.items.proofs.ItemsByBytes.{NoRefusal}
use Rattle.items.proofs.ItemsGoOn.{ReadsOn}
use Rattle.items.proofs.TextsReadOn.{in_step_on, rest, alone, first_here, end_here, first_after, end_after_lem, sequence_after}
use Rattle.items.proofs.TextsReadOn as texts
use Rattle.converter.specs.Passing.{beside, rest_from, refusal_from, Passing}
use Rattle.items.proofs.OverTheBuffer.{over_more}
use Rattle.std.specs.Prelude.{Option, Some}
use Rattle.paper.specs.Refusals.{refusal_at}
use Rattle.paper.specs.declared.Refused.{Refused}

pub passing_starts : (m to : Form) (text lent : List ℕ) → Passing m to text lent (started m) Element.G0 0 0 lent
passing_starts m to text lent = record {
  within = omega arith;
  in_step = tt;
  form = refl;
  shows = λ seven. refl;
  refused = refl;
  so_far = [];
  whole = refl;
  counted = refl;
  as_long = refl;
  wrote = λ h. refl;
}

-- ---- answers that are no refusals

later_refusal : (a : Answer) (later : Option Refused) (at : ℕ) → NoRefusal a → refusal_or later at a ≡ later
later_refusal Answer.NothingYet later at h = refl
later_refusal (Answer.Char e x p) later at h = refl
later_refusal Answer.Space later at h = refl
later_refusal Answer.Delete later at h = refl
later_refusal (Answer.Control w f n) later at h = refl
later_refusal (Answer.DesignateControls w f) later at h = refl
later_refusal (Answer.Designate e x) later at h = refl
later_refusal (Answer.Shift s) later at h = refl
later_refusal (Answer.Other s f) later at h = refl
later_refusal (Answer.Refused n) later at h = absurd (h n refl)
later_refusal Answer.Skipped later at h = refl
later_refusal (Answer.InStep n) later at h = refl

-- ---- one byte

module _ (text : List ℕ) (r : Reader) (place : ℕ) (inside : place < length text) where
  abbrev here : ℕ
  here = get_or text place 0

  abbrev more : List ℕ
  more = drop (place + 1) text

  abbrev next : Reader
  next = (answer_of r here).reader

  abbrev said : Answer
  said = (answer_of r here).answer

  refusal_here : refusal_from r place text ≡
      first_of (refusal_or (first_refusal (answers_from (place + 1) next more)) place said)
      (refusal_at_end (end_of_text (reader_after next more)) (length text))
  refusal_here =
      ap (λ (l : List ℕ). first_of (first_refusal (answers_from place r l)) (refusal_at_end (end_of_text (reader_after r l)) (length text)))
      (rest text r place inside) ∙
      ap (λ (f : Option Refused). first_of f (refusal_at_end (end_of_text (reader_after r (here ∷ more))) (length text))) (first_here text r place inside) ∙
      ap (λ (e : EndWord). first_of (refusal_or (first_refusal (answers_from (place + 1) next more)) place said)
      (refusal_at_end e (length text))) (end_here text r place inside)

  refusal_later : NoRefusal said → refusal_from r place text ≡ refusal_from next (place + 1) text
  refusal_later no_refusal =
      let later = first_refusal (answers_from (place + 1) next more) in
      refusal_here ∙
      ap (λ (f : Option Refused). first_of f (refusal_at_end (end_of_text (reader_after next more)) (length text)))
      (later_refusal said later place no_refusal)

  written_here : (to : Form) (gl : Element) → IsInStep r.standing → ReadsOn r.form text r place →
      rest_from to r gl place text ≡
      written_for to (beside r gl) said ++ rest_from to next (writer_after to (beside r gl) said).gl (place + 1) text
  unfolding answer_to
  written_here to gl h reads =
      let w = beside r gl in
      let l : List Entry = sequence_from (recording 0 next) more in
      ap (λ (bytes : List ℕ). written_from to w (sequence_from (recording 0 r) bytes)) (rest text r place inside) ∙
      ap (written_from to w) (alone text r place inside reads) ∙
      one_turn said to w l ∙
      ap (λ t. written_for to w said ++ written_from to (record { sets = t; gl = (writer_after to w said).gl }) l)
      (sym (sets_by_the_answer r here h))

module _ {m to : Form} {text lent : List ℕ} {r : Reader} {gl : Element} {at place : ℕ} {buffer : List ℕ}
    (p : Passing m to text lent r gl at place buffer) where
  -- to another place and reader, with the bytes between them in the buffer
  passing_by : (bytes after : List ℕ) (then : Reader) (shown : Element) (there : ℕ) → there ≤ length text →
      IsInStep then.standing → then.form ≡ m → ShowsG1 then → refusal_from r place text ≡ refusal_from then there text →
      rest_from to r gl place text ≡ bytes ++ rest_from to then shown there text →
      length after ≡ length buffer → (at + length bytes ≤ length lent → after ≡ sets buffer at bytes) →
      Passing m to text lent then shown (at + length bytes) there after
  passing_by bytes after then shown there within in_step form shows refusal split as-long-as stored =
      let more : List ℕ = rest_from to then shown there text in
      let whole : (p.so_far ++ bytes) ++ more ≡ output m to text =
      append_assoc p.so_far bytes more ∙ ap (λ (l : List ℕ). p.so_far ++ l) (sym split) ∙ p.whole in
      let long : at + length bytes ≤ length (output m to text) =
      omega (arith, p.counted, ap length whole, length-append (p.so_far ++ bytes) more, length-append p.so_far bytes) in
      record {
        within = within;
        in_step = in_step;
        form = form;
        shows = shows;
        refused = sym refusal ∙ p.refused;
        so_far = p.so_far ++ bytes;
        whole = whole;
        counted = length-append p.so_far bytes ∙ ap (λ (n : ℕ). n + length bytes) p.counted;
        as_long = as-long-as ∙ p.as_long;
        wrote = λ h.
            let room : at + length bytes ≤ length lent = omega arith in
            stored room ∙
            ap (λ (l : List ℕ). sets l at bytes) (p.wrote h) ∙
            over_more p.so_far lent bytes at p.counted room;
      }

  -- an answer that is no refusal, with its bytes in the buffer
  pub passing_goes_on : (inside : place < length text) (bytes after : List ℕ) (shown : Element) →
      let said = (answer_of r (get_or text place 0)).answer in
      ReadsOn m text r place → NoRefusal said → bytes ≡ written_for to (beside r gl) said →
      shown ≡ (writer_after to (beside r gl) said).gl →
      length after ≡ length buffer → (at + length bytes ≤ length lent → after ≡ sets buffer at bytes) →
      Passing m to text lent (answer_of r (get_or text place 0)).reader shown (at + length bytes) (place + 1) after
  passing_goes_on inside bytes after shown reads no_refusal is shows as-long-as stored =
      let b = get_or text place 0 in
      let next : Reader = (answer_of r b).reader in
      passing_by bytes after next shown (place + 1) (omega arith) (in_step_on r b p.in_step no_refusal)
      (form_of r b ∙ p.form) (shows_of r b p.shows) (refusal_later text r place inside no_refusal)
      (written_here text r place inside to gl p.in_step
      (subst (λ (f : Form). ReadsOn f text r place) (sym p.form) reads) ∙
      ap (λ (e : Element). written_for to (beside r gl) (answer_of r b).answer ++ rest_from to next e (place + 1) text) (sym shows) ∙
      ap (λ (l : List ℕ). l ++ rest_from to next shown (place + 1) text) (sym is))
      as-long-as stored

  pub passing_refused : (inside : place < length text) (n : Refusal) →
      (answer_of r (get_or text place 0)).answer ≡ Answer.Refused n → refusal_in m text ≡ Some (refusal_at n place)
  passing_refused inside n e =
      let b = get_or text place 0 in
      let next : Reader = (answer_of r b).reader in
      let later : Option Refused = first_refusal (answers_from (place + 1) next (drop (place + 1) text)) in
      let end : Option Refused = refusal_at_end (end_of_text (reader_after next (drop (place + 1) text))) (length text) in
      sym p.refused ∙ refusal_here text r place inside ∙ ap (λ (a : Answer). first_of (refusal_or later place a) end) e

  -- at the end of the text
  pub passing_ends : length text ≤ place →
      (refusal_in m text ≡ refusal_at_end (end_of_text r) (length text)) ×
      (length (output m to text) ≡ at) ×
      (length (output m to text) ≤ length lent → buffer ≡ over (output m to text) lent)
  passing_ends past =
      let over_it : drop place text ≡ [] = drop_of_length-le text past in
      let all : p.so_far ≡ output m to text =
      sym (append-nil p.so_far) ∙
      ap (λ (l : List ℕ). p.so_far ++ written_from to (beside r gl) (sequence_from (recording 0 r) l)) (sym over_it) ∙
      p.whole in (
        sym p.refused ∙
            ap (λ (l : List ℕ). first_of (first_refusal (answers_from place r l)) (refusal_at_end (end_of_text (reader_after r l)) (length text)))
            over_it,
        ap length (sym all) ∙ p.counted,
        λ h. p.wrote h ∙ ap (λ (l : List ℕ). over l lent) all,
      )

-- ---- an opening, taken whole

module _ {m to : Form} {text lent : List ℕ} {r : Reader} {gl : Element} {at place : ℕ} {buffer : List ℕ}
    (p : Passing m to text lent r gl at place buffer) (ground : r.standing ≡ Standing.InStep Within.Ground)
    (begins : begins_with (drop place text) (opening m) ≡ true) where
  abbrev there : ℕ
  there = place + length (opening m)

  pub opening_within : there ≤ length text
  opening_within = texts.opening_within m text r place p.form p.shows ground begins p.within

  refusal_after : refusal_from r place text ≡ refusal_from (started m) there text
  refusal_after =
      ap (λ (f : Option Refused). first_of f (refusal_at_end (end_of_text (reader_after r (drop place text))) (length text)))
      (first_after m text r place p.form p.shows ground begins) ∙
      ap (λ (e : EndWord). first_of (first_refusal (answers_from there (started m) (drop there text))) (refusal_at_end e (length text)))
      (end_after_lem m text r place p.form p.shows ground begins)

  written_whole : rest_from to r gl place text ≡ opening to ++ rest_from to (started m) Element.G0 there text
  written_whole =
      let w = beside r gl in
      ap (written_from to w) (sequence_after m text r place p.form p.shows ground begins) ∙
      written_opening to w (sequence_from (started m) (drop there text))

  pub passing_opens : (after : List ℕ) → length after ≡ length buffer →
      (at + length (opening to) ≤ length lent → after ≡ sets buffer at (opening to)) →
      Passing m to text lent (started m) Element.G0 (at + length (opening to)) there after
  passing_opens after as_long stored =
      passing_by p (opening to) after (started m) Element.G0 there opening_within tt refl (λ seven. refl) refusal_after written_whole
      as_long stored
