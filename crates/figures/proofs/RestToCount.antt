-- While a text is read, byte by byte: an answer that has a figure is counted, another one changes no count, and at the end of the
-- text everything is counted. What the reader has recorded of an opening changes nothing of it.
use Prim.Native.Nat.{ℕ, zero, suc, ◌+◌, ◌<◌, ◌≤◌}
use mathlib.Core.Path.{◌≡◌, refl, sym, ap, ◌∙◌, subst}
use mathlib.Core.Bool.{Bool, true, false}
use mathlib.Core.List.{List, [], ◌∷◌}
use native.Mathlib.Omega.{arith}
use native.Mathlib.Numerals.{add-one}
use borrow.Author.Tests.{ne_eqb}
use lib.Dec.{eqb}
use lib.ListN.{length, drop, get_or, replicate, drop_of_length-le, length-set}
use lib.Seq.{drop-cons}
use Rattle.paper.specs.Choice.{◌gives◌or◌}
use Rattle.paper.specs.Refusals.{longest_text}
use Rattle.paper.specs.Results.{word_of, char_word, space_word, delete_word, control_word, designate_word, shift_word}
use Rattle.paper.specs.Results.{other_word, refused_word, instep_word}
use Rattle.paper.specs.Starting.{started}
use Rattle.paper.specs.Answering.{answer_to, end_of_text}
use Rattle.paper.specs.Texts.{Placed, reader_after, answers_from, answers_of, end_word}
use Rattle.paper.specs.Surveying.{how_many, refusal_or, first_refusal, first_of, figures_of}
use Rattle.paper.specs.declared.Form.{Form}
use Rattle.paper.specs.declared.Element.{Element}
use Rattle.paper.specs.declared.Reader.{Reader}
use Rattle.paper.specs.declared.EndWord.{EndWord}
use Rattle.paper.specs.declared.Refusal.{Refusal}
use Rattle.paper.specs.declared.Answer.{Answer}
use Rattle.paper.specs.declared.Answered.{Answered}
use Rattle.paper.proofs.LawfulAnswers.{form_on, shows_on}
use Rattle.paper.proofs.AnswersWithoutTheRecord.{answer_of, record_of, answers_alike, reader_alike}
use Rattle.items.proofs.ItemsByBytes.{NoRefusal}
use Rattle.figures.specs.Counting.{added, Fits, HasFigure, Counting, figures_from}
use Rattle.figures.proofs.AddedCounts.{part, entry, fits_more}
use Rattle.std.specs.Prelude.{Option, Some, None}
use Rattle.paper.specs.declared.Refused.{Refused}

-- ---- an answer

-- a refusal, or one that is passed over
data RefusalOrNot (a : Answer) : Type 0 where
  refusal : (n : Refusal) → a ≡ Answer.Refused n → RefusalOrNot a
  other : ((later : Option Refused) (at : ℕ) → refusal_or later at a ≡ later) → RefusalOrNot a

-- and there are eleven words
about : (a : Answer) → (word_of a < 11) × RefusalOrNot a
about Answer.NothingYet = (omega arith, other (λ l at. refl))
about (Answer.Char e x p) = (omega arith, other (λ l at. refl))
about Answer.Space = (omega arith, other (λ l at. refl))
about Answer.Delete = (omega arith, other (λ l at. refl))
about (Answer.Control w f n) = (omega arith, other (λ l at. refl))
about (Answer.DesignateControls w f) = (omega arith, other (λ l at. refl))
about (Answer.Designate e x) = (omega arith, other (λ l at. refl))
about (Answer.Shift h) = (omega arith, other (λ l at. refl))
about (Answer.Other s f) = (omega arith, other (λ l at. refl))
about (Answer.Refused n) = (omega arith, refusal n refl)
about Answer.Skipped = (omega arith, other (λ l at. refl))
about (Answer.InStep n) = (omega arith, other (λ l at. refl))

word_below : (a : Answer) → word_of a < 11
word_below a = (about a).0

first_last : (first : Option Refused) → first_of first None ≡ first
first_last None = refl
first_last (Some r) = refl

first_more : (first later : Option Refused) (at : ℕ) (a : Answer) →
    first_of (first_of first (refusal_or None at a)) later ≡ first_of first (refusal_or later at a)
first_more first later at a = by first (about a).1
  where
    by : (first : Option Refused) → RefusalOrNot a → first_of (first_of first (refusal_or None at a)) later ≡ first_of first (refusal_or later at a)
    by None (refusal n e) = rw e
    by None (other keeps) = rw (keeps None at, keeps later at)
    by (Some r) x = refl

-- an answer that is no refusal leaves the first one
pub first_stays : (first : Option Refused) (at : ℕ) (a : Answer) → NoRefusal a → first_of first (refusal_or None at a) ≡ first
first_stays first at a never = by (about a).1
  where
    by : RefusalOrNot a → first_of first (refusal_or None at a) ≡ first
    by (refusal n e) = absurd (never n e)
    by (other keeps) = ap (first_of first) (keeps None at) ∙ first_last first

-- ---- the start

zeros : (n w : ℕ) → ◌≡◌ {A = ℕ} (get_or (replicate n 0) w 0) 0
zeros zero w = refl
zeros (suc n) zero = refl
zeros (suc n) (suc w) = zeros n w

pub counting_starts : (form : Form) (text : List ℕ) → length text ≤ longest_text →
    Counting form text (replicate 11 0) None (started form) 0
counting_starts form text short = record {
  fits = record { short = short; within = omega arith; bounded = λ w. rw (zeros 11 w) (omega arith) };
  words = refl;
  in_form = refl;
  gr_shows_g1 = λ seven. refl;
  counted = λ w figure. rw (zeros 11 w) (omega arith);
  refused = refl;
  ends = refl;
}

pub one_and : (t : Bool) (n : ℕ) → (t gives 1 or 0) + n ≡ (t gives suc n or n)
one_and true n = omega arith
one_and false n = omega arith

module _ {form : Form} {text counts : List ℕ} {first : Option Refused} {r : Reader} {place : ℕ}
    (c : Counting form text counts first r place) where
  -- ---- a byte: what the reader has recorded tells neither of the answers nor of the end

  module _ (a : Answered) (inside : place < length text) (answers : answer_of r (get_or text place 0) ≡ a) where
    abbrev next : Answered
    next = answer_of r (get_or text place 0)

    abbrev after_it : List ℕ
    after_it = drop (suc place) text

    abbrev rest : List Placed
    rest = answers_from (suc place) a.reader after_it

    abbrev with_answer_lem : Answer → List Placed → List Placed
    with_answer_lem x l = record { offset = place; answer = x } ∷ l

    next_answers : answers_from place r (drop place text) ≡ with_answer_lem a.answer rest
    unfolding answer_to
    next_answers =
        ap (answers_from place r) (drop-cons text place 0 inside) ∙
        ap (with_answer_lem next.answer)
        (answers_alike after_it (suc place) (record_of r (get_or text place 0)) next.reader.gone next.reader) ∙
        ap (λ (x : Answered). with_answer_lem x.answer (answers_from (suc place) x.reader after_it)) answers

    next_end : end_of_text (reader_after r (drop place text)) ≡ end_of_text (reader_after a.reader after_it)
    unfolding answer_to
    next_end =
        ap (λ (l : List ℕ). end_of_text (reader_after r l)) (drop-cons text place 0 inside) ∙
        ap end_of_text (reader_alike after_it (record_of r (get_or text place 0)) next.reader.gone next.reader) ∙
        ap (λ (x : Answered). end_of_text (reader_after x.reader after_it)) answers

    next_form : a.reader.form ≡ r.form
    unfolding answer_to
    next_form = ap (λ (x : Answered). x.reader.form) (sym answers) ∙ form_on r (get_or text place 0)

    next_shows : a.reader.form ≡ Form.Seven → a.reader.gr ≡ Element.G1
    unfolding answer_to
    next_shows =
        subst (λ (x : Answered). x.reader.form ≡ Form.Seven → x.reader.gr ≡ Element.G1) answers
        (shows_on r (get_or text place 0) c.gr_shows_g1)

    goes_on : (after : List ℕ) → Fits text after (place + 1) → length after ≡ 11 →
        ((w : ℕ) → HasFigure w → get_or after w 0 ≡ get_or counts w 0 + part (word_of a.answer) 1 w) →
        Counting form text after (first_of first (refusal_or None place a.answer)) a.reader (place + 1)
    unfolding part
    goes_on after fits words one =
        let f = rw (add-one place) at fits in
        rw (add-one place)
        (record {
          fits = f;
          words = words;
          in_form = next_form ∙ c.in_form;
          gr_shows_g1 = next_shows;
          counted = λ w figure.
              let e = one w figure in
              let d = one_and (eqb (word_of a.answer) w) (how_many w rest) in
              let g = c.counted w figure in
              let h = ap (how_many w) next_answers in
              omega arith;
          refused =
              first_more first (first_refusal rest) place a.answer ∙
              ap (λ (x : List Placed). first_of first (first_refusal x)) (sym next_answers) ∙ c.refused;
          ends = sym next_end ∙ c.ends;
        })

    pub counts_more : Counting form text (added counts (word_of a.answer) 1) (first_of first (refusal_or None place a.answer))
        a.reader (place + 1)
    counts_more =
        let k : ℕ = word_of a.answer in
        let below = word_below a.answer in
        goes_on (added counts k 1) (fits_more c.fits k 1 refl (omega arith)) (length-set counts k (get_or counts k 0 + 1) ∙ c.words)
        (λ w figure. entry counts k 1 w (omega (arith, c.words)))

    pub counts_no_more : (HasFigure (word_of a.answer) → ⊥) →
        Counting form text counts (first_of first (refusal_or None place a.answer)) a.reader (place + 1)
    unfolding part
    counts_no_more no-figure =
        let f = c.fits in
        goes_on counts
        (record { short = f.short; within = omega arith; bounded = λ w. omega (arith, f.bounded w) })
        c.words
        (λ w figure.
        rw (ne_eqb (word_of a.answer) w (λ e. no-figure (subst HasFigure (sym e) figure))) (omega arith))

  -- ---- at the end of the text

  module _ (past : length text ≤ place) where
    nothing_left : drop place text ≡ []
    nothing_left = drop_of_length-le text past

    first_found : first ≡ first_refusal (answers_of form text)
    first_found =
        sym (first_last first) ∙
        ap (λ (x : List ℕ). first_of first (first_refusal (answers_from place r x))) (sym nothing_left) ∙ c.refused

    end_reached : end_of_text r ≡ end_word form text
    end_reached = ap (λ (x : List ℕ). end_of_text (reader_after r x)) (sym nothing_left) ∙ c.ends

    figure_of : (w : ℕ) → (w ≡ 0 → ⊥) → (w ≡ 9 → ⊥) → how_many w (answers_of form text) ≡ get_or counts w 0
    figure_of w some no-skip =
        let e = c.counted w (record { not_nothing_yet = some; not_skipped = no-skip }) in
        let d = ap (λ (x : List ℕ). how_many w (answers_from place r x)) nothing_left in
        omega arith

    pub all_figures : (end : EndWord) → end_of_text r ≡ end → figures_of form text ≡ figures_from counts first end
    all_figures end is = λ i. record {
      characters = figure_of char_word (λ e. omega arith) (λ e. omega arith) i;
      spaces = figure_of space_word (λ e. omega arith) (λ e. omega arith) i;
      deletes = figure_of delete_word (λ e. omega arith) (λ e. omega arith) i;
      controls = figure_of control_word (λ e. omega arith) (λ e. omega arith) i;
      designations = figure_of designate_word (λ e. omega arith) (λ e. omega arith) i;
      shifts = figure_of shift_word (λ e. omega arith) (λ e. omega arith) i;
      others = figure_of other_word (λ e. omega arith) (λ e. omega arith) i;
      refusals = figure_of refused_word (λ e. omega arith) (λ e. omega arith) i;
      insteps = figure_of instep_word (λ e. omega arith) (λ e. omega arith) i;
      first = sym first_found i;
      end = (sym end_reached ∙ is) i;
    }
