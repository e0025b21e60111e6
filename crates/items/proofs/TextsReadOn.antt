-- A text is read on from a place, by one byte at which no opening is read, or by an opening, taken whole: what is answered, refused and in the
-- sequence from there, and how the text ends, by what follows.
use Rattle.std.proofs.Common.{◌≡◌, ℕ, suc, ◌+◌, ◌<◌, ◌≤◌, true, false, List, [], ◌∷◌, ◌++◌, length, get_or, drop, sym, refl, ap}
use Rattle.std.proofs.Common.{◌∙◌, subst, ⊎_elim, add-zero, add-suc, suc-add, add-one, arith, length-append, length-drop}
use Rattle.std.proofs.Common.{drop-cons, drop-drop}
use Rattle.paper.specs.Starting.{started, opening}
use Rattle.paper.specs.Searching.{begins_with}
use Rattle.paper.specs.Marks.{recording}
use Rattle.paper.specs.Answering.{answer_to, answer_standing, end_of_text}
use Rattle.paper.specs.Texts.{Placed, reader_after, answers_from}
use Rattle.paper.specs.Surveying.{refusal_or, first_refusal}
use Rattle.paper.specs.WrittenForms.{sequence_from}
use Rattle.paper.specs.declared.Form.{Form}
use Rattle.paper.specs.declared.Form.TheVariants.{Seven}
use Rattle.paper.specs.declared.Within.{Within}
use Rattle.paper.specs.declared.Element.TheVariants.{G1}
use Rattle.paper.specs.declared.Standing.{Standing}
use Rattle.paper.specs.declared.Reader.{Reader}
use Rattle.paper.specs.declared.Answer.{Answer}
use Rattle.paper.proofs.Choices.{impossible}
use Rattle.paper.proofs.ListsThatEnd.{begins_rest, rest_begins}
use Rattle.paper.proofs.LawfulAnswers.{IsInStep, Leaves, in_step_lawful}
use Rattle.paper.proofs.AnswersWithoutTheRecord.{answer_of, record_of, answers_alike, reader_alike}
use Rattle.paper.proofs.RecordsNotCompleted.{NotBegins}
use Rattle.paper.proofs.OpeningsTakenWhole.{with_opening, on_ground, opening_whole, reader_past_opening, Alone, byte_alone}
use Rattle.paper.proofs.OpeningsTakenWhole.{byte_elsewhere, ShowsG1}
use Rattle.paper.proofs.WhatIsReadCanBeWritten.{past, refused_after}
use Rattle.items.proofs.ItemsByBytes.{NoRefusal}
use Rattle.items.proofs.ItemsGoOn.{ReadsOn}

-- ---- a reader that refuses nothing stays in step

stays_in_step : (r : Reader) (b : ℕ) (a : Answer) (next : Reader) → Leaves r b a next → NoRefusal a → IsInStep next.standing
stays_in_step r b Answer.NothingYet next l h = l
stays_in_step r b (Answer.Char e x p) next l h = l
stays_in_step r b Answer.Space next l h = l
stays_in_step r b Answer.Delete next l h = l
stays_in_step r b (Answer.Control w f n) next l h = l
stays_in_step r b (Answer.DesignateControls w f) next l h = l
stays_in_step r b (Answer.Designate e x) next l h = l
stays_in_step r b (Answer.Shift s) next l h = l
stays_in_step r b (Answer.Other s f) next l h = l
stays_in_step r b (Answer.Refused n) next l h = absurd (h n refl)
stays_in_step r b Answer.Skipped next l h = absurd l
stays_in_step r b (Answer.InStep n) next l h = absurd l

pub leaves : (r : Reader) (b : ℕ) (s : Standing) → IsInStep s → Leaves r b (answer_standing s b r).answer (answer_standing s b r).reader
leaves r b (Standing.InStep w) h = (in_step_lawful r b w).2
leaves r b (Standing.Lost k n) h = absurd h

pub in_step_on : (r : Reader) (b : ℕ) → IsInStep r.standing → NoRefusal (answer_of r b).answer → IsInStep (answer_of r b).reader.standing
in_step_on r b h no_refusal =
    stays_in_step (recording 0 r) b (answer_of r b).answer (answer_of r b).reader (leaves (recording 0 r) b r.standing h) no_refusal

-- ---- one byte

-- no opening begins where none is ahead
none_begins : (m : Form) (text : List ℕ) → begins_with text (opening m) ≡ false → NotBegins (opening m) text
none_begins m text none rest is =
    let there : begins_with text (opening m) ≡ true =
    ap (λ (l : List ℕ). begins_with l (opening m)) is ∙ rest_begins (opening m) rest in
    impossible (cc)

module _ (text : List ℕ) (r : Reader) (place : ℕ) (inside : place < length text) where
  abbrev pub here : ℕ
  here = get_or text place 0

  abbrev pub more : List ℕ
  more = drop (place + 1) text

  abbrev pub next : Reader
  next = (answer_of r here).reader

  abbrev pub said : Answer
  said = (answer_of r here).answer

  pub rest : drop place text ≡ here ∷ more
  rest = drop-cons text place 0 inside ∙ ap (λ (n : ℕ). here ∷ drop n text) (sym (add-one place))

  pub alone : ReadsOn r.form text r place → Alone r here more
  alone reads = ⊎_elim (byte_elsewhere r here more)
      (λ none. byte_alone r here more (subst (NotBegins (opening r.form)) rest (none_begins r.form (drop place text) none)))
      reads

  pub first_here : first_refusal (answers_from place r (here ∷ more)) ≡ refusal_or (first_refusal (answers_from (place + 1) next more)) place said
  unfolding answer_to
  first_here =
      ap (λ (l : List Placed). refusal_or (first_refusal l) place said) (answers_alike more (suc place) (record_of r here) next.gone next) ∙
      ap (λ (n : ℕ). refusal_or (first_refusal (answers_from n next more)) place said) (sym (add-one place))

  pub end_here : end_of_text (reader_after r (here ∷ more)) ≡ end_of_text (reader_after next more)
  unfolding answer_to
  end_here = ap end_of_text (reader_alike more (record_of r here) next.gone next)

-- ---- an opening, taken whole

past_is : (bs : List ℕ) (at : ℕ) → past at bs ≡ at + length bs
past_is [] at = sym (add-zero at)
past_is (b ∷ bs) at = past_is bs (suc at) ∙ (suc-add at (length bs) ∙ sym (add-suc at (length bs)))

module _ (m : Form) (text : List ℕ) (r : Reader) (place : ℕ) (form : r.form ≡ m) (shows : ShowsG1 r)
    (ground : r.standing ≡ Standing.InStep Within.Ground) (begins : begins_with (drop place text) (opening m) ≡ true) where
  abbrev pub there : ℕ
  there = place + length (opening m)

  abbrev pub after_it : List ℕ
  after_it = drop there text

  text_is : drop place text ≡ opening m ++ after_it
  text_is =
      begins_rest (drop place text) (opening m) begins ∙
      ap (λ (l : List ℕ). opening m ++ l) (drop-drop (length (opening m)) place text)

  abbrev grounded : Reader
  grounded = on_ground m r.sets r.gl r.gr

  same_reader : recording 0 r ≡ grounded
  same_reader i = record {
    form = form i;
    sets = r.sets;
    gl = r.gl;
    gr = r.gr;
    gone = 0;
    standing = ground i;
  }

  shows_g1 : m ≡ Seven → r.gr ≡ G1
  shows_g1 seven = shows (form ∙ seven)

  pub opening_within : place ≤ length text → there ≤ length text
  opening_within within = omega (arith, ap length text_is, length-append (opening m) after_it, length-drop place text, within)

  pub first_after : first_refusal (answers_from place r (drop place text)) ≡ first_refusal (answers_from there (started m) after_it)
  first_after =
      ap (λ (l : List ℕ). first_refusal (answers_from place r l)) text_is ∙
      ap first_refusal (answers_alike (opening m ++ after_it) place r.gone 0 r) ∙
      ap (λ (x : Reader). first_refusal (answers_from place x (opening m ++ after_it))) same_reader ∙
      refused_after m r.sets r.gl r.gr place after_it shows_g1 ∙
      ap (λ (n : ℕ). first_refusal (answers_from n (started m) after_it)) (past_is (opening m) place)

  pub end_after_lem : end_of_text (reader_after r (drop place text)) ≡ end_of_text (reader_after (started m) after_it)
  end_after_lem =
      ap (λ (l : List ℕ). end_of_text (reader_after r l)) text_is ∙
      ap end_of_text (reader_alike (opening m ++ after_it) r.gone 0 r) ∙
      ap (λ (x : Reader). end_of_text (reader_after x (opening m ++ after_it))) same_reader ∙
      ap end_of_text (reader_past_opening m r.sets r.gl r.gr shows_g1 after_it)

  pub sequence_after : sequence_from (recording 0 r) (drop place text) ≡ with_opening (sequence_from (started m) after_it)
  sequence_after =
      ap (λ (l : List ℕ). sequence_from (recording 0 r) l) text_is ∙
      ap (λ (x : Reader). sequence_from x (opening m ++ after_it)) same_reader ∙
      opening_whole m r.sets r.gl r.gr shows_g1 after_it
