-- A pass over an accepted text goes on by the item at its place. An opening is the next step, whole; a shift is none; every other item says the
-- answer that is the next step. Nothing is refused, and at the end no step is left.
use Prim.Native.Nat.{ℕ, ◌+◌, ◌<◌, ◌≤◌}
use mathlib.Core.Path.{◌≡◌, refl, sym, ap, ◌∙◌, subst}
use mathlib.Core.Logic.{inl, ⊎_elim}
use mathlib.Core.Bool.{Bool, true, false}
use mathlib.Core.List.{List, [], ◌∷◌}
use native.Mathlib.Omega.{arith}
use lib.ListN.{length, get_or, drop, drop_of_length-le}
use Rattle.paper.specs.Choice.{◌gives◌or◌}
use Rattle.paper.specs.Starting.{starting_sets, started, opening}
use Rattle.paper.specs.Marks.{recording}
use Rattle.paper.specs.Answering.{answer_to, end_of_text}
use Rattle.paper.specs.Texts.{reader_after, answers_from}
use Rattle.paper.specs.Surveying.{refusal_or, first_refusal}
use Rattle.paper.specs.Results.{word_of}
use Rattle.paper.specs.WrittenForms.{Entry, given, left_out, with_answer, sequence_from, sequence_of, sets_with}
use Rattle.paper.specs.Conversions.{Accepted}
use Rattle.paper.specs.declared.Form.{Form}
use Rattle.paper.specs.declared.Kind.TheVariants.{Of94}
use Rattle.paper.specs.declared.Sets.{Sets}
use Rattle.paper.specs.declared.Standing.{Standing}
use Rattle.paper.specs.declared.Reader.{Reader}
use Rattle.paper.specs.declared.Answer.{Answer}
use Rattle.paper.specs.declared.Answered.{Answered}
use Rattle.paper.specs.declared.EndWord.{EndWord}
use Rattle.paper.proofs.Choices.{impossible}
use Rattle.paper.proofs.AnswersWithoutTheRecord.{answer_of}
use Rattle.paper.proofs.RecordsNotCompleted.{form_of}
use Rattle.paper.proofs.OpeningsTakenWhole.{with_opening, shows_of}
use Rattle.paper.proofs.WhatCanBeWritten.{Steps, ended, said, opened, entries_of, AllCanBeWritten, InSteps, Stands}
use Rattle.paper.proofs.WhatIsReadCanBeWritten.{rest_can_be_written}
use Rattle.paper.proofs.WrittenTurnByTurn.{later_refuse_nothing, sets_by_the_answer}
use Rattle.paper.proofs.WrittenAnswersReadBack.{keeps_g0}
use Rattle.paper.proofs.TextsThatAreAccepted.{refuses_nothing, accepted_ends_whole}
use Rattle.escapes.specs.Effects.{word_number}
use Rattle.items.specs.States.{changed, starting_cells, Single}
use Rattle.items.specs.States as states
use Rattle.items.specs.Items.{Item, item_at}
use Rattle.items.proofs.ItemsByBytes.{WaitsOn, NoRefusal, said_bytes, Said, LastByte, Stopped, refused_at, ends_inside_at, Opens, Good, reads, stops}
use Rattle.items.proofs.ItemsGoOn.{ReadsOn, items_go_on}
use Rattle.items.proofs.TextsReadOn.{in_step_on, rest, alone, first_here, end_here, opening_within, first_after, end_after_lem, sequence_after}
use Rattle.shortest.specs.ShortestText.{steps_of}
use Rattle.shortest.proofs.TheShortestText.{steps_again, can, as_steps}
use Rattle.shortest.proofs.NoneComesBefore.{sets_stay}
use Rattle.shortener.specs.Going.{Reading, Going}
use Rattle.std.specs.Prelude.{Option, None}
use Rattle.paper.specs.declared.Refused.{Refused}
use Rattle.escapes.specs.Effects.{opening_word}

-- steps by their entries
one_of_entries : (s other : Steps) → entries_of s ≡ entries_of other → s ≡ other
one_of_entries s other e = sym (steps_again s) ∙ ap steps_of e ∙ steps_again other

-- ---- one byte

module _ {m : Form} {text : List ℕ} {t : Sets} {r : Reader} {place : ℕ} (p : Reading m text t r place) (inside : place < length text) where
  abbrev b : ℕ
  b = get_or text place 0

  abbrev next : Reader
  next = (answer_of r b).reader

  abbrev a : Answer
  a = (answer_of r b).answer

  abbrev later : Option Refused
  later = first_refusal (answers_from (place + 1) next (drop (place + 1) text))

  nothing_refused : refusal_or later place a ≡ None
  nothing_refused =
      sym (first_here text r place inside) ∙ sym (ap (λ (l : List ℕ). first_refusal (answers_from place r l)) (rest text r place inside)) ∙ p.never

  no_refusal_here : NoRefusal a
  no_refusal_here n e = impossible (cc (ap (refusal_or later place) e, nothing_refused))

  -- the rest of the sequence follows its answer
  read_on : ReadsOn m text r place →
      sequence_from (recording 0 r) (drop place text) ≡ with_answer a (sequence_from (recording 0 next) (drop (place + 1) text))
  read_on here =
      ap (sequence_from (recording 0 r)) (rest text r place inside) ∙
      alone text r place inside (subst (λ (f : Form). ReadsOn f text r place) (sym p.form) here)

  byte_on : Reading m text (sets_with t a) next (place + 1)
  unfolding answer_to
  byte_on = record {
    within = omega arith;
    in_step = in_step_on r b p.in_step no_refusal_here;
    form = form_of r b ∙ p.form;
    shows = shows_of r b p.shows;
    sets_are = sets_by_the_answer r b p.in_step ∙ ap (λ (t : Sets). sets_with t a) p.sets_are;
    never = later_refuse_nothing a place later nothing_refused;
    whole = sym (ap (λ (l : List ℕ). end_of_text (reader_after r l)) (rest text r place inside) ∙ end_here text r place inside) ∙ p.whole;
  }

-- ---- an item

some_bytes : (m : Form) → 0 < length (opening m)
some_bytes Form.Seven = omega arith
some_bytes Form.Eight = omega arith

-- between two items nothing is begun
stands_between : (t : Sets) (u : Single) (x : Standing) → x ≡ Standing.InStep (states.within_of u) → Stands t x
stands_between t states.none x e = subst (Stands t) (sym e) tt
stands_between t (states.one g) x e = subst (Stands t) (sym e) tt

-- what an item makes of a pass
pub data Tells (m : Form) (text cells : List ℕ) (place : ℕ) (s : Steps) (t : Sets) (i : Item) : Type 0 where
  opens : place < i.place → word_number i.effect.word ≡ opening_word → (then : Steps) → s ≡ opened then →
      Going m text starting_cells i.place then starting_sets → Tells m text cells place s t i
  passes : place < i.place → (x : Answer) → word_number i.effect.word ≡ word_of x → left_out x ≡ true →
      Going m text (changed i.effect cells) i.place s t → Tells m text cells place s t i
  says : place < i.place → (x : Answer) → word_number i.effect.word ≡ word_of x → i.bytes ≡ said_bytes x →
      Said x i.effect.value → left_out x ≡ false → (then : Steps) → s ≡ said x then →
      Going m text (changed i.effect cells) i.place then (sets_with t x) → Tells m text cells place s t i

module _ {m : Form} {text cells : List ℕ} {place : ℕ} {s : Steps} {t : Sets} (g : Going m text cells place s t) (inside : place < length text) where
  abbrev i : Item
  i = item_at m cells text place

  -- read so far of the item
  abbrev Begun : Reader → ℕ → Type 0
  Begun r here = Reading m text t r here × ReadsOn m text r here × (sequence_from (recording 0 r) (drop here text) ≡ entries_of s)

  waits_on : WaitsOn text Begun
  waits_on r on here p within is elsewhere = (
    subst (λ (y : Answered). Reading m text (sets_with t y.answer) y.reader (here + 1)) is (byte_on p.0 within),
    inl elsewhere,
    subst (λ (y : Answered). with_answer y.answer (sequence_from (recording 0 y.reader) (drop (here + 1) text)) ≡ entries_of s) is
        (sym (read_on p.0 within p.1) ∙ p.2),
  )

  -- the steps after an opening
  opening_tells : Opens m text g.reader place i → Tells m text cells place s t i
  opening_tells o =
      let p = g.reading in
      let r : Reader = g.reader in
      let there : ℕ = place + length (opening m) in
      let never : first_refusal (answers_from there (started m) (drop there text)) ≡ None =
      sym (first_after m text r place p.form p.shows o.ground o.begins) ∙ p.never in
      let after = rest_can_be_written (drop there text) (started m) (λ seven. refl) there tt never in
      let place_is : i.place ≡ there = ap (λ (x : Item). x.place) o.is in
      opens (omega (arith, place_is, some_bytes m)) (ap (λ (x : Item). word_number x.effect.word) o.is) after.steps
      (one_of_entries s (opened after.steps)
      (sym g.left ∙ sequence_after m text r place p.form p.shows o.ground o.begins ∙ ap with_opening after.is))
      (subst (λ (n : ℕ). Going m text starting_cells n after.steps starting_sets) (sym place_is) (record {
        reader = started m;
        stands = record { single = states.none; left = 0; has = refl; stands = refl; nothing_gone = refl };
        reading = record {
          within = opening_within m text r place p.form p.shows o.ground o.begins p.within;
          in_step = tt;
          form = refl;
          shows = λ seven. refl;
          sets_are = refl;
          never = never;
          whole = sym (end_after_lem m text r place p.form p.shows o.ground o.begins) ∙ p.whole;
        };
        left = after.is;
        all = after.all;
        g0 = refl;
      }))

  -- an answer, with what is left after it
  module _ (l : LastByte text Begun place g.reader.sets cells i) where
    abbrev x : Answer
    x = l.answer

    abbrev then_read : List Entry
    then_read = sequence_from (recording 0 l.next) (drop (l.place + 1) text)

    reading_on : Reading m text (sets_with t x) l.next (l.place + 1)
    reading_on =
        subst (λ (y : Answered). Reading m text (sets_with t y.answer) y.reader (l.place + 1)) l.answers
        (byte_on l.holds.0 l.inside)

    joined : with_answer x then_read ≡ entries_of s
    joined =
        subst (λ (y : Answered). with_answer y.answer (sequence_from (recording 0 y.reader) (drop (l.place + 1) text)) ≡ entries_of s)
        l.answers (sym (read_on l.holds.0 l.inside l.holds.1) ∙ l.holds.2)

    after : InSteps l.next.sets then_read
    after = rest_can_be_written (drop (l.place + 1) text) l.next reading_on.shows (l.place + 1)
        (stands_between l.next.sets l.has.single l.next.standing l.has.stands) reading_on.never

    going_on : (then : Steps) → then_read ≡ entries_of then → (u : Sets) → sets_with t x ≡ u → AllCanBeWritten u then → u.g0.kind ≡ Of94 →
        Going m text (changed i.effect cells) i.place then u
    going_on then is u sets all g0 =
        subst (λ (n : ℕ). Going m text (changed i.effect cells) n then u) (sym l.ends) (record {
          reader = l.next;
          stands = l.has;
          reading = subst (λ (u : Sets). Reading m text u l.next (l.place + 1)) sets reading_on;
          left = is;
          all = all;
          g0 = g0;
        })

    onward : place < i.place
    onward = omega (arith, l.from, l.ends)

    answer_tells : Tells m text cells place s t i
    answer_tells = by (left_out x) refl joined
      where
        by : (out : Bool) → left_out x ≡ out → (out gives then_read or given x ∷ then_read) ≡ entries_of s → Tells m text cells place s t i
        by true out same = passes onward x l.word_is out (going_on s same t (sets_stay x t out) g.all g.g0)
        by false kept same =
            let is : s ≡ said x after.steps =
            one_of_entries s (said x after.steps) (sym same ∙ ap (λ (k : List Entry). given x ∷ k) after.is) in
            let all : AllCanBeWritten t (said x after.steps) = subst (AllCanBeWritten t) is g.all in
            says onward x l.word_is l.bytes_are l.value_is kept after.steps is
            (going_on after.steps after.is (sets_with t x) refl all.2 (keeps_g0 x t all.1 g.g0))

  -- nothing is refused
  never_stopped : Stopped text Begun place i → ⊥
  never_stopped (refused_at n there is r) =
      no_refusal_here r.holds.0 r.inside n (ap (λ (y : Answered). y.answer) r.answers)
  never_stopped (ends_inside_at there is r) =
      let past : length text ≤ there = omega (arith, r.at_end) in
      let over : drop there text ≡ [] = drop_of_length-le text past in
      let ends : end_of_text r.reader ≡ EndWord.Whole =
      ap (λ (l : List ℕ). end_of_text (reader_after r.reader l)) (sym over) ∙ r.holds.0.whole in
      impossible (cc (ends, r.end))

  pub item_tells : Tells m text cells place s t i
  item_tells = ⊎_elim opening_tells by
      (items_go_on m text Begun waits_on g.reader cells place (λ here. (g.reading, here, g.left)) g.stands g.reading.form inside)
    where
      by : Good text Begun place g.reader.sets cells i → Tells m text cells place s t i
      by (reads l) = answer_tells l
      by (stops r) = absurd (never_stopped r)

-- no answer has the word of an opening
pub no_opening_word : (x : Answer) → word_of x ≡ opening_word → ⊥
no_opening_word Answer.NothingYet e = omega arith
no_opening_word (Answer.Char f y p) e = omega arith
no_opening_word Answer.Space e = omega arith
no_opening_word Answer.Delete e = omega arith
no_opening_word (Answer.Control w f n) e = omega arith
no_opening_word (Answer.DesignateControls w f) e = omega arith
no_opening_word (Answer.Designate f y) e = omega arith
no_opening_word (Answer.Shift h) e = omega arith
no_opening_word (Answer.Other k f) e = omega arith
no_opening_word (Answer.Refused n) e = omega arith
no_opening_word Answer.Skipped e = omega arith
no_opening_word (Answer.InStep n) e = omega arith

-- ---- the start and the end

pub going_at_start : (m : Form) (text : List ℕ) → Accepted m text →
    Going m text starting_cells 0 (steps_of (sequence_of m text)) starting_sets
going_at_start m text accepted =
    let steps = can m text accepted in
    let same : steps_of (sequence_of m text) ≡ steps.steps = as_steps m text accepted in
    record {
      reader = started m;
      stands = record { single = states.none; left = 0; has = refl; stands = refl; nothing_gone = refl };
      reading = record {
        within = omega arith;
        in_step = tt;
        form = refl;
        shows = λ seven. refl;
        sets_are = refl;
        never = refuses_nothing m text accepted;
        whole = accepted_ends_whole m text accepted;
      };
      left = steps.is ∙ ap entries_of (sym same);
      all = subst (AllCanBeWritten starting_sets) (sym same) steps.all;
      g0 = refl;
    }

pub no_step_left : {m : Form} {text cells : List ℕ} {place : ℕ} {s : Steps} {t : Sets} → Going m text cells place s t → length text ≤ place →
    s ≡ ended
no_step_left {m} {text} {cells} {place} {s} g past =
    let over : drop place text ≡ [] = drop_of_length-le text past in
    one_of_entries s ended (sym g.left ∙ ap (λ (l : List ℕ). sequence_from (recording 0 g.reader) l) over)
