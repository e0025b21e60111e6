-- A pass goes on by the item at its place: what is written for it is what the paper writes for its answer, or it stops with the refusal of
-- the text.
use Prim.Native.Nat.{ℕ, ◌+◌, ◌*◌, ◌<◌, ◌≤◌}
use mathlib.Core.Path.{◌≡◌, refl, sym, ap, ◌∙◌, subst}
use mathlib.Core.Logic.{◌⊎◌, inl, ⊎_elim}
use mathlib.Core.List.{List, []}
use native.Mathlib.Nat.{add-zero}
use native.Mathlib.Omega.{arith}
use borrow.Author.Tests.{le-leb}
use lib.ListN.{length, get_or, length-append}
use lib.Seq.{sets}
use Rattle.paper.specs.Starting.{started, opening}
use Rattle.paper.specs.Marks.{recording}
use Rattle.paper.specs.Sets.{set_in}
use Rattle.paper.specs.Results.{element_number, word_of, control_word, refused_word}
use Rattle.paper.specs.WrittenForms.{Locking, none, shift_in, shift_out, Writer, gl_with, locking, written_for, writer_after}
use Rattle.paper.specs.Conversions.{refusal_at_end, refusal_in}
use Rattle.paper.specs.declared.Form.{Form}
use Rattle.paper.specs.declared.ControlElement.{ControlElement}
use Rattle.paper.specs.declared.Element.{Element}
use Rattle.paper.specs.declared.EndWord.{EndWord}
use Rattle.paper.specs.declared.Reader.{Reader}
use Rattle.paper.specs.declared.Refusal.{Refusal}
use Rattle.paper.specs.declared.Answer.{Answer}
use Rattle.paper.specs.declared.Answered.{Answered}
use Rattle.paper.specs.declared.Sets.{Sets}
use Rattle.paper.proofs.Choices.{impossible}
use Rattle.paper.proofs.LawfulAnswers.{IsInStep, Leaves}
use Rattle.paper.proofs.AnswersWithoutTheRecord.{answer_of}
use Rattle.paper.proofs.OutputWithin.{output_within}
use Rattle.openings.specs.InBuffers.{with_opening}
use Rattle.refusals.specs.ByNumber.{refusal_of}
use Rattle.refusals.proofs.RefusalsByNumber.{refusal_kept}
use Rattle.charsets.specs.Sizes.{kind_of}
use Rattle.escapes.specs.Effects.{word_number}
use Rattle.items.specs.Pieces.{bytes_in, Small}
use Rattle.items.specs.States.{size_in, changed, starting_cells}
use Rattle.items.specs.States as states
use Rattle.items.specs.Items.{Item, item_at}
use Rattle.items.proofs.BytesInANumber.{length_of_bytes}
use Rattle.items.proofs.CharactersGoOn.{kind_in}
use Rattle.items.proofs.ItemsByBytes.{WaitsOn, NoRefusal, said_bytes, LastByte, Stopped, refused_at, ends_inside_at, Opens, Good}
use Rattle.items.proofs.ItemsByBytes.{good_reads, good_stops}
use Rattle.items.proofs.ItemsGoOn.{ReadsOn, items_go_on}
use Rattle.items.proofs.TextsReadOn.{leaves}
use Rattle.converter.specs.Passing.{beside, rest_from, Passing, OfTwo, Passes}
use Rattle.converter.specs.Writing.{Wrote, writes, Writable}
use Rattle.converter.proofs.MostFiveBytes.{at_most_five}
use Rattle.converter.proofs.PassGoesOn.{passing_starts, passing_goes_on, passing_refused, passing_ends, opening_within}
use Rattle.converter.proofs.PassGoesOn.{passing_opens}
use Rattle.converter.proofs.WritesAnswers.{writes_answer}
use Rattle.std.specs.Prelude.{Some}
use Rattle.paper.specs.Refusals.{refusal_at}
use Rattle.escapes.specs.Effects.{opening_word}

pub passes_start : (m to : Form) (text lent : List ℕ) → Passes m to text lent starting_cells (element_number Element.G0) 0 0 lent
passes_start m to text lent = record {
  reader = started m;
  gl = Element.G0;
  shown_is = refl;
  of_two = tt;
  stands = record { single = states.none; left = 0; has = refl; stands = refl; nothing_gone = refl };
  passing = passing_starts m to text lent;
}

-- ---- an answer that takes no locking shift

alone_written : (to : Form) (w : Writer) → written_for to w Answer.NothingYet ≡ []
alone_written Form.Seven w = refl
alone_written Form.Eight w = refl

alone_shown : (to : Form) (w : Writer) → (writer_after to w Answer.NothingYet).gl ≡ w.gl
alone_shown Form.Seven w = refl
alone_shown Form.Eight w = refl

-- GL shows one of two after any shift
two_again : (shift : Locking) (gl : Element) → OfTwo gl → OfTwo (gl_with shift gl)
two_again none gl two = two
two_again shift_in gl two = tt
two_again shift_out gl two = tt

-- ---- how many bytes an item has

one_of_control : (a : Answer) → word_of a ≡ control_word → length (said_bytes a) ≡ 1
one_of_control Answer.NothingYet e = absurd (omega arith)
one_of_control (Answer.Char x s p) e = absurd (omega arith)
one_of_control Answer.Space e = refl
one_of_control Answer.Delete e = refl
one_of_control (Answer.Control ControlElement.C0 f n) e = refl
one_of_control (Answer.Control ControlElement.C1 f n) e = refl
one_of_control (Answer.DesignateControls v f) e = absurd (omega arith)
one_of_control (Answer.Designate x s) e = absurd (omega arith)
one_of_control (Answer.Shift h) e = absurd (omega arith)
one_of_control (Answer.Other s f) e = absurd (omega arith)
one_of_control (Answer.Refused n) e = absurd (omega arith)
one_of_control Answer.Skipped e = absurd (omega arith)
one_of_control (Answer.InStep n) e = absurd (omega arith)

-- ---- what a reader in step answers, but for refusals, has a word below theirs

below : (r : Reader) (b : ℕ) (a : Answer) (next : Reader) → Leaves r b a next → NoRefusal a → word_of a < refused_word
below r b Answer.NothingYet next l h = omega arith
below r b (Answer.Char e x p) next l h = omega arith
below r b Answer.Space next l h = omega arith
below r b Answer.Delete next l h = omega arith
below r b (Answer.Control w f n) next l h = omega arith
below r b (Answer.DesignateControls w f) next l h = omega arith
below r b (Answer.Designate e x) next l h = omega arith
below r b (Answer.Shift s) next l h = omega arith
below r b (Answer.Other s f) next l h = omega arith
below r b (Answer.Refused n) next l h = absurd (h n refl)
below r b Answer.Skipped next l h = absurd l
below r b (Answer.InStep n) next l h = absurd l

answer_below : (r : Reader) (b : ℕ) (a : Answer) (next : Reader) → IsInStep r.standing →
    answer_of r b ≡ record { answer = a; reader = next } → NoRefusal a → word_of a < refused_word
answer_below r b a next in_step is =
    below (recording 0 r) b a next
    (subst (λ (x : Answered). Leaves (recording 0 r) b x.answer x.reader) is (leaves (recording 0 r) b r.standing in_step))

opening_longer : (m : Form) → 0 < length (opening m)
opening_longer Form.Seven = omega arith
opening_longer Form.Eight = omega arith

-- an opening that was put into a buffer with room for it
pub put_whole : (to : Form) (buffer : List ℕ) (at : ℕ) → at + length (opening to) ≤ length buffer →
    with_opening to buffer at ≡ sets buffer at (opening to)
unfolding with_opening
put_whole to buffer at room = rw (le-leb (at + length (opening to)) (length buffer) room)

-- ---- what an item tells of a pass

module _ (m to : Form) (text lent : List ℕ) (gl : Element) (at : ℕ) (buffer : List ℕ) where
  -- nothing of the item is written yet, and no opening is read here
  abbrev Unwritten : Reader → ℕ → Type 0
  Unwritten r place = Passing m to text lent r gl at place buffer × ReadsOn m text r place

  waits_on : WaitsOn text Unwritten
  waits_on r next place p inside is elsewhere =
      let says : (answer_of r (get_or text place 0)).answer ≡ Answer.NothingYet = ap (λ (a : Answered). a.answer) is in
      let u : Writer = beside r gl in
      let on : Passing m to text lent next gl (at + 0) (place + 1) buffer =
      subst (λ (a : Answered). Passing m to text lent a.reader gl (at + 0) (place + 1) buffer) is
      (passing_goes_on p.0 inside [] buffer gl p.1
      (λ n e. impossible (cc))
      (sym (alone_written to u) ∙ ap (λ (a : Answer). written_for to u a) (sym says))
      (sym (alone_shown to u) ∙ ap (λ (a : Answer). (writer_after to u a).gl) (sym says))
      refl (λ h. refl)) in
      (subst (λ (n : ℕ). Passing m to text lent next gl n (place + 1) buffer) (add-zero at) on, inl elsewhere)

  stopped_refuses : {start : ℕ} {i : Item} → Stopped text Unwritten start i →
      refusal_in m text ≡ Some (refusal_at (refusal_of i.effect.value) i.place)
  stopped_refuses {start} {i} (refused_at n there is r) =
      passing_refused r.holds.0 r.inside n (ap (λ (a : Answered). a.answer) r.answers) ∙
      ap (λ (x : Refusal). Some (refusal_at x there)) (sym (refusal_kept n)) ∙
      ap (λ (x : Item). Some (refusal_at (refusal_of x.effect.value) x.place)) (sym is)
  stopped_refuses {start} {i} (ends_inside_at there is r) =
      (passing_ends r.holds.0 (omega (arith, r.at_end))).0 ∙
      ap (λ (x : EndWord). refusal_at_end x (length text)) r.end ∙
      ap (λ (n : ℕ). Some (refusal_at Refusal.EndsInside n)) (sym r.at_end) ∙
      ap (λ (x : Refusal). Some (refusal_at x there)) (sym (refusal_kept Refusal.EndsInside)) ∙
      ap (λ (x : Item). Some (refusal_at (refusal_of x.effect.value) x.place)) (sym is)

module _ {m to : Form} {text lent cells : List ℕ} {shown at place : ℕ} {buffer : List ℕ}
    (p : Passes m to text lent cells shown at place buffer) where
  -- what is written so far is within the output, and that within three times the text
  pub within_thrice : at ≤ 3 * length text
  within_thrice =
      let q = p.passing in
      omega (
        arith,
        q.counted,
        ap length q.whole,
        length-append q.so_far (rest_from to p.reader p.gl place text),
        output_within m to text,
      )

  module _ (inside : place < length text) (i : Item) (is : item_at m cells text place ≡ i) where
    abbrev Here : Reader → ℕ → Type 0
    Here = Unwritten m to text lent p.gl at buffer

    abbrev Opened : Type 0
    Opened = Opens m text p.reader place i

    whole_or_good : Opened ⊎ Good text Here place p.reader.sets cells i
    whole_or_good =
        subst (λ (x : Item). Opens m text p.reader place x ⊎ Good text Here place p.reader.sets cells x) is
        (items_go_on m text Here (waits_on m to text lent p.gl at buffer) p.reader cells place (λ reads. (p.passing, reads)) p.stands
        p.passing.form inside)

    opening_word_lem : Opened → word_number i.effect.word ≡ opening_word
    opening_word_lem o = ap (λ (x : Item). word_number x.effect.word) o.is

    -- an item that stops
    pub item_refused : word_number i.effect.word ≡ refused_word → refusal_in m text ≡ Some (refusal_at (refusal_of i.effect.value) i.place)
    item_refused stop = ⊎_elim
        (λ o. absurd (omega (arith, opening_word_lem o, stop)))
        (λ good. stopped_refuses m to text lent p.gl at buffer (good_stops good stop))
        whole_or_good

    -- an opening
    module _ (neither : (word_number i.effect.word < refused_word → ⊥) × (word_number i.effect.word ≡ refused_word → ⊥)) where
      opened : Opened
      opened = ⊎_elim (λ o. o) (λ good. absurd (neither.0 (reads_below (good_reads good neither.1)))) whole_or_good
        where
          reads_below : LastByte text Here place p.reader.sets cells i → word_number i.effect.word < refused_word
          reads_below l = rw l.word_is
              (answer_below l.reader (get_or text l.place 0) l.answer l.next l.holds.0.in_step l.answers l.no_refusal)

      pub opening_place : i.place ≡ place + length (opening m)
      opening_place = ap (λ (x : Item). x.place) opened.is

      pub opening_onward : (place < i.place) × (i.place ≤ length text)
      opening_onward =
          let bound = opening_within p.passing opened.ground opened.begins in
          (omega (arith, opening_place, opening_longer m), omega (arith, opening_place, bound))

      pub opening_goes_on : (after : List ℕ) → length after ≡ length buffer →
          (at + length (opening to) ≤ length lent → after ≡ sets buffer at (opening to)) →
          Passes m to text lent starting_cells (element_number Element.G0) (at + length (opening to)) i.place after
      opening_goes_on after as_long stored = record {
        reader = started m;
        gl = Element.G0;
        shown_is = refl;
        of_two = tt;
        stands = record { single = states.none; left = 0; has = refl; stands = refl; nothing_gone = refl };
        passing = subst (λ (n : ℕ). Passing m to text lent (started m) Element.G0 (at + length (opening to)) n after) (sym opening_place)
            (passing_opens p.passing opened.ground opened.begins after as_long stored);
      }

    -- one that is written
    module _ (goes : word_number i.effect.word < refused_word) where
      last : LastByte text Here place p.reader.sets cells i
      last = ⊎_elim
          (λ o. absurd (omega (arith, opening_word_lem o, goes)))
          (λ good. good_reads good (λ e. omega (arith, e, goes)))
          whole_or_good

      pub item_onward : place < i.place
      item_onward = omega (arith, last.from, last.ends)

      pub item_writable : (piece : _) → bytes_in piece ≡ i.bytes → Small piece → Writable i.effect piece
      item_writable piece are small =
          let long = sym (length_of_bytes piece) ∙ ap length are ∙ ap length last.bytes_are in record {
            small = small;
            of_control = λ e. long ∙ one_of_control last.answer (sym last.word_is ∙ e);
          }

      abbrev written : Wrote
      written = writes to shown cells i.effect i.bytes

      abbrev writer : Writer
      writer = beside last.reader p.gl

      as_answer : written ≡ record {
        bytes = written_for to writer last.answer;
        shown = element_number (writer_after to writer last.answer).gl;
      }
      as_answer =
          let kinds : kind_of (size_in cells (element_number p.gl)) ≡ (set_in last.reader.sets p.gl).kind =
          ap (λ (c : List ℕ). kind_of (size_in c (element_number p.gl))) p.stands.has ∙
          kind_in p.reader p.stands.single p.stands.left p.gl ∙
          ap (λ (t : Sets). (set_in t p.gl).kind) (sym last.sets_are) in
          ap (λ (n : ℕ). writes to n cells i.effect i.bytes) p.shown_is ∙
          writes_answer writer cells kinds i.effect i.bytes to last.answer last.word_is last.bytes_are last.value_is

      pub item_is_small : length (writes to shown cells i.effect i.bytes).bytes ≤ 5
      item_is_small =
          omega (arith, ap (λ (w : Wrote). length w.bytes) as_answer, at_most_five to writer last.answer)

      pub item_goes_on : (after : List ℕ) → length after ≡ length buffer →
          (at + length (writes to shown cells i.effect i.bytes).bytes ≤ length lent →
          after ≡ sets buffer at (writes to shown cells i.effect i.bytes).bytes) →
          Passes m to text lent (changed i.effect cells) (writes to shown cells i.effect i.bytes).shown
          (at + length (writes to shown cells i.effect i.bytes).bytes) i.place after
      item_goes_on after as_long stored =
          let l = last in
          let says : (answer_of l.reader (get_or text l.place 0)).answer ≡ l.answer = ap (λ (a : Answered). a.answer) l.answers in
          let then : Element = (writer_after to writer l.answer).gl in
          let bytes : List ℕ = written.bytes in
          record {
            reader = l.next;
            gl = then;
            shown_is = ap (λ (w : Wrote). w.shown) as_answer;
            of_two = two_again (locking to writer l.answer) p.gl p.of_two;
            stands = l.has;
            passing = subst (λ (n : ℕ). Passing m to text lent l.next then (at + length bytes) n after) (sym l.ends)
                (subst (λ (a : Answered). Passing m to text lent a.reader then (at + length bytes) (l.place + 1) after) l.answers
                (passing_goes_on l.holds.0 l.inside bytes after then l.holds.1
                (λ n f. l.no_refusal n (sym says ∙ f))
                (ap (λ (w : Wrote). w.bytes) as_answer ∙ ap (λ (a : Answer). written_for to writer a) (sym says))
                (ap (λ (a : Answer). (writer_after to writer a).gl) (sym says))
                as_long stored));
          }
