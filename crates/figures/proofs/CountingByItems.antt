-- What is counted goes on over an item that is read whole: its bytes before the last one are answered with nothing yet, and the last
-- one has its word. The word tells such an item from a refusal and from an opening.
use Prim.Native.Nat.{ℕ, ◌+◌, ◌≤◌, ◌<◌}
use mathlib.Core.Path.{◌≡◌, refl, sym, ap, subst}
use mathlib.Core.List.{List}
use mathlib.Core.Logic.{◌⊎◌, ⊎_elim}
use native.Mathlib.Omega.{arith}
use lib.ListN.{length, get_or}
use Rattle.paper.specs.Marks.{recording}
use Rattle.paper.specs.Answering.{answer_standing}
use Rattle.paper.specs.Results.{word_of, refused_word}
use Rattle.paper.specs.declared.Form.{Form}
use Rattle.paper.specs.declared.Standing.{Standing}
use Rattle.paper.specs.declared.Reader.{Reader}
use Rattle.paper.specs.declared.Answer.{Answer}
use Rattle.paper.specs.declared.Answered.{Answered}
use Rattle.paper.proofs.Choices.{impossible}
use Rattle.paper.proofs.LawfulAnswers.{IsInStep, Leaves, in_step_lawful}
use Rattle.escapes.specs.Effects.{plain}
use Rattle.escapes.specs.Effects.{word_number}
use Rattle.escapes.specs.declared.effect.Word.{Word}
use Rattle.items.specs.States.{single_in, changed}
use Rattle.items.specs.Items.{Item, item_at}
use Rattle.items.proofs.ItemsByBytes.{WaitsOn, LastByte, Stopped, refused_at, ends_inside_at, Good, reads, stops, Opens}
use Rattle.items.proofs.ItemsByBytes.{good_reads, good_stops}
use Rattle.items.proofs.ItemsGoOn.{items_go_on}
use Rattle.items.proofs.StatesKept.{Same, same_stands, plain_same}
use Rattle.figures.specs.Counting.{added, Counting, Counts}
use Rattle.figures.proofs.RestToCount.{first_stays, counts_more, counts_no_more}
use Rattle.std.specs.Prelude.{Option}
use Rattle.paper.specs.declared.Refused.{Refused}
use Rattle.escapes.specs.Effects.{opening_word}

-- ---- inside an item the reader is in step

abbrev pub CountingOn : Form → List ℕ → List ℕ → Option Refused → Reader → ℕ → Type 0
CountingOn form text counts first r place = IsInStep r.standing × Counting form text counts first r place

leaves : (r : Reader) (b : ℕ) (s : Standing) → IsInStep s → {a : Answered} → answer_standing s b (recording 0 r) ≡ a →
    Leaves (recording 0 r) b a.answer a.reader
leaves r b (Standing.InStep w) h e =
    subst (λ (a : Answered). Leaves (recording 0 r) b a.answer a.reader) e (in_step_lawful (recording 0 r) b w).2
leaves r b (Standing.Lost k n) h e = absurd h

-- so that neither skipped nor instep is answered
word_in_step : (r : Reader) (b : ℕ) (next : Reader) (a : Answer) → Leaves r b a next → word_of a ≤ refused_word
word_in_step r b next Answer.NothingYet h = omega arith
word_in_step r b next (Answer.Char e x p) h = omega arith
word_in_step r b next Answer.Space h = omega arith
word_in_step r b next Answer.Delete h = omega arith
word_in_step r b next (Answer.Control w f n) h = omega arith
word_in_step r b next (Answer.DesignateControls w f) h = omega arith
word_in_step r b next (Answer.Designate e x) h = omega arith
word_in_step r b next (Answer.Shift s) h = omega arith
word_in_step r b next (Answer.Other s f) h = omega arith
word_in_step r b next (Answer.Refused n) h = omega arith
word_in_step r b next Answer.Skipped h = absurd h
word_in_step r b next (Answer.InStep n) h = absurd h

waits_on : (form : Form) (text counts : List ℕ) (first : Option Refused) → WaitsOn text (CountingOn form text counts first)
waits_on form text counts first r next place c inside e elsewhere = (
  leaves r (get_or text place 0) r.standing c.0 e,
  subst (λ (f : Option Refused). Counting form text counts f next (place + 1))
      (first_stays first place Answer.NothingYet (λ n f. impossible (cc)))
      (counts_no_more c.1 (record { answer = Answer.NothingYet; reader = next }) inside e (λ figure. figure.not_nothing_yet refl)),
)

-- ---- an item

pub in_state : {form : Form} {text cells known counts : List ℕ} {first : Option Refused} {place : ℕ} → Same cells known →
    Counts form text cells counts first place → Counts form text known counts first place
in_state same c = record { reader = c.reader; stands = same_stands same c.stands; counting = c.counting }

module _ {form : Form} {text cells counts : List ℕ} {first : Option Refused} {place : ℕ} (c : Counts form text cells counts first place)
    (inside : place < length text) {i : Item} (is : item_at form cells text place ≡ i) where
  abbrev On : Reader → ℕ → Type 0
  On = CountingOn form text counts first

  abbrev IsRight : Item → Type 0
  IsRight x = Opens form text c.reader place x ⊎ Good text On place c.reader.sets cells x

  right : IsRight i
  right =
      let in_step : IsInStep c.reader.standing = subst IsInStep (sym c.stands.stands) tt in
      subst IsRight is
      (items_go_on form text On (waits_on form text counts first) c.reader cells place (λ reads. (in_step, c.counting))
      c.stands c.counting.in_form inside)

  -- what the word tells of it: an opening, an answer, a refusal
  opens_word : Opens form text c.reader place i → word_number i.effect.word ≡ opening_word
  opens_word o = ap (λ (x : Item). word_number x.effect.word) o.is

  last_word : LastByte text On place c.reader.sets cells i → word_number i.effect.word ≤ refused_word
  last_word l =
      let h = leaves l.reader (get_or text l.place 0) l.reader.standing l.holds.0 l.answers in
      omega (arith, l.word_is, word_in_step (recording 0 l.reader) (get_or text l.place 0) l.next l.answer h)

  good_word : Good text On place c.reader.sets cells i → word_number i.effect.word ≤ refused_word
  good_word (reads l) = last_word l
  good_word (stops (refused_at n there e x)) = omega (arith, ap (λ (j : Item). word_number j.effect.word) e)
  good_word (stops (ends_inside_at there e x)) = omega (arith, ap (λ (j : Item). word_number j.effect.word) e)

  pub opens : word_number i.effect.word ≡ opening_word → Opens form text c.reader place i
  opens opening_word_lem = ⊎_elim (λ o. o) (λ g. absurd (omega (arith, good_word g))) right

  pub stopped : refused_word ≤ word_number i.effect.word → (word_number i.effect.word ≡ opening_word → ⊥) → Stopped text On place i
  stopped not_below no_opening =
      ⊎_elim (λ o. absurd (no_opening (opens_word o))) (λ g. good_stops g (omega (arith, good_word g))) right

  module _ (below : word_number i.effect.word < refused_word) where
    last : LastByte text On place c.reader.sets cells i
    last = ⊎_elim (λ o. absurd (omega (arith, opens_word o))) (λ g. good_reads g (λ e. omega arith)) right

    pub item_counts : Counts form text (changed i.effect cells) (added counts (word_number i.effect.word) 1) first i.place
    item_counts = by last
      where
        by : LastByte text On place c.reader.sets cells i →
            Counts form text (changed i.effect cells) (added counts (word_number i.effect.word) 1) first i.place
        by l = record {
          reader = l.next;
          stands = l.has;
          counting =
              rw (l.ends, l.word_is, ← first_stays first l.place l.answer l.no_refusal)
              (counts_more l.holds.1 (record { answer = l.answer; reader = l.next }) l.inside l.answers);
        }

    pub item_onward : (place < i.place) × (i.place ≤ length text)
    item_onward = let e = last.ends in let f = last.from in let h = last.inside in (omega arith, omega arith)

-- an item that changes nothing
pub plain_counts : {form : Form} {text cells counts : List ℕ} {first : Option Refused} {place : ℕ} →
    Counts form text cells counts first place → place < length text → single_in cells ≡ 0 → {word : Word} {value next : ℕ} {bytes : List ℕ} →
    item_at form cells text place ≡ record { effect = plain word value; bytes = bytes; place = next } → word_number word < refused_word →
    Counts form text cells (added counts (word_number word) 1) first next
plain_counts c inside ground {word} {value} is below =
    in_state (plain_same c.stands ground word value) (item_counts c inside is below)
