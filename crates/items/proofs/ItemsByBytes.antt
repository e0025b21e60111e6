-- An item that is read whole is what the reader answers byte by byte: nothing yet up to its last byte, then one answer, which the item
-- says; or a refusal at the same place.
use Rattle.std.proofs.Common.{◌≡◌, ℕ, ◌+◌, ◌<◌, ◌≤◌, true, false, List, length, get_or, drop, sym, refl, ap, ◌∙◌, arith}
use Rattle.paper.specs.CodeTable.{form_has, bit8}
use Rattle.paper.specs.Starting.{opening}
use Rattle.paper.specs.Searching.{begins_with}
use Rattle.paper.specs.Characters.{says, waits, refuses}
use Rattle.paper.specs.Answering.{answer_in_step, answer_within, end_within, end_of_text}
use Rattle.paper.specs.Results.{element_number, position_values, word_of, refused_word}
use Rattle.paper.specs.WrittenForms.{bytes_of_answer}
use Rattle.paper.specs.declared.Form.{Form}
use Rattle.paper.specs.declared.ControlElement.{ControlElement}
use Rattle.paper.specs.declared.Element.{Element}
use Rattle.paper.specs.declared.EndWord.{EndWord}
use Rattle.paper.specs.declared.Sets.{Sets}
use Rattle.paper.specs.declared.Within.{Within}
use Rattle.paper.specs.declared.Standing.{Standing}
use Rattle.paper.specs.declared.Reader.{Reader}
use Rattle.paper.specs.declared.Refusal.{Refusal}
use Rattle.paper.specs.declared.Answer.{Answer}
use Rattle.paper.proofs.AnswersWithoutTheRecord.{answer_of}
use Rattle.paper.proofs.OpeningsTakenWhole.{Elsewhere}
use Rattle.paper.proofs.ReadingOn.{reader_with, in_form}
use Rattle.escapes.specs.Effects.{word_number, plain}
use Rattle.escapes.specs.declared.effect.Word.{Word}
use Rattle.items.specs.States.{changed, Single, none, cells_of, Stands}
use Rattle.items.specs.Items.{Item, refused, opening_item}

-- what holds of a reader at a place goes on over a byte that is answered with nothing yet
abbrev pub WaitsOn : List ℕ → (Reader → ℕ → Type 0) → Type 0
WaitsOn text P =
    (r next : Reader) (place : ℕ) → P r place → place < length text →
    answer_of r (get_or text place 0) ≡ record { answer = Answer.NothingYet; reader = next } → Elsewhere next.standing → P next (place + 1)

abbrev pub NoRefusal : Answer → Type 0
NoRefusal a = (n : Refusal) → a ≡ Answer.Refused n → ⊥

-- the bytes of an item that says an answer: a character's position bytes; of all else what is written in 8-bit form
abbrev pub said_bytes : Answer → List ℕ
said_bytes Answer.NothingYet = bytes_of_answer Form.Eight Answer.NothingYet
said_bytes (Answer.Char e x p) = position_values p
said_bytes Answer.Space = bytes_of_answer Form.Eight Answer.Space
said_bytes Answer.Delete = bytes_of_answer Form.Eight Answer.Delete
said_bytes (Answer.Control v f n) = bytes_of_answer Form.Eight (Answer.Control v f n)
said_bytes (Answer.DesignateControls v f) = bytes_of_answer Form.Eight (Answer.DesignateControls v f)
said_bytes (Answer.Designate e x) = bytes_of_answer Form.Eight (Answer.Designate e x)
said_bytes (Answer.Shift h) = bytes_of_answer Form.Eight (Answer.Shift h)
said_bytes (Answer.Other s f) = bytes_of_answer Form.Eight (Answer.Other s f)
said_bytes (Answer.Refused n) = bytes_of_answer Form.Eight (Answer.Refused n)
said_bytes Answer.Skipped = bytes_of_answer Form.Eight Answer.Skipped
said_bytes (Answer.InStep n) = bytes_of_answer Form.Eight (Answer.InStep n)

-- and its value: a character's element, and a control's number; that of C0 has no bit 8, by which one of C1 is told
abbrev pub Said : Answer → ℕ → Type 0
Said Answer.NothingYet v = Unit {0}
Said (Answer.Char e x p) v = v ≡ element_number e
Said Answer.Space v = Unit {0}
Said Answer.Delete v = Unit {0}
Said (Answer.Control ControlElement.C0 f n) v = (v ≡ n) × (n < bit8)
Said (Answer.Control ControlElement.C1 f n) v = v ≡ n
Said (Answer.DesignateControls w f) v = Unit {0}
Said (Answer.Designate e x) v = Unit {0}
Said (Answer.Shift h) v = Unit {0}
Said (Answer.Other s f) v = Unit {0}
Said (Answer.Refused n) v = Unit {0}
Said Answer.Skipped v = Unit {0}
Said (Answer.InStep n) v = Unit {0}

-- the last byte of an item, the reader before it, and its answer, which the item says
pub record LastByte (text : List ℕ) (P : Reader → ℕ → Type 0) (start : ℕ) (t : Sets) (cells : List ℕ) (i : Item) : Type 0 where
  pub reader : Reader
  pub place : ℕ
  pub from : start ≤ place
  pub holds : P reader place
  pub inside : place < length text
  pub ends : i.place ≡ place + 1
  pub sets_are : reader.sets ≡ t
  pub answer : Answer
  pub next : Reader
  pub answers : answer_of reader (get_or text place 0) ≡ record { answer = answer; reader = next }
  pub no_refusal : NoRefusal answer
  pub word_is : word_number i.effect.word ≡ word_of answer
  pub bytes_are : i.bytes ≡ said_bytes answer
  pub value_is : Said answer i.effect.value
  pub has : Stands (changed i.effect cells) next

-- the byte at a place is refused
pub record RefusedAt (text : List ℕ) (P : Reader → ℕ → Type 0) (start : ℕ) (n : Refusal) (there : ℕ) : Type 0 where
  pub reader : Reader
  pub from : start ≤ there
  pub holds : P reader there
  pub inside : there < length text
  pub answers : answer_of reader (get_or text there 0) ≡ refuses n (get_or text there 0) reader

-- the text ends at a place inside the item
pub record EndsInsideAt (text : List ℕ) (P : Reader → ℕ → Type 0) (start there : ℕ) : Type 0 where
  pub reader : Reader
  pub from : start ≤ there
  pub holds : P reader there
  pub at_end : there ≡ length text
  pub end : end_of_text reader ≡ EndWord.Inside

pub data Stopped (text : List ℕ) (P : Reader → ℕ → Type 0) (start : ℕ) (i : Item) : Type 0 where
  refused_at : (n : Refusal) (there : ℕ) → i ≡ refused n there → RefusedAt text P start n there → Stopped text P start i
  ends_inside_at : (there : ℕ) → i ≡ refused Refusal.EndsInside there → EndsInsideAt text P start there → Stopped text P start i

-- an item at a place is right
pub data Good (text : List ℕ) (P : Reader → ℕ → Type 0) (start : ℕ) (t : Sets) (cells : List ℕ) (i : Item) : Type 0 where
  reads : LastByte text P start t cells i → Good text P start t cells i
  stops : Stopped text P start i → Good text P start t cells i

-- an opening stands at a place, and the reader is on the ground there
pub record Opens (m : Form) (text : List ℕ) (r : Reader) (start : ℕ) (i : Item) : Type 0 where
  pub ground : r.standing ≡ Standing.InStep Within.Ground
  pub begins : begins_with (drop start text) (opening m) ≡ true
  pub is : i ≡ opening_item (start + length (opening m))

-- by its word it is one of the two

refusal_by_word : (a : Answer) → NoRefusal a → word_of a ≡ refused_word → ⊥
refusal_by_word Answer.NothingYet never e = omega arith
refusal_by_word (Answer.Char x y z) never e = omega arith
refusal_by_word Answer.Space never e = omega arith
refusal_by_word Answer.Delete never e = omega arith
refusal_by_word (Answer.Control x y z) never e = omega arith
refusal_by_word (Answer.DesignateControls x y) never e = omega arith
refusal_by_word (Answer.Designate x y) never e = omega arith
refusal_by_word (Answer.Shift x) never e = omega arith
refusal_by_word (Answer.Other x y) never e = omega arith
refusal_by_word (Answer.Refused n) never e = never n refl
refusal_by_word Answer.Skipped never e = omega arith
refusal_by_word (Answer.InStep x) never e = omega arith

module _ {text : List ℕ} {P : Reader → ℕ → Type 0} {start : ℕ} {t : Sets} {cells : List ℕ} {i : Item} where
  pub good_reads : Good text P start t cells i → (word_number i.effect.word ≡ refused_word → ⊥) → LastByte text P start t cells i
  good_reads (reads l) other = l
  good_reads (stops (refused_at n there e r)) other = absurd (other (ap (λ (x : Item). word_number x.effect.word) e))
  good_reads (stops (ends_inside_at there e r)) other = absurd (other (ap (λ (x : Item). word_number x.effect.word) e))

  pub good_stops : Good text P start t cells i → word_number i.effect.word ≡ refused_word → Stopped text P start i
  good_stops (reads l) is = absurd (refusal_by_word l.answer l.no_refusal (sym l.word_is ∙ is))
  good_stops (stops r) is = r

-- ---- inside an item that began at `start`

module _ (m : Form) (text : List ℕ) (P : Reader → ℕ → Type 0) (on : WaitsOn text P) (t : Sets) (gl gr : Element) (single : Single)
    (left start : ℕ) where
  abbrev pub here : Within → Reader
  here w = reader_with m t gl gr w

  abbrev pub byte : ℕ → ℕ
  byte place = get_or text place 0

  -- what is known before the item
  abbrev pub cells : List ℕ
  cells = cells_of (here Within.Ground) single left

  abbrev pub IsGood : Item → Type 0
  IsGood i = Good text P start t cells i

  -- the reader has come to a place
  pub record At (w : Within) (place : ℕ) : Type 0 where
    pub holds : P (here w) place
    pub from : start ≤ place
    pub within : place ≤ length text

  pub in_form_here : (w : Within) (b : ℕ) → form_has m b ≡ true → answer_of (here w) b ≡ answer_within w b (here w)
  in_form_here w b e = in_form m t gl gr w b e

  pub not_in_form : (w : Within) (b : ℕ) → form_has m b ≡ false → answer_of (here w) b ≡ refuses Refusal.ByteOfEightBits b (here w)
  unfolding answer_in_step
  not_in_form w b e = rw e

  -- nothing yet
  pub waits_on : {w : Within} {place : ℕ} → At w place → place < length text → (v : Within) →
      answer_of (here w) (byte place) ≡ waits v (here w) → Elsewhere (Standing.InStep v) → At v (place + 1)
  waits_on {w} {place} p inside v is elsewhere =
      record { holds = on (here w) (here v) place p.holds inside is elsewhere; from = omega (arith, p.from); within = omega arith }

  -- an answer that is no refusal
  pub ends_well : {w : Within} {place : ℕ} {i : Item} → At w place → place < length text → i.place ≡ place + 1 →
      (a : Answer) (next : Reader) → answer_of (here w) (byte place) ≡ record { answer = a; reader = next } → NoRefusal a →
      word_number i.effect.word ≡ word_of a → i.bytes ≡ said_bytes a → Said a i.effect.value → Stands (changed i.effect cells) next → IsGood i
  ends_well {w} {place} p inside ends a next is no_refusal word bytes value has = reads (record {
    reader = here w;
    place = place;
    from = p.from;
    holds = p.holds;
    inside = inside;
    ends = ends;
    sets_are = refl;
    answer = a;
    next = next;
    answers = is;
    no_refusal = no_refusal;
    word_is = word;
    bytes_are = bytes;
    value_is = value;
    has = has;
  })

  -- one that leaves the reader on the ground
  pub says_well : {w : Within} {place : ℕ} → At w place → place < length text → (a : Answer) (word : Word) (v : ℕ) →
      word_number word ≡ word_of a → NoRefusal a → Said a v → answer_of (here w) (byte place) ≡ says a (here w) →
      IsGood (record { effect = plain word v; bytes = said_bytes a; place = place + 1 })
  says_well p inside a word v of_answer no_refusal said is =
      ends_well p inside refl a (here Within.Ground) is no_refusal of_answer refl said
      (record { single = none; left = v; has = refl; stands = refl; nothing_gone = refl })

  -- a refusal
  pub stops_at : {w : Within} {place : ℕ} (n : Refusal) → At w place → place < length text →
      answer_of (here w) (byte place) ≡ refuses n (byte place) (here w) → IsGood (refused n place)
  stops_at {w} {place} n p inside is =
      stops (refused_at n place refl (record { reader = here w; from = p.from; holds = p.holds; inside = inside; answers = is }))

  -- the text ends inside the item
  pub ends_inside : {w : Within} {place : ℕ} → At w place → length text ≤ place → end_within w ≡ EndWord.Inside →
      IsGood (refused Refusal.EndsInside place)
  ends_inside {w} {place} p past is =
      stops (ends_inside_at place refl
      (record { reader = here w; from = p.from; holds = p.holds; at_end = omega (arith, p.within); end = is }))
