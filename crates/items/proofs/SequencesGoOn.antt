-- A sequence that is read whole: its intermediates are answered with nothing yet, and its final with what the sequence means.
use Rattle.std.proofs.Common.{◌≡◌, ℕ, ◌+◌, ◌<◌, true, leb, List, [], length, get_or, refl, ap, ◌∙◌, leb-false, leb-true}
use Rattle.paper.specs.CodeTable.{form_has}
use Rattle.paper.specs.Sequences.{sequence_byte, meaning_of}
use Rattle.paper.specs.Sets.{designated, designated_controls}
use Rattle.paper.specs.Characters.{shifts, shifted}
use Rattle.paper.specs.Answering.{sequence_at, intermediate, means, with_sets}
use Rattle.paper.specs.declared.Area.{Area}
use Rattle.paper.specs.declared.Form.{Form}
use Rattle.paper.specs.declared.ControlElement.{ControlElement}
use Rattle.paper.specs.declared.Element.{Element}
use Rattle.paper.specs.declared.Set.{Set}
use Rattle.paper.specs.declared.Sets.{Sets}
use Rattle.paper.specs.declared.SequenceByte.{SequenceByte}
use Rattle.paper.specs.declared.Intermediates.{Intermediates}
use Rattle.paper.specs.declared.Shift.{Shift}
use Rattle.paper.specs.declared.Meaning.{Meaning}
use Rattle.paper.specs.declared.Within.{Within}
use Rattle.paper.specs.declared.Reader.{Reader}
use Rattle.paper.specs.declared.Refusal.{Refusal}
use Rattle.paper.specs.declared.Answer.{Answer}
use Rattle.paper.proofs.AnswersWithoutTheRecord.{answer_of}
use Rattle.paper.proofs.Choices.{impossible, gives_by}
use Rattle.paper.proofs.WrittenBytes.{form_has_area, both_have_gl, intermediate_area, final_area}
use Rattle.escapes.specs.Effects.{word_number, shift_effect, effect_of}
use Rattle.escapes.specs.declared.effect.Effect.{Effect}
use Rattle.items.specs.States.{changed, Single, none, one, Stands}
use Rattle.items.specs.Items.{Item, not_of_sequence, by_sequence_byte, inside_at, bytes_meant, meant_at, bytes_read, final_at, after_two, after_one}
use Rattle.items.specs.Items.{after_escape}
use Rattle.items.proofs.ItemsByBytes.{WaitsOn, here, cells, IsGood, At, in_form_here, not_in_form, waits_on, ends_well}
use Rattle.items.proofs.ItemsByBytes.{stops_at, ends_inside}
use Rattle.items.proofs.SequencesAsWritten.{Bytes, read_bytes}

module _ (m : Form) (text : List ℕ) (P : Reader → ℕ → Type 0) (on : WaitsOn text P) (t : Sets) (gl gr : Element) (single : Single)
    (left start : ℕ) where
  abbrev reader : Within → Reader
  reader w = here m text P on t gl gr single left start w

  abbrev Came : Within → ℕ → Type 0
  Came w place = At m text P on t gl gr single left start w place

  abbrev Right : Item → Type 0
  Right i = IsGood m text P on t gl gr single left start i

  abbrev Then : Effect → Reader → Type 0
  Then x r = Stands (changed x (cells m text P on t gl gr single left start)) r

  abbrev in_sequence : Intermediates → Within
  in_sequence i = Within.Sequence i

  -- ---- a byte inside a sequence

  reads_as : (i : Intermediates) (b : ℕ) (k : SequenceByte) → form_has m b ≡ true → sequence_byte b ≡ k →
      answer_of (reader (in_sequence i)) b ≡ sequence_at k i b (reader (in_sequence i))
  reads_as i b k has e =
      in_form_here m text P on t gl gr single left start (in_sequence i) b has ∙
      ap (λ (k : SequenceByte). sequence_at k i b (reader (in_sequence i))) e

  reads_intermediate : (i : Intermediates) (b : ℕ) → sequence_byte b ≡ SequenceByte.Intermediate →
      answer_of (reader (in_sequence i)) b ≡ intermediate i b (reader (in_sequence i))
  reads_intermediate i b e =
      reads_as i b SequenceByte.Intermediate (form_has_area m b Area.GL (intermediate_area b e) (both_have_gl m)) e

  reads_final : (i : Intermediates) (f : ℕ) → sequence_byte f ≡ SequenceByte.Final →
      answer_of (reader (in_sequence i)) f ≡ means (meaning_of m i f) i f (reader (in_sequence i))
  reads_final i f e = reads_as i f SequenceByte.Final (form_has_area m f Area.GL (final_area f e) (both_have_gl m)) e

  neither : (i : Intermediates) (place : ℕ) → Came (in_sequence i) place → place < length text →
      sequence_byte (get_or text place 0) ≡ SequenceByte.Neither → Right (not_of_sequence m (get_or text place 0) place)
  unfolding not_of_sequence
  neither i place p inside e =
      let b = get_or text place 0 in
      gives_by Right (form_has m b)
      (λ has. stops_at m text P on t gl gr single left start Refusal.NotOfSequence p inside (reads_as i b SequenceByte.Neither has e))
      (λ no. stops_at m text P on t gl gr single left start Refusal.ByteOfEightBits p inside
      (not_in_form m text P on t gl gr single left start (in_sequence i) b no))

  by_byte : (i : Intermediates) (place : ℕ) (going end : Item) → Came (in_sequence i) place → place < length text →
      (k : SequenceByte) → sequence_byte (get_or text place 0) ≡ k →
      (sequence_byte (get_or text place 0) ≡ SequenceByte.Intermediate → Right going) →
      (sequence_byte (get_or text place 0) ≡ SequenceByte.Final → Right end) →
      Right (by_sequence_byte k m (get_or text place 0) place going end)
  by_byte i place going end p inside SequenceByte.Intermediate e more last = more e
  by_byte i place going end p inside SequenceByte.Final e more last = last e
  by_byte i place going end p inside SequenceByte.Neither e more last = neither i place p inside e

  inside_right : (i : Intermediates) (place : ℕ) (going end : Item) → Came (in_sequence i) place →
      (place < length text → sequence_byte (get_or text place 0) ≡ SequenceByte.Intermediate → Right going) →
      (place < length text → sequence_byte (get_or text place 0) ≡ SequenceByte.Final → Right end) →
      Right (inside_at m text place going end)
  unfolding inside_at
  inside_right i place going end p more last =
      gives_by Right (leb (length text) place)
      (λ past. ends_inside m text P on t gl gr single left start p (leb-true (length text) place past) refl)
      (λ not_past. let inside : place < length text = leb-false (length text) place not_past in
      by_byte i place going end p inside (sequence_byte (get_or text place 0)) refl (more inside) (last inside))

  -- ---- what it means

  shift_then : (w : Within) (h : Shift) → Then (shift_effect h) (shifted h (reader w))
  shift_then w Shift.LS0 = record { single = none; left = left; has = refl; stands = refl; nothing_gone = refl }
  shift_then w Shift.LS1 = record { single = none; left = left; has = refl; stands = refl; nothing_gone = refl }
  shift_then w Shift.LS2 = record { single = none; left = left; has = refl; stands = refl; nothing_gone = refl }
  shift_then w Shift.LS3 = record { single = none; left = left; has = refl; stands = refl; nothing_gone = refl }
  shift_then w Shift.LS1R = record { single = none; left = left; has = refl; stands = refl; nothing_gone = refl }
  shift_then w Shift.LS2R = record { single = none; left = left; has = refl; stands = refl; nothing_gone = refl }
  shift_then w Shift.LS3R = record { single = none; left = left; has = refl; stands = refl; nothing_gone = refl }
  shift_then w Shift.SS2 = record { single = one Element.G2; left = left; has = refl; stands = refl; nothing_gone = refl }
  shift_then w Shift.SS3 = record { single = one Element.G3; left = left; has = refl; stands = refl; nothing_gone = refl }

  shift_word_lem : (h : Shift) → word_number (shift_effect h).word ≡ 6
  shift_word_lem Shift.LS0 = refl
  shift_word_lem Shift.LS1 = refl
  shift_word_lem Shift.LS2 = refl
  shift_word_lem Shift.LS3 = refl
  shift_word_lem Shift.LS1R = refl
  shift_word_lem Shift.LS2R = refl
  shift_word_lem Shift.LS3R = refl
  shift_word_lem Shift.SS2 = refl
  shift_word_lem Shift.SS3 = refl

  -- a shift answers itself, and nothing is written for it
  pub shift_right : (w : Within) (place : ℕ) → Came w place → place < length text → (h : Shift) →
      answer_of (reader w) (get_or text place 0) ≡ shifts h (reader w) →
      Right (record { effect = shift_effect h; bytes = []; place = place + 1 })
  shift_right w place p inside h is =
      ends_well m text P on t gl gr single left start p inside refl (Answer.Shift h) (shifted h (reader w)) is (λ n e. impossible (cc))
      (shift_word_lem h) refl tt (shift_then w h)

  designated_then : (w : Within) (e : Element) (x : Set) (f : ℕ) →
      Then (effect_of (Meaning.Designate e x.kind x.count)) (with_sets (designated t e x) (reader w))
  designated_then w Element.G0 x f = record { single = none; left = left; has = refl; stands = refl; nothing_gone = refl }
  designated_then w Element.G1 x f = record { single = none; left = left; has = refl; stands = refl; nothing_gone = refl }
  designated_then w Element.G2 x f = record { single = none; left = left; has = refl; stands = refl; nothing_gone = refl }
  designated_then w Element.G3 x f = record { single = none; left = left; has = refl; stands = refl; nothing_gone = refl }

  controls_then : (w : Within) (v : ControlElement) (f : ℕ) →
      Then (effect_of (Meaning.DesignateControls v)) (with_sets (designated_controls t v f) (reader w))
  controls_then w ControlElement.C0 f = record { single = none; left = left; has = refl; stands = refl; nothing_gone = refl }
  controls_then w ControlElement.C1 f = record { single = none; left = left; has = refl; stands = refl; nothing_gone = refl }

  -- a byte that is answered with this meaning, and has bytes of this meaning
  pub means_right : (w : Within) (place : ℕ) → Came w place → place < length text → (k : Meaning) (i : Intermediates) (bytes : List ℕ) →
      Bytes k i (get_or text place 0) bytes → answer_of (reader w) (get_or text place 0) ≡ means k i (get_or text place 0) (reader w) →
      Right (meant_at (effect_of k) bytes place (place + 1))
  unfolding means meant_at bytes_meant
  means_right w place p inside Meaning.NoMeaning i bytes right is =
      stops_at m text P on t gl gr single left start Refusal.WithoutMeaning p inside is
  means_right w place p inside Meaning.Other i bytes right is =
      ends_well m text P on t gl gr single left start p inside refl (Answer.Other i (get_or text place 0)) _ is (λ n e. impossible (cc))
      refl right tt (record { single = none; left = 0; has = refl; stands = refl; nothing_gone = refl })
  means_right w place p inside (Meaning.Function n) i bytes right is =
      ends_well m text P on t gl gr single left start p inside refl (Answer.Control ControlElement.C1 t.c1 n) _ is
      (λ n e. impossible (cc)) refl refl refl (record { single = none; left = n; has = refl; stands = refl; nothing_gone = refl })
  means_right w place p inside (Meaning.Shifts h) i bytes right is =
      rw (shift_word_lem h) (shift_right w place p inside h is)
  means_right w place p inside (Meaning.DesignateControls v) i bytes right is =
      ends_well m text P on t gl gr single left start p inside refl (Answer.DesignateControls v (get_or text place 0)) _ is
      (λ n e. impossible (cc)) refl right tt (controls_then w v (get_or text place 0))
  means_right w place p inside (Meaning.Designate e k n) i bytes right is =
      let x : Set = record { kind = k; count = n; last = get_or text place 0 } in
      ends_well m text P on t gl gr single left start p inside refl (Answer.Designate e x) _ is
      (λ n e. impossible (cc)) refl right tt (designated_then w e x (get_or text place 0))

  -- a final
  final_right : (i : Intermediates) (place : ℕ) → Came (in_sequence i) place → place < length text →
      sequence_byte (get_or text place 0) ≡ SequenceByte.Final → Right (final_at m i text place)
  final_right i place p inside e =
      let f = get_or text place 0 in
      means_right (in_sequence i) place p inside (meaning_of m i f) i (bytes_read i f) (read_bytes m i f) (reads_final i f e)

  -- ---- after so many bytes of it

  after_two_lem : (i j place : ℕ) → Came (in_sequence (Intermediates.Two i j)) place → Right (after_two m i j text place)
  after_two_lem i j place p =
      let s : Intermediates = Intermediates.Two i j in
      inside_right s place _ _ p
      (λ inside e. stops_at m text P on t gl gr single left start Refusal.ThirdIntermediate p inside
      (reads_intermediate s (get_or text place 0) e))
      (final_right s place p)

  after_one_lem : (i place : ℕ) → Came (in_sequence (Intermediates.One i)) place → Right (after_one m i text place)
  after_one_lem i place p =
      let s : Intermediates = Intermediates.One i in
      let b : ℕ = get_or text place 0 in
      inside_right s place _ _ p
      (λ inside e. after_two_lem i b (place + 1)
      (waits_on m text P on t gl gr single left start p inside (in_sequence (Intermediates.Two i b)) (reads_intermediate s b e) tt))
      (final_right s place p)

  pub after_escape_lem : (place : ℕ) → Came (in_sequence Intermediates.None) place → Right (after_escape m text place)
  after_escape_lem place p =
      let s : Intermediates = Intermediates.None in
      let b : ℕ = get_or text place 0 in
      inside_right s place _ _ p
      (λ inside e. after_one_lem b (place + 1)
      (waits_on m text P on t gl gr single left start p inside (in_sequence (Intermediates.One b)) (reads_intermediate s b e) tt))
      (final_right s place p)
