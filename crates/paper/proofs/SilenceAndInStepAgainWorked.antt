-- Demand 3, worked. Silence: P10 by the theorem, at the byte after the refused one and at the opening's last. In step again: where the
-- bytes before an opening can stop, in one table that is computed. Each row has the end word of these bytes, and the offset and the
-- answer of the opening's last byte; the text 4/1 SO 4/1 then gets the answers and the end word that it gets alone.
use Prim.Native.Nat.{ℕ, ◌+◌}
use mathlib.Core.Path.{◌≡◌, refl, ap, ◌∙◌}
use mathlib.Core.List.{List, [], ◌∷◌, ◌++◌, map}
use native.Mathlib.Omega.{arith}
use lib.ListN.{take, drop}
use Rattle.paper.specs.Choice.{between}
use Rattle.paper.specs.Words.{Form, Seven, Eight, G0, G1, LS1, LS1R, PositionBytes, Refusal, Answer, EndWord}
use Rattle.paper.specs.CodeTable.{column_area, form_has_column, position_of, so, esc}
use Rattle.paper.specs.Sets.{set_byte}
use Rattle.paper.specs.Starting.{latin, greek, opening}
use Rattle.paper.specs.Sequences.{sequence_byte, c1_function, shift_or_other, meaning_of_none, designation}
use Rattle.paper.specs.Sequences.{short_designation, by_intermediate, meaning_of_one, several_bytes, meaning_of_two}
use Rattle.paper.specs.Searching.{matched_with, skipped_bytes, one_more}
use Rattle.paper.specs.Characters.{c0_byte, byte_in, character}
use Rattle.paper.specs.Answering.{means, answer_in_step, answer_lost, answer_to}
use Rattle.paper.specs.Texts.{Placed, answers_of, end_word, answer_after, later}
use Rattle.paper.proofs.OpeningsAmongBytes.{too_few}
use Rattle.paper.proofs.SilenceAndInStepAgain.{silence, in_step_again}

-- ---- silence

-- P10: 1/11 2/8, and then the opening, whose first byte is refused
abbrev cut_short : List ℕ
cut_short = esc ∷ 0x28 ∷ []

-- an opening but for its first byte and its last
abbrev middle : List ℕ
middle = drop 1 (take 20 (opening Eight))

refused_there : answer_after Eight cut_short esc ≡ Answer.Refused Refusal.NotOfSequence
unfolding between column_area form_has_column position_of sequence_byte c0_byte answer_in_step answer_to
refused_there = refl

pub silence_worked :
    (answer_after Eight (cut_short ++ (esc ∷ [])) 0x21 ≡ Answer.Skipped) ×
    (answer_after Eight (cut_short ++ (esc ∷ middle)) 0x7E ≡ Answer.InStep 21)
unfolding skipped_bytes
silence_worked =
    let few = too_few Eight in (
      (silence Eight cut_short esc Refusal.NotOfSequence refused_there [] 0x21 (few (esc ∷ []) (omega arith))).0
          (few (esc ∷ 0x21 ∷ []) (omega arith)),
      (silence Eight cut_short esc Refusal.NotOfSequence refused_there middle 0x7E (few (esc ∷ middle) (omega arith))).1
          (record { before = []; after = []; is = refl }),
    )

-- ---- in step again

record Stop : Type 0 where
  form : Form
  before : List ℕ
  word : EndWord
  offset : ℕ
  last : Answer

abbrev stops : List Stop
stops =
    -- inside an escape sequence: 1/11 2/8, while GL shows G1
    record { form = Seven; before = so ∷ 0x41 ∷ 0x42 ∷ esc ∷ 0x28 ∷ []; word = EndWord.Inside; offset = 24; last = Answer.InStep 20 } ∷
    -- after a single shift, with another set in G1
    record { form = Eight; before = esc ∷ 0x29 ∷ 0x42 ∷ 0x8E ∷ []; word = EndWord.Inside; offset = 24; last = Answer.InStep 21 } ∷
    -- inside a character: one byte of two, of a set in G0
    record { form = Seven; before = esc ∷ 0x24 ∷ 0x42 ∷ 0x30 ∷ []; word = EndWord.Inside; offset = 23; last = Answer.InStep 20 } ∷
    -- inside part of an opening: its first eight bytes, while GL shows G2
    record {
      form = Eight;
      before = (esc ∷ 0x6E ∷ []) ++ take 8 (opening Eight);
      word = EndWord.Inside;
      offset = 30;
      last = Answer.InStep 21;
    } ∷
    -- while lost, and inside part of an opening: P11
    record { form = Eight; before = esc ∷ esc ∷ 0x21 ∷ 0x40 ∷ esc ∷ []; word = EndWord.Lost; offset = 25; last = Answer.InStep 25 } ∷
    -- nowhere inside, after two sequences of an opening: the unbroken one is read as ordinary sequences
    record { form = Eight; before = take 6 (opening Eight); word = EndWord.Whole; offset = 26; last = Answer.Shift LS1R } ∷ []

abbrev text_after : List ℕ
text_after = 0x41 ∷ so ∷ 0x41 ∷ []

abbrev answers_alone : List Placed
answers_alone =
    record { offset = 0; answer = Answer.Char G0 latin (PositionBytes.One 0x41) } ∷
    record { offset = 1; answer = Answer.Shift LS1 } ∷
    record { offset = 2; answer = Answer.Char G1 greek (PositionBytes.One 0x41) } ∷ []

-- the end words of the bytes before, of the text alone and of all; the text's answers alone, and those from the opening's last byte on
abbrev given : Stop → List EndWord × List Placed × List Placed
given s =
    let m = s.form in
    let all = (s.before ++ opening m) ++ text_after in
    (end_word m s.before ∷ end_word m text_after ∷ end_word m all ∷ [], answers_of m text_after, drop s.offset (answers_of m all))

abbrev expected : Stop → List EndWord × List Placed × List Placed
expected s = (
  s.word ∷ EndWord.Whole ∷ EndWord.Whole ∷ [],
  answers_alone,
  record { offset = s.offset; answer = s.last } ∷ later (s.offset + 1) answers_alone,
)

-- the end word of all is the text's own, by the theorem; the rest is computed
abbrev given_alone : Stop → List EndWord × List Placed × List Placed
given_alone s =
    let m = s.form in
    let all = (s.before ++ opening m) ++ text_after in
    (end_word m s.before ∷ end_word m text_after ∷ end_word m text_after ∷ [], answers_of m text_after, drop s.offset (answers_of m all))

ends_as_alone : (s : Stop) → given s ≡ given_alone s
ends_as_alone s =
    let m : Form = s.form in
    let all : List ℕ = (s.before ++ opening m) ++ text_after in
    ap (λ (w : EndWord).
    (end_word m s.before ∷ end_word m text_after ∷ w ∷ [], answers_of m text_after, drop s.offset (answers_of m all)))
    (in_step_again m s.before text_after).1

computed : map given_alone stops ≡ map expected stops
unfolding between column_area form_has_column position_of set_byte sequence_byte c1_function shift_or_other meaning_of_none designation
    short_designation by_intermediate meaning_of_one several_bytes meaning_of_two matched_with one_more c0_byte byte_in character means
    answer_in_step answer_lost answer_to
computed = refl

pub stops_hold : map given stops ≡ map expected stops
stops_hold = (λ i. map (λ (s : Stop). ends_as_alone s i) stops) ∙ computed
