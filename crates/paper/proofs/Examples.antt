-- The paper's examples P1 to P12, in one table that is computed: the bytes; the answers by offset, number of the word and values;
-- the refusal and Unicode number of each character; the word at the end; and what converting to 7-bit form and back returns, with
-- the buffer afterwards.
use Prim.Native.Nat.{ℕ, zero, suc}
use mathlib.Core.Path.{◌≡◌, refl}
use mathlib.Core.List.{List, [], ◌∷◌, ◌++◌, map}
use lib.ListN.{length}
use Rattle.paper.specs.Choice.{between}
use Rattle.paper.specs.Words.{Form, Seven, Eight, Count, Set, PositionBytes, Answer, EndWord}
use Rattle.paper.specs.CodeTable.{byte_at, column_area, form_has_column, position_of}
use Rattle.paper.specs.Sets.{set_byte}
use Rattle.paper.specs.Starting.{opening}
use Rattle.paper.specs.Sequences.{sequence_byte, c1_function, shift_or_other, meaning_of_none, designation}
use Rattle.paper.specs.Sequences.{short_designation, by_intermediate, meaning_of_one, several_bytes, meaning_of_two}
use Rattle.paper.specs.Searching.{matched_with, one_more}
use Rattle.paper.specs.Characters.{c0_byte, byte_in, character}
use Rattle.paper.specs.Answering.{means, answer_in_step, answer_lost, answer_to}
use Rattle.paper.specs.Texts.{Placed, answers_of, end_word}
use Rattle.paper.specs.Results.{word_of, values_of, Returned, returned_number, returned_conversion, nothing_yet_word, char_word}
use Rattle.paper.specs.Results.{space_word, designate_word, shift_word, refused_word, skipped_word, instep_word}
use Rattle.paper.specs.Conversions.{output, conversion, wrote_by, buffer_after}
use Rattle.paper.specs.LatinGreek.{greek_number, number_in, unicode_of}
use Rattle.std.specs.Prelude.{Option, None}

-- an answer by offset, number of its word and values
abbrev pub shown : Placed → List ℕ
shown a = a.offset ∷ word_of a.answer ∷ values_of a.answer

-- the number of a character: its refusal, 0 where it has none, and its value
abbrev pub number_of_character : Set → PositionBytes → Option ℕ
number_of_character x (PositionBytes.One a) = unicode_of x Count.One (position_of a).column (position_of a).row
number_of_character x (PositionBytes.Two a b) = None
number_of_character x (PositionBytes.Three a b c) = None

abbrev pub shown_number : Returned → List ℕ
shown_number n = n.refusal ∷ n.values

abbrev pub with_number : Answer → List (List ℕ) → List (List ℕ)
with_number (Answer.Char e x p) l = shown_number (returned_number (number_of_character x p)) ∷ l
with_number Answer.NothingYet l = l
with_number Answer.Space l = l
with_number Answer.Delete l = l
with_number (Answer.Control w f n) l = l
with_number (Answer.DesignateControls w f) l = l
with_number (Answer.Designate e x) l = l
with_number (Answer.Shift h) l = l
with_number (Answer.Other s f) l = l
with_number (Answer.Refused r) l = l
with_number Answer.Skipped l = l
with_number (Answer.InStep n) l = l

abbrev pub numbers_of : List Placed → List (List ℕ)
numbers_of [] = []
numbers_of (a ∷ l) = with_number a.answer (numbers_of l)

-- a lent buffer of eight bytes, and what is left of it unchanged
abbrev pub unchanged : ℕ → List ℕ
unchanged zero = []
unchanged (suc n) = 0xFF ∷ unchanged n

abbrev pub lent : List ℕ
lent = unchanged 8

-- a conversion into it: refusal, place and length, and the buffer afterwards
abbrev pub converted_into_it : Form → Form → List ℕ → List (List ℕ)
converted_into_it from to text =
    shown_number (returned_conversion (conversion from to text (length lent))) ∷ buffer_after from to text lent ∷ []

-- what it wrote
abbrev pub wrote_into_it : Form → Form → List ℕ → List ℕ
wrote_into_it from to text = wrote_by (conversion from to text (length lent)) (output from to text)

-- back from nothing: a length of 0
abbrev pub nothing : List (List ℕ)
nothing = (0 ∷ 0 ∷ 0 ∷ []) ∷ lent ∷ []

-- A character's values are its element, G0 to G3 being 2 to 5, the size and the bytes to a character, F, the position bytes; a
-- designation's are the first four.
pub record Example : Type 0 where
  pub bytes : List ℕ
  pub answers : List (List ℕ)
  pub numbers : List (List ℕ)
  pub end : EndWord
  pub seven : List (List ℕ)
  pub back : List (List ℕ)

-- so many bytes skipped, from an offset on, then the answers to what follows
abbrev pub skipping : ℕ → ℕ → List (List ℕ) → List (List ℕ)
skipping zero at l = l
skipping (suc n) at l = (at ∷ skipped_word ∷ []) ∷ skipping n (suc at) l

abbrev pub paper_examples : List Example
paper_examples =
    -- P1: G1 4/1, U+0391
    record {
      bytes = 0xC1 ∷ [];
      answers = (0 ∷ char_word ∷ 3 ∷ 96 ∷ 1 ∷ 0x46 ∷ 0x41 ∷ []) ∷ [];
      numbers = (0 ∷ 0x391 ∷ []) ∷ [];
      end = EndWord.Whole;
      seven = (0 ∷ 0 ∷ 2 ∷ []) ∷ (0x0E ∷ 0x41 ∷ unchanged 6) ∷ [];
      back = (0 ∷ 0 ∷ 1 ∷ []) ∷ (0xC1 ∷ unchanged 7) ∷ [];
    } ∷
    -- P2: SPACE, G1 2/0
    record {
      bytes = 0x20 ∷ 0xA0 ∷ [];
      answers = (0 ∷ space_word ∷ []) ∷ (1 ∷ char_word ∷ 3 ∷ 96 ∷ 1 ∷ 0x46 ∷ 0x20 ∷ []) ∷ [];
      numbers = (0 ∷ 0xA0 ∷ []) ∷ [];
      end = EndWord.Whole;
      seven = (0 ∷ 0 ∷ 3 ∷ []) ∷ (0x20 ∷ 0x0E ∷ 0x20 ∷ unchanged 5) ∷ [];
      back = (0 ∷ 0 ∷ 2 ∷ []) ∷ (0x20 ∷ 0xA0 ∷ unchanged 6) ∷ [];
    } ∷
    -- P3: G1 2/0, no SPACE
    record {
      bytes = 0x0E ∷ 0x20 ∷ [];
      answers = (0 ∷ shift_word ∷ 1 ∷ []) ∷ (1 ∷ char_word ∷ 3 ∷ 96 ∷ 1 ∷ 0x46 ∷ 0x20 ∷ []) ∷ [];
      numbers = (0 ∷ 0xA0 ∷ []) ∷ [];
      end = EndWord.Whole;
      seven = (0 ∷ 0 ∷ 2 ∷ []) ∷ (0x0E ∷ 0x20 ∷ unchanged 6) ∷ [];
      back = (0 ∷ 0 ∷ 1 ∷ []) ∷ (0xA0 ∷ unchanged 7) ∷ [];
    } ∷
    -- P4: G2 2/0
    record {
      bytes = 0x8E ∷ 0x20 ∷ [];
      answers = (0 ∷ shift_word ∷ 7 ∷ []) ∷ (1 ∷ char_word ∷ 4 ∷ 96 ∷ 1 ∷ 0x41 ∷ 0x20 ∷ []) ∷ [];
      numbers = (10 ∷ 0 ∷ []) ∷ [];
      end = EndWord.Whole;
      seven = (0 ∷ 0 ∷ 3 ∷ []) ∷ (0x1B ∷ 0x4E ∷ 0x20 ∷ unchanged 5) ∷ [];
      back = (0 ∷ 0 ∷ 2 ∷ []) ∷ (0x8E ∷ 0x20 ∷ unchanged 6) ∷ [];
    } ∷
    -- P5: 5 at 3
    record {
      bytes = 0x1B ∷ 0x29 ∷ 0x42 ∷ 0xA0 ∷ [];
      answers =
          (0 ∷ nothing_yet_word ∷ []) ∷ (1 ∷ nothing_yet_word ∷ []) ∷ (2 ∷ designate_word ∷ 3 ∷ 94 ∷ 1 ∷ 0x42 ∷ []) ∷
          (3 ∷ refused_word ∷ 5 ∷ []) ∷ [];
      numbers = [];
      end = EndWord.Lost;
      seven = (5 ∷ 3 ∷ 0 ∷ []) ∷ lent ∷ [];
      back = nothing;
    } ∷
    -- P6: 6 at 1
    record {
      bytes = 0x8E ∷ 0xC1 ∷ [];
      answers = (0 ∷ shift_word ∷ 7 ∷ []) ∷ (1 ∷ refused_word ∷ 6 ∷ []) ∷ [];
      numbers = [];
      end = EndWord.Lost;
      seven = (6 ∷ 1 ∷ 0 ∷ []) ∷ lent ∷ [];
      back = nothing;
    } ∷
    -- P7: one G0 character; with 2/0 last, 5 at 4
    record {
      bytes = 0x1B ∷ 0x24 ∷ 0x42 ∷ 0x30 ∷ 0x21 ∷ [];
      answers =
          (0 ∷ nothing_yet_word ∷ []) ∷ (1 ∷ nothing_yet_word ∷ []) ∷ (2 ∷ designate_word ∷ 2 ∷ 94 ∷ 2 ∷ 0x42 ∷ []) ∷
          (3 ∷ nothing_yet_word ∷ []) ∷ (4 ∷ char_word ∷ 2 ∷ 94 ∷ 2 ∷ 0x42 ∷ 0x30 ∷ 0x21 ∷ []) ∷ [];
      numbers = (10 ∷ 0 ∷ []) ∷ [];
      end = EndWord.Whole;
      seven = (0 ∷ 0 ∷ 5 ∷ []) ∷ (0x1B ∷ 0x24 ∷ 0x42 ∷ 0x30 ∷ 0x21 ∷ unchanged 3) ∷ [];
      back = (0 ∷ 0 ∷ 5 ∷ []) ∷ (0x1B ∷ 0x24 ∷ 0x42 ∷ 0x30 ∷ 0x21 ∷ unchanged 3) ∷ [];
    } ∷
    record {
      bytes = 0x1B ∷ 0x24 ∷ 0x42 ∷ 0x30 ∷ 0x20 ∷ [];
      answers =
          (0 ∷ nothing_yet_word ∷ []) ∷ (1 ∷ nothing_yet_word ∷ []) ∷ (2 ∷ designate_word ∷ 2 ∷ 94 ∷ 2 ∷ 0x42 ∷ []) ∷
          (3 ∷ nothing_yet_word ∷ []) ∷ (4 ∷ refused_word ∷ 5 ∷ []) ∷ [];
      numbers = [];
      end = EndWord.Lost;
      seven = (5 ∷ 4 ∷ 0 ∷ []) ∷ lent ∷ [];
      back = nothing;
    } ∷
    -- P8: 4 at 2
    record {
      bytes = 0x1B ∷ 0x2C ∷ 0x42 ∷ [];
      answers = (0 ∷ nothing_yet_word ∷ []) ∷ (1 ∷ nothing_yet_word ∷ []) ∷ (2 ∷ refused_word ∷ 4 ∷ []) ∷ [];
      numbers = [];
      end = EndWord.Lost;
      seven = (4 ∷ 2 ∷ 0 ∷ []) ∷ lent ∷ [];
      back = nothing;
    } ∷
    -- P9: 3 at 3
    record {
      bytes = 0x1B ∷ 0x28 ∷ 0x20 ∷ 0x20 ∷ [];
      answers =
          (0 ∷ nothing_yet_word ∷ []) ∷ (1 ∷ nothing_yet_word ∷ []) ∷ (2 ∷ nothing_yet_word ∷ []) ∷ (3 ∷ refused_word ∷ 3 ∷ []) ∷ [];
      numbers = [];
      end = EndWord.Lost;
      seven = (3 ∷ 3 ∷ 0 ∷ []) ∷ lent ∷ [];
      back = nothing;
    } ∷
    -- P10: 2 at 2, instep 21 at 22, U+0391
    record {
      bytes = 0x1B ∷ 0x28 ∷ (opening Eight ++ (0xC1 ∷ []));
      answers =
          (0 ∷ nothing_yet_word ∷ []) ∷ (1 ∷ nothing_yet_word ∷ []) ∷ (2 ∷ refused_word ∷ 2 ∷ []) ∷
          skipping 19 3 ((22 ∷ instep_word ∷ 21 ∷ []) ∷ (23 ∷ char_word ∷ 3 ∷ 96 ∷ 1 ∷ 0x46 ∷ 0x41 ∷ []) ∷ []);
      numbers = (0 ∷ 0x391 ∷ []) ∷ [];
      end = EndWord.Whole;
      seven = (2 ∷ 2 ∷ 0 ∷ []) ∷ lent ∷ [];
      back = nothing;
    } ∷
    -- P11: 2 at 1, instep 25 at 25
    record {
      bytes = 0x1B ∷ 0x1B ∷ 0x21 ∷ 0x40 ∷ 0x1B ∷ opening Eight;
      answers =
          (0 ∷ nothing_yet_word ∷ []) ∷ (1 ∷ refused_word ∷ 2 ∷ []) ∷ skipping 23 2 ((25 ∷ instep_word ∷ 25 ∷ []) ∷ []);
      numbers = [];
      end = EndWord.Whole;
      seven = (2 ∷ 1 ∷ 0 ∷ []) ∷ lent ∷ [];
      back = nothing;
    } ∷
    -- P12: to 7-bit 41 0E 41 0F 20; back, the same three
    record {
      bytes = 0x41 ∷ 0xC1 ∷ 0x20 ∷ [];
      answers =
          (0 ∷ char_word ∷ 2 ∷ 94 ∷ 1 ∷ 0x42 ∷ 0x41 ∷ []) ∷ (1 ∷ char_word ∷ 3 ∷ 96 ∷ 1 ∷ 0x46 ∷ 0x41 ∷ []) ∷
          (2 ∷ space_word ∷ []) ∷ [];
      numbers = (0 ∷ 0x41 ∷ []) ∷ (0 ∷ 0x391 ∷ []) ∷ [];
      end = EndWord.Whole;
      seven = (0 ∷ 0 ∷ 5 ∷ []) ∷ (0x41 ∷ 0x0E ∷ 0x41 ∷ 0x0F ∷ 0x20 ∷ unchanged 3) ∷ [];
      back = (0 ∷ 0 ∷ 3 ∷ []) ∷ (0x41 ∷ 0xC1 ∷ 0x20 ∷ unchanged 5) ∷ [];
    } ∷
    []

-- what the definitions say of an example's bytes
abbrev pub told : Example → Example
told x = record {
  bytes = x.bytes;
  answers = map shown (answers_of Eight x.bytes);
  numbers = numbers_of (answers_of Eight x.bytes);
  end = end_word Eight x.bytes;
  seven = converted_into_it Eight Seven x.bytes;
  back = converted_into_it Seven Eight (wrote_into_it Eight Seven x.bytes);
}

pub examples_hold : map told paper_examples ≡ paper_examples
unfolding between byte_at column_area form_has_column position_of set_byte sequence_byte c1_function shift_or_other meaning_of_none
    designation short_designation by_intermediate meaning_of_one several_bytes meaning_of_two matched_with one_more
    c0_byte byte_in character means answer_in_step answer_lost answer_to greek_number number_in conversion
examples_hold = refl
