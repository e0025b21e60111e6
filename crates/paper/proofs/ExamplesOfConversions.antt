-- What some conversions answer, computed: the paper's examples beside P12, the short sequence where it is due, openings (request #104),
-- and the order of the refusals; each with the lent buffer afterwards.
use Prim.Native.Nat.{ℕ}
use mathlib.Core.Path.{◌≡◌, refl}
use mathlib.Core.List.{List, [], ◌∷◌, ◌++◌, map}
use lib.ListN.{drop, length}
use Rattle.paper.specs.Choice.{between}
use Rattle.paper.specs.Words.{Form, Seven, Eight}
use Rattle.paper.specs.CodeTable.{column_area, form_has_column, position_of}
use Rattle.paper.specs.Sets.{set_byte}
use Rattle.paper.specs.Sequences.{sequence_byte, c1_function, shift_or_other, meaning_of_none, designation}
use Rattle.paper.specs.Sequences.{short_designation, by_intermediate, meaning_of_one, several_bytes, meaning_of_two}
use Rattle.paper.specs.Searching.{matched_with, one_more}
use Rattle.paper.specs.Characters.{c0_byte, byte_in, character}
use Rattle.paper.specs.Answering.{means, answer_in_step, answer_lost, answer_to}
use Rattle.paper.specs.Results.{returned_conversion}
use Rattle.paper.specs.Conversions.{conversion, buffer_after}
use Rattle.paper.proofs.Examples.{shown_number, unchanged}

pub record Example : Type 0 where
  pub from : Form
  pub to : Form
  pub bytes : List ℕ
  -- how many bytes the lent buffer has
  pub room : ℕ
  -- refusal, place and length, and the buffer afterwards
  pub returned : List ℕ
  pub buffer : List ℕ

-- the opening in hex, as the paper has it
abbrev common_bytes : List ℕ
common_bytes =
    0x1B ∷ 0x21 ∷ 0x40 ∷ 0x1B ∷ 0x22 ∷ 0x43 ∷ 0x1B ∷ 0x28 ∷ 0x42 ∷ 0x1B ∷ 0x2D ∷ 0x46 ∷ 0x1B ∷ 0x2E ∷ 0x41 ∷ 0x1B ∷ 0x2F ∷ 0x4C ∷ []

abbrev in_eight : List ℕ
in_eight = common_bytes ++ (0x0F ∷ 0x1B ∷ 0x7E ∷ [])

abbrev in_seven : List ℕ
in_seven = common_bytes ++ (0x0E ∷ 0x0F ∷ [])

abbrev pub conversion_examples : List Example
conversion_examples =
    -- 1B 7D C1 C2 to 7-bit, and back
    record {
      from = Eight;
      to = Seven;
      bytes = 0x1B ∷ 0x7D ∷ 0xC1 ∷ 0xC2 ∷ [];
      room = 8;
      returned = 0 ∷ 0 ∷ 6 ∷ [];
      buffer = 0x1B ∷ 0x4E ∷ 0x41 ∷ 0x1B ∷ 0x4E ∷ 0x42 ∷ unchanged 2;
    } ∷
    record {
      from = Seven;
      to = Eight;
      bytes = 0x1B ∷ 0x4E ∷ 0x41 ∷ 0x1B ∷ 0x4E ∷ 0x42 ∷ [];
      room = 4;
      returned = 0 ∷ 0 ∷ 4 ∷ [];
      buffer = 0x8E ∷ 0x41 ∷ 0x8E ∷ 0x42 ∷ [];
    } ∷
    -- 85 and 1B 45 to each other
    record { from = Eight; to = Seven; bytes = 0x85 ∷ []; room = 2; returned = 0 ∷ 0 ∷ 2 ∷ []; buffer = 0x1B ∷ 0x45 ∷ [] } ∷
    record { from = Seven; to = Eight; bytes = 0x1B ∷ 0x45 ∷ []; room = 2; returned = 0 ∷ 0 ∷ 1 ∷ []; buffer = 0x85 ∷ unchanged 1 } ∷
    -- empty gives empty
    record { from = Eight; to = Seven; bytes = []; room = 0; returned = 0 ∷ 0 ∷ 0 ∷ []; buffer = [] } ∷
    -- 1B: 7 at 1
    record { from = Eight; to = Seven; bytes = 0x1B ∷ []; room = 2; returned = 7 ∷ 1 ∷ 0 ∷ []; buffer = unchanged 2 } ∷
    -- P12 into 4 bytes: 9; into 5: accepted
    record {
      from = Eight;
      to = Seven;
      bytes = 0x41 ∷ 0xC1 ∷ 0x20 ∷ [];
      room = 4;
      returned = 9 ∷ 0 ∷ 0 ∷ [];
      buffer = unchanged 4;
    } ∷
    record {
      from = Eight;
      to = Seven;
      bytes = 0x41 ∷ 0xC1 ∷ 0x20 ∷ [];
      room = 5;
      returned = 0 ∷ 0 ∷ 5 ∷ [];
      buffer = 0x41 ∷ 0x0E ∷ 0x41 ∷ 0x0F ∷ 0x20 ∷ [];
    } ∷
    -- SPACE and DELETE after a G1 character of 94 type get no SI; a control and other stand in their place
    record {
      from = Eight;
      to = Seven;
      bytes = 0x1B ∷ 0x29 ∷ 0x42 ∷ 0xC1 ∷ 0x20 ∷ 0x0A ∷ 0x1B ∷ 0x23 ∷ 0x30 ∷ 0x7F ∷ [];
      room = 11;
      returned = 0 ∷ 0 ∷ 11 ∷ [];
      buffer = 0x1B ∷ 0x29 ∷ 0x42 ∷ 0x0E ∷ 0x41 ∷ 0x20 ∷ 0x0A ∷ 0x1B ∷ 0x23 ∷ 0x30 ∷ 0x7F ∷ [];
    } ∷
    -- the long sequence read, the short one written with F 4/2, and the long one with F 4/3
    record {
      from = Eight;
      to = Eight;
      bytes = 0x1B ∷ 0x24 ∷ 0x28 ∷ 0x42 ∷ 0x30 ∷ 0x21 ∷ [];
      room = 5;
      returned = 0 ∷ 0 ∷ 5 ∷ [];
      buffer = 0x1B ∷ 0x24 ∷ 0x42 ∷ 0x30 ∷ 0x21 ∷ [];
    } ∷
    record {
      from = Eight;
      to = Eight;
      bytes = 0x1B ∷ 0x24 ∷ 0x28 ∷ 0x43 ∷ [];
      room = 4;
      returned = 0 ∷ 0 ∷ 4 ∷ [];
      buffer = 0x1B ∷ 0x24 ∷ 0x28 ∷ 0x43 ∷ [];
    } ∷
    -- an opening is written as one: opening, C1 to 7-bit, and back
    record {
      from = Eight;
      to = Seven;
      bytes = in_eight ++ (0xC1 ∷ []);
      room = 22;
      returned = 0 ∷ 0 ∷ 22 ∷ [];
      buffer = in_seven ++ (0x0E ∷ 0x41 ∷ []);
    } ∷
    record {
      from = Seven;
      to = Eight;
      bytes = in_seven ++ (0x0E ∷ 0x41 ∷ []);
      room = 22;
      returned = 0 ∷ 0 ∷ 22 ∷ [];
      buffer = in_eight ++ (0xC1 ∷ []);
    } ∷
    -- no mark: the common bytes, 1B 7E 0F C1; the opening of the other form; an opening with a shift between its sequences
    record {
      from = Eight;
      to = Seven;
      bytes = common_bytes ++ (0x1B ∷ 0x7E ∷ 0x0F ∷ 0xC1 ∷ []);
      room = 20;
      returned = 0 ∷ 0 ∷ 20 ∷ [];
      buffer = common_bytes ++ (0x0E ∷ 0x41 ∷ []);
    } ∷
    record {
      from = Eight;
      to = Seven;
      bytes = in_seven ++ (0xC1 ∷ []);
      room = 20;
      returned = 0 ∷ 0 ∷ 20 ∷ [];
      buffer = common_bytes ++ (0x0E ∷ 0x41 ∷ []);
    } ∷
    record {
      from = Seven;
      to = Eight;
      bytes = 0x1B ∷ 0x21 ∷ 0x40 ∷ 0x0F ∷ drop 3 in_seven;
      room = 18;
      returned = 0 ∷ 0 ∷ 18 ∷ [];
      buffer = common_bytes;
    } ∷
    -- an opening twice, and after part of one
    record {
      from = Eight;
      to = Seven;
      bytes = in_eight ++ in_eight;
      room = 40;
      returned = 0 ∷ 0 ∷ 40 ∷ [];
      buffer = in_seven ++ in_seven;
    } ∷
    record {
      from = Seven;
      to = Eight;
      bytes = 0x1B ∷ 0x21 ∷ 0x40 ∷ in_seven;
      room = 24;
      returned = 0 ∷ 0 ∷ 24 ∷ [];
      buffer = 0x1B ∷ 0x21 ∷ 0x40 ∷ in_eight;
    } ∷
    -- SO before an opening, which then shows G0
    record {
      from = Seven;
      to = Eight;
      bytes = 0x0E ∷ (in_seven ++ (0x41 ∷ []));
      room = 22;
      returned = 0 ∷ 0 ∷ 22 ∷ [];
      buffer = in_eight ++ (0x41 ∷ []);
    } ∷
    -- after a text that showed G1 in GL, in both directions, and after a character of GR
    record {
      from = Eight;
      to = Seven;
      bytes = 0x0E ∷ 0x41 ∷ (in_eight ++ (0x41 ∷ []));
      room = 23;
      returned = 0 ∷ 0 ∷ 23 ∷ [];
      buffer = 0x0E ∷ 0x41 ∷ (in_seven ++ (0x41 ∷ []));
    } ∷
    record {
      from = Eight;
      to = Seven;
      bytes = 0xC1 ∷ (in_eight ++ (0xC1 ∷ 0x41 ∷ []));
      room = 26;
      returned = 0 ∷ 0 ∷ 26 ∷ [];
      buffer = 0x0E ∷ 0x41 ∷ (in_seven ++ (0x0E ∷ 0x41 ∷ 0x0F ∷ 0x41 ∷ []));
    } ∷
    record {
      from = Seven;
      to = Eight;
      bytes = 0x0E ∷ 0x41 ∷ (in_seven ++ (0x41 ∷ []));
      room = 23;
      returned = 0 ∷ 0 ∷ 23 ∷ [];
      buffer = 0xC1 ∷ (in_eight ++ (0x41 ∷ []));
    } ∷
    -- 5 at 3 and 7 at 4 come before 9
    record {
      from = Eight;
      to = Seven;
      bytes = 0x1B ∷ 0x29 ∷ 0x42 ∷ 0xA0 ∷ [];
      room = 0;
      returned = 5 ∷ 3 ∷ 0 ∷ [];
      buffer = [];
    } ∷
    record {
      from = Eight;
      to = Seven;
      bytes = 0x1B ∷ 0x29 ∷ 0x42 ∷ 0x8E ∷ [];
      room = 0;
      returned = 7 ∷ 4 ∷ 0 ∷ [];
      buffer = [];
    } ∷
    []

-- what the definitions say of an example's bytes
abbrev pub told : Example → Example
told x = record {
  from = x.from;
  to = x.to;
  bytes = x.bytes;
  room = x.room;
  returned = shown_number (returned_conversion (conversion x.from x.to x.bytes (length (unchanged x.room))));
  buffer = buffer_after x.from x.to x.bytes (unchanged x.room);
}

pub examples_of_conversions : map told conversion_examples ≡ conversion_examples
unfolding between column_area form_has_column position_of set_byte sequence_byte c1_function shift_or_other meaning_of_none
    designation short_designation by_intermediate meaning_of_one several_bytes meaning_of_two matched_with one_more
    c0_byte byte_in character means answer_in_step answer_lost answer_to conversion
examples_of_conversions = refl
