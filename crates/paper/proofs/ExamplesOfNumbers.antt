-- The paper's numbers and values: the words and refusals in its order, and lookups that it names, there and back.
use Prim.Native.Nat.{ℕ}
use mathlib.Core.Path.{◌≡◌, refl}
use mathlib.Core.List.{List, [], ◌∷◌, ◌++◌, map}
use Rattle.paper.specs.Choice.{between, numbers}
use Rattle.paper.specs.Words.{ControlElement, G0, G1, G2, G3, Of94, Of96, Count, Set, Intermediates, LS0, LS1}
use Rattle.paper.specs.Words.{LS2, LS3, LS1R, LS2R, LS3R, SS2, SS3, PositionBytes, Refusal, Answer, EndWord}
use Rattle.paper.specs.Words.{Reader, Listed}
use Rattle.paper.specs.CodeTable.{byte_at, position_of}
use Rattle.paper.specs.Sets.{set_byte}
use Rattle.paper.specs.Starting.{latin, greek}
use Rattle.paper.specs.Refusals.{number_of, refusal_at}
use Rattle.paper.specs.LatinGreek.{greek_number, number_in, unicode_of, locate}
use Rattle.paper.specs.Results.{shift_number, word_of, values_of, end_of, returned_conversion, Returned}
use Rattle.paper.specs.Results.{returned_number, returned_position, returned_survey, returned_listing}
use Rattle.std.specs.Prelude.{Some, Ok, Err}

-- every answer, with values that differ wherever they can: its word, then its values
abbrev said : Answer → List ℕ
said a = word_of a ∷ values_of a

pub answers_say :
    map said
    (Answer.NothingYet ∷
    Answer.Char G0 latin (PositionBytes.One 0x41) ∷
    Answer.Char G1 (record { kind = Of96; count = Count.Two; last = 0x43 }) (PositionBytes.Two 0x44 0x45) ∷
    Answer.Char G2 (record { kind = Of94; count = Count.Three; last = 0x60 }) (PositionBytes.Three 0x61 0x62 0x63) ∷
    Answer.Space ∷
    Answer.Delete ∷
    Answer.Control ControlElement.C0 0x40 0x0A ∷
    Answer.Control ControlElement.C1 0x43 0x05 ∷
    Answer.DesignateControls ControlElement.C0 0x41 ∷
    Answer.DesignateControls ControlElement.C1 0x42 ∷
    Answer.Designate G3 greek ∷
    Answer.Shift LS0 ∷
    Answer.Other Intermediates.None 0x30 ∷
    Answer.Other (Intermediates.One 0x20) 0x31 ∷
    Answer.Other (Intermediates.Two 0x21 0x22) 0x32 ∷
    Answer.Refused Refusal.AnotherArea ∷
    Answer.Skipped ∷
    Answer.InStep 21 ∷
    []) ≡
    (0 ∷ []) ∷
    (1 ∷ 2 ∷ 94 ∷ 1 ∷ 0x42 ∷ 0x41 ∷ []) ∷
    (1 ∷ 3 ∷ 96 ∷ 2 ∷ 0x43 ∷ 0x44 ∷ 0x45 ∷ []) ∷
    (1 ∷ 4 ∷ 94 ∷ 3 ∷ 0x60 ∷ 0x61 ∷ 0x62 ∷ 0x63 ∷ []) ∷
    (2 ∷ []) ∷
    (3 ∷ []) ∷
    (4 ∷ 0 ∷ 0x40 ∷ 0x0A ∷ []) ∷
    (4 ∷ 1 ∷ 0x43 ∷ 0x05 ∷ []) ∷
    (5 ∷ 0 ∷ 32 ∷ 0x41 ∷ []) ∷
    (5 ∷ 1 ∷ 32 ∷ 0x42 ∷ []) ∷
    (5 ∷ 5 ∷ 96 ∷ 1 ∷ 0x46 ∷ []) ∷
    (6 ∷ 0 ∷ []) ∷
    (7 ∷ 0x30 ∷ []) ∷
    (7 ∷ 0x20 ∷ 0x31 ∷ []) ∷
    (7 ∷ 0x21 ∷ 0x22 ∷ 0x32 ∷ []) ∷
    (8 ∷ 6 ∷ []) ∷
    (9 ∷ []) ∷
    (10 ∷ 21 ∷ []) ∷
    []
answers_say = refl

pub shifts_in_order : map shift_number (LS0 ∷ LS1 ∷ LS2 ∷ LS3 ∷ LS1R ∷ LS2R ∷ LS3R ∷ SS2 ∷ SS3 ∷ []) ≡ numbers 9 0
shifts_in_order = refl

pub conversions_return : (n : ℕ) (r : Refusal) (at : ℕ) →
    map returned_conversion (Ok n ∷ Err (refusal_at r at) ∷ []) ≡
    record { refusal = 0; values = 0 ∷ n ∷ [] } ∷ record { refusal = number_of r; values = at ∷ 0 ∷ [] } ∷ []
conversions_return n r at = refl

pub end_words_in_order : map end_of (EndWord.Whole ∷ EndWord.Inside ∷ EndWord.Lost ∷ []) ≡ numbers 3 0
end_words_in_order = refl

pub refusals_in_order :
    map number_of
    (Refusal.ByteOfEightBits ∷
    Refusal.NotOfSequence ∷
    Refusal.ThirdIntermediate ∷
    Refusal.WithoutMeaning ∷
    Refusal.NotOfSet ∷
    Refusal.AnotherArea ∷
    Refusal.EndsInside ∷
    Refusal.TooLong ∷
    Refusal.BufferShort ∷
    Refusal.NoNumber ∷
    Refusal.NotMapped ∷
    Refusal.InputTooLong ∷
    Refusal.WorkBufferShort ∷
    []) ≡ numbers 11 1 ++ numbers 2 13
refusals_in_order = refl

-- a set, a number of position bytes, a column and a row; the refusal and the value
pub record There : Type 0 where
  pub set : Set
  pub count : Count
  pub column : ℕ
  pub row : ℕ
  pub returns : Returned

abbrev number : Set → ℕ → ℕ → ℕ → There
number x c r u = record { set = x; count = Count.One; column = c; row = r; returns = record { refusal = 0; values = u ∷ [] } }

abbrev none : Set → Count → ℕ → ℕ → There
none x n c r = record { set = x; count = n; column = c; row = r; returns = record { refusal = 10; values = 0 ∷ [] } }

abbrev pub there_examples : List There
there_examples =
    -- P1; A7 is U+00A7; A1, A2, AF
    number greek 4 1 0x391 ∷ number greek 2 7 0xA7 ∷ number greek 2 1 0x2018 ∷ number greek 2 2 0x2019 ∷ number greek 2 15 0x2015 ∷
    -- the first and last that keep their number, and that add hex 2D0
    number greek 2 0 0xA0 ∷ number greek 3 3 0xB3 ∷ number greek 3 7 0xB7 ∷ number greek 3 11 0xBB ∷ number greek 3 13 0xBD ∷
    number greek 3 4 0x384 ∷ number greek 7 14 0x3CE ∷ number latin 2 1 0x21 ∷ number latin 7 14 0x7E ∷
    -- the unused
    none greek Count.One 2 4 ∷ none greek Count.One 2 5 ∷ none greek Count.One 2 10 ∷ none greek Count.One 2 14 ∷
    none greek Count.One 5 2 ∷ none greek Count.One 7 15 ∷
    -- 2/0 and 7/15 of 94 F 4/2, a column outside 2 to 7, a row above 15, more than one byte
    none latin Count.One 2 0 ∷ none latin Count.One 7 15 ∷ none latin Count.One 1 15 ∷ none greek Count.One 8 0 ∷
    none greek Count.One 12 1 ∷ none latin Count.One 4 16 ∷ none greek Count.Two 4 1 ∷ none latin Count.Three 4 1 ∷
    -- sets that are not mapped
    none (record { kind = Of96; count = Count.One; last = 0x42 }) Count.One 4 1 ∷
    none (record { kind = Of94; count = Count.One; last = 0x46 }) Count.One 4 1 ∷
    none (record { kind = Of96; count = Count.One; last = 0x41 }) Count.One 4 1 ∷
    none (record { kind = Of94; count = Count.Two; last = 0x42 }) Count.One 4 1 ∷ []

pub there_returns :
    map (λ (w : There). returned_number (unicode_of w.set w.count (record { 0 = w.column }) (record { 0 = w.row }))) there_examples ≡
    map (λ (w : There). w.returns) there_examples
unfolding byte_at set_byte between number_in greek_number
there_returns = refl

-- a number, then the refusal and the values: 94 or 96, 1 byte, F, column, row
pub record Back : Type 0 where
  pub number : ℕ
  pub returns : Returned

abbrev back : ℕ → List ℕ → Back
back u v = record { number = u; returns = record { refusal = 0; values = v } }

abbrev nowhere : ℕ → Back
nowhere u = record { number = u; returns = record { refusal = 11; values = 0 ∷ [] } }

abbrev pub back_examples : List Back
back_examples =
    back 0x41 (94 ∷ 1 ∷ 0x42 ∷ 4 ∷ 1 ∷ []) ∷
    back 0x391 (96 ∷ 1 ∷ 0x46 ∷ 4 ∷ 1 ∷ []) ∷
    back 0x2015 (96 ∷ 1 ∷ 0x46 ∷ 2 ∷ 15 ∷ []) ∷
    -- SPACE, DELETE and controls; what the unused would add up to; a number of neither set
    nowhere 0x20 ∷ nowhere 0x7F ∷ nowhere 0 ∷ nowhere 0x1B ∷ nowhere 0x3A2 ∷ nowhere 0xA4 ∷ nowhere 0x20AC ∷ nowhere 0x10391 ∷ []

pub back_returns : map (λ (w : Back). returned_position (locate w.number)) back_examples ≡ map (λ (w : Back). w.returns) back_examples
unfolding position_of set_byte between number_in greek_number locate
back_returns = refl

-- what a survey and a listing return
pub calls_return : (r : Reader) →
    (map returned_survey
    (Ok (record {
      characters = 1;
      spaces = 2;
      deletes = 3;
      controls = 4;
      designations = 5;
      shifts = 6;
      others = 7;
      refusals = 8;
      insteps = 9;
      first = Some (refusal_at Refusal.NotOfSet 10);
      end = EndWord.Lost;
    }) ∷
    Err Refusal.TooLong ∷ []) ≡
    record { refusal = 0; values = 1 ∷ 2 ∷ 3 ∷ 4 ∷ 5 ∷ 6 ∷ 7 ∷ 8 ∷ 9 ∷ 5 ∷ 10 ∷ 2 ∷ [] } ∷
    record { refusal = 8; values = [] } ∷ []) ×
    (map returned_listing (Ok (Listed.Done 7) ∷ Ok (Listed.More 7 8 r) ∷ Err Refusal.BufferShort ∷ []) ≡
    record { refusal = 0; values = 7 ∷ [] } ∷ record { refusal = 0; values = 7 ∷ 8 ∷ [] } ∷
    record { refusal = 9; values = 0 ∷ [] } ∷ [])
calls_return r = (refl, refl)
