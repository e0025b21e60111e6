-- Lister: the line of an answer, the lines of a text, and how many of them a lent buffer takes.
use Rattle.std.specs.Prelude.{ℕ, zero, suc, ◌+◌, ◌-◌, ◌/◌, ◌%◌, List, [], ◌∷◌, ◌++◌, leb, ltb, length, drop, Result, Ok, Err}
use Prim.Native.Char.{code}
use Prim.Native.String.{String}
use Prim.Native.String.{[] as end, ◌∷◌ as ◌then◌}
use Rattle.paper.specs.Choice.{◌gives◌or◌}
use Rattle.paper.specs.Words.{Form, ControlElement, Element, G0, G1, G2, G3, Count, Set, Intermediates, Refused}
use Rattle.paper.specs.Words.{Shift, LS0, LS1, LS2, LS3, LS1R, LS2R, LS3R, SS2, SS3, PositionBytes, Reader, Refusal}
use Rattle.paper.specs.Words.{Answer, EndWord, Listed}
use Rattle.paper.specs.Sets.{size_of, bytes_of, space}
use Rattle.paper.specs.Starting.{started}
use Rattle.paper.specs.Refusals.{number_of, longest_text, refusal_at}
use Rattle.paper.specs.Results.{control_size}
use Rattle.paper.specs.Answering.{answer_to, end_of_text}

-- text as bytes
abbrev pub ascii : String → List ℕ
ascii end = []
ascii (c then s) = code c ∷ ascii s

-- the digits 0 to 9, then A to F
abbrev pub digit : ℕ → ℕ
digit d = ltb d 10 gives 0x30 + d or 0x41 + (d - 10)

-- offsets, counts, lengths and refusal numbers are decimal, with no zero in front; twenty digits hold every number of 64 bits
abbrev pub decimal_within : ℕ → ℕ → List ℕ
decimal_within zero n = []
decimal_within (suc k) n = ltb n 10 gives digit n ∷ [] or decimal_within k (n / 10) ++ (digit (n % 10) ∷ [])

abbrev pub decimal : ℕ → List ℕ
decimal n = decimal_within 20 n

-- F, bytes and control numbers are two capital hex digits
abbrev pub hex : ℕ → List ℕ
hex b = digit (b / 16) ∷ digit (b % 16) ∷ []

abbrev pub control_element_name : ControlElement → List ℕ
control_element_name ControlElement.C0 = ascii "C0"
control_element_name ControlElement.C1 = ascii "C1"

abbrev pub element_name : Element → List ℕ
element_name G0 = ascii "G0"
element_name G1 = ascii "G1"
element_name G2 = ascii "G2"
element_name G3 = ascii "G3"

-- size: as 94, 96, 94x2
abbrev pub count_name : Count → List ℕ
count_name Count.One = []
count_name Count.Two = ascii "x" ++ decimal (bytes_of Count.Two)
count_name Count.Three = ascii "x" ++ decimal (bytes_of Count.Three)

abbrev pub size_name : Set → List ℕ
size_name x = decimal (size_of x.kind) ++ count_name x.count

abbrev pub shift_name : Shift → List ℕ
shift_name LS0 = ascii "LS0"
shift_name LS1 = ascii "LS1"
shift_name LS2 = ascii "LS2"
shift_name LS3 = ascii "LS3"
shift_name LS1R = ascii "LS1R"
shift_name LS2R = ascii "LS2R"
shift_name LS3R = ascii "LS3R"
shift_name SS2 = ascii "SS2"
shift_name SS3 = ascii "SS3"

abbrev pub position_fields : PositionBytes → List (List ℕ)
position_fields (PositionBytes.One a) = hex a ∷ []
position_fields (PositionBytes.Two a b) = hex a ∷ hex b ∷ []
position_fields (PositionBytes.Three a b c) = hex a ∷ hex b ∷ hex c ∷ []

-- the bytes after ESC
abbrev pub sequence_fields : Intermediates → ℕ → List (List ℕ)
sequence_fields Intermediates.None f = hex f ∷ []
sequence_fields (Intermediates.One i) f = hex i ∷ hex f ∷ []
sequence_fields (Intermediates.Two i j) f = hex i ∷ hex j ∷ hex f ∷ []

-- fields are parted by one space; each line has its end
abbrev pub line_end : ℕ
line_end = 0x0A

abbrev pub line : List ℕ → List (List ℕ) → List ℕ
line field [] = field ++ (line_end ∷ [])
line field (next ∷ fields) = field ++ (space ∷ line next fields)

-- a line per answer, except nothing yet and skipped: the offset, the answer word, its fields
abbrev pub line_of : ℕ → Answer → List ℕ
line_of at Answer.NothingYet = []
line_of at (Answer.Char e x p) = line (decimal at) (ascii "char" ∷ element_name e ∷ size_name x ∷ hex x.last ∷ position_fields p)
line_of at Answer.Space = line (decimal at) (ascii "space" ∷ [])
line_of at Answer.Delete = line (decimal at) (ascii "delete" ∷ [])
line_of at (Answer.Control w f n) = line (decimal at) (ascii "control" ∷ control_element_name w ∷ hex f ∷ hex n ∷ [])
line_of at (Answer.DesignateControls w f) =
    line (decimal at) (ascii "designate" ∷ control_element_name w ∷ decimal control_size ∷ hex f ∷ [])
line_of at (Answer.Designate e x) = line (decimal at) (ascii "designate" ∷ element_name e ∷ size_name x ∷ hex x.last ∷ [])
line_of at (Answer.Shift h) = line (decimal at) (ascii "shift" ∷ shift_name h ∷ [])
line_of at (Answer.Other s f) = line (decimal at) (ascii "other" ∷ sequence_fields s f)
line_of at (Answer.Refused n) = line (decimal at) (ascii "refused" ∷ decimal (number_of n) ∷ [])
line_of at Answer.Skipped = []
line_of at (Answer.InStep n) = line (decimal at) (ascii "instep" ∷ decimal n ∷ [])

-- last line: end, length, word
abbrev pub end_name : EndWord → List ℕ
end_name EndWord.Whole = ascii "whole"
end_name EndWord.Inside = ascii "inside"
end_name EndWord.Lost = ascii "lost"

abbrev pub end_line : ℕ → EndWord → List ℕ
end_line n w = line (ascii "end") (decimal n ∷ end_name w ∷ [])

-- all lines of a text that has so many bytes, from an offset on
abbrev pub lines_from : ℕ → ℕ → Reader → List ℕ → List ℕ
lines_from n at r [] = end_line n (end_of_text r)
lines_from n at r (b ∷ bs) = line_of at (answer_to r b).answer ++ lines_from n (suc at) (answer_to r b).reader bs

-- longer input has the one line `0 refused 8`
unfoldable pub listing : Form → List ℕ → List ℕ
listing m l = leb (length l) longest_text gives lines_from (length l) 0 (started m) l or line_of 0 (Answer.Refused Refusal.TooLong)

-- what a call answers and the bytes that it writes
pub record Filled : Type 0 where
  pub answer : Result Listed Refusal
  pub bytes : List ℕ

-- the next line does not fit: nothing was written, or the place and the reader to go on with
abbrev pub stops : ℕ → ℕ → Reader → Result Listed Refusal
stops zero at r = Err Refusal.BufferShort
stops (suc n) at r = Ok (Listed.More (suc n) at r)

abbrev pub after : List ℕ → Filled → Filled
after line f = record { answer = f.answer; bytes = line ++ f.bytes }

-- as many whole lines as fit; so many bytes are written, and there is room for so many more
abbrev pub fill_from : ℕ → ℕ → ℕ → ℕ → Reader → List ℕ → Filled
fill_from n written room at r [] =
    leb (length (end_line n (end_of_text r))) room gives
    record { answer = Ok (Listed.Done (written + length (end_line n (end_of_text r)))); bytes = end_line n (end_of_text r) } or
    record { answer = stops written at r; bytes = [] }
fill_from n written room at r (b ∷ bs) =
    let next = line_of at (answer_to r b).answer in
    leb (length next) room gives
    after next (fill_from n (written + length next) (room - length next) (suc at) (answer_to r b).reader bs) or
    record { answer = stops written at r; bytes = [] }

-- a call: from an offset of the text, with the reader that stands there, into a buffer of so many bytes
unfoldable pub filled : ℕ → ℕ → Reader → List ℕ → Filled
filled room at r l =
    leb (length l) longest_text gives fill_from (length l) 0 room at r (drop at l) or
    record { answer = Err Refusal.TooLong; bytes = [] }

-- one line into a buffer of so many bytes: its length, or 9 at 0, and what is written
abbrev pub line_fits : ℕ → List ℕ → Result ℕ Refused
line_fits room line = leb (length line) room gives Ok (length line) or Err (refusal_at Refusal.BufferShort 0)

abbrev pub line_written : ℕ → List ℕ → List ℕ
line_written room line = leb (length line) room gives line or []
