-- Some texts and what the lister prints of them, in both forms: every word that a line can have, and every refusal of a reader.
-- One table that is computed; the first text is the paper's own example, the second the one in the README.
use Prim.Native.Nat.{ℕ}
use Prim.Native.String.{String}
use mathlib.Core.Path.{◌≡◌, refl, ◌∙◌, sym, ap}
use mathlib.Core.List.{List, [], ◌∷◌, ◌++◌, map}
use lib.ListN.{length, take}
use Rattle.paper.specs.Choice.{between}
use Rattle.paper.specs.Words.{Form, Seven, Eight, G1, Standing, Reader, Refusal, Listed}
use Rattle.paper.specs.CodeTable.{column_area, form_has_column, position_of}
use Rattle.paper.specs.Sets.{set_byte}
use Rattle.paper.specs.Starting.{starting_sets, started, opening}
use Rattle.paper.specs.Sequences.{sequence_byte, c1_function, shift_or_other, meaning_of_none, designation}
use Rattle.paper.specs.Sequences.{short_designation, by_intermediate, meaning_of_one, several_bytes, meaning_of_two}
use Rattle.paper.specs.Searching.{matched_with, one_more}
use Rattle.paper.specs.Characters.{c0_byte, byte_in, character}
use Rattle.paper.specs.Answering.{means, answer_in_step, answer_lost, answer_to}
use Rattle.paper.specs.Texts.{reader_after}
use Rattle.paper.specs.Lister.{ascii, listing, Filled, filled}
use Rattle.std.specs.Prelude.{Ok, Err}

pub record Example : Type 0 where
  pub form : Form
  pub bytes : List ℕ
  pub lines : List String

-- lines as bytes, each with its end
abbrev pub printed : List String → List ℕ
printed [] = []
printed (s ∷ l) = ascii s ++ (0x0A ∷ printed l)

abbrev eight : List ℕ → List String → Example
eight bytes lines = record { form = Eight; bytes = bytes; lines = lines }

abbrev seven : List ℕ → List String → Example
seven bytes lines = record { form = Seven; bytes = bytes; lines = lines }

abbrev pub listing_examples : List Example
listing_examples =
    -- the example of the paper
    eight (0x41 ∷ 0x0E ∷ 0x41 ∷ 0x1B ∷ 0x28 ∷ 0x0E ∷ 0x41 ∷ [])
    ("0 char G0 94 42 41" ∷ "1 shift LS1" ∷ "2 char G1 96 46 41" ∷ "5 refused 2" ∷ "end 7 lost" ∷ []) ∷
    -- a name, a sequence that the line cut short, a name; an opening, a name
    seven ((0x0E ∷ 0x41 ∷ 0x42 ∷ 0x0F ∷ 0x1B ∷ 0x28 ∷ 0x0E ∷ 0x41 ∷ 0x42 ∷ 0x0F ∷ []) ++ opening Seven ++
    (0x0E ∷ 0x41 ∷ 0x42 ∷ 0x0F ∷ []))
    ("0 shift LS1" ∷ "1 char G1 96 46 41" ∷ "2 char G1 96 46 42" ∷ "3 shift LS0" ∷ "6 refused 2" ∷
    "29 instep 24" ∷ "30 shift LS1" ∷ "31 char G1 96 46 41" ∷ "32 char G1 96 46 42" ∷ "33 shift LS0" ∷
    "end 34 whole" ∷ []) ∷
    -- nothing to read
    eight ([])
    ("end 0 whole" ∷ []) ∷
    -- controls, by byte and by sequence; SI and SO keep their places in every C0 set, SS2 and SS3 theirs in every C1 set
    eight (0x1B ∷ 0x21 ∷ 0x41 ∷ 0x0E ∷ 0x41 ∷ 0x0F ∷ 0x0A ∷ 0x1B ∷ 0x22 ∷ 0x44 ∷ 0x9F ∷ 0x1B ∷ 0x45 ∷ 0x8E ∷ 0x20 ∷ [])
    ("2 designate C0 32 41" ∷ "3 shift LS1" ∷ "4 char G1 96 46 41" ∷ "5 shift LS0" ∷ "6 control C0 41 0A" ∷
    "9 designate C1 32 44" ∷ "10 control C1 44 1F" ∷ "12 control C1 44 05" ∷ "13 shift SS2" ∷ "14 char G2 96 41 20" ∷
    "end 15 whole" ∷ []) ∷
    -- SPACE and DELETE; under 96 type characters of the set
    eight (0x20 ∷ 0x7F ∷ 0x0E ∷ 0x20 ∷ 0x7F ∷ 0xA0 ∷ 0xFF ∷ [])
    ("0 space" ∷ "1 delete" ∷ "2 shift LS1" ∷ "3 char G1 96 46 20" ∷ "4 char G1 96 46 7F" ∷
    "5 char G1 96 46 20" ∷ "6 char G1 96 46 7F" ∷ "end 7 whole" ∷ []) ∷
    -- LS2, LS3 into GL; LS2R, LS3R, LS1R into GR
    eight (0x1B ∷ 0x6E ∷ 0x21 ∷ 0x1B ∷ 0x6F ∷ 0x21 ∷ 0x1B ∷ 0x7D ∷ 0xA1 ∷ 0x1B ∷ 0x7C ∷ 0xA1 ∷ 0x1B ∷ 0x7E ∷ 0xA1 ∷ [])
    ("1 shift LS2" ∷ "2 char G2 96 41 21" ∷ "4 shift LS3" ∷ "5 char G3 96 4C 21" ∷ "7 shift LS2R" ∷
    "8 char G2 96 41 21" ∷ "10 shift LS3R" ∷ "11 char G3 96 4C 21" ∷ "13 shift LS1R" ∷ "14 char G1 96 46 21" ∷
    "end 15 whole" ∷ []) ∷
    -- a shift into GR has no meaning in 7-bit form
    seven (0x1B ∷ 0x7E ∷ [])
    ("1 refused 4" ∷ "end 2 lost" ∷ []) ∷
    -- a single shift covers all bytes of a character
    eight (0x1B ∷ 0x24 ∷ 0x2A ∷ 0x60 ∷ 0x8E ∷ 0x21 ∷ 0x22 ∷ 0x23 ∷ 0x41 ∷ [])
    ("3 designate G2 94x3 60" ∷ "4 shift SS2" ∷ "7 char G2 94x3 60 21 22 23" ∷ "8 char G0 94 42 41" ∷
    "end 9 whole" ∷ []) ∷
    -- several bytes from GR, of 94 type and of 96 type, and from GL; all bytes of one character come from the same area
    eight (0x1B ∷ 0x24 ∷ 0x29 ∷ 0x40 ∷ 0xC1 ∷ 0xC2 ∷ 0x1B ∷ 0x24 ∷ 0x2D ∷ 0x41 ∷ 0xA0 ∷ 0xFF ∷ 0x0E ∷ 0x20 ∷ 0x7F ∷
    0xC1 ∷ 0x41 ∷ [])
    ("3 designate G1 94x2 40" ∷ "5 char G1 94x2 40 41 42" ∷ "9 designate G1 96x2 41" ∷ "11 char G1 96x2 41 20 7F" ∷
    "12 shift LS1" ∷ "14 char G1 96x2 41 20 7F" ∷ "16 refused 6" ∷ "end 17 lost" ∷ []) ∷
    -- in GR 15/15 is refused for 94 type; inside a character of GL 10/0 is of another area, 6 before 5
    eight (0x1B ∷ 0x29 ∷ 0x42 ∷ 0xA1 ∷ 0xFE ∷ 0xFF ∷ [])
    ("2 designate G1 94 42" ∷ "3 char G1 94 42 21" ∷ "4 char G1 94 42 7E" ∷ "5 refused 5" ∷ "end 6 lost" ∷ []) ∷
    eight (0x1B ∷ 0x24 ∷ 0x42 ∷ 0x30 ∷ 0xA0 ∷ [])
    ("2 designate G0 94x2 42" ∷ "4 refused 6" ∷ "end 5 lost" ∷ []) ∷
    -- other is handed out with its bytes and changes no state
    eight (0x1B ∷ 0x30 ∷ 0x1B ∷ 0x20 ∷ 0x41 ∷ 0x1B ∷ 0x60 ∷ 0x41 ∷ [])
    ("1 other 30" ∷ "4 other 20 41" ∷ "6 other 60" ∷ "7 char G0 94 42 41" ∷ "end 8 whole" ∷ []) ∷
    -- a third intermediate and 7/15 inside a sequence are refused, and a text may end inside one
    eight (0x1B ∷ 0x24 ∷ 0x28 ∷ 0x20 ∷ 0x41 ∷ [])
    ("3 refused 3" ∷ "end 5 lost" ∷ []) ∷
    eight (0x1B ∷ 0x24 ∷ 0x28 ∷ 0x7F ∷ [])
    ("3 refused 2" ∷ "end 4 lost" ∷ []) ∷
    eight (0x41 ∷ 0x1B ∷ 0x24 ∷ [])
    ("0 char G0 94 42 41" ∷ "end 3 inside" ∷ []) ∷
    -- 7-bit form: 128 and more is refused, before all others
    seven (0x1B ∷ 0x4E ∷ 0xC1 ∷ [])
    ("1 shift SS2" ∷ "2 refused 1" ∷ "end 3 lost" ∷ []) ∷
    []

pub listings_hold : map (λ (x : Example). listing x.form x.bytes) listing_examples ≡
    map (λ (x : Example). printed x.lines) listing_examples
unfolding between column_area form_has_column position_of set_byte sequence_byte c1_function shift_or_other meaning_of_none designation
    short_designation by_intermediate meaning_of_one several_bytes meaning_of_two matched_with one_more c0_byte byte_in character means
    answer_in_step answer_lost answer_to listing
listings_hold = refl

-- the example of the paper into buffers: 9 where the first line does not fit, then as many whole lines as fit, then all
abbrev example : List ℕ
example = 0x41 ∷ 0x0E ∷ 0x41 ∷ 0x1B ∷ 0x28 ∷ 0x0E ∷ 0x41 ∷ []

abbrev more : ℕ → List String → Filled
more n lines = record {
  answer = Ok (Listed.More (length (printed lines)) n (reader_after (started Eight) (take n example)));
  bytes = printed lines;
}

-- its listing and the reader at its end, written out: what is computed is compared with these, and not with what is itself still
-- to be computed, which takes much longer
abbrev example_lines : List String
example_lines = "0 char G0 94 42 41" ∷ "1 shift LS1" ∷ "2 char G1 96 46 41" ∷ "5 refused 2" ∷ "end 7 lost" ∷ []

example_listed : listing Eight example ≡ printed example_lines
unfolding between column_area form_has_column position_of set_byte sequence_byte c1_function shift_or_other meaning_of_none designation
    short_designation by_intermediate meaning_of_one several_bytes meaning_of_two matched_with one_more c0_byte byte_in character means
    answer_in_step answer_lost answer_to listing
example_listed = refl

abbrev example_end : Reader
example_end = record { form = Eight; sets = starting_sets; gl = G1; gr = G1; gone = 0; standing = Standing.Lost 0 2 }

example_ends : reader_after (started Eight) example ≡ example_end
unfolding between column_area form_has_column position_of set_byte sequence_byte c1_function shift_or_other meaning_of_none designation
    short_designation by_intermediate meaning_of_one several_bytes meaning_of_two matched_with one_more c0_byte byte_in character means
    answer_in_step answer_lost answer_to
example_ends = refl

abbrev fills_where : List ℕ → List Filled
fills_where listed =
    record { answer = Err Refusal.BufferShort; bytes = [] } ∷
    record { answer = Err Refusal.BufferShort; bytes = [] } ∷
    more 1 ("0 char G0 94 42 41" ∷ []) ∷
    more 1 ("0 char G0 94 42 41" ∷ []) ∷
    more 2 ("0 char G0 94 42 41" ∷ "1 shift LS1" ∷ []) ∷
    more 7 ("0 char G0 94 42 41" ∷ "1 shift LS1" ∷ "2 char G1 96 46 41" ∷ "5 refused 2" ∷ []) ∷
    record { answer = Ok (Listed.Done 73); bytes = listed } ∷
    record { answer = Ok (Listed.Done 73); bytes = listed } ∷
    []

fills : map (λ room. filled room 0 (started Eight) example) (0 ∷ 18 ∷ 19 ∷ 30 ∷ 31 ∷ 72 ∷ 73 ∷ 100 ∷ []) ≡
    fills_where (printed example_lines)
unfolding between column_area form_has_column position_of set_byte sequence_byte c1_function shift_or_other meaning_of_none designation
    short_designation by_intermediate meaning_of_one several_bytes meaning_of_two matched_with one_more c0_byte byte_in character means
    answer_in_step answer_lost answer_to filled
fills = refl

pub fills_hold :
    map (λ room. filled room 0 (started Eight) example) (0 ∷ 18 ∷ 19 ∷ 30 ∷ 31 ∷ 72 ∷ 73 ∷ 100 ∷ []) ≡
    record { answer = Err Refusal.BufferShort; bytes = [] } ∷
    record { answer = Err Refusal.BufferShort; bytes = [] } ∷
    more 1 ("0 char G0 94 42 41" ∷ []) ∷
    more 1 ("0 char G0 94 42 41" ∷ []) ∷
    more 2 ("0 char G0 94 42 41" ∷ "1 shift LS1" ∷ []) ∷
    more 7 ("0 char G0 94 42 41" ∷ "1 shift LS1" ∷ "2 char G1 96 46 41" ∷ "5 refused 2" ∷ []) ∷
    record { answer = Ok (Listed.Done 73); bytes = listing Eight example } ∷
    record { answer = Ok (Listed.Done 73); bytes = listing Eight example } ∷
    []
fills_hold = fills ∙ ap fills_where (sym example_listed)

-- from where the first call stopped, and from past the end
abbrev goes_on_to : Reader → Filled
goes_on_to r =
    let lines = printed ("1 shift LS1" ∷ "2 char G1 96 46 41" ∷ "5 refused 2" ∷ []) in
    record { answer = Ok (Listed.More (length lines) 7 r); bytes = lines }

goes_on : filled 53 1 (started Eight) example ≡ goes_on_to example_end
unfolding between column_area form_has_column position_of set_byte sequence_byte c1_function shift_or_other meaning_of_none designation
    short_designation by_intermediate meaning_of_one several_bytes meaning_of_two matched_with one_more c0_byte byte_in character means
    answer_in_step answer_lost answer_to filled
goes_on = refl

past_the_end_lem :
    (filled 11 7 (reader_after (started Eight) example) example ≡
    record { answer = Ok (Listed.Done 11); bytes = printed ("end 7 lost" ∷ []) }) ×
    (filled 100 8 (started Eight) example ≡ record { answer = Ok (Listed.Done 12); bytes = printed ("end 7 whole" ∷ []) })
unfolding between column_area form_has_column position_of set_byte sequence_byte c1_function shift_or_other meaning_of_none designation
    short_designation by_intermediate meaning_of_one several_bytes meaning_of_two matched_with one_more c0_byte byte_in character means
    answer_in_step answer_lost answer_to filled
past_the_end_lem = (refl, refl)

pub fills_go_on :
    (filled 53 1 (started Eight) example ≡
    more 7 ("1 shift LS1" ∷ "2 char G1 96 46 41" ∷ "5 refused 2" ∷ [])) ×
    (filled 11 7 (reader_after (started Eight) example) example ≡
    record { answer = Ok (Listed.Done 11); bytes = printed ("end 7 lost" ∷ []) }) ×
    (filled 100 8 (started Eight) example ≡ record { answer = Ok (Listed.Done 12); bytes = printed ("end 7 whole" ∷ []) })
fills_go_on = (goes_on ∙ ap goes_on_to (sym example_ends), past_the_end_lem.0, past_the_end_lem.1)
