-- The lines of a text into a lent buffer, from a place on: what `fill_from` gives from here, after the lines that stand in the
-- buffer already, is the whole. So a turn adds a line, and the first line that does not fit is where the call stops.
use mathlib.Core.Path.{◌≡◌, refl, ap, ◌∙◌}
use mathlib.Core.List.{List, [], ◌∷◌, ◌++◌, append_assoc, append-nil}
use Prim.Native.Nat.{ℕ, suc, ◌+◌, ◌-◌, ◌≤◌, ◌<◌}
use native.Mathlib.Numerals.{add-one}
use native.Mathlib.Omega.{arith}
use lib.ListN.{length, drop, get_or, length-append, drop_of_length-le}
use lib.Seq.{drop-cons}
use Rattle.paper.specs.declared.Answered.{Answered}
use Rattle.paper.specs.declared.EndWord.{EndWord}
use Rattle.paper.specs.declared.Listed.{Listed}
use Rattle.paper.specs.declared.Reader.{Reader}
use Rattle.paper.specs.declared.Refusal.{Refusal}
use Rattle.paper.specs.declared.Refused.{Refused}
use Rattle.paper.specs.Answering.{answer_to, end_of_text}
use Rattle.paper.specs.Refusals.{longest_text}
use Rattle.paper.specs.LentBuffers.{over}
use Rattle.paper.specs.Lister.{line_of, end_line, Filled, stops, after, fill_from, filled, line_fits, line_written}
use Rattle.listing.proofs.RowsOfATest.{first_row, second_row, fits_lem, full_lem}
use Rattle.listing.proofs.TextOverABuffer.{part_from, with_part, part_is, part_back, put_more, room_left, room_taken}
use Rattle.std.specs.Prelude.{Result, Ok, Err}

-- what the next byte's line does, and what the last line does
module _ (n written room at : ℕ) (r : Reader) (line : List ℕ) where
  module _ (b : ℕ) (bs : List ℕ) (e : line ≡ line_of at (answer_to r b).answer) where
    byte_fits : length line ≤ room →
        fill_from n written room at r (b ∷ bs) ≡
        after line (fill_from n (written + length line) (room - length line) (suc at) (answer_to r b).reader bs)
    byte_fits h = rw e (first_row _ room _ _ (rw e at h))

    byte_stops : room < length line → fill_from n written room at r (b ∷ bs) ≡ record { answer = stops written at r; bytes = [] }
    byte_stops h = second_row _ room _ _ (rw e at h)

  module _ (e : line ≡ end_line n (end_of_text r)) where
    end_fits : length line ≤ room →
        fill_from n written room at r [] ≡ record { answer = Ok (Listed.Done (written + length line)); bytes = line }
    end_fits h = rw e (first_row _ room _ _ (rw e at h))

    end_stops : room < length line → fill_from n written room at r [] ≡ record { answer = stops written at r; bytes = [] }
    end_stops h = second_row _ room _ _ (rw e at h)

-- the call has this answer, and the buffer what it is to have
pub record Gives (whole : Filled) (before now : List ℕ) (answer : Result Listed Refusal) : Type 0 where
  pub answers : answer ≡ whole.answer
  pub holds : now ≡ over whole.bytes before

pub gives : {whole : Filled} {before now : List ℕ} {answer result : Result Listed Refusal} → result ≡ answer → Gives whole before now answer →
    record { value : result ≡ whole.answer; buffer_after : now ≡ over whole.bytes before }
gives e g = record { value = e ∙ g.answers; buffer_after = g.holds }

same_call : (answer : Result Listed Refusal) (bytes : List ℕ) {whole : Filled} {before now : List ℕ} →
    whole ≡ record { answer = answer; bytes = bytes } → now ≡ over bytes before → Gives whole before now answer
same_call answer bytes e h = record { answers = rw e; holds = rw e h }

-- a text that is too long
pub refused : (l buffer : List ℕ) (at : ℕ) (r : Reader) → longest_text < length l →
    Gives (filled (length buffer) at r l) buffer buffer (Err Refusal.TooLong)
unfolding filled
refused l buffer at r h = same_call (Err Refusal.TooLong) [] (second_row (length l) longest_text _ _ h) refl

-- a call on the text `l` from an offset on with the buffer `before`, when so many bytes are written and the reader `r` stands at
-- a place
pub record Rest (whole : Filled) (l before now : List ℕ) (offset written at : ℕ) (r : Reader) : Type 0 where
  pub lines : List ℕ
  pub size : length lines ≡ written
  pub room : written ≤ length now
  pub holds : now ≡ over lines before
  pub first : offset ≤ at
  pub last : at ≤ offset + (length l - offset)
  pub rest : whole ≡ after lines (fill_from (length l) written (length (part_from written now)) at r (drop at l))

pub rest_first : (l buffer : List ℕ) (at : ℕ) (r : Reader) → length l ≤ longest_text →
    Rest (filled (length buffer) at r l) l buffer buffer at 0 at r
unfolding filled
rest_first l buffer at r h =
    record {
      lines = [];
      size = refl;
      room = omega arith;
      holds = refl;
      first = omega arith;
      last = omega arith;
      rest = first_row (length l) longest_text _ _ h ∙ rw (part_is 0 buffer);
    }

module _ {whole : Filled} {l before now : List ℕ} {offset written at : ℕ} {r : Reader} (p : Rest whole l before now offset written at r) where
  -- where `fill_from` gives nothing from here, the lines that are there are all
  no_more : {part : List ℕ} → part ≡ part_from written now →
      fill_from (length l) written (length (part_from written now)) at r (drop at l) ≡ record { answer = stops written at r; bytes = [] } →
      Gives whole before (with_part written now part) (stops written at r)
  no_more h e = same_call (stops written at r) p.lines (p.rest ∙ rw (e, append-nil)) (rw (h, part_back written now) p.holds)

  -- a line put into the part of the buffer after them
  module _ (line : List ℕ) {part : List ℕ} (stored : part ≡ over (line_written (length (part_from written now)) line) (part_from written now)) where
    holds_more : length line ≤ length (part_from written now) → with_part written now part ≡ over (p.lines ++ line) before
    holds_more h = put_more p.lines line before p.holds p.size (stored ∙ rw (first_row (length line) _ line [] h))

    unchanged : length (part_from written now) < length line → part ≡ part_from written now
    unchanged h = stored ∙ rw (second_row (length line) _ line [] h)

    module _ (h : at < length l) {a : Answered} (e : a ≡ answer_to r (get_or l at 0)) (same : line ≡ line_of at a.answer) where
      next_line : line ≡ line_of at (answer_to r (get_or l at 0)).answer
      next_line = same ∙ rw e

      turn : {count later : ℕ} → count ≡ length line → length line ≤ length (part_from written now) →
          length (part_from written now) - count ≡ later →
          fill_from (length l) written (length (part_from written now)) at r (drop at l) ≡
          after line (fill_from (length l) (written + count) later (at + 1) a.reader (drop (at + 1) l))
      turn size inside less =
          rw (
            drop-cons l at 0 h,
            byte_fits (length l) written _ at r line (get_or l at 0) (drop (suc at) l) next_line inside,
            ← e,
            ← size,
            less,
            add-one,
          )

      pub rest_more : {count : ℕ} → Ok count ≡ line_fits (length (part_from written now)) line →
          Rest whole l before (with_part written now part) offset (written + count) (at + 1) a.reader
      rest_more {count} fits =
          let room = length (part_from written now) in
          let inside : length line ≤ room = (fits_lem room line fits).0 in
          let size : count ≡ length line = (fits_lem room line fits).1 in
          let sizes : length (p.lines ++ line) ≡ written + count = simp length-append (omega (arith, p.size)) in
          let before_it = room_left p.lines before p.holds p.size in
          let after_it = room_left (p.lines ++ line) before (holds_more inside) sizes in
          let less : room - count ≡ length (part_from (written + count) (with_part written now part)) = omega (arith, before_it, after_it) in
          record {
            lines = p.lines ++ line;
            size = sizes;
            room = room_taken (p.lines ++ line) before (holds_more inside) sizes;
            holds = holds_more inside;
            first = omega (arith, p.first);
            last = omega (arith, p.last);
            rest = p.rest ∙ rw (turn size inside less, append_assoc);
          }

      pub rest_stops : {refused : Refused} → Err refused ≡ line_fits (length (part_from written now)) line →
          Gives whole before (with_part written now part) (stops written at r)
      rest_stops full =
          let room = length (part_from written now) in
          let outside : room < length line = full_lem room line full in
          no_more (unchanged outside)
          (rw (drop-cons l at 0 h)
          (byte_stops (length l) written room at r line (get_or l at 0) (drop (suc at) l) next_line outside))

    module _ (h : length l ≤ at) {w : EndWord} (e : w ≡ end_of_text r) (same : line ≡ end_line (length l) w) where
      last_line_lem : line ≡ end_line (length l) (end_of_text r)
      last_line_lem = same ∙ ap (end_line (length l)) e

      pub rest_ends : {count : ℕ} → Ok count ≡ line_fits (length (part_from written now)) line →
          Gives whole before (with_part written now part) (Ok (Listed.Done (written + count)))
      rest_ends {count} fits =
          let room = length (part_from written now) in
          let inside : length line ≤ room = (fits_lem room line fits).0 in
          let size : count ≡ length line = (fits_lem room line fits).1 in
          rw size
          (same_call (Ok (Listed.Done (written + length line))) (p.lines ++ line)
          (p.rest ∙ rw (drop_of_length-le l h, end_fits (length l) written room at r line last_line_lem inside))
          (holds_more inside))

      pub rest_ends_short : {refused : Refused} → Err refused ≡ line_fits (length (part_from written now)) line →
          Gives whole before (with_part written now part) (stops written at r)
      rest_ends_short full =
          let room = length (part_from written now) in
          let outside : room < length line = full_lem room line full in
          no_more (unchanged outside)
          (rw (drop_of_length-le l h) (end_stops (length l) written room at r line last_line_lem outside))
