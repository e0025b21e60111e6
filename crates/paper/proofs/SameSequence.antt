-- Demand 2. A text that is accepted in one form is written in either form as a text that is accepted there, ends whole and reads as the
-- same sequence: what a reader hands out can be written, and what can be written is read back. So a conversion can be converted back.
use Prim.Native.Nat.{ℕ, ◌≤◌}
use mathlib.Core.Path.{◌≡◌, refl, sym, ap, ◌∙◌, subst}
use mathlib.Core.Bool.{Bool}
use mathlib.Core.List.{List}
use native.Mathlib.Omega.{arith}
use borrow.Author.Tests.{le-leb}
use lib.Dec.{leb}
use lib.ListN.{length}
use Rattle.paper.specs.Choice.{◌gives◌or◌}
use Rattle.paper.specs.Words.{Form, Reader, Refusal, EndWord, Refused}
use Rattle.paper.specs.Starting.{started}
use Rattle.paper.specs.Refusals.{longest_text, refusal_at}
use Rattle.paper.specs.Texts.{answers_of, end_word}
use Rattle.paper.specs.Surveying.{first_refusal, first_of}
use Rattle.paper.specs.WrittenForms.{Entry, sequence_of, writer_at_start, written}
use Rattle.paper.specs.Conversions.{refusal_at_end, Accepted, output, into_room, conversion, refusal_in}
use Rattle.paper.proofs.Choices.{impossible, gives_has}
use Rattle.paper.proofs.TextsThatAreAccepted.{refuses_nothing}
use Rattle.paper.proofs.WhatCanBeWritten.{entries_of}
use Rattle.paper.proofs.WhatIsReadCanBeWritten.{can_be_written}
use Rattle.paper.proofs.ReadingOn.{ReadsAs}
use Rattle.paper.proofs.WrittenAnswersReadBack.{reader_at_start, sequence_reads_back}
use Rattle.std.specs.Prelude.{Option, Some, None, Result, Ok, Err}

output_reads_back : (from to : Form) (text : List ℕ) → first_refusal (answers_of from text) ≡ None →
    ReadsAs (started to) (output from to text) (sequence_of from text)
output_reads_back from to text never =
    let can = can_be_written from text never in
    subst (λ (l : List Entry). ReadsAs (started to) (written to l) l) (sym can.is)
    (subst (λ (r : Reader). ReadsAs r (written to (entries_of can.steps)) (entries_of can.steps)) (reader_at_start to)
    (sequence_reads_back to can.steps writer_at_start refl can.all))

-- what refuses nothing and ends whole is accepted
pub accepted_where : (m : Form) (text : List ℕ) → first_refusal (answers_of m text) ≡ None → end_word m text ≡ EndWord.Whole → Accepted m text
accepted_where m text never whole =
    ap (λ (x : Option Refused). first_of x (refusal_at_end (end_word m text) (length text))) never ∙
    ap (λ (e : EndWord). refusal_at_end e (length text)) whole

-- once over both directions
pub same_sequence : (from to : Form) (text : List ℕ) → Accepted from text →
    let bytes = output from to text in
    Accepted to bytes × (end_word to bytes ≡ EndWord.Whole) × (sequence_of to bytes ≡ sequence_of from text)
same_sequence from to text accepted =
    let reads = output_reads_back from to text (refuses_nothing from text accepted) in
    (accepted_where to (output from to text) (reads.never 0) reads.whole, reads.whole, reads.sequence 0 (omega arith))

-- ---- there and back

-- a conversion that was done: the text is accepted, and the number is the output's length
into_done : (x : Option Refused) (k room n : ℕ) → into_room x k room ≡ Ok n → (x ≡ None) × (k ≡ n)
into_done (Some r) k room n e = impossible (cc)
into_done None k room n e =
    (refl, gives_has (λ (c : Result ℕ Refused). c ≡ Ok n → k ≡ n) (leb k room) (λ h. cc) (λ h. impossible (cc)) e)

done : (from to : Form) (text : List ℕ) (room n : ℕ) → conversion from to text room ≡ Ok n →
    Accepted from text × (length (output from to text) ≡ n)
unfolding conversion
done from to text room n e =
    gives_has (λ (c : Result ℕ Refused). c ≡ Ok n → Accepted from text × (length (output from to text) ≡ n))
    (leb (length text) longest_text) (λ h. into_done (refusal_in from text) (length (output from to text)) room n h) (λ h. impossible (cc)) e

-- and an accepted text of at most 65,536 bytes is converted into any room for its output
converted : (from to : Form) (text : List ℕ) (room : ℕ) → Accepted from text → length text ≤ longest_text →
    length (output from to text) ≤ room → conversion from to text room ≡ Ok (length (output from to text))
unfolding conversion
converted from to text room accepted short fits =
    let n : ℕ = length (output from to text) in
    ap (λ (t : Bool). t gives into_room (refusal_in from text) n room or Err (refusal_at Refusal.TooLong 0))
    (le-leb (length text) longest_text short) ∙
    ap (λ (x : Option Refused). into_room x n room) accepted ∙
    ap (λ (t : Bool). t gives Ok n or Err (refusal_at Refusal.BufferShort 0)) (le-leb n room fits)

-- what was converted into any buffer, with at most 65,536 bytes, is converted back into any buffer with room for it
pub converted_back : (from to : Form) (text : List ℕ) (room n : ℕ) → conversion from to text room ≡ Ok n → n ≤ longest_text →
    let bytes = output from to text in
    let back = output to from bytes in
    (room_back : ℕ) → length back ≤ room_back →
    (conversion to from bytes room_back ≡ Ok (length back)) × Accepted from back × (sequence_of from back ≡ sequence_of from text)
converted_back from to text room n e short room_back fits =
    let bytes : List ℕ = output from to text in
    let there = done from to text room n e in
    let once = same_sequence from to text there.0 in
    let again = same_sequence to from bytes once.0 in
    let most : length bytes ≤ longest_text = omega (arith, there.1) in
    (converted to from bytes room_back once.0 most fits, again.0, again.2 ∙ once.2)
