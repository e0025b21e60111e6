-- No rule of the paper: for the contracts of private functions.
-- At a place of a pass: what is left to read gives the rest of the output and the refusal of the whole text; what was written so far
-- stands at the beginning of the buffer, where that has room for the whole output.
use Rattle.std.specs.Prelude.{ℕ, ◌≤◌, ◌≡◌, List, ◌++◌, length, drop, Option}
use Rattle.paper.specs.Marks.{recording}
use Rattle.paper.specs.Answering.{end_of_text}
use Rattle.paper.specs.Texts.{reader_after, answers_from}
use Rattle.paper.specs.LentBuffers.{over}
use Rattle.paper.specs.Results.{element_number}
use Rattle.paper.specs.Surveying.{first_refusal, first_of}
use Rattle.paper.specs.WrittenForms.{Writer, sequence_from, written_from}
use Rattle.paper.specs.Conversions.{refusal_at_end, refusal_in, output}
use Rattle.paper.specs.declared.Form.{Form}
use Rattle.paper.specs.declared.Element.{Element}
use Rattle.paper.specs.declared.Reader.{Reader}
use Rattle.paper.proofs.LawfulAnswers.{IsInStep}
use Rattle.paper.proofs.OpeningsTakenWhole.{ShowsG1}
use Rattle.items.specs.States.{Stands}
use Rattle.paper.specs.declared.Refused.{Refused}

-- the writer beside a reader has the reader's sets
abbrev pub beside : Reader → Element → Writer
beside r gl = record { sets = r.sets; gl = gl }

-- the rest of the output, where no opening stands across the place, and the refusal of what is left
abbrev pub rest_from : Form → Reader → Element → ℕ → List ℕ → List ℕ
rest_from to r gl place text = written_from to (beside r gl) (sequence_from (recording 0 r) (drop place text))

abbrev pub refusal_from : Reader → ℕ → List ℕ → Option Refused
refusal_from r place text =
    first_of (first_refusal (answers_from place r (drop place text)))
    (refusal_at_end (end_of_text (reader_after r (drop place text))) (length text))

-- of a text in the first form that is written in the second
pub record Passing (m to : Form) (text lent : List ℕ) (r : Reader) (gl : Element) (at place : ℕ) (buffer : List ℕ) : Type 0 where
  pub within : place ≤ length text
  pub in_step : IsInStep r.standing
  pub form : r.form ≡ m
  pub shows : ShowsG1 r
  pub refused : refusal_from r place text ≡ refusal_in m text
  pub so_far : List ℕ
  pub whole : so_far ++ rest_from to r gl place text ≡ output m to text
  pub counted : length so_far ≡ at
  pub as_long : length buffer ≡ length lent
  pub wrote : length (output m to text) ≤ length lent → buffer ≡ over so_far lent

-- GL shows G0 or G1 in the output
abbrev pub OfTwo : Element → Type 0
OfTwo Element.G0 = Unit {0}
OfTwo Element.G1 = Unit {0}
OfTwo Element.G2 = ⊥
OfTwo Element.G3 = ⊥

-- the same of what a pass knows: some reader stands so
pub record Passes (m to : Form) (text lent cells : List ℕ) (shown at place : ℕ) (buffer : List ℕ) : Type 0 where
  pub reader : Reader
  pub gl : Element
  pub shown_is : shown ≡ element_number gl
  pub of_two : OfTwo gl
  pub stands : Stands cells reader
  pub passing : Passing m to text lent reader gl at place buffer
