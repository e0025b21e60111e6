-- What a conversion answers, and what the lent buffer holds afterwards.
use Rattle.std.specs.Prelude.{ℕ, ◌≡◌, List, [], leb, length, Option, Some, None, Result, Ok, Err}
use Rattle.paper.specs.Choice.{◌gives◌or◌}
use Rattle.paper.specs.Words.{Form, Refusal, EndWord, Refused}
use Rattle.paper.specs.Refusals.{longest_text, refusal_at}
use Rattle.paper.specs.LentBuffers.{over}
use Rattle.paper.specs.Texts.{answers_of, end_word}
use Rattle.paper.specs.Surveying.{first_refusal, first_of}
use Rattle.paper.specs.WrittenForms.{sequence_of, written}

-- 7: the text ends inside; its place is the length. A text that ends lost was refused before
abbrev pub refusal_at_end : EndWord → ℕ → Option Refused
refusal_at_end EndWord.Whole n = None
refusal_at_end EndWord.Inside n = Some (refusal_at Refusal.EndsInside n)
refusal_at_end EndWord.Lost n = None

-- the first of 1 to 7, in reading order
abbrev pub refusal_in : Form → List ℕ → Option Refused
refusal_in m text = first_of (first_refusal (answers_of m text)) (refusal_at_end (end_word m text) (length text))

abbrev pub Accepted : Form → List ℕ → Type 0
Accepted m text = refusal_in m text ≡ None

-- what a text in one form is in another
abbrev pub output : Form → Form → List ℕ → List ℕ
output from to text = written to (sequence_of from text)

-- then 9; the output's length where it fits
abbrev pub into_room : Option Refused → ℕ → ℕ → Result ℕ Refused
into_room (Some r) n room = Err r
into_room None n room = leb n room gives Ok n or Err (refusal_at Refusal.BufferShort 0)

-- 8 is tested first
unfoldable pub conversion : Form → Form → List ℕ → ℕ → Result ℕ Refused
conversion from to text room =
    leb (length text) longest_text gives into_room (refusal_in from text) (length (output from to text)) room or
    Err (refusal_at Refusal.TooLong 0)

-- a conversion that refuses has written nothing
abbrev pub wrote_by : Result ℕ Refused → List ℕ → List ℕ
wrote_by (Ok n) bytes = bytes
wrote_by (Err r) bytes = []

-- the lent buffer afterwards
abbrev pub buffer_after : Form → Form → List ℕ → List ℕ → List ℕ
buffer_after from to text buffer = over (wrote_by (conversion from to text (length buffer)) (output from to text)) buffer
