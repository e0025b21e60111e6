-- No rule of the paper: for the contracts of private functions.
-- How a stretch of a text ends. With an opening: once it is written the pass goes on after it, from the starting state. Or with what is
-- promised of the whole text.
use Rattle.std.specs.Prelude.{ℕ, ◌+◌, ◌<◌, ◌≤◌, ◌≡◌, List, eqb, length, Option, Some, None, Result, Ok, Err}
use Rattle.std.proofs.lemmas.List.Edits.{sets}
use Rattle.paper.specs.Choice.{◌gives◌or◌}
use Rattle.paper.specs.Starting.{opening}
use Rattle.paper.specs.LentBuffers.{over}
use Rattle.paper.specs.Results.{element_number, refused_word}
use Rattle.paper.specs.Conversions.{refusal_in, Accepted, output}
use Rattle.paper.specs.declared.Form.{Form}
use Rattle.paper.specs.declared.Element.{Element}
use Rattle.refusals.specs.ByNumber.{refusal_of}
use Rattle.escapes.specs.declared.effect.Effect.{Effect}
use Rattle.escapes.specs.Effects.{word_number}
use Rattle.items.specs.States.{starting_cells}
use Rattle.converter.specs.Passes.{passed_by}
use Rattle.converter.specs.Passing.{Passes}
use Rattle.converter.specs.declared.stretch.Ending.{Ending}
use Rattle.paper.specs.Refusals.{refusal_at}
use Rattle.paper.specs.declared.Refused.{Refused}

-- by an item that ends it: a refusal, or an opening
abbrev pub stops_by : Effect → ℕ → ℕ → Result Ending Refused
stops_by e place at =
    eqb (word_number e.word) refused_word gives Err (refusal_at (refusal_of e.value) place) or Ok (record { at = at; next = Some place })

-- the place after the opening lies after the one at which the stretch began
abbrev pub OnwardTo : ℕ → Option ℕ → Type 0
OnwardTo place (Some next) = place < next
OnwardTo place None = Unit {0}

abbrev pub Onward : ℕ → Result Ending Refused → Type 0
Onward place (Ok e) = OnwardTo place e.next
Onward place (Err r) = Unit {0}

-- the answer, and the buffer where the text is accepted and has room
abbrev pub Promised : Form → Form → List ℕ → List ℕ → Result ℕ Refused → List ℕ → Type 0
Promised m to text lent answer buffer =
    (answer ≡ passed_by (refusal_in m text) (length (output m to text))) ×
    (Accepted m text → length (output m to text) ≤ length lent → buffer ≡ over (output m to text) lent)

-- after an opening: any buffer as long as this one, with the opening in it where there is room; and where no opening ends it, the answer
abbrev pub EndsAt : Form → Form → List ℕ → List ℕ → ℕ → Option ℕ → List ℕ → Type 0
EndsAt m to text lent at (Some next) buffer =
    (after : List ℕ) → length after ≡ length buffer →
    (at + length (opening to) ≤ length lent → after ≡ sets buffer at (opening to)) →
    Passes m to text lent starting_cells (element_number Element.G0) (at + length (opening to)) next after
EndsAt m to text lent at None buffer = Promised m to text lent (Ok at) buffer

abbrev pub Ends : Form → Form → List ℕ → List ℕ → Result Ending Refused → List ℕ → Type 0
Ends m to text lent (Ok e) buffer = EndsAt m to text lent e.at e.next buffer
Ends m to text lent (Err r) buffer = Promised m to text lent (Err r) buffer
