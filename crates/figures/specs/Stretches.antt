-- No rule of the paper: for the contracts of private functions.
-- How a stretch of a text ends, and what is counted then: before an opening, at a refusal, or all of the text.
use Rattle.std.specs.Prelude.{ℕ, ◌+◌, ◌<◌, ◌≤◌, ◌≡◌, List, eqb, ltb, length, Option, Some, None}
use Rattle.paper.specs.Choice.{◌gives◌or◌}
use Rattle.paper.specs.Results.{designate_word, shift_word, refused_word, instep_word}
use Rattle.paper.specs.Surveying.{first_of, figures_of}
use Rattle.paper.specs.declared.Form.{Form}
use Rattle.paper.specs.declared.EndWord.{EndWord}
use Rattle.refusals.specs.ByNumber.{refusal_of}
use Rattle.search.specs.NextOpening.{opening_after}
use Rattle.escapes.specs.declared.effect.Effect.{Effect}
use Rattle.escapes.specs.Effects.{word_number}
use Rattle.items.specs.States.{starting_cells}
use Rattle.figures.specs.Counting.{added, Fits, Counts, figures_from}
use Rattle.figures.specs.declared.stretch.Ending.{Ending}
use Rattle.paper.specs.Refusals.{refusal_at}
use Rattle.paper.specs.declared.Refused.{Refused}
use Rattle.escapes.specs.Effects.{opening_word}

-- by an item that ends it, in a text of so many bytes
abbrev pub stops_by : Effect → ℕ → ℕ → Ending
stops_by e place n =
    eqb (word_number e.word) opening_word gives Ending.Opens place or
    ltb place n gives Ending.Stops (refusal_at (refusal_of e.value) place) or
    Ending.Over EndWord.Inside

-- it does not end before it began
abbrev pub Onward : ℕ → Ending → Type 0
Onward place (Ending.Opens next) = place < next
Onward place (Ending.Stops refused) = place ≤ refused.place
Onward place (Ending.Over word) = Unit {0}

-- an opening has six designations and two shifts
abbrev pub opening_counted : List ℕ → List ℕ
opening_counted counts = added (added counts designate_word 6) shift_word 2

-- an opening is still to be counted, and is not shorter than what is counted of it
pub record BeforeOpening (form : Form) (text counts : List ℕ) (first : Option Refused) (next : ℕ) : Type 0 where
  pub here : ℕ
  pub fits : Fits text counts here
  pub far : here + 8 ≤ next
  pub after : Counts form text starting_cells (opening_counted counts) first next

-- what is counted after the search
abbrev pub Searched : Form → List ℕ → List ℕ → Option Refused → ℕ → Option ℕ → Type 0
Searched form text counts first place (Some there) =
    (place < there) × (there ≤ length text) × Counts form text starting_cells (added counts instep_word 1) first there
Searched form text counts first place None = figures_of form text ≡ figures_from counts first EndWord.Lost

-- a refusal is still to be counted, and the search begins with its byte
pub record AtRefusal (form : Form) (text counts : List ℕ) (first : Option Refused) (refused : Refused) : Type 0 where
  pub here : ℕ
  pub inside : here < length text
  pub fits : Fits text counts here
  pub after : Searched form text (added counts refused_word 1) (first_of first (Some refused)) (refused.place + 1)
      (opening_after form text refused.place)

abbrev pub Ends : Form → List ℕ → List ℕ → Option Refused → Ending → Type 0
Ends form text counts first (Ending.Opens next) = BeforeOpening form text counts first next
Ends form text counts first (Ending.Stops refused) = AtRefusal form text counts first refused
Ends form text counts first (Ending.Over word) = figures_of form text ≡ figures_from counts first word
