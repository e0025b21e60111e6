-- No rule of the paper: for the contracts of private functions.
-- While a text is read: what is counted so far and what the rest of the text has make what the whole text has, for every word that has
-- a figure; likewise the first refusal and the end. No count passes the number of the bytes so far. In 7-bit form GR shows G1.
use Rattle.std.specs.Prelude.{ℕ, ◌+◌, ◌≤◌, ◌≡◌, List, leb, eqb, length, drop, get_or, set, count_by, slice_range, Option}
use Rattle.paper.specs.Choice.{◌gives◌or◌}
use Rattle.paper.specs.Refusals.{longest_text}
use Rattle.paper.specs.Results.{nothing_yet_word, char_word, space_word, delete_word, control_word, designate_word, shift_word, other_word}
use Rattle.paper.specs.Results.{refused_word, skipped_word, instep_word}
use Rattle.paper.specs.Answering.{end_of_text}
use Rattle.paper.specs.Texts.{reader_after, answers_from, answers_of, end_word}
use Rattle.paper.specs.Surveying.{how_many, first_refusal, first_of}
use Rattle.paper.specs.declared.Form.{Form}
use Rattle.paper.specs.declared.Element.{Element}
use Rattle.paper.specs.declared.Reader.{Reader}
use Rattle.paper.specs.declared.EndWord.{EndWord}
use Rattle.paper.specs.declared.Figures.{Figures}
use Rattle.items.specs.States.{Stands}
use Rattle.paper.specs.declared.Refused.{Refused}

-- so many more of a word
abbrev pub added : List ℕ → ℕ → ℕ → List ℕ
added counts w n = set counts w (get_or counts w 0 + n)

-- controls, 2/0 by its word, and other characters
abbrev pub tally : List ℕ → ℕ → ℕ → ℕ → ℕ → List ℕ
tally counts spaces c s o = added (added (added counts control_word c) spaces s) char_word o

-- there is room in each count for so many more
pub record Takes (counts : List ℕ) (more : ℕ) : Type 0 where
  pub bounded : (w : ℕ) → get_or counts w 0 + more ≤ longest_text

-- of so many bytes from a place on, those that are at most a bound
unfoldable pub up_to : ℕ → List ℕ → ℕ → ℕ → ℕ
up_to bound text place n = count_by (λ b. leb b bound) (slice_range text place (place + n))

-- there is room in each count for what is left of the text
pub record Fits (text counts : List ℕ) (place : ℕ) : Type 0 where
  pub short : length text ≤ longest_text
  pub within : place ≤ length text
  pub bounded : (w : ℕ) → get_or counts w 0 ≤ place

-- the words that have a figure are all but two
pub record HasFigure (w : ℕ) : Type 0 where
  pub not_nothing_yet : w ≡ nothing_yet_word → ⊥
  pub not_skipped : w ≡ skipped_word → ⊥

pub record Counting (form : Form) (text counts : List ℕ) (first : Option Refused) (r : Reader) (place : ℕ) : Type 0 where
  pub fits : Fits text counts place
  pub words : length counts ≡ instep_word + 1
  pub in_form : r.form ≡ form
  pub gr_shows_g1 : r.form ≡ Form.Seven → r.gr ≡ Element.G1
  pub counted : (w : ℕ) → HasFigure w →
      get_or counts w 0 + how_many w (answers_from place r (drop place text)) ≡ how_many w (answers_of form text)
  pub refused : first_of first (first_refusal (answers_from place r (drop place text))) ≡ first_refusal (answers_of form text)
  pub ends : end_of_text (reader_after r (drop place text)) ≡ end_word form text

-- the same of what is known between two items
pub record Counts (form : Form) (text cells counts : List ℕ) (first : Option Refused) (place : ℕ) : Type 0 where
  pub reader : Reader
  pub stands : Stands cells reader
  pub counting : Counting form text counts first reader place

-- what is counted goes on to another place, where the state is the same
abbrev pub GoesOn : Form → List ℕ → List ℕ → List ℕ → ℕ → List ℕ → ℕ → Type 0
GoesOn form text cells counts place after there =
    (first : Option Refused) → Counts form text cells counts first place → Counts form text cells after first there

abbrev pub end_after : ℕ → EndWord
end_after t = eqb t 0 gives EndWord.Whole or EndWord.Inside

abbrev pub figures_from : List ℕ → Option Refused → EndWord → Figures
figures_from counts first end = record {
  characters = get_or counts char_word 0;
  spaces = get_or counts space_word 0;
  deletes = get_or counts delete_word 0;
  controls = get_or counts control_word 0;
  designations = get_or counts designate_word 0;
  shifts = get_or counts shift_word 0;
  others = get_or counts other_word 0;
  refusals = get_or counts refused_word 0;
  insteps = get_or counts instep_word 0;
  first = first;
  end = end;
}
