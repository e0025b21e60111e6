-- What a text has: how many answers of each word, its first refusal with the place, and how it ends.
use Rattle.std.specs.Prelude.{ℕ, suc, List, [], ◌∷◌, leb, eqb, length, Option, Some, None, Result, Ok, Err}
use Rattle.paper.specs.Choice.{◌gives◌or◌}
use Rattle.paper.specs.Words.{Form, Refusal, Answer, Figures, Refused}
use Rattle.paper.specs.Refusals.{longest_text, refusal_at}
use Rattle.paper.specs.Results.{word_of, char_word, space_word, delete_word, control_word, designate_word, shift_word}
use Rattle.paper.specs.Results.{other_word, refused_word, instep_word}
use Rattle.paper.specs.Texts.{Placed, answers_of, end_word}

-- how many answers of a word there are
abbrev pub how_many : ℕ → List Placed → ℕ
how_many w [] = 0
how_many w (a ∷ l) = eqb (word_of a.answer) w gives suc (how_many w l) or how_many w l

-- the first refusal: this answer, or else one of those that follow
abbrev pub refusal_or : Option Refused → ℕ → Answer → Option Refused
refusal_or later at Answer.NothingYet = later
refusal_or later at (Answer.Char e x p) = later
refusal_or later at Answer.Space = later
refusal_or later at Answer.Delete = later
refusal_or later at (Answer.Control w f n) = later
refusal_or later at (Answer.DesignateControls w f) = later
refusal_or later at (Answer.Designate e x) = later
refusal_or later at (Answer.Shift h) = later
refusal_or later at (Answer.Other s f) = later
refusal_or later at (Answer.Refused n) = Some (refusal_at n at)
refusal_or later at Answer.Skipped = later
refusal_or later at (Answer.InStep n) = later

abbrev pub first_refusal : List Placed → Option Refused
first_refusal [] = None
first_refusal (a ∷ l) = refusal_or (first_refusal l) a.offset a.answer

-- the first of two refusals, where the second comes later
abbrev pub first_of : Option Refused → Option Refused → Option Refused
first_of None second = second
first_of (Some r) second = Some r

abbrev pub figures_of : Form → List ℕ → Figures
figures_of m l = record {
  characters = how_many char_word (answers_of m l);
  spaces = how_many space_word (answers_of m l);
  deletes = how_many delete_word (answers_of m l);
  controls = how_many control_word (answers_of m l);
  designations = how_many designate_word (answers_of m l);
  shifts = how_many shift_word (answers_of m l);
  others = how_many other_word (answers_of m l);
  refusals = how_many refused_word (answers_of m l);
  insteps = how_many instep_word (answers_of m l);
  first = first_refusal (answers_of m l);
  end = end_word m l;
}

-- 8 above 65,536 bytes
unfoldable pub survey_of : Form → List ℕ → Result Figures Refusal
survey_of m l = leb (length l) longest_text gives Ok (figures_of m l) or Err Refusal.TooLong
