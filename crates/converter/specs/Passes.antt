-- No rule of the paper: for the contracts of private functions.
-- What a pass over a text answers: the first of 1 to 7, or the length of the output.
use Rattle.std.specs.Prelude.{ℕ, eqb, Option, Some, None, Result, Ok, Err}
use Rattle.paper.specs.Choice.{◌gives◌or◌}
use Rattle.paper.specs.declared.Refusal.{Refusal}
use Rattle.paper.specs.Refusals.{refusal_at}
use Rattle.paper.specs.declared.Refused.{Refused}

abbrev pub passed_by : Option Refused → ℕ → Result ℕ Refused
passed_by None n = Ok n
passed_by (Some r) n = Err r

-- at the end of the text: 7 after a single shift, whose element is not 0
abbrev pub at_the_end : ℕ → ℕ → ℕ → Result ℕ Refused
at_the_end taken at place = eqb taken 0 gives Ok at or Err (refusal_at Refusal.EndsInside place)
