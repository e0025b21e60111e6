-- No rule of the paper: for the contracts of private functions.
-- An answer after which the reader has recorded so much of the opening; nothing where it is lost then.
use Rattle.std.specs.Prelude.{ℕ}
use Rattle.paper.specs.Marks.{recording}
use Rattle.paper.specs.declared.Standing.{Standing}
use Rattle.paper.specs.declared.Answered.{Answered}

abbrev pub with_record : ℕ → Answered → Answered
with_record k a = record { answer = a.answer; reader = recording k a.reader }

abbrev pub where_in_step : Standing → ℕ → ℕ
where_in_step (Standing.InStep w) k = k
where_in_step (Standing.Lost j n) k = 0

abbrev pub recorded_in : ℕ → Answered → Answered
recorded_in k a = with_record (where_in_step a.reader.standing k) a
