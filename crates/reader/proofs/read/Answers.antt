-- An arm for each standing, by what is recorded after an answer there.
use Rattle.reader.proofs.RecordsAfterAnswers.{in_step_answers, lost_answers}
use mathlib.Core.Path.{◌∙◌}
use Rattle.reader.proofs.read.Goals as goal

pub returns-in-InStep : goal.returns-in-InStep
returns-in-InStep c =
    (rw (c.record_with.ensures, c.answer_in_step.ensures, c.recording-plain.ensures) at
    c.recorded_in.ensures) ∙
    in_step_answers _ _ _ c.in-InStep.is

pub returns-in-Lost : goal.returns-in-Lost
returns-in-Lost c =
    (rw (c.answer_lost.ensures, c.recording-plain.ensures) at c.with_record.ensures) ∙
    lost_answers _ _ _ _ c.in-Lost.is
