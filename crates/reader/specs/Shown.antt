-- What a shift does, by its effect: an element into GL, into GR, or for one character.
use Rattle.paper.specs.declared.Element.{Element}
use Rattle.paper.specs.declared.Shift.{Shift}
use Rattle.paper.specs.declared.Within.{Within}
use Rattle.paper.specs.declared.Standing.{Standing}
use Rattle.paper.specs.declared.Reader.{Reader}
use Rattle.paper.specs.declared.Answer.{Answer}
use Rattle.paper.specs.declared.Answered.{Answered}
use Rattle.paper.specs.Characters.{standing_at}

abbrev pub shows : Shift → Element → Element → Reader → Answered
shows h gl gr r = record {
  answer = Answer.Shift h;
  reader = record { form = r.form; sets = r.sets; gl = gl; gr = gr; gone = r.gone; standing = Standing.InStep Within.Ground };
}

abbrev pub takes_one : Shift → Element → Reader → Answered
takes_one h e r = record { answer = Answer.Shift h; reader = standing_at (Standing.InStep (Within.SingleShift e)) r }
