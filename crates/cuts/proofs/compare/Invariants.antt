-- If the readers answer the bytes that are left the same, they answer the whole text the same.
use Rattle.std.proofs.Common.{◌≡◌, drop}
use Rattle.paper.specs.Texts.{answers_from}
use Rattle.cuts.proofs.compare.Given as goal

abbrev pub invariant-loop-offset : goal.invariant-loop-offset
invariant-loop-offset l =
    answers_from l.offset l.one (drop l.offset l.second) ≡ answers_from l.offset l.other (drop l.offset l.second)
    → answers_from 0 l.fn.after l.second ≡ answers_from 0 l.fn.started l.second
