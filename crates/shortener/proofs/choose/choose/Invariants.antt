use Rattle.std.proofs.Common.{◌≡◌}
use Rattle.shortener.proofs.ChosenFromTheEnd.{chosen_from, cost_from}
use Rattle.shortener.proofs.choose.choose.Given as goal

abbrev pub invariant-loop-left : goal.invariant-loop-left
invariant-loop-left l = record {
  work_is : l.work ≡ chosen_from l.left l.count l.initial.work;
  later_is : l.later ≡ cost_from l.left l.count l.initial.work;
}
