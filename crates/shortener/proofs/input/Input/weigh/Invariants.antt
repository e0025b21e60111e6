use Prim.Native.Nat.{◌-◌}
use lib.ListN.{length}
use Rattle.shortener.specs.Weighing.{Weighing}
use Rattle.shortener.proofs.input.Input.weigh.Given as goal

abbrev pub invariant-loop-weighed : goal.invariant-loop-weighed
invariant-loop-weighed l = Weighing l.self.form l.self.text.now l.initial.work l.state l.weighed l.work

abbrev pub decreases-loop-weighed : goal.decreases-loop-weighed
decreases-loop-weighed l = length l.self.text.now - l.weighed.place
