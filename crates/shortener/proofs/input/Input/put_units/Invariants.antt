use Prim.Native.Nat.{◌-◌}
use lib.ListN.{length}
use Rattle.shortener.specs.Putting.{Putting}
use Rattle.shortener.proofs.input.Input.put_units.Given as goal

abbrev pub invariant-loop-written : goal.invariant-loop-written
invariant-loop-written l = Putting l.self.form l.self.text.now l.initial.buffer l.work l.state l.written l.buffer

abbrev pub decreases-loop-written : goal.decreases-loop-written
decreases-loop-written l = length l.self.text.now - l.written.place
