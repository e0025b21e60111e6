-- Every pass that was at the first place is at this one.
use Prim.Native.Nat.{ℕ, ◌+◌, ◌-◌, ◌*◌, ◌≤◌, ◌<◌}
use mathlib.Core.Path.{◌≡◌}
use mathlib.Core.List.{List}
use lib.ListN.{length}
use Rattle.converter.specs.Passing.{Passes}
use Rattle.converter.specs.Runs.{Begins}
use Rattle.converter.proofs.conversion.Conversion.copy_run.Given as goal

abbrev pub invariant-loop-here : goal.invariant-loop-here
invariant-loop-here l =
    (l.byte < 0x100) ×
    (l.place < l.blocks_at) ×
    (l.place ≤ l.here) ×
    (l.here ≤ length l.self.text.now) ×
    (l.put ≤ l.at + 4 * (l.here - l.place)) ×
    (length l.buffer ≡ length l.initial.buffer) ×
    ((shown : ℕ) (lent : List ℕ) → Begins l.self.form l.self.to l.state shown l.byte →
    Passes l.self.form l.self.to l.self.text.now lent l.state shown l.at l.place l.initial.buffer →
    Passes l.self.form l.self.to l.self.text.now lent l.state shown l.put l.here l.buffer)

abbrev pub decreases-loop-here : goal.decreases-loop-here
decreases-loop-here l = length l.self.text.now - l.here
