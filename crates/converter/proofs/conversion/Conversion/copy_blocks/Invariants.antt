-- Every pass that was at the first place is at this one.
use Prim.Native.Nat.{ℕ, ◌+◌, ◌-◌, ◌≤◌}
use mathlib.Core.Path.{◌≡◌}
use mathlib.Core.List.{List}
use lib.ListN.{length}
use Rattle.items.specs.States.{single_in}
use Rattle.converter.specs.Passing.{Passes}
use Rattle.converter.specs.Runs.{Copies}
use Rattle.converter.proofs.conversion.Conversion.copy_blocks.Given as goal

abbrev pub invariant-loop-way : goal.invariant-loop-way
invariant-loop-way l =
    (l.place ≤ l.here) ×
    (l.here ≤ length l.self.text.now) ×
    (l.put ≡ l.at + (l.here - l.place)) ×
    (length l.buffer ≡ length l.initial.buffer) ×
    ((cells : List ℕ) (shown : ℕ) (lent : List ℕ) → single_in cells ≡ 0 → Copies l.self.form l.self.to cells shown l.self.text.now l.way →
    Passes l.self.form l.self.to l.self.text.now lent cells shown l.at l.place l.initial.buffer →
    Passes l.self.form l.self.to l.self.text.now lent cells shown l.put l.here l.buffer)

abbrev pub decreases-loop-way : goal.decreases-loop-way
decreases-loop-way l = length l.self.text.now - l.here
