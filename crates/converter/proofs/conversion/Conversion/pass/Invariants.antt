use Prim.Native.Nat.{◌-◌}
use lib.ListN.{length}
use Rattle.paper.specs.Results.{element_number}
use Rattle.paper.specs.declared.Element.{Element}
use Rattle.items.specs.States.{starting_cells}
use Rattle.converter.specs.Passing.{Passes}
use Rattle.converter.proofs.conversion.Conversion.pass.Given as goal

abbrev pub invariant-loop-place : goal.invariant-loop-place
invariant-loop-place l =
    Passes l.self.form l.self.to l.self.text.now l.initial.buffer starting_cells (element_number Element.G0) l.at l.place l.buffer

abbrev pub decreases-loop-place : goal.decreases-loop-place
decreases-loop-place l = length l.self.text.now - l.place
