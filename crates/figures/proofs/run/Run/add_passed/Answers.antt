-- Each count takes its part, and what is left of all has room in the others.
use mathlib.Core.Path.{refl}
use native.Mathlib.Omega.{arith}
use Rattle.paper.specs.Results.{control_word}
use Rattle.figures.proofs.AddedCounts.{takes_more, takes_room}
use Rattle.figures.proofs.RunsCount.{known_word}
use Rattle.figures.proofs.run.Run.add_passed.Goals as goal

pub add-requires-2 : goal.add-requires-2
add-requires-2 c =
    let p = c.requires in
    takes_room (takes_more p.2 (omega (arith, p.0, p.1)) control_word c.add.ensures refl) _ _
    (rw c.word_of_space.ensures (known_word _ _)) (omega (arith, p.0, p.1))
