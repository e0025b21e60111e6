-- The invariant: what `fill_from` gives from here, after the lines that stand in the buffer, is the whole.
use lib.ListN.{length}
use Rattle.paper.specs.Lister.{filled}
use Rattle.listing.proofs.FilledFromHere.{Rest}
use Rattle.listing.proofs.list.Given as goal

abbrev pub invariant-loop-at : goal.invariant-loop-at
invariant-loop-at l =
    Rest (filled (length l.initial.buffer) l.offset l.initial.next l.text) l.text l.initial.buffer l.buffer l.offset l.written l.at l.next
