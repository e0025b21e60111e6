-- The search over what is left of the text is the whole search.
use mathlib.Core.Path.{◌≡◌}
use lib.ListN.{drop}
use Rattle.search.specs.NextOpening.{opening_in, opening_after}
use Rattle.search.proofs.opening_after.Given as goal

abbrev pub invariant-loop-here : goal.invariant-loop-here
invariant-loop-here l = opening_after l.form l.text l.place ≡ opening_in l.form l.matched l.here (drop l.here l.text)
