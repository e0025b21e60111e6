-- Looking at the one byte of each set that can have the number finds what the search finds.
use Rattle.std.proofs.Common.{rules}
use Rattle.unicode_numbers.proofs.OnlyPosition.{one_of_two}
use Rattle.unicode_numbers.proofs.locate.Goals as goal

pub returns : goal.returns
returns c = one_of_two _ _ _ (rw c.latin.ensures at c.position_with-in_latin.ensures) (search (rules, c.or_else.ensures))
