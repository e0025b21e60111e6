-- No rule of the paper: for the contracts of private functions.
-- What it costs to have come so far with each element in GL, going forward: at the start and after an opening, and with one unit more.
use Rattle.std.specs.Prelude.{ℕ, ◌+◌, ◌≤◌, length, min}
use Rattle.paper.specs.declared.Element.{Element}
use Rattle.paper.specs.declared.Element.TheVariants.{G0}
use Rattle.shortest.specs.ShortestText.{shift_to, shift_from}
use Rattle.shortener.specs.ByElements.{lowest_of}

abbrev pub first_ways : Element → ℕ
first_ways e = length (shift_from G0 e)

-- the unit is written while GL shows an element, and then a shift leads on where that costs less
abbrev pub with : (Element → ℕ) → (Element → ℕ) → Element → ℕ
with ways costs e = ways e + costs e

abbrev pub further : (Element → ℕ) → (Element → ℕ) → Element → ℕ
further ways costs e = min (with ways costs e) (lowest_of (with ways costs) + length (shift_to e))

-- no shift leads anywhere for less
abbrev pub Closed : (Element → ℕ) → Type 0
Closed ways = (e k : Element) → ways k ≤ ways e + length (shift_to k)
