-- No rule of the paper: for the contracts of private functions.
-- What is chosen at each unit, from the codes of it and of those after it. The choices at a unit stand in one byte, two bits for each element
-- that GL may show.
use Rattle.std.specs.Prelude.{ℕ, ◌+◌, ◌*◌, ◌/◌, ◌%◌, Bool, true, false, List, [], ◌∷◌, ltb, eqb}
use Rattle.paper.specs.Choice.{◌gives◌or◌}
use Rattle.paper.specs.declared.Element.{Element}
use Rattle.paper.specs.declared.Element.TheVariants.{G0, G1, G2, G3}
use Rattle.shortest.specs.ShortestText.{moving, cheapest, least}
use Rattle.shortener.specs.declared.code.Place.{Place}
use Rattle.shortener.specs.declared.code.Code.{Code}
use Rattle.shortener.specs.ByElements.{index_of, element_at}
use Rattle.shortener.specs.Codes.{cost_by, place_by, is_opening, unpacked}

-- whether bytes at a place in byte order come before a shift; LS2 and LS3 come after what stands in the middle
abbrev pub is_before : Place → Element → Bool
is_before Place.First e = true
is_before Place.Middle G0 = false
is_before Place.Middle G1 = false
is_before Place.Middle G2 = true
is_before Place.Middle G3 = true
is_before Place.Last e = false

-- the element that GL is to show, by what it costs as it is, the best shift, and the place of the bytes as it is
abbrev pub chosen_by : ℕ → ℕ → Element → Place → Element → Element
chosen_by cost best element place shown =
    (ltb cost best gives true or
    eqb cost best gives is_before place element or
    false) gives shown or
    element

abbrev pub choice_at : (Element → ℕ) → Code → Element → Element
choice_at c code gl = chosen_by (c gl) (moving c (cheapest c)) (cheapest c) (place_by code gl) gl

abbrev pub with_code : Code → (Element → ℕ) → Element → ℕ
with_code code later e = cost_by code e + later e

-- up to an opening nothing costs
abbrev pub costs_with : Code → (Element → ℕ) → Element → ℕ
costs_with code later e = is_opening code gives 0 or least (with_code code later) e

abbrev pub choices_with : Code → (Element → ℕ) → Element → Element
choices_with code later e = is_opening code gives G0 or choice_at (with_code code later) code e

-- ---- the choices at a unit as a byte

abbrev pub packed_choices : (Element → Element) → ℕ
packed_choices n = index_of (n G0) + 4 * index_of (n G1) + 16 * index_of (n G2) + 64 * index_of (n G3)

-- the choice where GL shows an element
abbrev pub choice_in : ℕ → Element → Element
choice_in choices G0 = element_at (choices % 4)
choice_in choices G1 = element_at (choices / 4 % 4)
choice_in choices G2 = element_at (choices / 16 % 4)
choice_in choices G3 = element_at (choices / 64)

-- ---- the bytes of the work buffer

unfoldable pub costs_by : List ℕ → Element → ℕ
costs_by [] e = 0
costs_by (byte ∷ l) e = costs_with (unpacked byte) (costs_by l) e

unfoldable pub choices_by : List ℕ → List ℕ
choices_by [] = []
choices_by (byte ∷ l) = packed_choices (choices_with (unpacked byte) (costs_by l)) ∷ choices_by l
