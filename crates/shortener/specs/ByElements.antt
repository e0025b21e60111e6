-- No rule of the paper: for the contracts of private functions.
-- A value for each element, and the elements by their places from G0 on and by their numbers.
use Rattle.std.specs.Prelude.{ℕ, ◌≤◌, eqb, min}
use Rattle.paper.specs.Choice.{◌gives◌or◌}
use Rattle.paper.specs.Results.{element_number}
use Rattle.paper.specs.declared.Element.{Element}
use Rattle.paper.specs.declared.Element.TheVariants.{G0, G1, G2, G3}
use Rattle.shortener.specs.declared.by_element.ByElement.{ByElement}

abbrev pub at_element : {A : Type 0} → ByElement A → Element → A
at_element f G0 = f.g0
at_element f G1 = f.g1
at_element f G2 = f.g2
at_element f G3 = f.g3

abbrev pub by_element : {A : Type 0} → (Element → A) → ByElement A
by_element n = record { g0 = n G0; g1 = n G1; g2 = n G2; g3 = n G3 }

-- none of the four above a bound
pub record AtMost (bound : ℕ) (f : ByElement ℕ) : Type 0 where
  pub each : (e : Element) → at_element f e ≤ bound

abbrev pub lowest_of : (Element → ℕ) → ℕ
lowest_of n = min (min (min (n G0) (n G1)) (n G2)) (n G3)

abbrev pub index_of : Element → ℕ
index_of G0 = 0
index_of G1 = 1
index_of G2 = 2
index_of G3 = 3

abbrev pub element_at : ℕ → Element
element_at n =
    eqb n 0 gives G0 or
    eqb n 1 gives G1 or
    eqb n 2 gives G2 or
    G3

-- by the number of an element
unfoldable pub element_of : ℕ → Element
element_of n =
    eqb n (element_number G0) gives G0 or
    eqb n (element_number G1) gives G1 or
    eqb n (element_number G2) gives G2 or
    G3
