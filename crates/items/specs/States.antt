-- No rule of the paper: for contracts of this layer.
-- What is known of a reader between two items, in cells: the sizes of its sets, not their Final Bytes; what GL and GR show; and the element
-- that a single shift takes.
use Rattle.std.specs.Prelude.{◌≡◌, ℕ, ◌%◌, List, [], ◌∷◌, nat_lt, slice_index, slice_set}
use Rattle.paper.specs.Choice.{◌gives◌or◌}
use Rattle.paper.specs.CodeTable.{bit8}
use Rattle.paper.specs.Starting.{started}
use Rattle.paper.specs.Results.{element_number}
use Rattle.paper.specs.declared.Form.{Form}
use Rattle.paper.specs.declared.Element.{Element}
use Rattle.paper.specs.declared.Within.{Within}
use Rattle.paper.specs.declared.Standing.{Standing}
use Rattle.paper.specs.declared.Reader.{Reader}
use Rattle.charsets.specs.Sizes.{size_of_set}
use Rattle.escapes.specs.Effects.{cell_of_gl, cell_of_gr, cell_of_single, cell_number}
use Rattle.escapes.specs.declared.effect.Effect.{Effect}

-- ---- what a cell has

abbrev pub single_in : List ℕ → ℕ
single_in cells = slice_index cells cell_of_single

abbrev pub left_in : List ℕ → ℕ
left_in cells = slice_index cells cell_of_gl

abbrev pub right_in : List ℕ → ℕ
right_in cells = slice_index cells cell_of_gr

-- the size of an element's set
abbrev pub size_in : List ℕ → ℕ → ℕ
size_in cells element = slice_index cells (element % 16)

-- the element that the area of a byte shows
unfoldable pub element_of : List ℕ → ℕ → ℕ
element_of cells b = nat_lt b bit8 gives left_in cells or right_in cells

-- a single shift is spent, and the cell has its value
abbrev pub changed : Effect → List ℕ → List ℕ
changed x cells = slice_set (slice_set cells cell_of_single 0) (cell_number x.cell % 16) x.value

-- ---- the cells of a reader

-- whether a single shift takes the next character, and of which element; none is 0
pub data Single : Type 0 where
  none : Single
  one : Element → Single

abbrev pub single_number : Single → ℕ
single_number none = 0
single_number (one e) = element_number e

-- between two items a reader stands on the ground, or after a single shift
abbrev pub within_of : Single → Within
within_of none = Within.Ground
within_of (one e) = Within.SingleShift e

-- the cell that nothing reads has whatever was left there
abbrev pub cells_of : Reader → Single → ℕ → List ℕ
cells_of r t left =
    0 ∷ 0 ∷ size_of_set r.sets.g0 ∷ size_of_set r.sets.g1 ∷ size_of_set r.sets.g2 ∷ size_of_set r.sets.g3 ∷
    element_number r.gl ∷ element_number r.gr ∷ single_number t ∷ left ∷ 0 ∷ 0 ∷ 0 ∷ 0 ∷ 0 ∷ 0 ∷ []

-- the reader beside them is taken without its record of an opening: openings are taken whole
pub record Stands (cells : List ℕ) (r : Reader) : Type 0 where
  pub single : Single
  pub left : ℕ
  pub has : cells ≡ cells_of r single left
  pub stands : r.standing ≡ Standing.InStep (within_of single)
  pub nothing_gone : r.gone ≡ 0

-- both forms start alike
abbrev pub starting_cells : List ℕ
starting_cells = cells_of (started Form.Eight) none 0
