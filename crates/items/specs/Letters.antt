-- No rule of the paper: for contracts of this layer.
-- A letter is a character of one byte on the ground, at 2/1 to 7/14 of its set.
use Rattle.std.specs.Prelude.{ℕ, ◌+◌, ◌-◌, ◌%◌, Bool, false, List, nat_eq}
use Rattle.paper.specs.Choice.{◌gives◌or◌, between}
use Rattle.paper.specs.CodeTable.{form_has, bit8}
use Rattle.paper.specs.Sets.{space, delete}
use Rattle.paper.specs.declared.Form.{Form}
use Rattle.charsets.specs.Sizes.{is_one}
use Rattle.items.specs.States.{single_in, size_in, element_of}

unfoldable pub is_letter : Form → List ℕ → ℕ → Bool
is_letter m cells b =
    between (space + 1) (delete - 1) (b % bit8) gives
    (nat_eq (single_in cells) 0 gives (form_has m b gives is_one (size_in cells (element_of cells b)) or false) or false) or
    false
