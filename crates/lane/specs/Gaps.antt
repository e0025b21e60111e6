-- No rule of the paper: for contracts of this layer.
-- Between words: SI, SPACE and SO.
use Rattle.std.specs.Prelude.{ℕ, ◌+◌, Bool, false, List, ltb, leb, eqb, length, get_or}
use Rattle.paper.specs.Choice.{◌gives◌or◌}
use Rattle.paper.specs.CodeTable.{so, si}
use Rattle.paper.specs.Sets.{space}
use Rattle.paper.specs.Results.{element_number}
use Rattle.paper.specs.declared.Element.{Element}
use Rattle.charsets.specs.Sizes.{kind_of, is_of94}
use Rattle.items.specs.States.{left_in, size_in}

-- GL shows G1, and 2/0 is SPACE in G0
unfoldable pub has_gaps : List ℕ → Bool
has_gaps cells =
    eqb (left_in cells) (element_number Element.G1) gives is_of94 (kind_of (size_in cells (element_number Element.G0))) or false

unfoldable pub gap_ahead : List ℕ → ℕ → Bool
gap_ahead text place =
    leb (place + 3) (length text) gives
    (eqb (get_or text place 0) si gives
    (eqb (get_or text (place + 1) 0) space gives eqb (get_or text (place + 2) 0) so or false) or
    false) or
    false

-- a byte above SPACE follows the one at a place
unfoldable pub word_ahead : List ℕ → ℕ → Bool
word_ahead text place = leb (place + 2) (length text) gives ltb space (get_or text (place + 1) 0) or false
