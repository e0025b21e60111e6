-- No rule of the paper: for contracts of this layer.
-- Which bytes pass the lane.
use Rattle.std.specs.Prelude.{ℕ, zero, suc, ◌+◌, Bool, true, false, List, leb, ltb, eqb, length, get_or}
use Rattle.paper.specs.Choice.{◌gives◌or◌, between}
use Rattle.paper.specs.CodeTable.{so, si, esc}
use Rattle.lane.specs.declared.Lane.{Lane}

-- neither ESC, SO nor SI
unfoldable pub is_quiet : ℕ → Bool
is_quiet b = eqb b esc gives false or between so si b gives false or true

-- within the lane's bounds, or quiet and at most its last plain byte
unfoldable pub passes : Lane → ℕ → Bool
passes x b = between x.first x.last b gives true or leb b x.plain gives is_quiet b or false

-- so many bytes from a place on
abbrev pub pass_all : Lane → List ℕ → ℕ → ℕ → Bool
pass_all x text place zero = true
pass_all x text place (suc n) = pass_all x text place n gives passes x (get_or text (place + n) 0) or false

unfoldable pub byte_ahead : Lane → List ℕ → ℕ → Bool
byte_ahead x text place = ltb place (length text) gives passes x (get_or text place 0) or false

unfoldable pub block_ahead : Lane → List ℕ → ℕ → Bool
block_ahead x text place = leb (place + 16) (length text) gives pass_all x text place 16 or false
