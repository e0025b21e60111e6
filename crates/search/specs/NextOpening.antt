-- No rule of the paper: for the contract of the search over a whole text.
-- Where the next opening ends, by how much of it stands at the end of the bytes so far.
use Rattle.std.specs.Prelude.{ℕ, ◌+◌, List, [], ◌∷◌, leb, eqb, length, get_or, drop, Option, Some, None}
use Rattle.paper.specs.Choice.{◌gives◌or◌}
use Rattle.paper.specs.Starting.{opening}
use Rattle.paper.specs.Searching.{matched_with}
use Rattle.paper.specs.declared.Form.{Form}

abbrev pub opening_in : Form → ℕ → ℕ → List ℕ → Option ℕ
opening_in m k place [] = None
opening_in m k place (b ∷ bs) =
    eqb (matched_with m k b) (length (opening m)) gives Some (place + 1) or opening_in m (matched_with m k b) (place + 1) bs

-- after a refusal at a place: the search begins with the refused byte
unfoldable pub opening_after : Form → List ℕ → ℕ → Option ℕ
opening_after m text place =
    leb (length text) place gives None or
    opening_in m (matched_with m 0 (get_or text place 0)) (place + 1) (drop (place + 1) text)
