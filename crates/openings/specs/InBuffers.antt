-- No rule of the paper: for the contract of writing an opening.
-- A buffer with the opening from a place on, where there is room for all of it; else as it was.
use Rattle.std.specs.Prelude.{ℕ, ◌+◌, List, leb, length}
use Rattle.std.proofs.lemmas.List.Edits.{sets}
use Rattle.paper.specs.Choice.{◌gives◌or◌}
use Rattle.paper.specs.Starting.{opening}
use Rattle.paper.specs.declared.Form.{Form}

unfoldable pub with_opening : Form → List ℕ → ℕ → List ℕ
with_opening m buffer place =
    leb (place + length (opening m)) (length buffer) gives sets buffer place (opening m) or buffer
