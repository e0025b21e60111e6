-- No rule of the paper: for the contract of comparing several bytes at once.
-- Eight bytes from a place on.
use Rattle.std.specs.Prelude.{ℕ, ◌+◌, List, [], ◌∷◌, get_or}

abbrev pub eight : List ℕ → ℕ → List ℕ
eight bs k =
    get_or bs k 0 ∷ get_or bs (k + 1) 0 ∷ get_or bs (k + 2) 0 ∷ get_or bs (k + 3) 0 ∷
    get_or bs (k + 4) 0 ∷ get_or bs (k + 5) 0 ∷ get_or bs (k + 6) 0 ∷ get_or bs (k + 7) 0 ∷ []
