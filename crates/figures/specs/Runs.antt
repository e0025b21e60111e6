-- No rule of the paper: for the contracts of private functions.
-- Bytes that pass the lane: what is counted over so many of them, in every state that has this lane.
use Rattle.std.specs.Prelude.{ℕ, ◌≡◌, Bool, List}
use Rattle.paper.specs.declared.Form.{Form}
use Rattle.lane.specs.Lanes.{lane_of, has_space}
use Rattle.lane.specs.declared.Lane.{Lane}
use Rattle.items.specs.States.{single_in}
use Rattle.figures.specs.Counting.{GoesOn}

abbrev pub LaneGoesOn : Lane → Bool → List ℕ → List ℕ → ℕ → List ℕ → ℕ → Type 0
LaneGoesOn lane space text counts place after there =
    (form : Form) (cells : List ℕ) → single_in cells ≡ 0 → lane ≡ lane_of form cells → space ≡ has_space cells →
    GoesOn form text cells counts place after there
