-- What a reader has recorded changes none of its answers, and nothing of the readers after them but what these have recorded: the cases
-- are given a reader that has recorded nothing.
use Prim.Native.Nat.{ℕ, suc}
use mathlib.Core.Path.{◌≡◌, refl, ap}
use mathlib.Core.List.{List, [], ◌∷◌}
use Rattle.paper.specs.Words.{Reader, Answered}
use Rattle.paper.specs.Marks.{recording, record_after}
use Rattle.paper.specs.Answering.{answer_standing, answer_to}
use Rattle.paper.specs.Texts.{Placed, reader_after, answers_from}

-- the answer of the cases
abbrev pub answer_of : Reader → ℕ → Answered
answer_of r b = answer_standing r.standing b (recording 0 r)

abbrev pub record_of : Reader → ℕ → ℕ
record_of r b = record_after r b (answer_of r b).reader.standing

pub answers_alike : (bs : List ℕ) (at j k : ℕ) (r : Reader) → answers_from at (recording j r) bs ≡ answers_from at (recording k r) bs
unfolding answer_to
answers_alike [] at j k r = refl
answers_alike (b ∷ bs) at j k r =
    ap (λ (l : List Placed). record { offset = at; answer = (answer_of r b).answer } ∷ l)
    (answers_alike bs (suc at) (record_of (recording j r) b) (record_of (recording k r) b) (answer_of r b).reader)

pub reader_alike : (bs : List ℕ) (j k : ℕ) (r : Reader) →
    recording 0 (reader_after (recording j r) bs) ≡ recording 0 (reader_after (recording k r) bs)
unfolding answer_to
reader_alike [] j k r = refl
reader_alike (b ∷ bs) j k r =
    reader_alike bs (record_of (recording j r) b) (record_of (recording k r) b) (answer_of r b).reader
