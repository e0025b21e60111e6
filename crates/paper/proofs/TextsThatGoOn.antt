-- A text that goes on leads where its end leads from where its beginning led, and is answered in the same way, byte by byte.
use Prim.Native.Nat.{ℕ, suc, ◌+◌}
use mathlib.Core.Path.{◌≡◌, refl}
use mathlib.Core.List.{List, [], ◌∷◌, ◌++◌}
use native.Mathlib.Nat.{add-zero, add-suc, suc-add}
use lib.ListN.{length}
use Rattle.paper.specs.Words.{Reader}
use Rattle.paper.specs.Answering.{answer_to}
use Rattle.paper.specs.Texts.{reader_after, answers_from}

pub reader_on : (l more : List ℕ) (r : Reader) → reader_after r (l ++ more) ≡ reader_after (reader_after r l) more
reader_on [] more r = refl
reader_on (b ∷ bs) more r = reader_on bs more (answer_to r b).reader

pub answers_on : (l more : List ℕ) (at : ℕ) (r : Reader) →
    answers_from at r (l ++ more) ≡ answers_from at r l ++ answers_from (at + length l) (reader_after r l) more
answers_on [] more at r = rw add-zero
answers_on (b ∷ bs) more at r = rw (answers_on bs more (suc at) (answer_to r b).reader, add-suc, suc-add)
