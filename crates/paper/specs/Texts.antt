-- What a text gives: folds over its bytes from a reader; and openings in it.
use Rattle.std.specs.Prelude.{ℕ, suc, ◌+◌, ◌≡◌, Bool, true, false, List, [], ◌∷◌, ◌++◌, eqb, length}
use Rattle.paper.specs.Choice.{◌gives◌or◌}
use Rattle.paper.specs.Words.{Form, Reader, Answer, EndWord}
use Rattle.paper.specs.Starting.{started, opening}
use Rattle.paper.specs.Searching.{ends_with, skipped_bytes}
use Rattle.paper.specs.Results.{word_of, instep_word}
use Rattle.paper.specs.Answering.{answer_to, end_of_text}

-- the reader after a text
abbrev pub reader_after : Reader → List ℕ → Reader
reader_after r [] = r
reader_after r (b ∷ bs) = reader_after (answer_to r b).reader bs

-- an answer with the offset of the byte that gave it
pub record Placed : Type 0 where
  pub offset : ℕ
  pub answer : Answer

abbrev pub answers_from : ℕ → Reader → List ℕ → List Placed
answers_from at r [] = []
answers_from at r (b ∷ bs) = record { offset = at; answer = (answer_to r b).answer } ∷ answers_from (suc at) (answer_to r b).reader bs

-- of a text in a form: its answers, and the word at its end
abbrev pub answers_of : Form → List ℕ → List Placed
answers_of m l = answers_from 0 (started m) l

abbrev pub end_word : Form → List ℕ → EndWord
end_word m l = end_of_text (reader_after (started m) l)

-- the answer to a byte that comes after a text
abbrev pub answer_after : Form → List ℕ → ℕ → Answer
answer_after m text b = (answer_to (reader_after (started m) text) b).answer

-- the same answers, so many bytes later
abbrev pub later : ℕ → List Placed → List Placed
later n [] = []
later n (a ∷ l) = record { offset = n + a.offset; answer = a.answer } ∷ later n l

-- a text that ends lost
abbrev pub is_lost : EndWord → Bool
is_lost EndWord.Whole = false
is_lost EndWord.Inside = false
is_lost EndWord.Lost = true

-- the bytes since the start, or since the latest instep
abbrev pub since_with : Answer → List ℕ → ℕ → List ℕ
since_with a since b = eqb (word_of a) instep_word gives [] or since ++ (b ∷ [])

abbrev pub since_from : Reader → List ℕ → List ℕ → List ℕ
since_from r since [] = since
since_from r since (b ∷ bs) = since_from (answer_to r b).reader (since_with (answer_to r b).answer since b) bs

abbrev pub since_in_step : Form → List ℕ → List ℕ
since_in_step m text = since_from (started m) [] text

-- a complete opening stands in these bytes, unbroken
pub record OpeningIn (m : Form) (bs : List ℕ) : Type 0 where
  pub before : List ℕ
  pub after : List ℕ
  pub is : bs ≡ before ++ opening m ++ after

abbrev pub NoOpeningIn : Form → List ℕ → Type 0
NoOpeningIn m bs = OpeningIn m bs → ⊥

-- The search, as the paper says it. Seen are all bytes since the refused one, it included: a byte is skipped until they end
-- with the opening; that byte answers instep with their number, and what follows is read as from the start.
unfoldable pub searched : Form → ℕ → List ℕ → List ℕ → List Placed
searched m at seen [] = []
searched m at seen (b ∷ bs) =
    let all = seen ++ (b ∷ []) in
    ends_with all (opening m) gives
    record { offset = at; answer = Answer.InStep (skipped_bytes (length all)) } ∷ answers_from (suc at) (started m) bs or
    record { offset = at; answer = Answer.Skipped } ∷ searched m (suc at) all bs
