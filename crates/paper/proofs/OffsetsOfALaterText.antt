-- A text that comes after other bytes gets the answers that it gets from where these bytes led, each as many bytes later as these bytes
-- are: byte by byte, since each offset is one more. So the answer to one byte after a text is the next of the text's answers.
use Prim.Native.Nat.{ℕ, suc, ◌+◌}
use mathlib.Core.Path.{◌≡◌, refl, sym, ap, ◌∙◌}
use mathlib.Core.List.{List, [], ◌∷◌, ◌++◌}
use native.Mathlib.Nat.{zero-add, add-zero, add-suc}
use lib.ListN.{length}
use Rattle.paper.specs.Words.{Form, Reader}
use Rattle.paper.specs.Starting.{started}
use Rattle.paper.specs.Answering.{answer_to}
use Rattle.paper.specs.Texts.{Placed, reader_after, answers_from, answers_of, answer_after, later}
use Rattle.paper.proofs.TextsThatGoOn.{answers_on}

answered_later : (l : List ℕ) (n at : ℕ) (r : Reader) → answers_from (n + at) r l ≡ later n (answers_from at r l)
answered_later [] n at r = refl
answered_later (b ∷ bs) n at r =
    ap (λ (l : List Placed). record { offset = n + at; answer = (answer_to r b).answer } ∷ l)
    (ap (λ (i : ℕ). answers_from i (answer_to r b).reader bs) (sym (add-suc n at)) ∙
    answered_later bs n (suc at) (answer_to r b).reader)

pub answers_of_a_later_text : (m : Form) (first text : List ℕ) →
    answers_of m (first ++ text) ≡ answers_of m first ++ later (length first) (answers_from 0 (reader_after (started m) first) text)
answers_of_a_later_text m first text =
    let r : Reader = reader_after (started m) first in
    answers_on first text 0 (started m) ∙
    ap (λ (l : List Placed). answers_of m first ++ l)
    (ap (λ (at : ℕ). answers_from at r text) (zero-add (length first) ∙ sym (add-zero (length first))) ∙
    answered_later text (length first) 0 r)

pub answers_to_one_more : (m : Form) (text : List ℕ) (b : ℕ) →
    answers_of m (text ++ (b ∷ [])) ≡ answers_of m text ++ (record { offset = length text; answer = answer_after m text b } ∷ [])
answers_to_one_more m text b =
    answers_on text (b ∷ []) 0 (started m) ∙
    ap (λ (at : ℕ). answers_of m text ++ (record { offset = at; answer = answer_after m text b } ∷ [])) (zero-add (length text))
