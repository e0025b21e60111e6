-- A lost reader's answers are those of the search as the paper says it, after any text, by what one byte more does to it.
use Prim.Native.Nat.{ℕ, suc}
use mathlib.Core.Path.{◌≡◌, refl, ap, ◌∙◌}
use mathlib.Core.Bool.{Bool, true, false}
use mathlib.Core.List.{List, [], ◌∷◌, ◌++◌}
use native.Mathlib.Nat.{zero-add}
use lib.ListN.{length}
use Rattle.paper.specs.Words.{Form, Reader, Refusal, Answer}
use Rattle.paper.specs.Starting.{started, opening}
use Rattle.paper.specs.Searching.{ends_with, matched_with, one_more}
use Rattle.paper.specs.Answering.{answer_to}
use Rattle.paper.specs.Texts.{Placed, reader_after, answers_from, answers_of, answer_after, searched}
use Rattle.paper.proofs.AByteMoreWhileLost.{Kept, lost, found, not_found, still_kept, kept_first}
use Rattle.paper.proofs.LawfulAnswers.{refused_lost, form_after}
use Rattle.paper.proofs.TextsThatGoOn.{answers_on}

abbrev placed : ℕ → Answer → Placed
placed at a = record { offset = at; answer = a }

lost_searches : (r : Reader) (bs : List ℕ) (at : ℕ) (seen : List ℕ) (k n : ℕ) → Kept r.form seen k n →
    answers_from at (lost r k n) bs ≡ searched r.form at seen bs
unfolding searched
lost_searches r [] at seen k n kept = refl
lost_searches r (b ∷ bs) at seen k n kept =
    by (ends_with (seen ++ (b ∷ [])) (opening r.form)) refl
    (lost_searches r bs (suc at) (seen ++ (b ∷ [])) (matched_with r.form k b) (one_more n) (still_kept r seen k n b kept))
  where
    by : (t : Bool) → ends_with (seen ++ (b ∷ [])) (opening r.form) ≡ t →
        answers_from (suc at) (lost r (matched_with r.form k b) (one_more n)) bs ≡ searched r.form (suc at) (seen ++ (b ∷ [])) bs →
        answers_from at (lost r k n) (b ∷ bs) ≡ searched r.form at seen (b ∷ bs)
    by true e rest = rw (found r seen k n b kept e, e)
    by false e rest = rw (not_found r seen k n b kept e, e, rest)

-- any reader that refuses a byte
search_from : (r : Reader) (b : ℕ) (n : Refusal) (at : ℕ) (bs : List ℕ) → (answer_to r b).answer ≡ Answer.Refused n →
    answers_from at r (b ∷ bs) ≡ placed at (Answer.Refused n) ∷ searched r.form (suc at) (b ∷ []) bs
search_from r b n at bs e =
    rw (e, (refused_lost r b n e).1)
    (ap (λ (l : List Placed). placed at (Answer.Refused n) ∷ l)
    (lost_searches r bs (suc at) (b ∷ []) (matched_with r.form 0 b) (one_more 0) (kept_first r.form b)))

-- after any text: the byte that is refused, then the search, which begins with it
pub search_after : (m : Form) (l : List ℕ) (b : ℕ) (n : Refusal) (bs : List ℕ) →
    answer_after m l b ≡ Answer.Refused n →
    answers_of m (l ++ b ∷ bs) ≡ answers_of m l ++ placed (length l) (Answer.Refused n) ∷ searched m (suc (length l)) (b ∷ []) bs
search_after m l b n bs e =
    let r : Reader = reader_after (started m) l in
    answers_on l (b ∷ bs) 0 (started m) ∙
    ap (λ (x : List Placed). answers_of m l ++ x)
    (ap (λ (at : ℕ). answers_from at r (b ∷ bs)) (zero-add (length l)) ∙
    (search_from r b n (length l) bs e ∙ rw (form_after l (started m))))
