-- How much of the opening stands at the end, one byte later, is found without looking back: computed at each place of the
-- opening, with the byte left open; past its end the whole opening stands before the byte.
use Prim.Native.Nat.{ℕ, zero, suc, ◌+◌, ◌<◌, ◌≤◌}
use mathlib.Core.Path.{◌≡◌, refl, ◌∙◌, ap, sym}
use mathlib.Core.Bool.{Bool, true, false}
use mathlib.Core.List.{List, [], ◌∷◌, ◌++◌}
use native.Mathlib.Omega.{arith}
use borrow.Author.Tests.{ltb-true, ltb-false, ne_eqb}
use lib.Dec.{ltb, eqb}
use lib.ListN.{length}
use lib.Seq.{take_all}
use Rattle.paper.specs.Choice.{◌gives◌or◌}
use Rattle.paper.specs.Starting.{opening}
use Rattle.paper.specs.Searching.{longest, matched_with}
use Rattle.paper.specs.declared.Form.{Form}
use Rattle.paper.specs.declared.Form.TheVariants.{Seven, Eight}
use Rattle.paper.proofs.Choices.{agree}
use Rattle.openings.specs.NextMatch.{opening_at, begun, begun_after, begun_at, next_match}

-- after its first byte or more
abbrev goes_to : Form → ℕ → ℕ → ℕ
goes_to m b k = eqb b (opening_at m k) gives k + 1 or begun_at m k b

goes : (m : Form) (k b : ℕ) → 0 < k → k < length (opening m) → goes_to m b k ≡ matched_with m k b
unfolding matched_with begun begun_after begun_at
goes Seven k b low high = agree (goes_to Seven b) (λ n. matched_with Seven n b) 19 1 refl k low high
goes Eight k b low high = agree (goes_to Eight b) (λ n. matched_with Eight n b) 20 1 refl k low high

-- past its end
past_whole : (m : Form) (b : ℕ) → begun b ≡ longest (opening m) (opening m ++ (b ∷ [])) (length (opening m))
unfolding begun
past_whole Seven b = refl
past_whole Eight b = refl

past : (m : Form) (k b : ℕ) → length (opening m) ≤ k → begun b ≡ matched_with m k b
unfolding matched_with
past m k b h = past_whole m b ∙ ap (λ (l : List ℕ). longest (opening m) (l ++ (b ∷ [])) (length (opening m))) (sym (take_all k (opening m) h))

-- before its first byte
first_match : (m : Form) (b : ℕ) → begun b ≡ matched_with m 0 b
unfolding begun matched_with
first_match Seven b = refl
first_match Eight b = refl

pub next_match_is : (m : Form) (k b : ℕ) → next_match m k b ≡ matched_with m k b
unfolding next_match
next_match_is m zero b = first_match m b
next_match_is m (suc k) b = rw (ne_eqb (suc k) 0 (λ e. omega arith)) (by (ltb (suc k) (length (opening m))) refl)
  where
    by : (t : Bool) → ltb (suc k) (length (opening m)) ≡ t → (t gives goes_to m b (suc k) or begun b) ≡ matched_with m (suc k) b
    by true e = goes m (suc k) b (omega arith) (ltb-true (suc k) (length (opening m)) e)
    by false e = past m (suc k) b (ltb-false (suc k) (length (opening m)) e)
