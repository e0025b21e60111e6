-- The search over a text goes on by a byte: the opening ends with it, or the search goes on with what is matched then.
use Prim.Native.Nat.{ℕ, suc, ◌+◌, ◌≤◌, ◌<◌}
use mathlib.Core.Path.{◌≡◌, refl, sym, ap, ◌∙◌}
use mathlib.Core.Bool.{Bool, true, false}
use mathlib.Core.List.{List}
use mathlib.Core.Logic.{⊎_elim}
use native.Mathlib.Omega.{arith}
use native.Mathlib.Numerals.{add-one}
use borrow.Author.Tests.{eq-eqb, ne_eqb, le-leb, lt-leb}
use lib.Dec.{eqb}
use lib.ListN.{length, get_or, drop, drop_of_length-le}
use lib.Seq.{drop-cons}
use Rattle.std.proofs.lemmas.Bool.{cases_lt}
use Rattle.paper.specs.Choice.{◌gives◌or◌}
use Rattle.paper.specs.CodeTable.{esc}
use Rattle.paper.specs.Starting.{opening}
use Rattle.paper.specs.Searching.{matched_with}
use Rattle.paper.specs.declared.Form.{Form}
use Rattle.search.specs.NextOpening.{opening_in, opening_after}
use Rattle.openings.specs.NextMatch.{begun, next_match}
use Rattle.openings.proofs.MatchGoesOn.{next_match_is}
use Rattle.std.specs.Prelude.{Option, Some, None}

module _ (m : Form) (text : List ℕ) (here k n : ℕ) (inside : here < length text) (is : n ≡ matched_with m k (get_or text here 0)) where
  by_byte : opening_in m k here (drop here text) ≡
      (eqb n (length (opening m)) gives Some (here + 1) or opening_in m n (here + 1) (drop (here + 1) text))
  by_byte =
      ap (opening_in m k here) (drop-cons text here 0 inside) ∙
      ap (λ (j : ℕ). eqb j (length (opening m)) gives Some (here + 1) or opening_in m j (here + 1) (drop (suc here) text)) (sym is) ∙
      ap (λ (p : ℕ). eqb n (length (opening m)) gives Some (here + 1) or opening_in m n (here + 1) (drop p text))
      (sym (add-one here))

  abbrev chosen : Bool → Option ℕ
  chosen t = t gives Some (here + 1) or opening_in m n (here + 1) (drop (here + 1) text)

  pub search_ends : n ≡ length (opening m) → opening_in m k here (drop here text) ≡ Some (here + 1)
  search_ends whole = by_byte ∙ ap chosen (eq-eqb n (length (opening m)) whole)

  pub search_goes_on : (n ≡ length (opening m) → ⊥) →
      opening_in m k here (drop here text) ≡ opening_in m n (here + 1) (drop (here + 1) text)
  search_goes_on part = by_byte ∙ ap chosen (ne_eqb n (length (opening m)) part)

pub search_misses : (m : Form) (text : List ℕ) (here k : ℕ) → length text ≤ here → opening_in m k here (drop here text) ≡ None
search_misses m text here k past = ap (opening_in m k here) (drop_of_length-le text past)

-- it begins with the refused byte, and one byte is no opening
one_is_part : (m : Form) (t : Bool) → (t gives 1 or 0) ≡ length (opening m) → ⊥
one_is_part Form.Seven true e = omega arith
one_is_part Form.Seven false e = omega arith
one_is_part Form.Eight true e = omega arith
one_is_part Form.Eight false e = omega arith

first_is_part : (m : Form) (b : ℕ) → matched_with m 0 b ≡ length (opening m) → ⊥
unfolding next_match begun
first_is_part m b e = one_is_part m (eqb b esc) (next_match_is m 0 b ∙ e)

pub search_begins : (m : Form) (text : List ℕ) (place : ℕ) → opening_after m text place ≡ opening_in m 0 place (drop place text)
unfolding opening_after
search_begins m text place = ⊎_elim
    (λ inside. rw (lt-leb (length text) place inside)
    (sym (search_goes_on m text place 0 _ inside refl (first_is_part m (get_or text place 0)))))
    (λ past. rw (le-leb (length text) place past) (sym (search_misses m text place 0 past)))
    (cases_lt place (length text))
