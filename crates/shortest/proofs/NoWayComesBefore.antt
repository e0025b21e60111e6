-- No way to go on at an answer comes before the one that is taken: not what it is written as while GL shows what it shows, and not one
-- locking shift and what it is written as then. By cost, which is length, and among those that are as long by rank.
use Prim.Native.Nat.{ℕ, ◌+◌, ◌<◌}
use mathlib.Core.Path.{◌≡◌, subst}
use mathlib.Core.Bool.{true, false}
use mathlib.Core.Logic.{⊎_elim}
use mathlib.Core.List.{List, ◌++◌}
use native.Mathlib.Omega.{arith}
use native.Mathlib.Nat.{eq-or-lt_of_le}
use lib.ListN.{length}
use Rattle.paper.specs.WrittenForms.{left_out, sets_with}
use Rattle.paper.specs.declared.Kind.TheVariants.{Of94}
use Rattle.paper.specs.declared.Element.{Element}
use Rattle.paper.specs.declared.Sets.{Sets}
use Rattle.paper.specs.declared.Answer.{Answer}
use Rattle.paper.proofs.WhatCanBeWritten.{CanBeWritten, Steps, said}
use Rattle.shortest.specs.ByteOrder.{NotAfter}
use Rattle.shortest.specs.ShortestText.{fits, bytes_under, shift_to, rank, moving, cheapest}
use Rattle.shortest.specs.ShortestText.{costs, shortest_from}
use Rattle.shortest.proofs.TextsInOrder.{by_length, by_bytes, not_after_itself}
use Rattle.shortest.proofs.TheCheapestShift.{cheapest_key, cheapest_moves}
use Rattle.shortest.proofs.BytesOfAnAnswer.{Clear, clear_bytes}
use Rattle.shortest.proofs.ShiftsInOrder.{shifts_in_order, one_shift_of_a_rank, bytes_first, shift_first}
use Rattle.shortest.proofs.WhatIsChosen.{Stays, stays_where_it_fits, best_fits, onward, by_the_way, after, Long, onward_length, shifted_length}

module _ (a : Answer) (s : Steps) (t : Sets) (g0 : t.g0.kind ≡ Of94) (long : Long s (sets_with t a)) (stays : left_out a ≡ false)
    (can : CanBeWritten t a) (gl : Element) where
  abbrev own : List ℕ
  own = bytes_under gl a

  abbrev c : Element → ℕ
  c = costs a s t

  abbrev best : Element
  best = cheapest c

  abbrev rest : Element → List ℕ
  rest e = onward a s t e

  abbrev later : Element → List ℕ
  later e = shortest_from s (sets_with t a) e

  clear : Clear own
  clear = clear_bytes a t gl stays can

  pub not_after_going_on : fits t gl a ≡ true → NotAfter (shortest_from (said a s) t gl) (rest gl)
  not_after_going_on fit =
      by_the_way a s t gl (λ (text : List ℕ). NotAfter text (rest gl)) (λ h. not_after_itself (rest gl))
      (⊎_elim
      (λ less. by_length (shift_to best ++ rest best) (rest gl)
      (omega (arith, shifted_length a s t g0 long best (best_fits a s t g0), onward_length a s t g0 long gl fit)))
      (λ same. by_bytes (shift_to best ++ rest best) (rest gl)
      (omega (arith, same.0, shifted_length a s t g0 long best (best_fits a s t g0), onward_length a s t g0 long gl fit))
      (shift_first best (later gl) (rest best) clear same.1)))

  module _ (e : Element) (fit : fits t e a ≡ true) where
    abbrev other : List ℕ
    other = shift_to e ++ rest e

    stayed : Stays c gl own → NotAfter (rest gl) other
    stayed h = ⊎_elim
        (λ less. by_length (rest gl) other (omega (arith, less, cheapest_moves c e, long_here, shifted_length a s t g0 long e fit)))
        (λ same. ⊎_elim
        (λ (as_cheap : moving c best ≡ moving c e). by_bytes (rest gl) other
        (omega (arith, same.0, as_cheap, long_here, shifted_length a s t g0 long e fit))
        (bytes_first e (later gl) (rest e) clear (omega (arith, same.1, as_cheap, cheapest_key c e))))
        (λ less. by_length (rest gl) other (omega (arith, same.0, less, long_here, shifted_length a s t g0 long e fit)))
        (eq-or-lt_of_le (cheapest_moves c e)))
        h
      where
        long_here : length (rest gl) ≡ c gl + after s
        long_here = onward_length a s t g0 long gl (stays_where_it_fits a s t g0 gl h)

    moved : NotAfter (shift_to best ++ rest best) other
    moved = ⊎_elim
        (λ (as_cheap : moving c best ≡ moving c e). ⊎_elim
        (λ (same : rank (shift_to best) ≡ rank (shift_to e)).
        subst (λ (k : Element). NotAfter (shift_to best ++ rest best) (shift_to k ++ rest k)) (one_shift_of_a_rank best e same)
        (not_after_itself (shift_to best ++ rest best)))
        (λ (first : rank (shift_to best) < rank (shift_to e)). by_bytes (shift_to best ++ rest best) other
        (omega (arith, as_cheap, long_best, shifted_length a s t g0 long e fit)) (shifts_in_order best e (rest best) (rest e) first))
        (eq-or-lt_of_le (omega (arith, as_cheap, cheapest_key c e))))
        (λ less. by_length (shift_to best ++ rest best) other (omega (arith, less, long_best, shifted_length a s t g0 long e fit)))
        (eq-or-lt_of_le (cheapest_moves c e))
      where
        long_best : length (shift_to best ++ rest best) ≡ moving c best + after s
        long_best = shifted_length a s t g0 long best (best_fits a s t g0)

    pub not_after_a_shift : NotAfter (shortest_from (said a s) t gl) other
    not_after_a_shift = by_the_way a s t gl (λ (text : List ℕ). NotAfter text other) stayed (λ h. moved)
