-- A locking shift first is no better: whatever it leads to is a way that was weighed, or two shifts where one is enough. And what an answer
-- is written as, with any text after it that is not before the shortest, is no better either.
use Prim.Native.Nat.{ℕ}
use mathlib.Core.Path.{◌≡◌}
use mathlib.Core.Bool.{true}
use mathlib.Core.List.{List, ◌++◌}
use native.Mathlib.Omega.{arith}
use lib.ListN.{length-append}
use Rattle.paper.specs.WrittenForms.{sets_with}
use Rattle.paper.specs.declared.Kind.TheVariants.{Of94}
use Rattle.paper.specs.declared.Element.{Element}
use Rattle.paper.specs.declared.Sets.{Sets}
use Rattle.paper.specs.declared.Answer.{Answer}
use Rattle.paper.proofs.WhatCanBeWritten.{Steps, ended, said, opened, AllCanBeWritten}
use Rattle.paper.proofs.WrittenAnswersReadBack.{keeps_g0}
use Rattle.shortest.specs.ByteOrder.{NotAfter}
use Rattle.shortest.specs.ShortestText.{fits, bytes_under, shift_to, cheapest, costs, shortest_from}
use Rattle.shortest.proofs.TextsInOrder.{by_length, nothing_first, not_after_on, not_after_both}
use Rattle.shortest.proofs.TheCheapestShift.{shift_length}
use Rattle.shortest.proofs.WhatIsChosen.{stays_where_it_fits, best_fits, onward, by_the_way, Long, long_text}
use Rattle.shortest.proofs.NoWayComesBefore.{not_after_going_on, not_after_a_shift}

shift_longer : (e : Element) (text : List ℕ) → NotAfter text (shift_to e ++ text)
shift_longer e text = by_length text (shift_to e ++ text) (omega (arith, length-append (shift_to e) text, (shift_length e).0))

module _ (a : Answer) (s : Steps) (t : Sets) (g0 : t.g0.kind ≡ Of94) (all : AllCanBeWritten t (said a s)) where
  abbrev long : Long s (sets_with t a)
  long = long_text s (sets_with t a) (keeps_g0 a t all.1 g0) all.2

  shift_before_answer : (gl e : Element) → NotAfter (shortest_from (said a s) t gl) (shift_to e ++ shortest_from (said a s) t e)
  shift_before_answer gl e =
      let best : Element = cheapest (costs a s t) in
      let weighed = not_after_a_shift a s t g0 long all.0 all.1 gl in
      by_the_way a s t e (λ (text : List ℕ). NotAfter (shortest_from (said a s) t gl) (shift_to e ++ text))
      (λ h. weighed e (stays_where_it_fits a s t g0 e h))
      (λ h. not_after_on (weighed best (best_fits a s t g0)) (shift_longer e (shift_to best ++ onward a s t best)))

  pub answer_first : (gl : Element) (bytes text : List ℕ) → fits t gl a ≡ true → NotAfter (bytes_under gl a) bytes →
      NotAfter (shortest_from s (sets_with t a) gl) text → NotAfter (shortest_from (said a s) t gl) (bytes ++ text)
  answer_first gl bytes text fit one rest =
      not_after_on (not_after_going_on a s t g0 long all.0 all.1 gl fit) (not_after_both one rest)

pub no_better_by_a_shift : (s : Steps) (t : Sets) → t.g0.kind ≡ Of94 → AllCanBeWritten t s → (gl e : Element) →
    NotAfter (shortest_from s t gl) (shift_to e ++ shortest_from s t e)
unfolding shortest_from
no_better_by_a_shift ended t g0 all gl e = nothing_first _
no_better_by_a_shift (said a s) t g0 all gl e = shift_before_answer a s t g0 all gl e
no_better_by_a_shift (opened s) t g0 all gl e = shift_longer e _
