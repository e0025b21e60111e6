-- The work buffer from pass to pass: the codes over its first bytes, then the choices in their place, and what lies beyond them as it was.
use Prim.Native.Nat.{ℕ, suc, ◌+◌, ◌-◌, ◌≤◌}
use mathlib.Core.Path.{◌≡◌, refl, sym, ap, ◌∙◌}
use mathlib.Core.List.{List, [], ◌∷◌, ◌++◌}
use native.Mathlib.Omega.{arith}
use lib.ListN.{length, take, drop, replicate, length-replicate}
use lib.Seq.{take_at, drop_at, drop-drop, drop-append-add}
use Rattle.paper.specs.LentBuffers.{over}
use Rattle.shortest.specs.Shortening.{work_length}
use Rattle.shortener.specs.Choices.{choices_by}

choices_length : (l : List ℕ) → length (choices_by l) ≡ length l
unfolding choices_by
choices_length [] = refl
choices_length (k ∷ l) = ap suc (choices_length l)

module _ (codes work coded chosen : List ℕ) (n : ℕ) (counted : n ≡ length codes) (written : coded ≡ over codes work)
    (chosen_is : chosen ≡ choices_by (take n coded) ++ drop n coded) where
  taken : take n coded ≡ codes
  taken = ap (take n) written ∙ take_at codes (drop (length codes) work) n (sym counted)

  left_over : drop n coded ≡ drop n work
  left_over = ap (drop n) written ∙ drop_at codes (drop (length codes) work) n (sym counted) ∙ ap (λ (k : ℕ). drop k work) (sym counted)

  pub choices_over : chosen ≡ choices_by codes ++ drop n work
  choices_over = chosen_is ∙ ap (λ (l : List ℕ). choices_by l ++ drop n coded) taken ∙ ap (λ (l : List ℕ). choices_by codes ++ l) left_over

  beyond : n ≤ work_length → drop work_length chosen ≡ drop work_length work
  beyond few =
      let long : length (choices_by codes) ≡ n = choices_length codes ∙ sym counted in
      let sum : length (choices_by codes) + (work_length - n) ≡ work_length = omega (arith, long, few) in
      let back : n + (work_length - n) ≡ work_length = omega (arith, few) in
      ap (drop work_length) choices_over ∙ ap (λ (k : ℕ). drop k (choices_by codes ++ drop n work)) (sym sum) ∙
      drop-append-add (choices_by codes) (drop n work) (work_length - n) ∙ drop-drop (work_length - n) n work ∙
      ap (λ (k : ℕ). drop k work) back

  -- and once its first bytes are zero
  pub cleared : (after_it : List ℕ) → n ≤ work_length → after_it ≡ replicate work_length 0 ++ drop work_length chosen →
      after_it ≡ over (replicate work_length 0) work
  cleared after_it few is =
      is ∙ ap (λ (l : List ℕ). replicate work_length 0 ++ l) (beyond few) ∙
      ap (λ (k : ℕ). replicate work_length 0 ++ drop k work) (sym (length-replicate {A = ℕ} work_length 0))
