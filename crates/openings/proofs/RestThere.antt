-- Bytes begin with two lists where they begin with the first, and what follows with the second.
use Prim.Native.Nat.{ℕ}
use mathlib.Core.Path.{◌≡◌, refl, sym, ap, ◌∙◌}
use mathlib.Core.Bool.{Bool, true, false}
use mathlib.Core.List.{List, ◌++◌}
use lib.ListN.{length, take, drop, take-append-drop}
use Rattle.std.proofs.Common.{append_assoc}
use Rattle.std.proofs.lemmas.List.{take_at, drop_at}
use Rattle.std.proofs.lemmas.Slice.Eq.{bytes_eq-Decides}
use Rattle.std.specs.Str.{bytes_eq}
use Rattle.paper.specs.Searching.{begins_with}
use Rattle.paper.proofs.ListsThatEnd.{begins_rest, rest_begins}

pub same_truth : (r s : Bool) → (r ≡ true → s ≡ true) → (s ≡ true → r ≡ true) → r ≡ s
same_truth true s f g = sym (f refl)
same_truth false true f g = g refl
same_truth false false f g = refl

module _ (bs first next : List ℕ) where
  abbrev there : Bool
  there = begins_with bs (first ++ next)

  ahead : there ≡ true → bs ≡ first ++ (next ++ drop (length (first ++ next)) bs)
  ahead e = begins_rest bs (first ++ next) e ∙ append_assoc first next _

  pub first_differs : bytes_eq (take (length first) bs) first ≡ false → false ≡ there
  first_differs other = same_truth false there (λ e. cc) (λ e.
      let same : take (length first) bs ≡ first = ap (take (length first)) (ahead e) ∙ take_at first _ _ refl in
      sym other ∙ (bytes_eq-Decides (take (length first) bs) first).1 same)

  pub next_decides : bytes_eq (take (length first) bs) first ≡ true → bytes_eq next (take (length next) (drop (length first) bs)) ≡ there
  next_decides same = same_truth (bytes_eq next (take (length next) (drop (length first) bs))) there
      (λ e.
      let rest : List ℕ = drop (length first) bs in
      let begins : take (length first) bs ≡ first = (bytes_eq-Decides (take (length first) bs) first).0 same in
      let goes_on : next ≡ take (length next) rest = (bytes_eq-Decides next (take (length next) rest)).0 e in
      let whole : bs ≡ (first ++ next) ++ drop (length next) rest =
      sym (take-append-drop (length first) bs) ∙ ap (λ (l : List ℕ). l ++ rest) begins ∙
      ap (λ (l : List ℕ). first ++ l) (sym (take-append-drop (length next) rest) ∙ ap (λ (l : List ℕ). l ++ drop (length next) rest) (sym goes_on)) ∙
      sym (append_assoc first next _) in
      ap (λ (l : List ℕ). begins_with l (first ++ next)) whole ∙ rest_begins (first ++ next) (drop (length next) rest))
      (λ e.
      let goes_on : drop (length first) bs ≡ next ++ drop (length (first ++ next)) bs = ap (drop (length first)) (ahead e) ∙ drop_at first _ _ refl in
      (bytes_eq-Decides next (take (length next) (drop (length first) bs))).1
      (sym (ap (take (length next)) goes_on ∙ take_at next _ _ refl)))
