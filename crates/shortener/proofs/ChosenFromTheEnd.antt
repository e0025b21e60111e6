-- Going back over the codes: the choices stand from a place on, and before it the codes as they were.
use Prim.Native.Nat.{ℕ, suc, ◌-◌, ◌≤◌, ◌<◌}
use mathlib.Core.Path.{◌≡◌, sym, ap, ◌∙◌, subst}
use mathlib.Core.List.{List, ◌∷◌, ◌++◌}
use native.Mathlib.Omega.{arith}
use lib.ListN.{length, get_or, set, take, drop, take-append-drop}
use lib.Seq.{take-suc, length-take-le, set_at, get_or_at, append_snoc, slice, slice-cons, slice_empty, length-slice}
use Rattle.paper.specs.declared.Element.{Element}
use Rattle.shortener.specs.ByElements.{at_element, by_element, AtMost}
use Rattle.shortener.specs.Codes.{unpacked}
use Rattle.shortener.specs.Choices.{costs_with, choices_with, packed_choices, costs_by, choices_by}
use Rattle.shortener.specs.declared.by_element.ByElement.{ByElement}
use Rattle.shortener.proofs.CodesAsBytes.{same_each}
use Rattle.shortener.proofs.SmallCosts.{small_costs}

abbrev pub chosen_from : ℕ → ℕ → List ℕ → List ℕ
chosen_from left count codes = take left codes ++ (choices_by (slice left count codes) ++ drop count codes)

abbrev pub cost_from : ℕ → ℕ → List ℕ → ByElement ℕ
cost_from left count codes = by_element (costs_by (slice left count codes))

-- ---- the first of them and the last

pub none_chosen : (count : ℕ) (codes : List ℕ) → codes ≡ chosen_from count count codes
unfolding choices_by
none_chosen count codes = rw (slice_empty count codes) (sym (take-append-drop count codes))

pub none_costs : (count : ℕ) (codes : List ℕ) → by_element (λ e. 0) ≡ cost_from count count codes
unfolding costs_by
none_costs count codes = rw (slice_empty count codes)

pub small_from : (left count : ℕ) (codes : List ℕ) (later : ByElement ℕ) → later ≡ cost_from left count codes → count ≤ length codes → count ≤ 4096 →
    AtMost 0x100000000 later
small_from left count codes later is inside few =
    let l : List ℕ = slice left count codes in
    let n : length l ≡ count - left = length-slice left count codes inside in
    let small : (e : Element) → at_element (cost_from left count codes) e ≤ 0x100000000 =
    λ e. subst (λ (c : Element → ℕ). c e ≤ 0x100000000) (sym (same_each (costs_by l))) (omega (arith, small_costs l e)) in
    subst (AtMost 0x100000000) (sym is) (record { each = small })

-- ---- one more

module _ (n count : ℕ) (codes work : List ℕ) (later : ByElement ℕ) (before : n < count) (inside : count ≤ length codes)
    (so_far : work ≡ chosen_from (suc n) count codes) (after : later ≡ cost_from (suc n) count codes) where
  abbrev rest : List ℕ
  rest = choices_by (slice (suc n) count codes) ++ drop count codes

  abbrev code : ℕ
  code = get_or codes n 0

  here : length (take n codes) ≡ n
  here = length-take-le n codes (omega arith)

  one_more_lem : slice n count codes ≡ code ∷ slice (suc n) count codes
  one_more_lem = slice-cons n count codes 0 before inside

  work_is : work ≡ take n codes ++ code ∷ rest
  work_is =
      so_far ∙ ap (λ (l : List ℕ). l ++ rest) (take-suc codes n 0 (omega arith)) ∙ append_snoc (take n codes) code rest

  code_is : get_or work n 0 ≡ code
  code_is = ap (λ (l : List ℕ). get_or l n 0) work_is ∙ get_or_at (take n codes) code rest 0 n here

  costs_are : at_element later ≡ costs_by (slice (suc n) count codes)
  costs_are = ap at_element after ∙ same_each (costs_by (slice (suc n) count codes))

  pub one_chosen : (choices : ℕ) → choices ≡ packed_choices (choices_with (unpacked (get_or work n 0)) (at_element later)) →
      set work n choices ≡ chosen_from n count codes
  unfolding choices_by
  one_chosen choices is =
      let choices_are : choices ≡ packed_choices (choices_with (unpacked code) (costs_by (slice (suc n) count codes))) =
      is ∙ ap (λ (k : ℕ). packed_choices (choices_with (unpacked k) (at_element later))) code_is ∙
      ap (λ (f : Element → ℕ). packed_choices (choices_with (unpacked code) f)) costs_are in
      ap (λ (l : List ℕ). set l n choices) work_is ∙
      set_at (take n codes) code rest choices n here ∙
      ap (λ (k : ℕ). take n codes ++ (k ∷ rest)) choices_are ∙
      ap (λ (l : List ℕ). take n codes ++ (choices_by l ++ drop count codes)) (sym one_more_lem)

  pub one_costs : (costs : ByElement ℕ) → costs ≡ by_element (costs_with (unpacked (get_or work n 0)) (at_element later)) → costs ≡ cost_from n count codes
  unfolding costs_by
  one_costs costs is =
      is ∙
      ap (λ (k : ℕ). by_element (costs_with (unpacked k) (at_element later))) code_is ∙
      ap (λ (f : Element → ℕ). by_element (costs_with (unpacked code) f)) costs_are ∙
      ap (λ (l : List ℕ). by_element (costs_by l)) (sym one_more_lem)
