-- Going over a text goes on by what its item is: whatever the state, the numbers and the work buffer are then, if they are what they should be.
use Prim.Native.Nat.{ℕ, ◌<◌}
use mathlib.Core.Path.{◌≡◌, refl, sym, ◌∙◌, subst}
use mathlib.Core.Bool.{true, false}
use mathlib.Core.List.{List, []}
use lib.Dec.{ltb}
use lib.ListN.{length}
use Rattle.paper.specs.declared.Form.{Form}
use Rattle.paper.proofs.Choices.{gives_has}
use Rattle.escapes.specs.Effects.{word_number}
use Rattle.items.specs.Pieces.{bytes_in, Small}
use Rattle.items.specs.States.{changed, starting_cells}
use Rattle.items.specs.Items.{item_of, item_at}
use Rattle.items.specs.declared.item.Item as declared
use Rattle.shortener.specs.declared.code.Code.{Code}
use Rattle.shortener.specs.Under.{code_by, is_unit, Fit}
use Rattle.shortener.specs.Weighing.{opening_more, answer_more, more, put, Weighing}
use Rattle.shortener.specs.declared.weigh.Weighed.{Weighed}
use Rattle.shortener.proofs.UnitsByItems.{opens_it, shifts_it, says_it}
use Rattle.shortener.proofs.WeighingGoesOn.{opening_more_lem, answer_more_lem, shift_more}
use Rattle.escapes.specs.Effects.{opening_word}

module _ {m : Form} {text lent cells : List ℕ} {v : Weighed} {work : List ℕ} (p : Weighing m text lent cells v work)
    (inside : v.place < length text) (r : declared.Item) (is : item_of r ≡ item_at m cells text v.place) where
  -- the place after it
  more_onward : (else result : Weighed) → else.place ≡ r.place → v.place < r.place → result ≡ more v r.place work else →
      v.place < result.place
  more_onward else result place_is onward result-is =
      subst (λ (w : Weighed). v.place < w.place) (sym result-is)
      (gives_has (λ (w : Weighed). v.place < w.place) (ltb v.count (length work)) onward
      (subst (λ (n : ℕ). v.place < n) (sym place_is) onward))

  module _ (known after_it : List ℕ) (result : Weighed) where
    pub by_opening : word_number r.effect.word ≡ opening_word → known ≡ starting_cells → result ≡ more v r.place work (opening_more v r.place) →
        after_it ≡ put v work Code.Opening → (v.place < result.place) × Weighing m text lent known result after_it
    by_opening word state result-is wrote =
        let o = opens_it p.going inside r is word in (
          more_onward (opening_more v r.place) result refl o.onward result-is,
          subst (λ (k : List ℕ). Weighing m text lent k result after_it) (sym state)
              (subst (λ (w : Weighed). Weighing m text lent starting_cells w after_it) (sym result-is)
              (subst (Weighing m text lent starting_cells (more v r.place work (opening_more v r.place))) (sym wrote)
              (opening_more_lem p inside r.place o.then starting_cells o.onward o.next o.going))),
        )

    module _ (other : word_number r.effect.word ≡ opening_word → ⊥) where
      pub by_answer : (code : Code) → is_unit (word_number r.effect.word) ≡ true → code ≡ code_by cells r.effect (bytes_in r.piece) →
          known ≡ changed r.effect cells → result ≡ more v r.place work (answer_more v r.place code) → after_it ≡ put v work code →
          (v.place < result.place) × Weighing m text lent known result after_it
      by_answer code unit code_is state result-is wrote =
          let o = says_it p.going inside r is other unit in
          let same = code_is ∙ o.code in
          let then : List ℕ = changed r.effect cells in (
            more_onward (answer_more v r.place code) result refl o.onward result-is,
            subst (λ (k : List ℕ). Weighing m text lent k result after_it) (sym state)
                (subst (λ (w : Weighed). Weighing m text lent then w after_it) (sym result-is)
                (subst (Weighing m text lent then (more v r.place work (answer_more v r.place code))) (sym wrote)
                (subst (λ (k : Code). Weighing m text lent then (more v r.place work (answer_more v r.place k)) (put v work k)) (sym same)
                (answer_more_lem p inside r.place o.answer o.then then o.onward o.next o.going)))),
          )

      pub unit_fits : is_unit (word_number r.effect.word) ≡ true → Small r.piece → Fit r.effect r.piece
      unit_fits unit = (says_it p.going inside r is other unit).fit

      pub by_shift : is_unit (word_number r.effect.word) ≡ false → known ≡ changed r.effect cells →
          result ≡ record { place = r.place; count = v.count; length = v.length; ways = v.ways } → after_it ≡ work →
          (v.place < result.place) × Weighing m text lent known result after_it
      by_shift none state result-is wrote =
          let o = shifts_it p.going inside r is other none in
          let then : List ℕ = changed r.effect cells in
          let w : Weighed = record { place = r.place; count = v.count; length = v.length; ways = v.ways } in (
            subst (λ (w : Weighed). v.place < w.place) (sym result-is) o.onward,
            subst (λ (k : List ℕ). Weighing m text lent k result after_it) (sym state)
                (subst (λ (w : Weighed). Weighing m text lent then w after_it) (sym result-is)
                (subst (Weighing m text lent then w) (sym wrote) (shift_more p inside r.place then o.onward o.going))),
          )

-- ---- for any lent buffer

module _ {m : Form} {text cells : List ℕ} {v : Weighed} {work : List ℕ} (some : (lent : List ℕ) × Weighing m text lent cells v work)
    (inside : v.place < length text) (r : declared.Item) (is : item_of r ≡ item_at m cells text v.place) where
  abbrev Goes : List ℕ → List ℕ → Weighed → Type 0
  Goes known after_it result =
      (v.place < result.place) ×
      ((lent : List ℕ) → Weighing m text lent cells v work → Weighing m text lent known result after_it)

  pub opening_goes : (known after_it : List ℕ) (result : Weighed) → word_number r.effect.word ≡ opening_word → known ≡ starting_cells →
      result ≡ more v r.place work (opening_more v r.place) → after_it ≡ put v work Code.Opening → Goes known after_it result
  opening_goes known after_it result word state result-is wrote = (
    (by_opening some.1 inside r is known after_it result word state result-is wrote).0,
    λ lent p. (by_opening p inside r is known after_it result word state result-is wrote).1,
  )

  pub answer_goes : (known after_it : List ℕ) (result : Weighed) (code : Code) → (word_number r.effect.word ≡ opening_word → ⊥) →
      is_unit (word_number r.effect.word) ≡ true → code ≡ code_by cells r.effect (bytes_in r.piece) → known ≡ changed r.effect cells →
      result ≡ more v r.place work (answer_more v r.place code) → after_it ≡ put v work code → Goes known after_it result
  answer_goes known after_it result code other unit code_is state result-is wrote = (
    (by_answer some.1 inside r is known after_it result other code unit code_is state result-is wrote).0,
    λ lent p. (by_answer p inside r is known after_it result other code unit code_is state result-is wrote).1,
  )

  pub shift_goes : (known after_it : List ℕ) (result : Weighed) → (word_number r.effect.word ≡ opening_word → ⊥) →
      is_unit (word_number r.effect.word) ≡ false → known ≡ changed r.effect cells →
      result ≡ record { place = r.place; count = v.count; length = v.length; ways = v.ways } → after_it ≡ work → Goes known after_it result
  shift_goes known after_it result other none state result-is wrote = (
    (by_shift some.1 inside r is known after_it result other none state result-is wrote).0,
    λ lent p. (by_shift p inside r is known after_it result other none state result-is wrote).1,
  )

  pub unit_fit : (word_number r.effect.word ≡ opening_word → ⊥) → is_unit (word_number r.effect.word) ≡ true → Small r.piece → Fit r.effect r.piece
  unit_fit other unit = unit_fits some.1 inside r is [] [] v other unit
