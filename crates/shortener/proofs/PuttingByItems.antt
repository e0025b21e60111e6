-- The output goes on by what the item is, for any lent buffer: whatever the state, the numbers and the buffer are then, if they are what they
-- should be.
use Prim.Native.Nat.{ℕ, ◌+◌, ◌<◌, ◌≤◌}
use mathlib.Core.Path.{◌≡◌, sym, ap, ◌∙◌, subst}
use mathlib.Core.Bool.{true, false}
use mathlib.Core.List.{List, ◌++◌}
use native.Mathlib.Omega.{arith}
use lib.ListN.{length}
use lib.Seq.{sets}
use Rattle.paper.specs.Starting.{opening}
use Rattle.paper.specs.declared.Form.{Form}
use Rattle.paper.specs.declared.Element.{Element}
use Rattle.escapes.specs.Effects.{word_number}
use Rattle.items.specs.Pieces.{bytes_in, Small}
use Rattle.items.specs.States.{changed, starting_cells}
use Rattle.items.specs.Items.{item_of, item_at}
use Rattle.items.specs.declared.item.Item as declared
use Rattle.shortest.specs.ShortestText.{shift_from}
use Rattle.shortener.specs.Under.{under, is_unit, Fit}
use Rattle.shortener.specs.Putting.{bytes_for, answer_put, opening_put, Putting}
use Rattle.shortener.specs.declared.put.Written.{Written}
use Rattle.shortener.proofs.UnitsByItems.{opens_it, shifts_it, says_it}
use Rattle.shortener.proofs.PuttingGoesOn.{buffer_long, opening_fits, opening_put_lem, to_show, answer_bytes, choice_within}
use Rattle.shortener.proofs.PuttingGoesOn.{choice_here, answer_fits, answer_put_lem, shift_put}
use Rattle.escapes.specs.Effects.{opening_word}

module _ {m : Form} {text lent work cells : List ℕ} {v : Written} {buffer : List ℕ} (p : Putting m text lent work cells v buffer)
    (inside : v.place < length text) (r : declared.Item) (is : item_of r ≡ item_at m cells text v.place) where
  abbrev bytes : List ℕ
  bytes = bytes_for work v r.effect (bytes_in r.piece)

  opening_room_here : word_number r.effect.word ≡ opening_word → v.at + length (opening Form.Seven) ≤ length buffer
  opening_room_here word =
      let o = opens_it p.going inside r is word in omega (arith, opening_fits p o.then o.next, buffer_long p)

  module _ (other : word_number r.effect.word ≡ opening_word → ⊥) (unit : is_unit (word_number r.effect.word) ≡ true) where
    -- what is written for the item is what the text goes on with
    bytes_are :
        let o = says_it p.going inside r is other unit in
        bytes ≡ answer_bytes p o.answer o.then o.next o.stays o.can
    bytes_are =
        let o = says_it p.going inside r is other unit in
        let e : Element = to_show p o.answer o.then o.next o.stays o.can in
        let here = choice_here p o.answer o.then o.next o.stays o.can in
        ap (λ (k : Element). shift_from v.shown k ++ under k r.effect (bytes_in r.piece)) here ∙
        ap (λ (l : List ℕ). shift_from v.shown e ++ l) (o.bytes e)

    answer_room_here : Small r.piece → Fit r.effect r.piece × (v.unit < length work) × (v.at + length bytes ≤ length buffer)
    answer_room_here small =
        let o = says_it p.going inside r is other unit in (
          o.fit small,
          choice_within p o.answer o.then o.next o.stays o.can,
          omega (arith, answer_fits p o.answer o.then o.next o.stays o.can, ap length bytes_are, buffer_long p),
        )

    answer_here : (after_it : List ℕ) → after_it ≡ sets buffer v.at bytes →
        Putting m text lent work (changed r.effect cells) (answer_put work v r.place r.effect (bytes_in r.piece)) after_it
    answer_here after_it stored =
        let o = says_it p.going inside r is other unit in
        let e : Element = to_show p o.answer o.then o.next o.stays o.can in
        let here = choice_here p o.answer o.then o.next o.stays o.can in
        subst (λ (k : Element). Putting m text lent work (changed r.effect cells)
        (record { place = r.place; unit = v.unit + 1; at = v.at + length bytes; shown = k }) after_it) (sym here)
        (subst (λ (l : List ℕ). Putting m text lent work (changed r.effect cells)
        (record { place = r.place; unit = v.unit + 1; at = v.at + length l; shown = e }) after_it) (sym bytes_are)
        (answer_put_lem p o.answer o.then o.next o.stays o.can r.place (changed r.effect cells) after_it o.onward o.going
        (stored ∙ ap (sets buffer v.at) bytes_are)))

module _ {m : Form} {text work cells : List ℕ} {v : Written} {buffer : List ℕ}
    (some : (lent : List ℕ) × Putting m text lent work cells v buffer) (inside : v.place < length text) (r : declared.Item)
    (is : item_of r ≡ item_at m cells text v.place) where
  abbrev Goes : List ℕ → List ℕ → Written → Type 0
  Goes known after_it result =
      (v.place < result.place) ×
      ((lent : List ℕ) → Putting m text lent work cells v buffer → Putting m text lent work known result after_it)

  pub opening_room : word_number r.effect.word ≡ opening_word → (v.at + length (opening Form.Seven) ≤ length buffer) × (v.unit ≤ v.place)
  opening_room word = (opening_room_here some.1 inside r is word, some.1.few)

  pub opening_goes : (known after_it : List ℕ) (result : Written) → word_number r.effect.word ≡ opening_word → known ≡ starting_cells →
      result ≡ opening_put v r.place → after_it ≡ sets buffer v.at (opening Form.Seven) → Goes known after_it result
  opening_goes known after_it result word state result-is stored = (
    subst (λ (w : Written). v.place < w.place) (sym result-is) (opens_it some.1.going inside r is word).onward,
    λ lent p.
        let o = opens_it p.going inside r is word in
        subst (λ (k : List ℕ). Putting m text lent work k result after_it) (sym state)
        (subst (λ (w : Written). Putting m text lent work starting_cells w after_it) (sym result-is)
        (opening_put_lem p o.then o.next r.place starting_cells after_it o.onward o.going stored)),
  )

  pub answer_room : (word_number r.effect.word ≡ opening_word → ⊥) → is_unit (word_number r.effect.word) ≡ true → Small r.piece →
      Fit r.effect r.piece × (v.unit < length work) ×
      (v.at + length (bytes_for work v r.effect (bytes_in r.piece)) ≤ length buffer)
  answer_room other unit small = answer_room_here some.1 inside r is other unit small

  pub answer_goes : (known after_it : List ℕ) (result : Written) → (word_number r.effect.word ≡ opening_word → ⊥) →
      is_unit (word_number r.effect.word) ≡ true → known ≡ changed r.effect cells →
      result ≡ answer_put work v r.place r.effect (bytes_in r.piece) →
      after_it ≡ sets buffer v.at (bytes_for work v r.effect (bytes_in r.piece)) → Goes known after_it result
  answer_goes known after_it result other unit state result-is stored = (
    subst (λ (w : Written). v.place < w.place) (sym result-is) (says_it some.1.going inside r is other unit).onward,
    λ lent p.
        subst (λ (k : List ℕ). Putting m text lent work k result after_it) (sym state)
        (subst (λ (w : Written). Putting m text lent work (changed r.effect cells) w after_it) (sym result-is)
        (answer_here p inside r is other unit after_it stored)),
  )

  pub shift_goes : (known after_it : List ℕ) (result : Written) → (word_number r.effect.word ≡ opening_word → ⊥) →
      is_unit (word_number r.effect.word) ≡ false → known ≡ changed r.effect cells →
      result ≡ record { place = r.place; unit = v.unit; at = v.at; shown = v.shown } → after_it ≡ buffer → Goes known after_it result
  shift_goes known after_it result other none state result-is stored = (
    subst (λ (w : Written). v.place < w.place) (sym result-is) (shifts_it some.1.going inside r is other none).onward,
    λ lent p.
        let o = shifts_it p.going inside r is other none in
        let w : Written = record { place = r.place; unit = v.unit; at = v.at; shown = v.shown } in
        subst (λ (k : List ℕ). Putting m text lent work k result after_it) (sym state)
        (subst (λ (w : Written). Putting m text lent work (changed r.effect cells) w after_it) (sym result-is)
        (subst (Putting m text lent work (changed r.effect cells) w) (sym stored)
        (shift_put p r.place (changed r.effect cells) o.onward o.going))),
  )
