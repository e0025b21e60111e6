-- Where an item ends a stretch, the pass stands as the end says: a refusal is that of the text, and an opening is still to be written.
use Prim.Native.Nat.{ℕ, ◌<◌, ◌≤◌}
use mathlib.Core.Path.{◌≡◌, refl}
use mathlib.Core.Bool.{Bool, true, false}
use mathlib.Core.List.{List}
use native.Mathlib.Omega.{arith}
use borrow.Author.Tests.{eqb-true, eqb-false}
use lib.Dec.{eqb}
use lib.ListN.{length}
use Rattle.paper.specs.Choice.{◌gives◌or◌}
use Rattle.paper.specs.Results.{refused_word}
use Rattle.paper.specs.declared.Form.{Form}
use Rattle.refusals.specs.ByNumber.{refusal_of}
use Rattle.escapes.specs.Effects.{word_number}
use Rattle.items.specs.Items.{Item, item_at}
use Rattle.converter.specs.Passing.{Passes}
use Rattle.converter.specs.Stretches.{stops_by, Onward, Ends}
use Rattle.converter.specs.declared.stretch.Ending.{Ending}
use Rattle.converter.proofs.PassByItems.{item_refused, opening_onward, opening_goes_on}
use Rattle.converter.proofs.PassEnds.{refused_promised}
use Rattle.std.specs.Prelude.{Some, Result, Ok, Err}
use Rattle.paper.specs.Refusals.{refusal_at}
use Rattle.paper.specs.declared.Refused.{Refused}

module _ {m to : Form} {text lent cells : List ℕ} {shown at place : ℕ} {buffer : List ℕ}
    (p : Passes m to text lent cells shown at place buffer) (inside : place < length text) (i : Item) (is : item_at m cells text place ≡ i)
    (stops : refused_word ≤ word_number i.effect.word) where
  abbrev word : ℕ
  word = word_number i.effect.word

  abbrev ending : Bool → Result Ending Refused
  ending refused =
      refused gives Err (refusal_at (refusal_of i.effect.value) i.place) or Ok (record { at = at; next = Some i.place })

  neither : eqb word refused_word ≡ false → (word < refused_word → ⊥) × (word ≡ refused_word → ⊥)
  neither other = (λ less. absurd (omega (arith, less, stops)), eqb-false word refused_word other)

  pub stops_ends : Ends m to text lent (stops_by i.effect i.place at) buffer
  stops_ends = by (eqb word refused_word) refl
    where
      by : (t : Bool) → eqb word refused_word ≡ t → Ends m to text lent (ending t) buffer
      by true refused =
          refused_promised m to text lent buffer (refusal_of i.effect.value) i.place
          (item_refused p inside i is (eqb-true word refused_word refused))
      by false other = opening_goes_on p inside i is (neither other)

  pub stops_onward : (start : ℕ) → start ≤ place → Onward start (stops_by i.effect i.place at)
  stops_onward start before = by (eqb word refused_word) refl
    where
      by : (t : Bool) → eqb word refused_word ≡ t → Onward start (ending t)
      by true refused = tt
      by false other = omega (arith, (opening_onward p inside i is (neither other)).0)
