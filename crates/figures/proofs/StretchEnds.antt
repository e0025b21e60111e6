-- Where an item ends a stretch, the counts stand as the end says: an opening or a refusal is still to be counted, or the text ends inside.
use Prim.Native.Nat.{ℕ, ◌+◌, ◌<◌, ◌≤◌}
use mathlib.Core.Path.{◌≡◌, refl}
use mathlib.Core.Bool.{Bool, true, false}
use mathlib.Core.List.{List}
use native.Mathlib.Omega.{arith}
use borrow.Author.Tests.{eqb-true, eqb-false, ltb-true, ltb-false}
use lib.Dec.{eqb, ltb}
use lib.ListN.{length}
use Rattle.paper.specs.Choice.{◌gives◌or◌}
use Rattle.paper.specs.Results.{refused_word}
use Rattle.paper.specs.declared.Form.{Form}
use Rattle.paper.specs.declared.EndWord.{EndWord}
use Rattle.paper.specs.Surveying.{first_of}
use Rattle.refusals.specs.ByNumber.{refusal_of}
use Rattle.search.specs.NextOpening.{opening_after}
use Rattle.escapes.specs.Effects.{word_number}
use Rattle.items.specs.Items.{Item, item_at}
use Rattle.figures.specs.Counting.{added, Counts}
use Rattle.figures.specs.Stretches.{stops_by, Onward, Searched, AtRefusal, Ends}
use Rattle.figures.specs.declared.stretch.Ending.{Ending}
use Rattle.figures.proofs.CountingByItems.{opens}
use Rattle.figures.proofs.CountingOverOpenings.{opening_onward, opening_counts}
use Rattle.figures.proofs.CountingOverRefusals.{stops_onward, ends_inside, refused_counts}
use Rattle.std.specs.Prelude.{Option, Some, None}
use Rattle.std.specs.Option.{option_or}
use Rattle.paper.specs.Refusals.{refusal_at}
use Rattle.paper.specs.declared.Refused.{Refused}
use Rattle.escapes.specs.Effects.{opening_word}

module _ {form : Form} {text cells counts : List ℕ} {first : Option Refused} {place : ℕ} (c : Counts form text cells counts first place)
    (inside : place < length text) {i : Item} (is : item_at form cells text place ≡ i) (stops : refused_word ≤ word_number i.effect.word) where
  abbrev opened : Bool
  opened = eqb (word_number i.effect.word) opening_word

  abbrev before_end : Bool
  before_end = ltb i.place (length text)

  abbrev ending : Bool → Bool → Ending
  ending opening refused =
      opening gives Ending.Opens i.place or
      refused gives Ending.Stops (refusal_at (refusal_of i.effect.value) i.place) or
      Ending.Over EndWord.Inside

  pub item_ends : Ends form text counts first (stops_by i.effect i.place (length text))
  item_ends = by opened before_end refl refl
    where
      by : (t u : Bool) → opened ≡ t → before_end ≡ u → Ends form text counts first (ending t u)
      by true u e f =
          let o = opens c inside is (eqb-true (word_number i.effect.word) opening_word e) in record {
            here = place;
            fits = c.counting.fits;
            far = opening_onward c o;
            after = opening_counts c o;
          }
      by false true e f = record {
        here = place;
        inside = inside;
        fits = c.counting.fits;
        after =
            refused_counts c inside is stops (eqb-false (word_number i.effect.word) opening_word e) (ltb-true i.place (length text) f);
      }
      by false false e f =
          ends_inside c inside is stops (eqb-false (word_number i.effect.word) opening_word e) (ltb-false i.place (length text) f)

  pub item_onward : (start : ℕ) → start ≤ place → Onward start (stops_by i.effect i.place (length text))
  item_onward start from = by opened before_end refl
    where
      by : (t u : Bool) → opened ≡ t → Onward start (ending t u)
      by true u e = omega (arith, opening_onward c (opens c inside is (eqb-true (word_number i.effect.word) opening_word e)))
      by false true e = omega (arith, stops_onward c inside is stops (eqb-false (word_number i.effect.word) opening_word e))
      by false false e = tt

-- the first refusal, as the library has it
first_or : (first second : Option Refused) → option_or first second ≡ first_of first second
first_or None second = refl
first_or (Some r) second = refl

-- what is counted after the search that a refusal begins
pub search_counts : {form : Form} {text counts : List ℕ} {first : Option Refused} {refused : Refused} →
    AtRefusal form text counts first refused → {after : List ℕ} {now_first : Option Refused} {o : Option ℕ} →
    after ≡ added counts refused_word 1 → now_first ≡ option_or first (Some refused) → o ≡ opening_after form text refused.place →
    Searched form text after now_first (refused.place + 1) o
search_counts {first = first} {refused} r is-after is-first is-opening =
    rw (is-opening, is-first, first_or first (Some refused), is-after) r.after
