-- The loop keeps `Counts`: a run, a letter or an item goes on with it, whatever the first refusal was; and a stretch ends with an opening,
-- with a refusal or with the text.
use Prim.Native.Nat.{◌<◌}
use mathlib.Core.Path.{sym, ap, ◌∙◌, subst}
use native.Mathlib.Omega.{arith}
use Rattle.paper.specs.Results.{char_word, refused_word}
use borrow.Author.Tests.{leb-true}
use borrow.Author.Tests.{leb-false}
use Rattle.escapes.specs.Effects.{word_number}
use Rattle.items.proofs.ItemsOfBytes.{letter_is, letter_item}
use Rattle.figures.specs.Counting.{end_after, figures_from}
use Rattle.figures.specs.Stretches.{Onward, Ends}
use Rattle.figures.proofs.AddedCounts.{room}
use Rattle.figures.proofs.CountingByItems.{item_counts, item_onward, plain_counts}
use Rattle.figures.proofs.CountingOverRefusals.{counts_end}
use Rattle.figures.proofs.StretchEnds as ends
use Rattle.figures.proofs.stretch.stretch.Goals as goal

-- ---- an item that ends the stretch

pub returns-then-ends_stretch-clause-onward : goal.returns-then-ends_stretch-clause-onward
returns-then-ends_stretch-clause-onward c =
    subst (Onward c.args.place) (sym c.stops.ensures)
    (ends.item_onward (c.loop-here.invariant.1 c.requires.0 c.requires.1) c.loop-here-test.true
    (sym c.read_item-item.ensures.0) (leb-true refused_word _ (sym c.ends_stretch.ensures ∙ c.if-ends_stretch.true)) c.args.place c.loop-here.invariant.0)

pub returns-then-ends_stretch-clause-ends : goal.returns-then-ends_stretch-clause-ends
returns-then-ends_stretch-clause-ends c = λ first from.
    subst (Ends c.args.form c.args.text.now c.loop-here.counts first) (sym c.stops.ensures)
    (ends.item_ends (c.loop-here.invariant.1 first from) c.loop-here-test.true (sym c.read_item-item.ensures.0)
    (leb-true refused_word _ (sym c.ends_stretch.ensures ∙ c.if-ends_stretch.true)))

-- ---- one that goes on

pub add-requires : goal.add-requires
add-requires c =
    room (c.loop-here.invariant.1 c.requires.0 c.requires.1).counting.fits _ 1
    (omega (arith, leb-false refused_word _ (sym c.ends_stretch.ensures ∙ c.if-ends_stretch.false)))
    (omega arith)

pub loop-here-smaller-then-not-is_letter : goal.loop-here-smaller-then-not-is_letter
loop-here-smaller-then-not-is_letter c =
    let below : word_number c.read_item-item.result.effect.word < refused_word =
    leb-false refused_word _ (sym c.ends_stretch.ensures ∙ c.if-ends_stretch.false) in
    omega (
      arith,
      item_onward (c.loop-here.invariant.1 c.requires.0 c.requires.1) c.loop-here-test.true (sym c.read_item-item.ensures.0)
          below,
    )

pub loop-here-preserved-then-not-is_letter : goal.loop-here-preserved-then-not-is_letter
loop-here-preserved-then-not-is_letter c =
    let inside = c.loop-here-test.true in
    let is = sym c.read_item-item.ensures.0 in
    let below : word_number c.read_item-item.result.effect.word < refused_word =
    leb-false refused_word _ (sym c.ends_stretch.ensures ∙ c.if-ends_stretch.false) in
    let more = item_onward (c.loop-here.invariant.1 c.requires.0 c.requires.1) inside is below in (
      omega (arith, c.loop-here.invariant.0, more),
      λ first from.
          rw (c.change.ensures, c.add.ensures)
          (item_counts (c.loop-here.invariant.1 first from) inside is below),
    )

-- ---- a letter

pub add-requires-else-word_ahead : goal.add-requires-else-word_ahead
add-requires-else-word_ahead c =
    room (c.loop-here.invariant.1 c.requires.0 c.requires.1).counting.fits char_word 1 (omega arith) (omega arith)

pub loop-here-preserved : goal.loop-here-preserved
loop-here-preserved c =
    let inside = c.loop-here-test.true in
    let letter = sym c.is_letter.ensures ∙ c.if-not-is_letter.false in (
      omega (arith, c.loop-here.invariant.0),
      λ first from.
          rw c.add-else-word_ahead.ensures
          (plain_counts (c.loop-here.invariant.1 first from) inside (letter_is _ _ _ letter).ground
          (letter_item _ _ _ _ inside letter) (omega arith)),
    )

-- ---- the end of the text

pub returns-clause-ends : goal.returns-clause-ends
returns-clause-ends c = λ first from.
    counts_end (c.loop-here.invariant.1 first from) c.loop-here-test.false ∙
    ap (figures_from c.loop-here.counts first) (sym (c.end_after.ensures ∙ ap end_after c.single.ensures))
