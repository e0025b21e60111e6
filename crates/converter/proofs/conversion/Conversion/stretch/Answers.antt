-- The loop keeps `Passes` on each of its three ways, over a run, over a letter and over any other item, for every buffer that was lent; and
-- a stretch ends with an item that is refused, with an opening or with the text.
use Prim.Native.Nat.{ℕ, ◌+◌, ◌%◌, ◌<◌}
use mathlib.Core.Path.{◌≡◌, refl, sym, ap, ◌∙◌, subst}
use mathlib.Core.Bool.{true}
use mathlib.Core.List.{List, [], ◌∷◌}
use native.Mathlib.Omega.{arith}
use borrow.Author.Tests.{leb-true, leb-false}
use Rattle.paper.specs.Results.{refused_word}
use lib.ListN.{get_or}
use Rattle.paper.specs.CodeTable.{bit8}
use Rattle.paper.specs.declared.Form.{Form}
use Rattle.items.specs.States.{element_of}
use Rattle.items.specs.Items.{item_of}
use Rattle.items.specs.Letters.{is_letter}
use Rattle.converter.specs.Passes.{at_the_end}
use Rattle.converter.specs.Passing.{Passes}
use Rattle.converter.specs.Stretches.{Onward, Ends}
use Rattle.converter.specs.Writing.{wrote_of, character_in}
use Rattle.converter.specs.Runs.{Begins, in_one_byte}
use Rattle.converter.specs.declared.stretch.Ending.{Ending}
use Rattle.std.specs.Prelude.{Result}
use Rattle.std.proofs.lemmas.Result.{err_from_is_err_and}
use Rattle.paper.specs.declared.Refused.{Refused}
use Rattle.converter.specs.declared.written.Written.{Written}
use Rattle.converter.proofs.PassByItems.{within_thrice, item_onward, item_writable}
use Rattle.converter.proofs.PassByPieces.{piece_is_small, piece_goes_on, letter_is_small, letter_goes_on}
use Rattle.converter.proofs.PassEnds.{end_promised}
use Rattle.converter.proofs.StretchEnds.{stops_ends, stops_onward}
use Rattle.converter.proofs.conversion.Conversion.stretch.Goals as goal

-- a run begins with a letter that is written in one byte
begins : (m to : Form) (cells : List ℕ) (shown b e : ℕ) → is_letter m cells b ≡ true → e ≡ element_of cells b →
    in_one_byte to shown e b ≡ true → Begins m to cells shown b
begins m to cells shown b e letter is short = record {
  letter = letter;
  short = ap (λ (x : ℕ). in_one_byte to shown x b) (sym is) ∙ short;
}

-- what is written for a letter by itself
wrote_letter : (to : Form) (cells : List ℕ) (shown b e : ℕ) (bytes : List ℕ) (w : Written) →
    wrote_of w ≡ character_in to shown e bytes → e ≡ element_of cells b → bytes ≡ b % bit8 ∷ [] →
    wrote_of w ≡ character_in to shown (element_of cells b) (b % bit8 ∷ [])
wrote_letter to cells shown b e bytes w wrote is are =
    wrote ∙ ap (λ (x : ℕ). character_in to shown x bytes) is ∙ ap (λ (l : List ℕ). character_in to shown (element_of cells b) l) are

-- ---- a run

pub copy_run-run-requires : goal.copy_run-run-requires
copy_run-run-requires c = (
  c.loop-here-test.true,
  omega (arith, within_thrice (c.loop-here.invariant.1 c.requires.0 c.requires.1), c.args.self.short),
)

run_goes_on : (c : goal.After-slice_known-then-begins_run-1) (lent : List ℕ) →
    Passes c.args.self.form c.args.self.to c.args.self.text.now lent c.loop-here.state c.loop-here.shown.0 c.loop-here.put c.loop-here.here
    c.loop-here.buffer →
    (c.loop-here.here < c.copy_run-run.result.place) ×
    Passes c.args.self.form c.args.self.to c.args.self.text.now lent c.loop-here.state c.loop-here.shown.0 c.copy_run-run.result.at
    c.copy_run-run.result.place c.copy_run-run.new.buffer
run_goes_on c lent p =
    c.copy_run-run.ensures.by_index _ lent
    (begins c.args.self.form c.args.self.to c.loop-here.state c.loop-here.shown.0 (get_or c.args.self.text.now c.loop-here.here 0)
    c.element_of-element.result.0 (sym c.is_letter.ensures ∙ c.if-is_letter.true) c.element_of-element.ensures
    (c.begins_run.ensures c.if-begins_run.true)) p

run_onward : (c : goal.After-slice_known-then-begins_run-1) → c.loop-here.here < c.copy_run-run.result.place
run_onward c = (run_goes_on c _ (c.loop-here.invariant.1 c.requires.0 c.requires.1)).0

pub loop-here-smaller-then-begins_run : goal.loop-here-smaller-then-begins_run
loop-here-smaller-then-begins_run c = omega (arith, c.copy_run-run.ensures.place_in_bounds, run_onward c)

pub loop-here-preserved-then-begins_run : goal.loop-here-preserved-then-begins_run
loop-here-preserved-then-begins_run c =
    (omega (arith, c.loop-here.invariant.0, run_onward c), λ lent p. (run_goes_on c lent (c.loop-here.invariant.1 lent p)).1)

-- ---- a letter by itself

pub put_if_room-requires : goal.put_if_room-requires
put_if_room-requires c =
    let p = c.loop-here.invariant.1 c.requires.0 c.requires.1 in
    let letter : is_letter c.args.self.form c.loop-here.state (get_or c.args.self.text.now c.loop-here.here 0) ≡ true =
    sym c.is_letter.ensures ∙ c.if-is_letter.true in (
      omega (arith, within_thrice p, c.args.self.short),
      letter_is_small p c.loop-here-test.true letter c.write_character-letter.result
          (wrote_letter c.args.self.to c.loop-here.state c.loop-here.shown.0 (get_or c.args.self.text.now c.loop-here.here 0)
          c.element_of-element.result.0 _ c.write_character-letter.result c.write_character-letter.ensures
          c.element_of-element.ensures c.one.ensures.1),
    )

pub overflow_add-put : goal.overflow_add-put
overflow_add-put c =
    let q = c.loop-here.invariant.1 c.requires.0 c.requires.1 in
    let letter : is_letter c.args.self.form c.loop-here.state (get_or c.args.self.text.now c.loop-here.here 0) ≡ true =
    sym c.is_letter.ensures ∙ c.if-is_letter.true in
    let then =
    letter_goes_on q c.loop-here-test.true letter c.write_character-letter.result
    (wrote_letter c.args.self.to c.loop-here.state c.loop-here.shown.0 (get_or c.args.self.text.now c.loop-here.here 0)
    c.element_of-element.result.0 _ c.write_character-letter.result c.write_character-letter.ensures
    c.element_of-element.ensures c.one.ensures.1)
    c.put_if_room.new.buffer c.put_if_room.auto.buffer
    (λ h. c.put_if_room.ensures (omega (arith, h, q.passing.as_long))) in
    omega (arith, within_thrice then, c.args.self.short)

pub loop-here-preserved-else-begins_run : goal.loop-here-preserved-else-begins_run
loop-here-preserved-else-begins_run c =
    let letter : is_letter c.args.self.form c.loop-here.state (get_or c.args.self.text.now c.loop-here.here 0) ≡ true =
    sym c.is_letter.ensures ∙ c.if-is_letter.true in (
      omega (arith, c.loop-here.invariant.0),
      λ lent p.
          let q = c.loop-here.invariant.1 lent p in
          letter_goes_on q c.loop-here-test.true letter c.write_character-letter.result
          (wrote_letter c.args.self.to c.loop-here.state c.loop-here.shown.0 (get_or c.args.self.text.now c.loop-here.here 0)
          c.element_of-element.result.0 _ c.write_character-letter.result c.write_character-letter.ensures
          c.element_of-element.ensures c.one.ensures.1)
          c.put_if_room.new.buffer c.put_if_room.auto.buffer
          (λ h. c.put_if_room.ensures (omega (arith, h, q.passing.as_long))),
    )

-- ---- an item that ends the stretch

pub returns-then-ends_stretch-clause-onward : goal.returns-then-ends_stretch-clause-onward
returns-then-ends_stretch-clause-onward c =
    let p = c.loop-here.invariant.1 c.requires.0 c.requires.1 in
    subst (Onward c.args.place) (sym c.stops.ensures)
    (stops_onward p c.loop-here-test.true (item_of c.read_item-item.result) (sym c.read_item-item.ensures.0)
    (leb-true refused_word _ (sym c.ends_stretch.ensures ∙ c.if-ends_stretch.true)) c.args.place c.loop-here.invariant.0)

pub returns-then-ends_stretch-clause-by_index : goal.returns-then-ends_stretch-clause-by_index
returns-then-ends_stretch-clause-by_index c lent p =
    subst (λ (e : Result Ending Refused). Ends c.args.self.form c.args.self.to c.args.self.text.now lent e c.loop-here.buffer) (sym c.stops.ensures)
    (stops_ends (c.loop-here.invariant.1 lent p) c.loop-here-test.true (item_of c.read_item-item.result)
    (sym c.read_item-item.ensures.0) (leb-true refused_word _ (sym c.ends_stretch.ensures ∙ c.if-ends_stretch.true)))

-- ---- an item that is written

pub write-written-requires : goal.write-written-requires
write-written-requires c =
    let p = c.loop-here.invariant.1 c.requires.0 c.requires.1 in
    item_writable p c.loop-here-test.true (item_of c.read_item-item.result) (sym c.read_item-item.ensures.0)
    (leb-false refused_word _ (sym c.ends_stretch.ensures ∙ c.if-ends_stretch.false)) c.read_item-item.result.piece refl c.read_item-item.ensures.1

pub put_if_room-requires-else-is_letter : goal.put_if_room-requires-else-is_letter
put_if_room-requires-else-is_letter c =
    let p = c.loop-here.invariant.1 c.requires.0 c.requires.1 in (
      omega (arith, within_thrice p, c.args.self.short),
      piece_is_small p c.loop-here-test.true (item_of c.read_item-item.result) (sym c.read_item-item.ensures.0)
          (leb-false refused_word _ (sym c.ends_stretch.ensures ∙ c.if-ends_stretch.false)) c.write-written.result c.write-written.ensures,
    )

pub overflow_add-put-else-is_letter : goal.overflow_add-put-else-is_letter
overflow_add-put-else-is_letter c =
    let q = c.loop-here.invariant.1 c.requires.0 c.requires.1 in
    let stored = c.put_if_room-else-is_letter in
    let then =
    piece_goes_on q c.loop-here-test.true (item_of c.read_item-item.result) (sym c.read_item-item.ensures.0)
    (leb-false refused_word _ (sym c.ends_stretch.ensures ∙ c.if-ends_stretch.false)) c.write-written.result c.write-written.ensures stored.new.buffer
    stored.auto.buffer (λ h. stored.ensures (omega (arith, h, q.passing.as_long))) in
    omega (arith, within_thrice then, c.args.self.short)

onward : (c : goal.After-change) → c.loop-here.here < c.read_item-item.result.place
onward c =
    let p = c.loop-here.invariant.1 c.requires.0 c.requires.1 in
    item_onward p c.loop-here-test.true (item_of c.read_item-item.result) (sym c.read_item-item.ensures.0)
    (leb-false refused_word _ (sym c.ends_stretch.ensures ∙ c.if-ends_stretch.false))

pub loop-here-smaller : goal.loop-here-smaller
loop-here-smaller c = omega (arith, onward c, c.loop-here-test.true)

pub loop-here-preserved : goal.loop-here-preserved
loop-here-preserved c =
    let w = c.write-written.result in
    let stored = c.put_if_room-else-is_letter in (
      omega (arith, c.loop-here.invariant.0, onward c),
      λ lent p.
          let q = c.loop-here.invariant.1 lent p in
          subst
          (λ (cells : List ℕ). Passes c.args.self.form c.args.self.to c.args.self.text.now lent cells w.shown.0 (c.loop-here.put + w.piece.count)
          c.read_item-item.result.place stored.new.buffer)
          (sym c.change.ensures)
          (piece_goes_on q c.loop-here-test.true (item_of c.read_item-item.result) (sym c.read_item-item.ensures.0)
          (leb-false refused_word _ (sym c.ends_stretch.ensures ∙ c.if-ends_stretch.false)) w c.write-written.ensures stored.new.buffer stored.auto.buffer
          (λ h. stored.ensures (omega (arith, h, q.passing.as_long)))),
    )

-- ---- the end of the text

pub returns-in_err-at-clause-by_index : goal.returns-in_err-at-clause-by_index
returns-in_err-at-clause-by_index c lent p =
    let handed = err_from_is_err_and c.from_residual.result c.from_residual.ensures.1 in
    rw (handed.1, handed.2)
    (end_promised (c.loop-here.invariant.1 lent p) c.loop-here-test.false _
    (sym c.in_err-at.was ∙ c.at_the_end.ensures ∙ ap (λ (n : ℕ). at_the_end n c.loop-here.put c.loop-here.here) c.single.ensures))

pub returns-clause-by_index : goal.returns-clause-by_index
returns-clause-by_index c lent p =
    end_promised (c.loop-here.invariant.1 lent p) c.loop-here-test.false _
    (sym c.in_ok-at.was ∙ c.at_the_end.ensures ∙ ap (λ (n : ℕ). at_the_end n c.loop-here.put c.loop-here.here) c.single.ensures)
