-- What is counted at the place where the run begins is counted at this place; the run goes on at least over its letter, since that
-- passes.
use Prim.Native.Nat.{ℕ, ◌≤◌, ◌<◌, ◌+◌}
use mathlib.Core.Path.{◌≡◌, sym, ◌∙◌, subst}
use mathlib.Core.Bool.{Bool, true}
use mathlib.Core.List.{List}
use mathlib.Core.Logic.{⊎_elim}
use native.Mathlib.Nat.{eq-or-lt_of_le}
use native.Mathlib.Omega.{arith}
use lib.ListN.{length, get_or}
use Rattle.paper.specs.Results.{space_word, shift_word}
use Rattle.paper.specs.declared.Form.{Form}
use Rattle.lane.specs.Lanes.{lane_of, has_space}
use Rattle.lane.specs.Passing.{byte_ahead}
use Rattle.lane.specs.Gaps.{gap_ahead}
use Rattle.lane.specs.declared.Lane.{Lane}
use Rattle.lane.proofs.GapItems.{gap_is}
use Rattle.items.specs.Letters.{is_letter}
use Rattle.items.proofs.ItemsOfBytes.{letter_is}
use Rattle.figures.specs.Counting.{added, Fits, Counts, GoesOn}
use Rattle.figures.specs.Runs.{LaneGoesOn}
use Rattle.figures.proofs.AddedCounts.{room, fits_more}
use Rattle.figures.proofs.RunsCount.{gap_counts, letter_ahead}
use Rattle.figures.proofs.run.count_run.Goals as goal
use Rattle.std.specs.Prelude.{Option}
use Rattle.paper.specs.declared.Refused.{Refused}

-- bytes of the lane go on with it
bytes_on : {form : Form} {text cells counts held after : List ℕ} {place here there : ℕ} {lane : Lane} {space : Bool} →
    is_letter form cells (get_or text place 0) ≡ true → lane ≡ lane_of form cells → space ≡ has_space cells →
    GoesOn form text cells counts place held here → LaneGoesOn lane space text held here after there →
    GoesOn form text cells counts place after there
bytes_on {form} {cells = cells} letter is_lane is_space on bytes first from =
    bytes form cells (letter_is _ _ _ letter).ground is_lane is_space first (on first from)

-- and there is room for what follows
room_on : {form : Form} {text cells counts held after : List ℕ} {first : Option Refused} {place here there : ℕ} {lane : Lane} {space : Bool} →
    is_letter form cells (get_or text place 0) ≡ true → lane ≡ lane_of form cells → space ≡ has_space cells →
    GoesOn form text cells counts place held here → LaneGoesOn lane space text held here after there →
    Counts form text cells counts first place → Fits text after there
room_on {first = first} letter is_lane is_space on bytes from =
    (bytes_on letter is_lane is_space on bytes first from).counting.fits

-- the run goes on over its letter
onward : (form : Form) (cells text : List ℕ) {place here there : ℕ} {lane : Lane} →
    place < length text → get_or text place 0 < 0x100 → is_letter form cells (get_or text place 0) ≡ true → lane ≡ lane_of form cells →
    place ≤ here → (here ≤ there) × (byte_ahead lane text here ≡ true → here < there) → place < there
onward form cells text {place} {here} {there} {lane} inside byte letter is_lane from more =
    ⊎_elim
    (λ same. subst (λ (n : ℕ). byte_ahead lane text n ≡ true → n < there) (sym same) more.1
    (letter_ahead form cells text place inside byte letter is_lane))
    (λ less. omega (arith, less, more.0))
    (eq-or-lt_of_le from)

-- the counts after SI, and after SPACE
fits_in : {text counts one : List ℕ} {there : ℕ} → Fits text counts there → gap_ahead text there ≡ true → one ≡ added counts shift_word 1 →
    Fits text one (there + 1)
fits_in f ahead is = fits_more f shift_word 1 is (omega (arith, (gap_is _ _ ahead).inside))

fits_space : {text counts one two : List ℕ} {there : ℕ} → Fits text counts there → gap_ahead text there ≡ true → one ≡ added counts shift_word 1 →
    two ≡ added one space_word 1 → Fits text two (there + 1 + 1)
fits_space f ahead is is_two =
    fits_more (fits_in f ahead is) space_word 1 is_two (omega (arith, (gap_is _ _ ahead).inside))

pub count_singly-here-requires : goal.count_singly-here-requires
count_singly-here-requires c = (c.loop-here.invariant.1 _ c.requires.counts.1).counting.fits

pub count_blocks-requires : goal.count_blocks-requires
count_blocks-requires c =
    room_on c.requires.place_in_bounds.1 c.lane_of.ensures c.has_space.ensures c.loop-here.invariant.1
    c.count_singly-here.ensures.lane_goes_on c.requires.counts.1

pub returns-then-here-start-clause-goes_on : goal.returns-then-here-start-clause-goes_on
returns-then-here-start-clause-goes_on c =
    let letter = c.requires.place_in_bounds.1 in
    bytes_on letter c.lane_of.ensures c.has_space.ensures
    (bytes_on letter c.lane_of.ensures c.has_space.ensures c.loop-here.invariant.1 c.count_singly-here.ensures.lane_goes_on)
    c.count_blocks.ensures.lane_goes_on

pub returns-then-not-gaps-clause-lower_bound : goal.returns-then-not-gaps-clause-lower_bound
returns-then-not-gaps-clause-lower_bound c =
    let p = c.requires.place_in_bounds in
    onward c.args.form c.args.state.now c.args.text.now p.0 (c.type_inv.text c.args.place).fits p.1 c.lane_of.ensures
    c.loop-here.invariant.0 c.count_singly-here.ensures.lower_bound

pub returns-then-not-gaps-clause-goes_on : goal.returns-then-not-gaps-clause-goes_on
returns-then-not-gaps-clause-goes_on c =
    bytes_on c.requires.place_in_bounds.1 c.lane_of.ensures c.has_space.ensures c.loop-here.invariant.1
    c.count_singly-here.ensures.lane_goes_on

pub add-requires : goal.add-requires
add-requires c =
    room
    (room_on c.requires.place_in_bounds.1 c.lane_of.ensures c.has_space.ensures c.loop-here.invariant.1
    c.count_singly-here.ensures.lane_goes_on c.requires.counts.1)
    shift_word 1 (omega arith) (omega arith)

pub add-requires-in-loop-here : goal.add-requires-in-loop-here
add-requires-in-loop-here c =
    let f = room_on c.requires.place_in_bounds.1 c.lane_of.ensures c.has_space.ensures c.loop-here.invariant.1
    c.count_singly-here.ensures.lane_goes_on c.requires.counts.1 in
    let ahead = sym c.gap_ahead.ensures ∙ c.if-not-gap_ahead.false in
    room (fits_in f ahead c.add.ensures) space_word 1 (omega arith) (omega arith)

pub add-requires-in-loop-here-2 : goal.add-requires-in-loop-here-2
add-requires-in-loop-here-2 c =
    let f = room_on c.requires.place_in_bounds.1 c.lane_of.ensures c.has_space.ensures c.loop-here.invariant.1
    c.count_singly-here.ensures.lane_goes_on c.requires.counts.1 in
    let ahead = sym c.gap_ahead.ensures ∙ c.if-not-gap_ahead.false in
    room (fits_space f ahead c.add.ensures c.add-in-loop-here.ensures) shift_word 1 (omega arith) (omega arith)

pub overflow_add-here : goal.overflow_add-here
overflow_add-here c =
    let f = c.requires.counts.1.counting.fits in
    omega (arith, (gap_is _ _ (sym c.gap_ahead.ensures ∙ c.if-not-gap_ahead.false)).inside, f.short)

pub loop-here-preserved : goal.loop-here-preserved
loop-here-preserved c =
    let p = c.requires.place_in_bounds in
    let more = onward c.args.form c.args.state.now c.args.text.now p.0 (c.type_inv.text c.args.place).fits p.1 c.lane_of.ensures
    c.loop-here.invariant.0 c.count_singly-here.ensures.lower_bound in
    let ahead = sym c.gap_ahead.ensures ∙ c.if-not-gap_ahead.false in (
      omega (arith, more),
      λ first from.
          rw (c.add-in-loop-here-2.ensures, c.add-in-loop-here.ensures, c.add.ensures)
          (gap_counts c.args.form _ _ (letter_is _ _ _ p.1).ground (sym c.has_gaps-gaps.ensures ∙ c.if-not-gaps.false) ahead first
          (bytes_on p.1 c.lane_of.ensures c.has_space.ensures c.loop-here.invariant.1
          c.count_singly-here.ensures.lane_goes_on first from)),
    )
