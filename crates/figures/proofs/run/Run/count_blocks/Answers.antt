-- The blocks so far all pass: how many bytes they have, how many are controls, and how many are controls or 2/0; what is counted of
-- them at once is what they are one by one.
use mathlib.Core.Path.{sym, ◌∙◌}
use native.Mathlib.Omega.{arith}
use Rattle.lane.proofs.EachPasses.{block_inside}
use Rattle.figures.proofs.RunsCount.{none_passed, passed_most, passed_takes, block_more, lane_goes_on}
use Rattle.figures.proofs.run.Run.count_blocks.Goals as goal

pub loop-controls-init : goal.loop-controls-init
loop-controls-init c = none_passed _ _ _ c.requires.within

-- the block is inside the text
pub up_to-requires : goal.up_to-requires
up_to-requires c = block_inside _ _ _ (sym c.block_ahead.ensures ∙ c.loop-controls-test.true)

pub overflow_add-controls : goal.overflow_add-controls
overflow_add-controls c = omega (arith, passed_most c.loop-controls.invariant, c.requires.short)

pub up_to-requires-in-loop-controls : goal.up_to-requires-in-loop-controls
up_to-requires-in-loop-controls c = block_inside _ _ _ (sym c.block_ahead.ensures ∙ c.loop-controls-test.true)

pub overflow_add-low : goal.overflow_add-low
overflow_add-low c = omega (arith, passed_most c.loop-controls.invariant, c.requires.short)

pub loop-controls-smaller : goal.loop-controls-smaller
loop-controls-smaller c =
    omega (arith, block_inside _ _ _ (sym c.block_ahead.ensures ∙ c.loop-controls-test.true))

pub loop-controls-preserved : goal.loop-controls-preserved
loop-controls-preserved c =
    let block = sym c.block_ahead.ensures ∙ c.loop-controls-test.true in
    block_more c.loop-controls.invariant block (c.from-controls.ensures ∙ c.up_to.ensures)
    (c.from-low.ensures ∙ c.up_to-in-loop-controls.ensures)

pub add_passed-requires : goal.add_passed-requires
add_passed-requires c = passed_takes c.requires c.loop-controls.invariant

pub returns-clause-lane_goes_on : goal.returns-clause-lane_goes_on
returns-clause-lane_goes_on c = lane_goes_on c.loop-controls.invariant c.add_passed.ensures
