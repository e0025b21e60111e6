-- What is known is that of blocks, byte by byte; and where the first byte passes, it is counted.
use Prim.Native.Nat.{◌≤◌}
use mathlib.Core.Path.{sym, ◌∙◌}
use native.Mathlib.Omega.{arith}
use Rattle.figures.proofs.RunsCount.{none_passed, ahead_passes, past_the_first, one_bit, passed_most, passed_takes, letter_more, low_more}
use Rattle.figures.proofs.RunsCount.{lane_goes_on}
use lib.Dec.{ltb}
use lib.ListN.{get_or, take}
use Rattle.figures.proofs.run.Run.count_singly.Goals as goal
use Rattle.figures.proofs.run.Run.count_singly.Goals.{then-byte-le-SPACE, else-byte-le-SPACE}

pub loop-first-init : goal.loop-first-init
loop-first-init c = none_passed _ _ _ c.requires.within

-- the byte is inside the text, and passes
pub bounds-first-here : goal.bounds-first-here
bounds-first-here c = (ahead_passes _ _ _ _ (sym c.byte_ahead.ensures ∙ c.loop-first-test.true)).first

pub overflow_add-controls : goal.overflow_add-controls
overflow_add-controls c =
    omega (
      arith,
      passed_most c.loop-first.invariant,
      c.requires.short,
      one_bit (ltb (get_or (take c.min.result c.args.self.now.text.now) c.loop-first.here 0) 32),
    )

pub overflow_add-low : goal.overflow_add-low
overflow_add-low c = omega (arith, passed_most c.loop-first.invariant, c.requires.short)

pub loop-first-smaller : goal.loop-first-smaller
loop-first-smaller c = omega (arith, (ahead_passes _ _ _ _ (sym c.byte_ahead.ensures ∙ c.loop-first-test.true)).inside)

pub loop-first-preserved : goal.loop-first-preserved
loop-first-preserved c =
    let a = ahead_passes _ _ _ _ (sym c.byte_ahead.ensures ∙ c.loop-first-test.true) in
    elim c.if-byte-le-SPACE.branch [
      | then-byte-le-SPACE w ↦
          rw (w.controls-is, w.low-is)
          (low_more c.loop-first.invariant a.inside a.passed (rw (← a.same) w.if-byte-le-SPACE.true) (rw a.same at w.from-controls.ensures))
      | else-byte-le-SPACE w ↦
          rw (w.controls-is, w.low-is)
          (letter_more c.loop-first.invariant a.inside a.passed (rw (← a.same) w.if-byte-le-SPACE.false))
    ]

pub add_passed-requires : goal.add_passed-requires
add_passed-requires c = passed_takes c.requires c.loop-first.invariant

pub returns-clause-lower_bound : goal.returns-clause-lower_bound
returns-clause-lower_bound c =
    let from : c.args.place ≤ c.loop-first.here = omega (arith, passed_most c.loop-first.invariant) in
    (from, past_the_first _ _ _ _ _ c.min.ensures from (sym c.byte_ahead.ensures ∙ c.loop-first-test.false))

pub returns-clause-lane_goes_on : goal.returns-clause-lane_goes_on
returns-clause-lane_goes_on c = lane_goes_on c.loop-first.invariant c.add_passed.ensures
