-- A block goes on where all of its bytes pass.
use Prim.Native.Nat.{◌+◌, ◌≤◌}
use mathlib.Core.Path.{◌≡◌, sym, ◌∙◌}
use mathlib.Core.Bool.{true}
use native.Mathlib.Omega.{arith}
use lib.ListN.{length}
use lib.Seq.{sets}
use Rattle.lane.specs.Passing.{block_ahead}
use Rattle.lane.proofs.EachPasses.{block_inside, block_passes_each}
use Rattle.converter.specs.Runs.{copied_bytes}
use Rattle.converter.proofs.RunsGoOn.{block_goes_on}
use Rattle.converter.proofs.conversion.Conversion.copy_blocks.Goals as goal
use Rattle.converter.proofs.conversion.Conversion.copy_blocks.Goals.{then-put-buffer, else-put-buffer}

-- what the buffer is after a block, with room and without
wrote : (c : goal.Joined-put-buffer) →
    (length c.if-put-buffer.buffer ≡ length c.loop-way.buffer) ×
    (c.loop-way.put + 16 ≤ length c.loop-way.buffer →
    c.if-put-buffer.buffer ≡ sets c.loop-way.buffer c.loop-way.put (copied_bytes c.args.way c.args.self.text.now c.loop-way.here 16))
wrote c = (
  c.if-put-buffer.auto.buffer,
  elim c.if-put-buffer.branch [
    | then-put-buffer w ↦ λ room. w.buffer-is ∙ w.copy_block.ensures
    | else-put-buffer w ↦ λ room. absurd (omega (arith, w.if-put-buffer.false))
  ],
)

pub copy_block-requires : goal.copy_block-requires
copy_block-requires c = (
  block_inside c.args.way.lane c.args.self.text.now c.loop-way.here (sym c.block_ahead.ensures ∙ c.loop-way-test.true),
  c.if-put-buffer.true,
)

pub loop-way-smaller : goal.loop-way-smaller
loop-way-smaller c =
    let h = block_inside c.args.way.lane c.args.self.text.now c.loop-way.here (sym c.block_ahead.ensures ∙ c.loop-way-test.true) in
    omega arith

pub loop-way-preserved : goal.loop-way-preserved
loop-way-preserved c =
    let all_pass : block_ahead c.args.way.lane c.args.self.text.now c.loop-way.here ≡ true = sym c.block_ahead.ensures ∙ c.loop-way-test.true in
    let h = block_inside c.args.way.lane c.args.self.text.now c.loop-way.here all_pass in
    let w = wrote c in (
      omega arith,
      h,
      omega arith,
      w.0 ∙ c.loop-way.invariant.3,
      λ cells shown lent ground copies p.
          let q = c.loop-way.invariant.4 cells shown lent ground copies p in
          block_goes_on copies ground 16 h
          (λ k. block_passes_each c.args.way.lane c.args.self.text.now c.loop-way.here k all_pass)
          q c.if-put-buffer.buffer w.0 (λ room. w.1 (omega (arith, q.passing.as_long))),
    )
