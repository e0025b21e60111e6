-- Eight bytes and eight bytes are compared as numbers.
use mathlib.Core.Path.{sym, ◌∙◌}
use native.Mathlib.Omega.{arith}
use Rattle.openings.proofs.BlockThere.{same_block}
use Rattle.openings.proofs.is_start.Goals as goal

pub returns-then-eight_at : goal.returns-then-eight_at
returns-then-eight_at c =
    rw (c.eight_at-then-eight_at.ensures, c.eight_at-then-eight_at-2.ensures)
    (same_block c.args.block.now (λ k. omega (arith, c.type_inv.block k)) c.requires
    (sym c.eight_at.ensures ∙ c.if-eight_at.true ∙ c.eight_at-2.ensures))
