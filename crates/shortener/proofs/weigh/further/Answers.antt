-- The sums are small.
use Prim.Native.Nat.{◌≤◌}
use native.Mathlib.Omega.{arith}
use Rattle.paper.specs.declared.Element.TheVariants.{G0}
use Rattle.std.proofs.iter.Serving.{serving}
use Rattle.shortener.proofs.SmallCosts.{small_code, small_sum}
use Rattle.shortener.proofs.weigh.further.Goals as goal

pub of-requires : goal.of-requires
of-requires c =
    let h = small_sum 0x10000000 17 _ _ _ c.plus-with.ensures c.requires.0 (small_code c.args.code _ c.requires.1 c.costs.ensures) in
    let low : c.lowest-least.result ≤ 0x20000000 = omega (arith, c.lowest-least.ensures, h.each G0) in grind (serving, arith)
