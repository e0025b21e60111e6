-- The sums are small.
use native.Mathlib.Omega.{arith}
use Rattle.shortener.proofs.SmallCosts.{small_code, small_sum}
use Rattle.shortener.proofs.choose.turn.Goals as goal

pub cheapest-best-requires : goal.cheapest-best-requires
cheapest-best-requires c =
    let h = small_sum 17 0x100000000 _ _ _ c.plus-costs.ensures (small_code c.args.code _ c.requires.1 c.costs.ensures) c.requires.0 in
    record { each = λ e. omega (arith, h.each e) }
