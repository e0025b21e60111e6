-- The number has bit 8 of each of its eight bytes set, of which the piece's are the first.
use Prim.Native.Nat.{ℕ, ◌+◌, ◌-◌}
use mathlib.Core.Path.{◌≡◌, sym, ap, ◌∙◌}
use native.Mathlib.Omega.{arith}
use Rattle.std.proofs.Common.{bit_or}
use Rattle.items.specs.Pieces.{bytes_of, bytes_in}
use Rattle.converter.proofs.PieceBytes.{high_bits, gr_bytes}
use Rattle.converter.proofs.written.of_gr.Goals as goal

pub returns : goal.returns
unfolding bytes_in
returns c =
    let p = c.args.piece in
    let all : p.count + (8 - p.count) ≡ 8 = omega arith in
    ap (λ (k : ℕ). bytes_of p.count (bit_or p.bytes (high_bits k))) (sym all) ∙ gr_bytes p.count (8 - p.count) p.bytes
