-- The first two bytes stand in the lowest places of the number.
use Prim.Native.Nat.{ℕ, zero, suc, ◌+◌, ◌*◌, ◌/◌, ◌%◌, ◌<◌, ◌≤◌}
use mathlib.Core.Path.{◌≡◌, refl}
use native.Mathlib.Omega.{arith}
use Rattle.shortest.specs.ShortestText.{rank}
use Rattle.items.specs.Pieces.{bytes_of, bytes_in}
use Rattle.shortener.proofs.under.rank_of.Goals as goal

one_byte_lem : (k n : ℕ) → 1 ≤ k → k < 2 → n % 0x100 * 0x100 ≡ rank (bytes_of k n)
one_byte_lem zero n some few = absurd (omega arith)
one_byte_lem (suc zero) n some few = refl
one_byte_lem (suc (suc k)) n some few = absurd (omega arith)

two_bytes : (k n : ℕ) → 2 ≤ k → n % 0x100 * 0x100 + n / 0x100 % 0x100 ≡ rank (bytes_of k n)
two_bytes zero n more = absurd (omega arith)
two_bytes (suc zero) n more = absurd (omega arith)
two_bytes (suc (suc k)) n more = refl

pub returns-then-piece-lt2 : goal.returns-then-piece-lt2
unfolding bytes_in
returns-then-piece-lt2 c = one_byte_lem c.args.piece.count c.args.piece.bytes c.requires c.if-piece-lt2.true

pub returns : goal.returns
unfolding bytes_in
returns c = two_bytes c.args.piece.count c.args.piece.bytes c.if-piece-lt2.false
