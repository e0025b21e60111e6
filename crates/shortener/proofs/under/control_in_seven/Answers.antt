-- The piece has one byte, the lowest of its number.
use Prim.Native.Nat.{ℕ, ◌-◌, ◌%◌, ◌<◌, ◌≤◌}
use mathlib.Core.Path.{◌≡◌, sym, ap, ◌∙◌}
use mathlib.Core.List.{List, [], ◌∷◌}
use native.Mathlib.Omega.{arith}
use borrow.Author.Rules.{rules}
use borrow.Author.Tests.{lt-ltb, le-ltb}
use Rattle.paper.specs.CodeTable.{esc, bit8}
use Rattle.paper.specs.Sequences.{final_of_function}
use Rattle.items.specs.Pieces.{bytes_of, bytes_in}
use Rattle.items.specs.declared.piece.Piece.{Piece}
use Rattle.shortener.specs.Under.{control_in_seven}
use Rattle.shortener.proofs.under.control_in_seven.Goals as goal

one_byte_lem : (k n : ℕ) → k ≡ 1 → bytes_of k n ≡ n % 0x100 ∷ []
one_byte_lem k n e = ap (λ (k : ℕ). bytes_of k n) e

byte_of : (p : Piece) → p.count ≡ 1 → bytes_in p ≡ p.bytes % 0x100 ∷ []
unfolding bytes_in
byte_of p one = one_byte_lem p.count p.bytes one

low : (b : ℕ) → b < bit8 → b ∷ [] ≡ control_in_seven (b ∷ [])
unfolding control_in_seven
low b h = rw (lt-ltb b bit8 h)

high : (b : ℕ) → bit8 ≤ b → esc ∷ (b - final_of_function) ∷ [] ≡ control_in_seven (b ∷ [])
unfolding control_in_seven
high b h = rw (le-ltb b bit8 h)

pub returns-then-byte-lt-BIT_8 : goal.returns-then-byte-lt-BIT_8
returns-then-byte-lt-BIT_8 c =
    let pre = c.requires in
    let p : Piece = c.args.piece in
    (byte_of p pre.1 ∙ low (p.bytes % 0x100) (search rules) ∙ ap control_in_seven (sym (byte_of p pre.1)), pre.0, omega (arith, pre.1))

pub returns : goal.returns
returns c =
    let pre = c.requires in
    let p : Piece = c.args.piece in
    let final = c.one.ensures in
    let front = c.in_front.ensures.result_value (omega (arith, final.2)) (omega (arith, final.3)) in (
      front.0 ∙ ap (λ (l : List ℕ). esc ∷ l) final.1 ∙ high (p.bytes % 0x100) (search rules) ∙ ap control_in_seven (sym (byte_of p pre.1)),
      record { few = omega (arith, front.1, final.2); low = omega (arith, front.2, final.3) },
      omega (arith, front.1),
    )
