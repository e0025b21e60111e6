-- The bytes of the piece are put one after another, the lowest of what is left first.
use Prim.Native.Nat.{ℕ, suc, ◌+◌, ◌-◌, ◌/◌, ◌%◌, ◌<◌}
use mathlib.Core.Path.{◌≡◌, refl, sym, ap, ◌∙◌}
use mathlib.Core.List.{List, [], ◌∷◌, ◌++◌, append_assoc, append-nil}
use native.Mathlib.Omega.{arith}
use native.Mathlib.Numerals.{add-one}
use lib.ListN.{length, length-set, take, set}
use lib.Seq.{take-suc-set}
use Rattle.std.proofs.lemmas.List.{take_all}
use Rattle.items.specs.Pieces.{bytes_of}
use Rattle.items.proofs.piece.Piece.put.Goals as goal

one_more : (l : List ℕ) (i n bytes : ℕ) → i < n → n ≡ length l →
    take (i + 1) (set l i (bytes % 0x100)) ++ bytes_of (n - (i + 1)) (bytes / 0x100) ≡ take i l ++ bytes_of (n - i) bytes
one_more l i n bytes h long =
    let left : suc (n - (i + 1)) ≡ n - i = omega arith in
    let rest : List ℕ = bytes_of (n - (i + 1)) (bytes / 0x100) in
    ap (λ (k : ℕ). take k (set l i (bytes % 0x100)) ++ rest) (add-one i) ∙
    ap (λ (k : List ℕ). k ++ rest) (take-suc-set l i (bytes % 0x100) (omega arith)) ∙
    append_assoc (take i l) (bytes % 0x100 ∷ []) rest ∙
    ap (λ (k : ℕ). take i l ++ bytes_of k bytes) left

pub loop-place-preserved : goal.loop-place-preserved
loop-place-preserved c =
    let l = c.loop-place in
    let n : ℕ = length l.place-items in
    let long : length (set l.place-items l.place-index (l.bytes % 0x100)) ≡ n = length-set l.place-items l.place-index (l.bytes % 0x100) in
    ap (λ (k : ℕ). take (l.place-index + 1) (set l.place-items l.place-index (l.bytes % 0x100)) ++ bytes_of (k - (l.place-index + 1)) (l.bytes / 0x100))
    long ∙
    one_more l.place-items l.place-index n l.bytes (omega (arith, l.auto.place-items, c.loop-place-test.true)) refl ∙
    l.invariant ∙ ap (λ (k : ℕ). bytes_of k c.args.self.bytes) (sym long)

pub returns : goal.returns
returns c =
    let l = c.loop-place in
    let none : 0 ≡ length l.place-items - l.place-index = omega (arith, l.auto.place-items, c.loop-place-test.false) in
    sym (take_all l.place-index l.place-items (omega (arith, l.auto.place-items, c.loop-place-test.false))) ∙
    sym (append-nil (take l.place-index l.place-items)) ∙
    ap (λ (k : ℕ). take l.place-index l.place-items ++ bytes_of k l.bytes) none ∙
    l.invariant ∙ ap (λ (k : ℕ). bytes_of k c.args.self.bytes) l.auto.place-items
