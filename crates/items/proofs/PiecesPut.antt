-- Bytes that are put into a part of a slice are stored there one after another; a piece's, where there is room for them.
use Prim.Native.Nat.{ℕ, ◌+◌, ◌-◌, ◌≤◌}
use mathlib.Core.Path.{◌≡◌, sym, ap, ◌∙◌}
use mathlib.Core.List.{List, ◌++◌, append_assoc}
use native.Mathlib.Omega.{arith}
use borrow.Rule.Slice.PartMut.{put_mid}
use lib.ListN.{length, take, drop}
use lib.Seq.{sets}
use Rattle.std.proofs.lemmas.List.{drop-drop, length-take-le, length-drop}
use Rattle.std.proofs.lemmas.List.Edits.{sets-eq}
use Rattle.items.specs.Pieces.{bytes_of, bytes_in, filled}
use Rattle.items.specs.declared.piece.Piece.{Piece}
use Rattle.items.proofs.BytesInANumber.{length_of_bytes}

pub put_sets : (l : List ℕ) (at end : ℕ) (bytes then : List ℕ) → then ≡ bytes → at + length bytes ≡ end → end ≤ length l →
    put_mid at (end - at) l then ≡ sets l at bytes
put_sets l at end bytes then is long room =
    let so_many : end - at ≡ length bytes = omega arith in
    ap (λ (b : List ℕ). put_mid at (end - at) l b) is ∙
    ap (λ (n : ℕ). put_mid at n l bytes) so_many ∙
    ap (λ (rest : List ℕ). take at l ++ (bytes ++ rest)) (drop-drop (length bytes) at l) ∙
    sym (append_assoc (take at l) bytes (drop (at + length bytes) l)) ∙
    sym (sets-eq bytes l at (omega arith))

-- the part of the buffer is as long as the piece
part : (l : List ℕ) (at n : ℕ) → at + n ≤ length l → length (take (at + n - at) (drop at l)) ≡ n
part l at n room =
    let so_many : at + n - at ≡ n = omega arith in
    length-take-le (at + n - at) (drop at l) (omega (arith, length-drop at l)) ∙ so_many

pub piece_put : (l : List ℕ) (at : ℕ) (p : Piece) (then : List ℕ) → then ≡ filled p (take (at + p.count - at) (drop at l)) →
    at + p.count ≤ length l → put_mid at (at + p.count - at) l then ≡ sets l at (bytes_in p)
unfolding bytes_in
piece_put l at p then is room =
    put_sets l at (at + p.count) (bytes_of p.count p.bytes) then (is ∙ ap (λ (k : ℕ). bytes_of k p.bytes) (part l at p.count room))
    (omega (arith, length_of_bytes p)) room
