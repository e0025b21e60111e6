-- With the bytes that are left, what is put so far is the piece.
use Prim.Native.Nat.{◌-◌}
use mathlib.Core.Path.{◌≡◌}
use mathlib.Core.List.{◌++◌}
use lib.ListN.{length, take}
use Rattle.items.specs.Pieces.{bytes_of}
use Rattle.items.proofs.piece.Piece.put.Given as goal

abbrev pub invariant-loop-place : goal.invariant-loop-place
invariant-loop-place l =
    take l.place-index l.place-items ++ bytes_of (length l.place-items - l.place-index) l.bytes ≡
    bytes_of (length l.place-items) l.fn.self.bytes
