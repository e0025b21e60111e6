-- No rule of the paper: for contracts of this layer.
-- The bytes that stand in a number, the first in its lowest place.
use Rattle.std.specs.Prelude.{ℕ, zero, suc, ◌+◌, ◌*◌, ◌/◌, ◌%◌, ◌^◌, ◌<◌, ◌≤◌, List, [], ◌∷◌, length}
use Rattle.items.specs.declared.piece.Piece.{Piece}

abbrev pub bytes_of : ℕ → ℕ → List ℕ
bytes_of zero n = []
bytes_of (suc k) n = n % 0x100 ∷ bytes_of k (n / 0x100)

unfoldable pub bytes_in : Piece → List ℕ
bytes_in p = bytes_of p.count p.bytes

abbrev pub one_byte : ℕ → Piece
one_byte b = record { count = 1; bytes = b }

-- a room with the bytes of a piece; in one as long as the piece those are its bytes
abbrev pub filled : Piece → List ℕ → List ℕ
filled p room = bytes_of (length room) p.bytes

-- a byte in front, in a number of eight places
abbrev pub front : ℕ → Piece → Piece
front b p = record { count = (p.count + 1) % 2 ^ 64; bytes = p.bytes % 0x100000000000000 * 0x100 + b }

-- what is read of an item has four bytes at the most, so that there is room for a shift before it
pub record Small (p : Piece) : Type 0 where
  pub few : p.count ≤ 4
  pub low : p.bytes < 0x100000000
