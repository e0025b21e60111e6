-- Which of two texts comes first: the shorter one, and of two that are as long the first in byte order.
use Rattle.std.specs.Prelude.{ℕ, ◌<◌, ◌≡◌, List, [], ◌∷◌, length}

-- not after another in byte order, of texts that are as long: the first byte in which they differ tells
pub data InByteOrder : List ℕ → List ℕ → Type 0 where
  nothing : {y : List ℕ} → InByteOrder [] y
  lower : {a b : ℕ} {x y : List ℕ} → a < b → InByteOrder (a ∷ x) (b ∷ y)
  alike : {a : ℕ} {x y : List ℕ} → InByteOrder x y → InByteOrder (a ∷ x) (a ∷ y)

-- shorter than another, or as long and not after it in byte order
pub data NotAfter : List ℕ → List ℕ → Type 0 where
  shorter : {x y : List ℕ} → length x < length y → NotAfter x y
  as_long : {x y : List ℕ} → length x ≡ length y → InByteOrder x y → NotAfter x y
