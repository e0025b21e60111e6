-- A byte in front takes the lowest place of a number, and each place further up is a division away.
use Rattle.std.proofs.Common.{◌≡◌, ℕ, zero, suc, ◌+◌, ◌*◌, ◌/◌, ◌%◌, ◌<◌, [], ◌∷◌, length, refl, ap, add-one, arith}
use native.Mathlib.Nat.{div-div-eq-div-mul}
use Rattle.items.specs.Pieces.{bytes_of, bytes_in}
use Rattle.items.specs.declared.piece.Piece.{Piece}

pub one_byte_lem : (b : ℕ) → b < 0x100 → bytes_of 1 b ≡ b ∷ []
one_byte_lem b h = let low : b % 0x100 ≡ b = omega arith in rw low

pub byte_in_front : (k n b : ℕ) → b < 0x100 → bytes_of (k + 1) (n * 0x100 + b) ≡ b ∷ bytes_of k n
byte_in_front k n b h =
    let low : (n * 0x100 + b) % 0x100 ≡ b = omega arith in
    let rest : (n * 0x100 + b) / 0x100 ≡ n = omega arith in
    rw (add-one, low, rest)

pub third_place : (n : ℕ) → n / 0x100 / 0x100 ≡ n / 0x10000
third_place n = div-div-eq-div-mul n 0x100 0x100

pub fourth_place : (n : ℕ) → n / 0x10000 / 0x100 ≡ n / 0x1000000
fourth_place n = div-div-eq-div-mul n 0x10000 0x100

pub fifth_place : (n : ℕ) → n / 0x1000000 / 0x100 ≡ n / 0x100000000
fifth_place n = div-div-eq-div-mul n 0x1000000 0x100

pub ruleset places = (third_place, fourth_place, fifth_place)

length_of_bytes_of : (k n : ℕ) → length (bytes_of k n) ≡ k
length_of_bytes_of zero n = refl
length_of_bytes_of (suc k) n = ap suc (length_of_bytes_of k (n / 0x100))

pub length_of_bytes : (p : Piece) → length (bytes_in p) ≡ p.count
unfolding bytes_in
length_of_bytes p = length_of_bytes_of p.count p.bytes
