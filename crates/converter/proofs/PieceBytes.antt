-- The bytes of a piece: of one byte, and of a number with bit 8 of each byte set, which are bytes of GR.
use Prim.Native.Nat.{ℕ, zero, suc, ◌+◌, ◌*◌, ◌/◌, ◌%◌, ◌^◌, ◌<◌}
use mathlib.Core.Path.{◌≡◌, refl, ap, ◌∙◌}
use mathlib.Core.List.{List, [], ◌∷◌, map}
use native.Mathlib.Nat.{suc-add}
use native.Mathlib.Omega.{arith}
use Rattle.std.proofs.Common.{bit_or}
use Rattle.std.proofs.lemmas.Nat.{or_mod, or_shr, or_block}
use Rattle.std.specs.Int.Bits.{or_zero_r}
use Rattle.paper.specs.CodeTable.{bit8}
use Rattle.paper.specs.WrittenForms.{byte_from}
use Rattle.paper.specs.declared.GraphicArea.{GraphicArea}
use Rattle.paper.proofs.Tests.{tests}
use Rattle.items.specs.declared.piece.Piece.{Piece}
use Rattle.items.specs.Pieces.{bytes_of, bytes_in}

-- ---- one byte

pub the_byte : (p : Piece) → p.count ≡ 1 → bytes_in p ≡ p.bytes % 0x100 ∷ []
unfolding bytes_in
the_byte p one = ap (λ (k : ℕ). bytes_of k p.bytes) one

pub ruleset tests_and_byte = (tests, the_byte)

-- ---- bit 8 of each

-- bit 8 of so many bytes
abbrev pub high_bits : ℕ → ℕ
high_bits zero = 0
high_bits (suc k) = 0x80 + 0x100 * high_bits k

-- a byte's highest bit is 0 or 1
or_one : (n : ℕ) → n < 2 → bit_or n 1 ≡ 1
or_one zero h = refl
or_one (suc zero) h = refl
or_one (suc (suc n)) h = absurd (omega arith)

or_bit_8 : (n : ℕ) → n < 0x100 → bit_or n 0x80 ≡ bit8 + n % bit8
or_bit_8 n h =
    let split : n ≡ n / 0x80 * 2 ^ 7 + n % 0x80 = omega arith in
    ap (λ (m : ℕ). bit_or m 0x80) split ∙
    or_block 7 (n / 0x80) 1 (n % 0x80) 0 (omega arith) (omega arith) ∙
    omega (arith, or_one (n / 0x80) (omega arith), or_zero_r (n % 0x80))

raised : (n h : ℕ) → bit_or n (0x80 + 0x100 * h) % 0x100 ≡ bit8 + n % 0x100 % bit8
raised n h =
    let low : (0x80 + 0x100 * h) % 0x100 ≡ 0x80 = omega arith in
    or_mod n (0x80 + 0x100 * h) 8 ∙ ap (bit_or (n % 0x100)) low ∙ or_bit_8 (n % 0x100) (omega arith)

over : (n h : ℕ) → bit_or n (0x80 + 0x100 * h) / 0x100 ≡ bit_or (n / 0x100) h
over n h =
    let high : (0x80 + 0x100 * h) / 0x100 ≡ h = omega arith in
    or_shr n (0x80 + 0x100 * h) 8 ∙ ap (bit_or (n / 0x100)) high

pub gr_bytes : (k more n : ℕ) → bytes_of k (bit_or n (high_bits (k + more))) ≡ map (byte_from GraphicArea.GR) (bytes_of k n)
gr_bytes zero more n = refl
gr_bytes (suc k) more n =
    let h : ℕ = high_bits (k + more) in
    let fewer : high_bits (suc k + more) ≡ 0x80 + 0x100 * h = ap high_bits (suc-add k more) in
    ap (λ (x : ℕ). bytes_of (suc k) (bit_or n x)) fewer ∙
    ap (λ (b : ℕ). b ∷ bytes_of k (bit_or n (0x80 + 0x100 * h) / 0x100)) (raised n h) ∙
    ap (λ (x : ℕ). (bit8 + n % 0x100 % bit8) ∷ bytes_of k x) (over n h) ∙
    ap (λ (l : List ℕ). (bit8 + n % 0x100 % bit8) ∷ l) (gr_bytes k more (n / 0x100))
