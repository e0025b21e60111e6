-- The areas of the code table by bounds of a byte: sixteen bytes to a column.
use Rattle.std.proofs.Common.{◌≡◌, ℕ, ◌/◌, ◌<◌, ◌≤◌, leb, refl, arith, leb-false, leb-true}
use Rattle.paper.specs.CodeTable.{position_of, column_area, area_of, last_of_c0, last_of_gl, last_of_c1, bit8}
use Rattle.paper.specs.Sets.{space}
use Rattle.paper.specs.declared.Area.{Area}
use Rattle.paper.proofs.Choices.{impossible, gives_by}

pub area_by : (P : Area → Type 0) (b : ℕ) → (b < space → P Area.C0) → (space ≤ b → b < bit8 → P Area.GL) →
    (bit8 ≤ b → b < 0xA0 → P Area.C1) → (0xA0 ≤ b → P Area.GR) → P (area_of b)
unfolding column_area position_of
area_by P b in_c0 in_gl in-c1 in_gr =
    gives_by P (leb (b / 16) last_of_c0)
    (λ e. let h = leb-true (b / 16) last_of_c0 e in in_c0 (omega arith))
    (λ e. let l = leb-false (b / 16) last_of_c0 e in gives_by P (leb (b / 16) last_of_gl)
    (λ e. let h = leb-true (b / 16) last_of_gl e in in_gl (omega arith) (omega arith))
    (λ e. let l = leb-false (b / 16) last_of_gl e in gives_by P (leb (b / 16) last_of_c1)
    (λ e. let h = leb-true (b / 16) last_of_c1 e in in-c1 (omega arith) (omega arith))
    (λ e. let l = leb-false (b / 16) last_of_c1 e in in_gr (omega arith))))

-- from the area to the bounds

pub c0_bound : (b : ℕ) → area_of b ≡ Area.C0 → b < bit8
c0_bound b =
    area_by (λ (a : Area). a ≡ Area.C0 → b < bit8) b (λ h e. omega arith) (λ l h e. impossible (cc)) (λ l h e. impossible (cc))
    (λ l e. impossible (cc))

pub gl_bound : (b : ℕ) → area_of b ≡ Area.GL → b < bit8
gl_bound b =
    area_by (λ (a : Area). a ≡ Area.GL → b < bit8) b (λ h e. impossible (cc)) (λ l h e. h) (λ l h e. impossible (cc))
    (λ l e. impossible (cc))

pub c1_bound : (b : ℕ) → area_of b ≡ Area.C1 → bit8 ≤ b
c1_bound b =
    area_by (λ (a : Area). a ≡ Area.C1 → bit8 ≤ b) b (λ h e. impossible (cc)) (λ l h e. impossible (cc)) (λ l h e. l)
    (λ l e. impossible (cc))

pub gr_bound : (b : ℕ) → area_of b ≡ Area.GR → bit8 ≤ b
gr_bound b =
    area_by (λ (a : Area). a ≡ Area.GR → bit8 ≤ b) b (λ h e. impossible (cc)) (λ l h e. impossible (cc)) (λ l h e. impossible (cc))
    (λ l e. omega arith)

-- and back

pub below_space : (b : ℕ) → b < space → area_of b ≡ Area.C0
below_space b low =
    area_by (λ (a : Area). a ≡ Area.C0) b (λ h. refl) (λ l h. absurd (omega arith)) (λ l h. absurd (omega arith))
    (λ l. absurd (omega arith))

pub below_bit_8 : (b : ℕ) → space ≤ b → b < bit8 → area_of b ≡ Area.GL
below_bit_8 b low high =
    area_by (λ (a : Area). a ≡ Area.GL) b (λ h. absurd (omega arith)) (λ l h. refl) (λ l h. absurd (omega arith))
    (λ l. absurd (omega arith))
