-- What the lane's answers mean: a choice that gives `false` in its other rows is true only where its tests are.
use Prim.Native.Nat.{ℕ, zero, suc, ◌+◌, ◌<◌, ◌≤◌}
use mathlib.Core.Path.{◌≡◌, refl}
use mathlib.Core.Bool.{Bool, true, false}
use mathlib.Core.List.{List}
use mathlib.Core.Logic.{◌⊎◌, inl, inr, ⊎_elim}
use native.Mathlib.Nat.{eq-or-lt_of_le, not-suc-le-zero}
use native.Mathlib.Omega.{arith}
use borrow.Author.Tests.{leb-true, eqb-false, le-leb, ne_eqb}
use lib.Dec.{leb, ltb, eqb}
use lib.ListN.{length, get_or}
use Rattle.paper.specs.Choice.{◌gives◌or◌, between}
use Rattle.paper.specs.CodeTable.{so, si, esc}
use Rattle.paper.specs.Sets.{space}
use Rattle.paper.proofs.Choices.{impossible, gives_by, between_bounds, in_bounds, above_bounds}
use Rattle.lane.specs.declared.Lane.{Lane}
use Rattle.lane.specs.Passing.{is_quiet, passes, pass_all, byte_ahead, block_ahead}

pub both_true : (s t : Bool) → (s gives t or false) ≡ true → (s ≡ true) × (t ≡ true)
both_true true t e = (refl, e)
both_true false t e = impossible (cc)

neither_true : (s t : Bool) → (s gives false or t gives false or true) ≡ true → (s ≡ false) × (t ≡ false)
neither_true true t e = impossible (cc)
neither_true false true e = impossible (cc)
neither_true false false e = (refl, refl)

either_true : (s t : Bool) → (s gives true or t) ≡ true → (s ≡ true) ⊎ (t ≡ true)
either_true true t e = inl refl
either_true false t e = inr e

each_passes : (x : Lane) (text : List ℕ) (place n k : ℕ) → pass_all x text place n ≡ true → k < n →
    passes x (get_or text (place + k) 0) ≡ true
each_passes x text place zero k e h = absurd (not-suc-le-zero h)
each_passes x text place (suc n) k e h =
    let w = both_true (pass_all x text place n) (passes x (get_or text (place + n) 0)) e in
    let below : k ≤ n = omega arith in
    ⊎_elim (λ (same : k ≡ n). rw same w.1) (λ less. each_passes x text place n k w.0 less) (eq-or-lt_of_le below)

block_both : (x : Lane) (text : List ℕ) (place : ℕ) → block_ahead x text place ≡ true →
    (leb (place + 16) (length text) ≡ true) × (pass_all x text place 16 ≡ true)
unfolding block_ahead
block_both x text place e = both_true (leb (place + 16) (length text)) (pass_all x text place 16) e

pub block_inside : (x : Lane) (text : List ℕ) (place : ℕ) → block_ahead x text place ≡ true → place + 16 ≤ length text
block_inside x text place e = leb-true (place + 16) (length text) (block_both x text place e).0

pub block_passes_each : (x : Lane) (text : List ℕ) (place k : ℕ) → block_ahead x text place ≡ true → k < 16 →
    passes x (get_or text (place + k) 0) ≡ true
block_passes_each x text place k e h = each_passes x text place 16 k (block_both x text place e).1 h

byte_both : (x : Lane) (text : List ℕ) (place : ℕ) → byte_ahead x text place ≡ true →
    (ltb place (length text) ≡ true) × (passes x (get_or text place 0) ≡ true)
unfolding byte_ahead
byte_both x text place e = both_true (ltb place (length text)) (passes x (get_or text place 0)) e

pub byte_passes : (x : Lane) (text : List ℕ) (place : ℕ) → byte_ahead x text place ≡ true → passes x (get_or text place 0) ≡ true
byte_passes x text place e = (byte_both x text place e).1

outside : (first last b : ℕ) → between first last b ≡ false → first ≤ b → b ≤ last → ⊥
outside first last b e low high = impossible (cc (e, in_bounds first last b low high))

quiet_means : (b : ℕ) → is_quiet b ≡ true → (b ≡ esc → ⊥) × (b ≡ so → ⊥) × (b ≡ si → ⊥)
unfolding is_quiet
quiet_means b e =
    let w = neither_true (eqb b esc) (between so si b) e in (
      eqb-false b esc w.0,
      λ z. outside so si b w.1 (omega arith) (omega arith),
      λ z. outside so si b w.1 (omega arith) (omega arith),
    )

-- a byte that passes is within the bounds, or plain and neither ESC, SO nor SI
pub passes_means : (x : Lane) (b : ℕ) → passes x b ≡ true →
    ((x.first ≤ b) × (b ≤ x.last)) ⊎ ((b ≤ x.plain) × (b ≡ esc → ⊥) × (b ≡ so → ⊥) × (b ≡ si → ⊥))
unfolding passes
passes_means x b e =
    ⊎_elim
    (λ inside. inl (between_bounds x.first x.last b inside))
    (λ plain.
    let w = both_true (leb b x.plain) (is_quiet b) plain in
    let q = quiet_means b w.1 in
    inr (leb-true b x.plain w.0, q.0, q.1, q.2))
    (either_true (between x.first x.last b) (leb b x.plain gives is_quiet b or false) e)

-- a lane that lets through what another does
pub passes_too : (x y : Lane) (b : ℕ) → passes x b ≡ true → (x.first ≤ b → b ≤ x.last → passes y b ≡ true) →
    (b ≤ x.plain → b ≤ y.plain) → passes y b ≡ true
unfolding passes
passes_too x y b e bounds plain =
    ⊎_elim
    (λ inside. let w = between_bounds x.first x.last b inside in bounds w.0 w.1)
    (λ low.
    let w = both_true (leb b x.plain) (is_quiet b) low in
    rw (le-leb b y.plain (plain (leb-true b x.plain w.0)), w.1)
    (gives_by (λ (t : Bool). t ≡ true) (between y.first y.last b) (λ e. refl) (λ e. refl)))
    (either_true (between x.first x.last b) (leb b x.plain gives is_quiet b or false) e)

-- and which bytes pass

pub bound_passes : (x : Lane) (b : ℕ) → x.first ≤ b → b ≤ x.last → passes x b ≡ true
unfolding passes
bound_passes x b low high = rw (in_bounds x.first x.last b low high)

pub plain_passes : (x : Lane) (b : ℕ) → space ≤ b → b ≤ x.plain → passes x b ≡ true
unfolding passes is_quiet
plain_passes x b low high =
    gives_by (λ (t : Bool). t ≡ true) (between x.first x.last b) (λ e. refl)
    (λ e. rw (le-leb b x.plain high, ne_eqb b esc (λ e. omega arith), above_bounds so si b (omega arith) (omega arith)))
