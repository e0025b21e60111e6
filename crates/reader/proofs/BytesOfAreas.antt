-- A byte of GL or GR is no byte outside: what it is to a set is decided by its position byte alone.
use Prim.Native.Nat.{ℕ, ◌+◌, ◌%◌, ◌<◌, ◌≤◌}
use mathlib.Core.Path.{◌≡◌}
use native.Mathlib.Omega.{arith}
use borrow.Author.Tests.{le-leb, ne_eqb}
use Rattle.paper.specs.Choice.{between}
use Rattle.paper.specs.CodeTable.{bit8}
use Rattle.paper.specs.Sets.{space, delete, position_byte, set_byte}
use Rattle.paper.specs.Characters.{byte_in}
use Rattle.paper.specs.declared.GraphicArea.{GraphicArea}
use Rattle.paper.specs.declared.Kind.{Kind}
use Rattle.paper.specs.declared.Kind.TheVariants.{Of94, Of96}
use Rattle.paper.specs.declared.SetByte.{SetByte}

pub in_gl : (b : ℕ) → space ≤ b → b ≤ delete → (k : Kind) → byte_in GraphicArea.GL k b ≡ position_byte k b
unfolding byte_in set_byte between
in_gl b low high k = rw (le-leb space b low, le-leb b delete high)

pub in_gr : (b : ℕ) → bit8 + space ≤ b → b < 256 → (k : Kind) → byte_in GraphicArea.GR k b ≡ position_byte k (b % bit8)
unfolding byte_in set_byte between
in_gr b low high k =
    let eighth : bit8 ≤ b = omega arith in
    let first : space ≤ b % bit8 = omega arith in
    let last : b % bit8 ≤ delete = omega arith in
    rw (le-leb bit8 b eighth, le-leb space (b % bit8) first, le-leb (b % bit8) delete last)

-- what a position byte is under 94 type, by the tests that the code makes, and under 96 type
pub of_space : (k : Kind) (b : ℕ) → k ≡ Of94 → b ≡ space → position_byte k b ≡ SetByte.OfSpace
of_space k b e h = rw (e, h)

pub of_delete : (k : Kind) (b : ℕ) → k ≡ Of94 → b ≡ delete → position_byte k b ≡ SetByte.OfDelete
of_delete k b e h = rw (e, h)

pub of_set : (k : Kind) (b : ℕ) → k ≡ Of94 → (b ≡ space → ⊥) → (b ≡ delete → ⊥) → position_byte k b ≡ SetByte.OfSet
of_set k b e s d = rw (e, ne_eqb b space s, ne_eqb b delete d)

pub of_96 : (k : Kind) (b : ℕ) → k ≡ Of96 → position_byte k b ≡ SetByte.OfSet
of_96 k b e = rw e
