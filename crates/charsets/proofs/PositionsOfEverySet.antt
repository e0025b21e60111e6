-- Between 2/0 and 7/15 a byte is neither SPACE nor DELETE, so it is of every set.
use Prim.Native.Nat.{ℕ, ◌≤◌, ◌<◌}
use mathlib.Core.Path.{◌≡◌}
use native.Mathlib.Omega.{arith}
use borrow.Author.Tests.{le-leb, ne_eqb}
use Rattle.paper.specs.Choice.{between}
use Rattle.paper.specs.Sets.{space, delete, set_byte}
use Rattle.paper.specs.declared.Kind.{Kind}
use Rattle.paper.specs.declared.SetByte.{SetByte}

pub position_of_set : (k : Kind) (q : ℕ) → space < q → q < delete → set_byte k q ≡ SetByte.OfSet
unfolding set_byte between
position_of_set Kind.Of94 q low high =
    let first : space ≤ q = omega arith in
    let last : q ≤ delete = omega arith in
    let no_space : q ≡ space → ⊥ = λ e. omega arith in
    let no_delete : q ≡ delete → ⊥ = λ e. omega arith in
    rw (le-leb space q first, le-leb q delete last, ne_eqb q space no_space, ne_eqb q delete no_delete)
position_of_set Kind.Of96 q low high =
    let first : space ≤ q = omega arith in
    let last : q ≤ delete = omega arith in
    rw (le-leb space q first, le-leb q delete last)
