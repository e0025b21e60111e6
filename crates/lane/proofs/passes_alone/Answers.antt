-- Above the plain bytes the bounds decide, and a plain byte that is not quiet is left to the bounds.
use Prim.Native.Nat.{ℕ, ◌<◌, ◌≤◌}
use mathlib.Core.Path.{◌≡◌, refl, sym, ◌∙◌}
use mathlib.Core.Bool.{Bool, true, false}
use native.Mathlib.Omega.{arith}
use borrow.Author.Tests.{le-leb, lt-leb}
use lib.Dec.{leb}
use Rattle.paper.specs.Choice.{◌gives◌or◌, between}
use Rattle.lane.specs.declared.Lane.{Lane}
use Rattle.lane.specs.Passing.{is_quiet, passes}
use Rattle.lane.proofs.PlainBytes.{plain_quiet, passes_from_space}
use Rattle.lane.proofs.passes_alone.Goals.{then-byte-ge-SPACE, else-byte-ge-SPACE}
use Rattle.lane.proofs.passes_alone.Goals as goal

itself : (t : Bool) → t ≡ (t gives true or false)
itself true = refl
itself false = refl

below_bounds : (x : Lane) (b : ℕ) → x.plain < b → b < x.first → leb x.first b ≡ passes x b
unfolding passes between
below_bounds x b h k = rw (lt-leb x.first b k, lt-leb b x.plain h)

by_last : (x : Lane) (b : ℕ) → x.plain < b → x.first ≤ b → leb b x.last ≡ passes x b
unfolding passes between
by_last x b h k = rw (le-leb x.first b k, lt-leb b x.plain h) (itself (leb b x.last))

by_bounds : (x : Lane) (b : ℕ) → b ≤ x.plain → is_quiet b ≡ false → between x.first x.last b ≡ passes x b
unfolding passes
by_bounds x b h loud = rw (le-leb b x.plain h, loud) (itself (between x.first x.last b))

pub returns-then-lane-byte-2 : goal.returns-then-lane-byte-2
returns-then-lane-byte-2 c = by_last _ _ (omega arith) (omega arith)

pub returns-else-lane-byte-2 : goal.returns-else-lane-byte-2
returns-else-lane-byte-2 c = below_bounds _ _ (omega arith) (omega arith)

pub returns-then-is_quiet : goal.returns-then-is_quiet
returns-then-is_quiet c = c.if-is_quiet.true ∙ elim c.if-byte-ge-SPACE.branch [
  | then-byte-ge-SPACE w ↦ sym (passes_from_space _ _ (omega arith) (omega arith))
  | else-byte-ge-SPACE w ↦ plain_quiet _ _ (omega arith) (sym w.is_quiet.ensures ∙ sym w.value-is ∙ c.if-is_quiet.true)
]

pub returns-else-is_quiet : goal.returns-else-is_quiet
returns-else-is_quiet c = c.between.ensures ∙ elim c.if-byte-ge-SPACE.branch [
  | then-byte-ge-SPACE w ↦
      let no : false ≡ true = sym c.if-is_quiet.false ∙ w.value-is ∙ le-leb _ _ w.if-byte-ge-SPACE.true in cc
  | else-byte-ge-SPACE w ↦ by_bounds _ _ (omega arith) (sym w.is_quiet.ensures ∙ sym w.value-is ∙ c.if-is_quiet.false)
]
