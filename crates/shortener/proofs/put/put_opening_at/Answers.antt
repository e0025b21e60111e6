-- There is room for all of it.
use Prim.Native.Nat.{ℕ, ◌+◌, ◌≤◌}
use mathlib.Core.Path.{◌≡◌, ◌∙◌}
use mathlib.Core.List.{List}
use borrow.Author.Tests.{le-leb}
use lib.ListN.{length}
use lib.Seq.{sets}
use Rattle.paper.specs.Starting.{opening}
use Rattle.paper.specs.declared.Form.{Form}
use Rattle.openings.specs.InBuffers.{with_opening}
use Rattle.shortener.proofs.put.put_opening_at.Goals as goal

put_whole : (buffer : List ℕ) (at : ℕ) → at + length (opening Form.Seven) ≤ length buffer →
    with_opening Form.Seven buffer at ≡ sets buffer at (opening Form.Seven)
unfolding with_opening
put_whole buffer at room = rw (le-leb (at + length (opening Form.Seven)) (length buffer) room)

pub returns-clause-buffer_after : goal.returns-clause-buffer_after
returns-clause-buffer_after c = c.put_opening.ensures ∙ put_whole c.args.buffer.now c.args.written.at c.requires.0
