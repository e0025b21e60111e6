-- The shortest 7-bit text of a sequence (request #108): it reads as that sequence from the starting state, and every 7-bit text that
-- does is longer, or as long and not before it in byte order.
use Rattle.std.specs.Prelude.{ℕ, ◌≡◌, List}
use Rattle.paper.specs.WrittenForms.{Entry, sequence_of}
use Rattle.paper.specs.Conversions.{Accepted}
use Rattle.paper.specs.declared.Form.{Form}
use Rattle.shortest.specs.ByteOrder.{NotAfter}

-- a 7-bit text that is accepted and has this sequence, marks included
pub record Reads (sequence : List Entry) (text : List ℕ) : Type 0 where
  pub accepted : Accepted Form.Seven text
  pub same : sequence_of Form.Seven text ≡ sequence

-- the others may also end inside
pub record Shortest (sequence : List Entry) (text : List ℕ) : Type 0 where
  pub reads : Reads sequence text
  pub first : (other : List ℕ) → sequence_of Form.Seven other ≡ sequence → NotAfter text other
