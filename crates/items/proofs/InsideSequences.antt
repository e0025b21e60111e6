-- What a place inside a sequence makes of it: past the text's end, or by the bounds of the byte there, it goes on, ends or is refused.
use Rattle.std.proofs.Common.{◌≡◌, ℕ, ◌<◌, ◌≤◌, false, List, length, get_or, arith, le-leb}
use borrow.Author.Tests.{lt-leb}
use Rattle.paper.specs.Choice.{between}
use Rattle.paper.specs.Sequences.{first_final, last_final, sequence_byte}
use Rattle.paper.specs.declared.Form.{Form}
use Rattle.paper.specs.declared.Refusal.{Refusal}
use Rattle.paper.specs.declared.SequenceByte.{SequenceByte}
use Rattle.paper.proofs.Choices.{in_bounds, above_bounds}
use Rattle.items.specs.Items.{Item, refused, inside_at, not_of_sequence}

pub below_bounds : (first last n : ℕ) → n < first → between first last n ≡ false
unfolding between
below_bounds first last n low = rw (lt-leb first n low)

low_byte : (b : ℕ) → b < 0x20 → sequence_byte b ≡ SequenceByte.Neither
unfolding sequence_byte
low_byte b h = rw (below_bounds 0x20 0x2F b h, below_bounds first_final last_final b (omega arith))

intermediate_byte : (b : ℕ) → 0x20 ≤ b → b ≤ 0x2F → sequence_byte b ≡ SequenceByte.Intermediate
unfolding sequence_byte
intermediate_byte b low high = rw (in_bounds 0x20 0x2F b low high)

final_byte : (b : ℕ) → 0x2F < b → b ≤ 0x7E → sequence_byte b ≡ SequenceByte.Final
unfolding sequence_byte
final_byte b low high = rw (above_bounds 0x20 0x2F b (omega arith) low, in_bounds first_final last_final b low high)

high_byte : (b : ℕ) → 0x7E < b → sequence_byte b ≡ SequenceByte.Neither
unfolding sequence_byte
high_byte b low = rw (above_bounds 0x20 0x2F b (omega arith) (omega arith), above_bounds first_final last_final b (omega arith) low)

pub past_the_end_lem : (m : Form) (text : List ℕ) (place : ℕ) (on end : Item) →
    length text ≤ place → refused Refusal.EndsInside place ≡ inside_at m text place on end
unfolding inside_at
past_the_end_lem m text place on end h = rw (le-leb (length text) place h)

module _ (m : Form) (text : List ℕ) (place : ℕ) (on end : Item) (inside : place < length text) where
  pub below_intermediates : get_or text place 0 < 0x20 → not_of_sequence m (get_or text place 0) place ≡ inside_at m text place on end
  unfolding inside_at
  below_intermediates h = rw (lt-leb (length text) place inside, low_byte (get_or text place 0) h)

  pub goes_on : 0x20 ≤ get_or text place 0 → get_or text place 0 ≤ 0x2F → on ≡ inside_at m text place on end
  unfolding inside_at
  goes_on low high = rw (lt-leb (length text) place inside, intermediate_byte (get_or text place 0) low high)

  pub ends_there : 0x2F < get_or text place 0 → get_or text place 0 ≤ 0x7E → end ≡ inside_at m text place on end
  unfolding inside_at
  ends_there low high = rw (lt-leb (length text) place inside, final_byte (get_or text place 0) low high)

  pub above_finals : 0x7E < get_or text place 0 → not_of_sequence m (get_or text place 0) place ≡ inside_at m text place on end
  unfolding inside_at
  above_finals h = rw (lt-leb (length text) place inside, high_byte (get_or text place 0) h)
