-- What the call for the shortest text answers (request #108), and what the two lent buffers hold afterwards.
use Rattle.std.specs.Prelude.{ℕ, List, leb, length, replicate, Result, Err}
use Rattle.paper.specs.Choice.{◌gives◌or◌}
use Rattle.paper.specs.LentBuffers.{over}
use Rattle.paper.specs.WrittenForms.{sequence_of}
use Rattle.paper.specs.Conversions.{refusal_in, into_room, wrote_by}
use Rattle.paper.specs.declared.Form.{Form}
use Rattle.paper.specs.declared.Refusal.{Refusal}
use Rattle.shortest.specs.ShortestText.{shortest_of}
use Rattle.paper.specs.Refusals.{refusal_at}
use Rattle.paper.specs.declared.Refused.{Refused}

-- input of at most 4,096 bytes, a work buffer of at least 65,536 bytes
abbrev pub longest_input : ℕ
longest_input = 4096

abbrev pub work_length : ℕ
work_length = 65536

-- of a text in a form: the shortest 7-bit text of its sequence
abbrev pub shortest_text : Form → List ℕ → List ℕ
shortest_text m text = shortest_of (sequence_of m text)

-- 13 for a longer input, 14 for a shorter work buffer, then 1 to 7 and 9; the places of 13, 14 and 9 are 0
unfoldable pub shortening : Form → List ℕ → ℕ → ℕ → Result ℕ Refused
shortening m text room work =
    leb (length text) longest_input gives
    (leb work_length work gives into_room (refusal_in m text) (length (shortest_text m text)) room or
    Err (refusal_at Refusal.WorkBufferShort 0)) or
    Err (refusal_at Refusal.InputTooLong 0)

-- a refusal has written to neither buffer; after a success the work buffer's first 65,536 bytes are zero
abbrev pub buffer_after : Form → List ℕ → List ℕ → List ℕ → List ℕ
buffer_after m text buffer work = over (wrote_by (shortening m text (length buffer) (length work)) (shortest_text m text)) buffer

abbrev pub work_after : Form → List ℕ → List ℕ → List ℕ → List ℕ
work_after m text buffer work = over (wrote_by (shortening m text (length buffer) (length work)) (replicate work_length 0)) work
