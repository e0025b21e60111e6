-- The refusals of the call, in their order and with their places: 13, then 14, then what the text is refused by, then 9; and where there is
-- none the length of the text that is written. A refusal leaves both lent buffers; a success leaves the work buffer's first 65,536 bytes zero.
use Prim.Native.Nat.{ℕ, ◌<◌, ◌≤◌}
use mathlib.Core.Path.{◌≡◌, ap, ◌∙◌}
use mathlib.Core.List.{List, ◌++◌}
use borrow.Author.Tests.{le-leb, lt-leb}
use lib.ListN.{length, drop, replicate, length-replicate}
use Rattle.paper.specs.LentBuffers.{over}
use Rattle.paper.specs.Conversions.{refusal_in, into_room}
use Rattle.paper.specs.declared.Form.{Form}
use Rattle.paper.specs.declared.Refusal.{Refusal}
use Rattle.shortest.specs.Shortening.{shortest_text, shortening, buffer_after, work_after}
use Rattle.std.specs.Prelude.{Option, Some, None, Ok, Err}
use Rattle.paper.specs.Refusals.{refusal_at}
use Rattle.paper.specs.declared.Refused.{Refused}

module _ (m : Form) (text : List ℕ) (room work : ℕ) where
  pub long_input : 4096 < length text → shortening m text room work ≡ Err (refusal_at Refusal.InputTooLong 0)
  unfolding shortening
  long_input long = rw (lt-leb (length text) 4096 long)

  module _ (short : length text ≤ 4096) where
    pub short_work : work < 65536 → shortening m text room work ≡ Err (refusal_at Refusal.WorkBufferShort 0)
    unfolding shortening
    short_work less = rw (le-leb (length text) 4096 short, lt-leb 65536 work less)

    module _ (enough : 65536 ≤ work) where
      pub both_tested : shortening m text room work ≡ into_room (refusal_in m text) (length (shortest_text m text)) room
      unfolding shortening
      both_tested = rw (le-leb (length text) 4096 short, le-leb 65536 work enough)

      pub refused_text : (n : Refusal) (place : ℕ) → refusal_in m text ≡ Some (refusal_at n place) →
          shortening m text room work ≡ Err (refusal_at n place)
      refused_text n place e = both_tested ∙ ap (λ (x : Option Refused). into_room x (length (shortest_text m text)) room) e

      module _ (accepted : refusal_in m text ≡ None) where
        abbrev n : ℕ
        n = length (shortest_text m text)

        pub short_buffer : room < n → shortening m text room work ≡ Err (refusal_at Refusal.BufferShort 0)
        short_buffer less = both_tested ∙ ap (λ (x : Option Refused). into_room x n room) accepted ∙ rw (lt-leb n room less)

        pub done : n ≤ room → shortening m text room work ≡ Ok n
        done fits = both_tested ∙ ap (λ (x : Option Refused). into_room x n room) accepted ∙ rw (le-leb n room fits)

-- ---- what the two lent buffers hold afterwards

module _ (m : Form) (text buffer work : List ℕ) where
  pub refusal_leaves : (r : Refusal) (at : ℕ) → shortening m text (length buffer) (length work) ≡ Err (refusal_at r at) →
      (buffer_after m text buffer work ≡ buffer) × (work_after m text buffer work ≡ work)
  refusal_leaves r at e = (rw (e), rw (e))

  pub success_leaves : (n : ℕ) → shortening m text (length buffer) (length work) ≡ Ok n →
      (buffer_after m text buffer work ≡ over (shortest_text m text) buffer) ×
      (work_after m text buffer work ≡ replicate 65536 0 ++ drop 65536 work)
  success_leaves n e = (rw (e), rw (e, length-replicate {A = ℕ} 65536 0))
