-- Request #108 in one piece: where the call says that it wrote so many bytes, the text is accepted, the first so many bytes of the buffer are
-- the shortest 7-bit text of its sequence, and the rest is unchanged.
use Prim.Native.Nat.{ℕ}
use mathlib.Core.Path.{◌≡◌, refl, sym, ap, ◌∙◌, subst}
use mathlib.Core.Bool.{Bool, true, false}
use mathlib.Core.List.{List, ◌++◌}
use lib.Dec.{leb}
use lib.ListN.{length, take, drop}
use lib.Seq.{take_at, drop_at}
use Rattle.paper.specs.Choice.{◌gives◌or◌}
use Rattle.paper.specs.WrittenForms.{sequence_of}
use Rattle.paper.specs.Conversions.{refusal_in, into_room, Accepted}
use Rattle.paper.specs.declared.Form.{Form}
use Rattle.paper.specs.declared.Refusal.{Refusal}
use Rattle.paper.proofs.Choices.{impossible}
use Rattle.shortest.specs.Shortest.{Shortest}
use Rattle.shortest.specs.Shortening.{longest_input, work_length, shortest_text, shortening, buffer_after}
use Rattle.shortest.proofs.TheShortestText.{is_the_shortest}
use Rattle.shortest.proofs.OrderOfRefusals.{success_leaves}
use Rattle.std.specs.Prelude.{Option, Some, None, Result, Ok, Err}
use Rattle.paper.specs.Refusals.{refusal_at}
use Rattle.paper.specs.declared.Refused.{Refused}

past_both_tests : (short enough : Bool) (x : Result ℕ Refused) (n : ℕ) →
    (short gives (enough gives x or Err (refusal_at Refusal.WorkBufferShort 0)) or Err (refusal_at Refusal.InputTooLong 0)) ≡
    Ok n → x ≡ Ok n
past_both_tests true true x n e = e
past_both_tests true false x n e = impossible (cc)
past_both_tests false enough x n e = impossible (cc)

its_length : (fits : Bool) (long n : ℕ) → (fits gives Ok long or Err (refusal_at Refusal.BufferShort 0)) ≡ Ok n → long ≡ n
its_length true long n e = cc
its_length false long n e = impossible (cc)

fits_where_done : (x : Option Refused) (long room n : ℕ) → into_room x long room ≡ Ok n → (x ≡ None) × (long ≡ n)
fits_where_done None long room n e = (refl, its_length (leb long room) long n e)
fits_where_done (Some r) long room n e = impossible (cc)

pub record Wrote (m : Form) (text buffer after : List ℕ) (n : ℕ) : Type 0 where
  pub accepted : Accepted m text
  pub shortest : Shortest (sequence_of m text) (take n after)
  pub unchanged : drop n after ≡ drop n buffer

module _ (m : Form) (text buffer work : List ℕ) (n : ℕ) (done : shortening m text (length buffer) (length work) ≡ Ok n) where
  found : (refusal_in m text ≡ None) × (length (shortest_text m text) ≡ n)
  unfolding shortening
  found =
      fits_where_done (refusal_in m text) (length (shortest_text m text)) (length buffer) n
      (past_both_tests (leb (length text) longest_input) (leb work_length (length work)) _ n done)

  pub success_writes : Wrote m text buffer (buffer_after m text buffer work) n
  success_writes =
      let output : List ℕ = shortest_text m text in
      let after : buffer_after m text buffer work ≡ output ++ drop n buffer =
      (success_leaves m text buffer work n done).0 ∙ ap (λ (k : ℕ). output ++ drop k buffer) found.1 in
      record {
        accepted = found.0;
        shortest =
            subst (Shortest (sequence_of m text))
            (sym (take_at output (drop n buffer) n found.1) ∙ ap (take n) (sym after))
            (is_the_shortest m text found.0);
        unchanged = ap (drop n) after ∙ drop_at output (drop n buffer) n found.1;
      }
