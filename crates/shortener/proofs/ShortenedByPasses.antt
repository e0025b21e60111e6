-- What the call answers and leaves in the two lent buffers, by the tests in their order and then by what the passes give.
use Prim.Native.Nat.{ℕ, ◌<◌, ◌≤◌}
use mathlib.Core.Path.{◌≡◌, sym, ap, ◌∙◌, subst}
use mathlib.Core.List.{List}
use lib.ListN.{length, replicate}
use Rattle.paper.specs.LentBuffers.{over}
use Rattle.paper.specs.Conversions.{refusal_in, wrote_by}
use Rattle.paper.specs.declared.Form.{Form}
use Rattle.paper.specs.declared.Refusal.{Refusal}
use Rattle.shortest.specs.Shortening.{longest_input, work_length, shortest_text, shortening, buffer_after, work_after}
use Rattle.shortest.proofs.OrderOfRefusals.{long_input, short_work, refused_text, short_buffer, done}
use Rattle.std.specs.Prelude.{Some, None, Result, Ok, Err}
use Rattle.paper.specs.Refusals.{refusal_at}
use Rattle.paper.specs.declared.Refused.{Refused}

module _ (m : Form) (text buffer work : List ℕ) where
  abbrev pub Answers : Result ℕ Refused → List ℕ → List ℕ → Type 0
  Answers answer after_buffer after_work =
      (answer ≡ shortening m text (length buffer) (length work)) ×
      ((after_buffer ≡ buffer_after m text buffer work) × (after_work ≡ work_after m text buffer work))

  -- a refusal leaves both
  refused_so : (r : Refusal) (at : ℕ) → Err (refusal_at r at) ≡ shortening m text (length buffer) (length work) →
      Answers (Err (refusal_at r at)) buffer work
  refused_so r at e = (
    e,
    (
      ap (λ (a : Result ℕ Refused). over (wrote_by a (shortest_text m text)) buffer) e,
      ap (λ (a : Result ℕ Refused). over (wrote_by a (replicate work_length 0)) work) e,
    ),
  )

  pub too_long : longest_input < length text → Answers (Err (refusal_at Refusal.InputTooLong 0)) buffer work
  too_long long = refused_so Refusal.InputTooLong 0 (sym (long_input m text (length buffer) (length work) long))

  module _ (short : length text ≤ longest_input) where
    pub work_short : length work < work_length → Answers (Err (refusal_at Refusal.WorkBufferShort 0)) buffer work
    work_short less = refused_so Refusal.WorkBufferShort 0 (sym (short_work m text (length buffer) (length work) short less))

    module _ (enough : work_length ≤ length work) where
      pub text_refused : (r : Refusal) (at : ℕ) → Some (refusal_at r at) ≡ refusal_in m text → Answers (Err (refusal_at r at)) buffer work
      text_refused r at e = refused_so r at (sym (refused_text m text (length buffer) (length work) short enough r at (sym e)))

      module _ (accepted : None ≡ refusal_in m text) (n : ℕ) (long : n ≡ length (shortest_text m text)) where
        pub no_room : length buffer < n → Answers (Err (refusal_at Refusal.BufferShort 0)) buffer work
        no_room less = refused_so Refusal.BufferShort 0 (sym (short_buffer m text (length buffer) (length work) short enough (sym accepted)
            (subst (λ (k : ℕ). length buffer < k) long less)))

        pub all_written : n ≤ length buffer → (after_buffer after_work : List ℕ) → after_buffer ≡ over (shortest_text m text) buffer →
            after_work ≡ over (replicate work_length 0) work → Answers (Ok n) after_buffer after_work
        all_written fits after_buffer after_work wrote cleared =
            let is : shortening m text (length buffer) (length work) ≡ Ok (length (shortest_text m text)) =
            done m text (length buffer) (length work) short enough (sym accepted) (subst (λ (k : ℕ). k ≤ length buffer) long fits) in (
              ap Ok long ∙ sym is,
              (
                wrote ∙ ap (λ (a : Result ℕ Refused). over (wrote_by a (shortest_text m text)) buffer) (sym is),
                cleared ∙ ap (λ (a : Result ℕ Refused). over (wrote_by a (replicate work_length 0)) work) (sym is),
              ),
            )
