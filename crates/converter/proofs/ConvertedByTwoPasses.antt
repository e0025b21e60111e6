-- 8 by the length; else what the first pass answers, with 9 where its length has no room; else what the second pass writes.
use Prim.Native.Nat.{ℕ, ◌<◌, ◌≤◌}
use mathlib.Core.Path.{◌≡◌, refl, sym, ap, ◌∙◌}
use mathlib.Core.List.{List}
use native.Mathlib.Omega.{arith}
use borrow.Author.Tests.{le-leb, lt-leb}
use lib.ListN.{length}
use Rattle.paper.specs.Refusals.{longest_text, refusal_at}
use Rattle.paper.specs.LentBuffers.{over}
use Rattle.paper.specs.Conversions.{refusal_in, Accepted, output, into_room, conversion, wrote_by, buffer_after}
use Rattle.paper.specs.declared.Form.{Form}
use Rattle.paper.specs.declared.Refusal.{Refusal}
use Rattle.paper.proofs.Choices.{impossible}
use Rattle.converter.specs.Passes.{passed_by}
use Rattle.std.specs.Prelude.{Option, Some, None, Result, Ok, Err}
use Rattle.paper.specs.declared.Refused.{Refused}

-- what a pass answers tells whether the text is accepted
done_accepted : (f : Option Refused) (n k : ℕ) → Ok n ≡ passed_by f k → (f ≡ None) × (n ≡ k)
done_accepted None n k e = (refl, cc)
done_accepted (Some r) n k e = impossible (cc)

refused_first : (f : Option Refused) (r : Refusal) (at k : ℕ) → Err (refusal_at r at) ≡ passed_by f k → f ≡ Some (refusal_at r at)
refused_first None r at k e = impossible (cc)
refused_first (Some x) r at k e = cc

module _ (from to : Form) (text lent : List ℕ) where
  abbrev pub Answers : Result ℕ Refused → List ℕ → Type 0
  Answers answer buffer = (answer ≡ conversion from to text (length lent)) × (buffer ≡ buffer_after from to text lent)

  -- a refusal leaves the buffer
  refused_so : (r : Refusal) (at : ℕ) → Err (refusal_at r at) ≡ conversion from to text (length lent) →
      Answers (Err (refusal_at r at)) lent
  refused_so r at e = (e, ap (λ (a : Result ℕ Refused). over (wrote_by a (output from to text)) lent) e)

  pub too_long : longest_text < length text → Answers (Err (refusal_at Refusal.TooLong 0)) lent
  unfolding conversion
  too_long h = refused_so Refusal.TooLong 0 (rw (lt-leb _ _ h))

  module _ (short : length text ≤ longest_text) where
    by_the_text : conversion from to text (length lent) ≡ into_room (refusal_in from text) (length (output from to text)) (length lent)
    unfolding conversion
    by_the_text = rw (le-leb _ _ short)

    -- by the first pass
    pub refused_at : (r : Refusal) (at : ℕ) → Err (refusal_at r at) ≡ passed_by (refusal_in from text) (length (output from to text)) →
        Answers (Err (refusal_at r at)) lent
    refused_at r at e =
        let first = refused_first (refusal_in from text) r at (length (output from to text)) e in
        refused_so r at
        (sym (by_the_text ∙ ap (λ (f : Option Refused). into_room f (length (output from to text)) (length lent)) first))

    module _ (n : ℕ) (e : Ok n ≡ passed_by (refusal_in from text) (length (output from to text))) where
      accepted : Accepted from text
      accepted = (done_accepted (refusal_in from text) n (length (output from to text)) e).0

      measured : n ≡ length (output from to text)
      measured = (done_accepted (refusal_in from text) n (length (output from to text)) e).1

      by_the_room : conversion from to text (length lent) ≡ into_room None n (length lent)
      by_the_room =
          by_the_text ∙
          ap (λ (f : Option Refused). into_room f (length (output from to text)) (length lent)) accepted ∙
          ap (λ (k : ℕ). into_room None k (length lent)) (sym measured)

      pub no_room : length lent < n → Answers (Err (refusal_at Refusal.BufferShort 0)) lent
      no_room h = refused_so Refusal.BufferShort 0 (sym (by_the_room ∙ rw (lt-leb _ _ h)))

      fits : n ≤ length lent → conversion from to text (length lent) ≡ Ok n
      fits h = by_the_room ∙ rw (le-leb _ _ h)

      -- by the second
      pub written : n ≤ length lent → (answer : Result ℕ Refused) (buffer : List ℕ) →
          answer ≡ passed_by (refusal_in from text) (length (output from to text)) →
          (Accepted from text → length (output from to text) ≤ length lent → buffer ≡ over (output from to text) lent) →
          Answers answer buffer
      written h answer buffer is wrote = (
        is ∙ sym e ∙ sym (fits h),
        wrote accepted (omega (arith, measured)) ∙
            ap (λ (a : Result ℕ Refused). over (wrote_by a (output from to text)) lent) (sym (fits h)),
      )
