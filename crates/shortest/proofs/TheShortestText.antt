-- What request #108 asks. Of an accepted text in either form, the text that is written is the shortest of its sequence; no two texts are
-- shortest for a sequence; and it is no longer than the 7-bit written form, so at most three times as long as the text.
use Prim.Native.Nat.{ℕ, ◌*◌, ◌≤◌}
use mathlib.Core.Path.{◌≡◌, refl, sym, ap, ◌∙◌, subst}
use mathlib.Core.List.{List, []}
use native.Mathlib.Omega.{arith}
use lib.ListN.{length}
use Rattle.paper.specs.Starting.{starting_sets, started}
use Rattle.paper.specs.WrittenForms.{Entry, sequence_of}
use Rattle.paper.specs.Conversions.{Accepted, output}
use Rattle.paper.specs.declared.Form.{Form}
use Rattle.paper.specs.declared.Element.TheVariants.{G0}
use Rattle.paper.proofs.WhatCanBeWritten.{Steps, ended, said, opened, entries_of, InSteps}
use Rattle.paper.proofs.WhatIsReadCanBeWritten.{can_be_written}
use Rattle.paper.proofs.ReadingOn.{ReadsAs}
use Rattle.paper.proofs.TextsThatAreAccepted.{refuses_nothing}
use Rattle.paper.proofs.SameSequence.{accepted_where, same_sequence}
use Rattle.paper.proofs.OutputWithin.{output_within}
use Rattle.shortest.specs.ByteOrder.{NotAfter}
use Rattle.shortest.specs.Shortest.{Shortest}
use Rattle.shortest.specs.ShortestText.{Gathered, gathered, before, steps_of, shortest_from, shortest_of}
use Rattle.shortest.proofs.TextsInOrder.{no_longer, one_of_two}
use Rattle.shortest.proofs.NoneComesBefore.{none_comes_before}
use Rattle.shortest.proofs.TheTextReadsBack.{text_reads_back}
use Rattle.shortest.proofs.SequencesShowRefusals.{same_refuses_nothing}

-- a sequence has one list of steps
gathered_again : (s : Steps) → gathered (entries_of s) ≡ record { left = 0; steps = s }
gathered_again ended = refl
gathered_again (said a s) = ap (λ (g : Gathered). before a g.left g.steps) (gathered_again s)
gathered_again (opened s) = ap (λ (g : Gathered). record { left = 0; steps = opened g.steps }) (gathered_again s)

pub steps_again : (s : Steps) → steps_of (entries_of s) ≡ s
steps_again s = ap (λ (g : Gathered). g.steps) (gathered_again s)

-- two texts that are shortest for a sequence are one
pub one_shortest : (sequence : List Entry) (text other : List ℕ) → Shortest sequence text → Shortest sequence other → text ≡ other
one_shortest sequence text other a b = one_of_two (a.first other b.reads.same) (b.first text a.reads.same)

module _ (m : Form) (text : List ℕ) (accepted : Accepted m text) where
  abbrev sequence : List Entry
  sequence = sequence_of m text

  pub can : InSteps starting_sets sequence
  can = can_be_written m text (refuses_nothing m text accepted)

  pub as_steps : steps_of sequence ≡ can.steps
  as_steps = ap steps_of can.is ∙ steps_again can.steps

  reads_back : ReadsAs (started Form.Seven) (shortest_of sequence) sequence
  reads_back =
      subst (λ (s : Steps). ReadsAs (started Form.Seven) (shortest_from s starting_sets G0) sequence) (sym as_steps)
      (subst (ReadsAs (started Form.Seven) (shortest_from can.steps starting_sets G0)) (sym can.is)
      (text_reads_back can.steps starting_sets G0 refl can.all))

  -- none that reads as the sequence comes before it
  comes_first : (other : List ℕ) → sequence_of Form.Seven other ≡ sequence → NotAfter (shortest_of sequence) other
  comes_first other same =
      let found = none_comes_before other (same_refuses_nothing text other (started m) (started Form.Seven) same (refuses_nothing m text accepted)) in
      let steps : steps_of sequence ≡ found.steps = ap steps_of (sym same ∙ found.is) ∙ steps_again found.steps in
      subst (λ (s : Steps). NotAfter (shortest_from s starting_sets G0) other) (sym steps) (found.first [] refl)

  pub is_the_shortest : Shortest sequence (shortest_of sequence)
  is_the_shortest = record {
    reads = record {
      accepted = accepted_where Form.Seven (shortest_of sequence) (reads_back.never 0) reads_back.whole;
      same = reads_back.sequence 0 (omega arith);
    };
    first = comes_first;
  }

  pub no_longer_than_written : length (shortest_of sequence) ≤ length (output m Form.Seven text)
  no_longer_than_written =
      let written = same_sequence m Form.Seven text accepted in
      no_longer (comes_first (output m Form.Seven text) written.2)

  pub shortest_within : length (shortest_of sequence) ≤ 3 * length text
  shortest_within = omega (arith, no_longer_than_written, output_within m Form.Seven text)
