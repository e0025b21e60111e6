-- An accepted text refuses nothing and ends whole: a reader that refuses nothing stays in step, and a text that ends inside is refused there.
use Prim.Native.Nat.{ℕ, suc}
use mathlib.Core.Path.{◌≡◌, refl}
use mathlib.Core.List.{List, [], ◌∷◌}
use lib.ListN.{length}
use Rattle.paper.specs.Words.{Form, Within, Standing, Reader, Answer, EndWord, Refused}
use Rattle.paper.specs.Starting.{started}
use Rattle.paper.specs.Marks.{recording}
use Rattle.paper.specs.Answering.{answer_to, end_within, end_standing}
use Rattle.paper.specs.Texts.{reader_after, answers_from, answers_of, end_word}
use Rattle.paper.specs.Surveying.{first_refusal, first_of}
use Rattle.paper.specs.Conversions.{refusal_at_end, Accepted}
use Rattle.paper.proofs.Choices.{impossible}
use Rattle.paper.proofs.LawfulAnswers.{IsInStep}
use Rattle.paper.proofs.AnswersWithoutTheRecord.{answer_of}
use Rattle.paper.proofs.WhatCanBeWritten.{Stands}
use Rattle.paper.proofs.WhatIsReadCanBeWritten.{fair_standing, stands_in_step, not_refused}
use Rattle.paper.proofs.WrittenTurnByTurn.{later_refuse_nothing}
use Rattle.std.specs.Prelude.{Option, Some, None}

neither : (x y : Option Refused) → first_of x y ≡ None → (x ≡ None) × (y ≡ None)
neither None y e = (refl, e)
neither (Some r) y e = impossible (cc)

pub refuses_nothing : (m : Form) (text : List ℕ) → Accepted m text → first_refusal (answers_of m text) ≡ None
refuses_nothing m text accepted = (neither (first_refusal (answers_of m text)) (refusal_at_end (end_word m text) (length text)) accepted).0

stays_in_step : (text : List ℕ) (r : Reader) (at : ℕ) → Stands r.sets r.standing → first_refusal (answers_from at r text) ≡ None →
    IsInStep (reader_after r text).standing
unfolding answer_to
stays_in_step [] r at stands never = stands_in_step r.sets r.standing stands
stays_in_step (b ∷ bs) r at stands never =
    let a : Answer = (answer_of r b).answer in
    let later : Option Refused = first_refusal (answers_from (suc at) (answer_to r b).reader bs) in
    stays_in_step bs (answer_to r b).reader (suc at) (fair_standing (recording 0 r) b r.standing stands (not_refused a at later never)).1
    (later_refuse_nothing a at later never)

whole_within : (w : Within) (n : ℕ) → refusal_at_end (end_within w) n ≡ None → end_within w ≡ EndWord.Whole
whole_within Within.Ground n e = refl
whole_within (Within.Sequence s) n e = impossible (cc)
whole_within (Within.SingleShift g) n e = impossible (cc)
whole_within (Within.Character g a p) n e = impossible (cc)

whole_standing : (s : Standing) (n : ℕ) → IsInStep s → refusal_at_end (end_standing s) n ≡ None → end_standing s ≡ EndWord.Whole
whole_standing (Standing.InStep w) n h e = whole_within w n e
whole_standing (Standing.Lost k c) n h e = absurd h

pub accepted_ends_whole : (m : Form) (text : List ℕ) → Accepted m text → end_word m text ≡ EndWord.Whole
accepted_ends_whole m text accepted =
    whole_standing (reader_after (started m) text).standing (length text)
    (stays_in_step text (started m) 0 tt (refuses_nothing m text accepted))
    (neither (first_refusal (answers_of m text)) (refusal_at_end (end_word m text) (length text)) accepted).1
