-- What is recorded after an answer, by where the reader stood before it: in step what has gone by then, where it is still in step, and lost
-- nothing.
use Prim.Native.Nat.{ℕ}
use mathlib.Core.Path.{◌≡◌, refl, sym, ap, ◌∙◌}
use Rattle.paper.specs.Searching.{matched_with}
use Rattle.paper.specs.Marks.{recording, gone_with, unless_complete, recorded}
use Rattle.paper.specs.Answering.{answer_in_step, answer_lost, answer_standing, answer_to}
use Rattle.paper.specs.declared.Within.{Within}
use Rattle.paper.specs.declared.Standing.{Standing}
use Rattle.paper.specs.declared.Reader.{Reader}
use Rattle.paper.specs.declared.Answered.{Answered}
use Rattle.reader.specs.Recording.{with_record, where_in_step, recorded_in}

module _ (r : Reader) (b : ℕ) where
  abbrev answered : Standing → Answered
  answered s = answer_standing s b (recording 0 r)

  abbrev given : Standing → Answered
  given s = with_record (recorded (answered s).reader.standing s r.form (gone_with r b)) (answered s)

  by_standing : (s : Standing) → r.standing ≡ s → given s ≡ answer_to r b
  unfolding answer_to
  by_standing s e = ap given (sym e)

  where_in_step_lem : (s : Standing) (w : Within) (k : ℕ) → where_in_step s (unless_complete r.form k) ≡ recorded s (Standing.InStep w) r.form k
  where_in_step_lem (Standing.InStep v) w k = refl
  where_in_step_lem (Standing.Lost j n) w k = refl

  lost_records_nothing : (s : Standing) (j n k : ℕ) → ◌≡◌ {A = ℕ} 0 (recorded s (Standing.Lost j n) r.form k)
  lost_records_nothing (Standing.InStep v) j n k = refl
  lost_records_nothing (Standing.Lost i l) j n k = refl

  pub in_step_answers : (w : Within) → r.standing ≡ Standing.InStep w →
      recorded_in (unless_complete r.form (matched_with r.form r.gone b)) (answer_in_step w b (recording 0 r)) ≡ answer_to r b
  in_step_answers w e =
      let a : Answered = answer_in_step w b (recording 0 r) in
      ap (λ (k : ℕ). with_record k a) (where_in_step_lem a.reader.standing w (gone_with r b)) ∙ by_standing (Standing.InStep w) e

  pub lost_answers : (j n : ℕ) → r.standing ≡ Standing.Lost j n → with_record 0 (answer_lost j n b (recording 0 r)) ≡ answer_to r b
  lost_answers j n e =
      let a : Answered = answer_lost j n b (recording 0 r) in
      ap (λ (k : ℕ). with_record k a) (lost_records_nothing a.reader.standing j n (gone_with r b)) ∙ by_standing (Standing.Lost j n) e
