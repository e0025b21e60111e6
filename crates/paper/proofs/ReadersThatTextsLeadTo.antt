-- What every reader has that a text leads to, by what each answer leaves. In 7-bit form GR shows G1, as at the start: nothing moves
-- it there. A reader in step has recorded what there is of an opening at the end of the bytes since the start, or since the latest
-- instep. A lost reader has recorded nothing, and keeps what the search needs of the bytes that it has seen.
use Prim.Native.Nat.{ℕ}
use mathlib.Core.Path.{◌≡◌, refl, sym, ◌∙◌, subst}
use mathlib.Core.Bool.{Bool, true, false}
use mathlib.Core.List.{List, [], ◌∷◌, ◌++◌}
use Rattle.paper.specs.Words.{Form, Seven, G1, Within, Standing, Reader, Answer, Answered}
use Rattle.paper.specs.Starting.{started, opening}
use Rattle.paper.specs.Searching.{ends_with}
use Rattle.paper.specs.Marks.{recording, record_after}
use Rattle.paper.specs.Characters.{standing_at}
use Rattle.paper.specs.Answering.{answer_to}
use Rattle.paper.specs.Texts.{reader_after, since_with, since_from, since_in_step}
use Rattle.paper.proofs.LawfulAnswers.{IsInStep, Leaves, in_step_lawful, form_on}
use Rattle.paper.proofs.AnswersWithoutTheRecord.{answer_of}
use Rattle.paper.proofs.RecordsOfOpenings.{Noted, noted_on, noted_none}
use Rattle.paper.proofs.AByteMoreWhileLost.{Kept, lost, found, not_found, still_kept, kept_first}

pub record Since (m : Form) (k n : ℕ) : Type 0 where
  pub seen : List ℕ
  pub kept : Kept m seen k n

abbrev pub KeptIn : Form → List ℕ → Standing → ℕ → Type 0
KeptIn m since (Standing.InStep w) recorded = Noted m since recorded
KeptIn m since (Standing.Lost k n) recorded = Since m k n × (recorded ≡ 0)

pub record Reached (since : List ℕ) (r : Reader) : Type 0 where
  pub gr_shows_g1 : r.form ≡ Seven → r.gr ≡ G1
  pub keeps : KeptIn r.form since r.standing r.gone

-- of the reader after an answer, in terms of the form before it
abbrev After : Form → List ℕ → ℕ → Answered → Type 0
After m since b a =
    (m ≡ Seven → a.reader.gr ≡ G1) × KeptIn m (since_with a.answer since b) a.reader.standing a.reader.gone

module _ (r : Reader) (since : List ℕ) (b : ℕ) (g : r.form ≡ Seven → r.gr ≡ G1) where
  -- ---- after an answer of a reader in step

  module _ (w : Within) (noted : Noted r.form since r.gone) where
    abbrev now : Reader
    now = standing_at (Standing.InStep w) r

    abbrev Keeps : Answer → Standing → Type 0
    Keeps a next = KeptIn r.form (since_with a since b) next (record_after now b next)

    in_step : (s : Standing) → IsInStep s → KeptIn r.form (since ++ (b ∷ [])) s (record_after now b s)
    in_step (Standing.InStep v) h = noted_on r.form since r.gone b noted
    in_step (Standing.Lost k n) h = absurd h

    kept_after : (a : Answer) (next : Reader) → Leaves (recording 0 now) b a next → Keeps a next.standing
    kept_after Answer.NothingYet next h = in_step next.standing h
    kept_after (Answer.Char e x p) next h = in_step next.standing h
    kept_after Answer.Space next h = in_step next.standing h
    kept_after Answer.Delete next h = in_step next.standing h
    kept_after (Answer.Control v f n) next h = in_step next.standing h
    kept_after (Answer.DesignateControls v f) next h = in_step next.standing h
    kept_after (Answer.Designate e x) next h = in_step next.standing h
    kept_after (Answer.Shift s) next h = in_step next.standing h
    kept_after (Answer.Other s f) next h = in_step next.standing h
    kept_after (Answer.Refused n) next h =
        subst (λ (x : Reader). Keeps (Answer.Refused n) x.standing) (sym h.1)
        (record { seen = b ∷ []; kept = kept_first r.form b }, refl)
    kept_after Answer.Skipped next h = absurd h
    kept_after (Answer.InStep n) next h = absurd h

    after_in_step : After r.form since b (answer_to now b)
    unfolding answer_to
    after_in_step =
        let law = in_step_lawful (recording 0 now) b w in
        let a : Answered = answer_of now b in
        (λ seven. law.1 seven ∙ g seven, kept_after a.answer a.reader law.2)

  -- ---- after an answer of a lost reader

  after_lost : (k n : ℕ) → Since r.form k n → After r.form since b (answer_to (lost r k n) b)
  after_lost k n search = by (ends_with (search.seen ++ (b ∷ [])) (opening r.form)) refl
    where
      by : (t : Bool) → ends_with (search.seen ++ (b ∷ [])) (opening r.form) ≡ t → After r.form since b (answer_to (lost r k n) b)
      by true e =
          subst (After r.form since b) (sym (found r search.seen k n b search.kept e)) (λ seven. refl, noted_none r.form)
      by false e =
          subst (After r.form since b) (sym (not_found r search.seen k n b search.kept e))
          (g, (record { seen = search.seen ++ (b ∷ []); kept = still_kept r search.seen k n b search.kept }, refl))

  -- ---- after any answer

  after_answer : (s : Standing) → KeptIn r.form since s r.gone → After r.form since b (answer_to (standing_at s r) b)
  after_answer (Standing.InStep w) h = after_in_step w h
  after_answer (Standing.Lost k n) h =
      subst (λ (x : Reader). After r.form since b (answer_to (standing_at (Standing.Lost k n) x) b)) (λ i. recording (sym h.1 i) r)
      (after_lost k n h.0)

pub reached_on : (r : Reader) (since : List ℕ) (b : ℕ) → Reached since r →
    Reached (since_with (answer_to r b).answer since b) (answer_to r b).reader
reached_on r since b h =
    let law : After r.form since b (answer_to r b) = after_answer r since b h.gr_shows_g1 r.standing h.keeps in
    let next : Reader = (answer_to r b).reader in
    record {
      gr_shows_g1 = λ seven. law.0 (sym (form_on r b) ∙ seven);
      keeps = subst (λ (m : Form). KeptIn m (since_with (answer_to r b).answer since b) next.standing next.gone) (sym (form_on r b))
          law.1;
    }

reached_from : (l : List ℕ) (r : Reader) (since : List ℕ) → Reached since r → Reached (since_from r since l) (reader_after r l)
reached_from [] r since h = h
reached_from (b ∷ bs) r since h =
    reached_from bs (answer_to r b).reader (since_with (answer_to r b).answer since b) (reached_on r since b h)

pub reached_at_start : (m : Form) → Reached [] (started m)
reached_at_start m = record { gr_shows_g1 = λ seven. refl; keeps = noted_none m }

pub reached : (m : Form) (text : List ℕ) → Reached (since_in_step m text) (reader_after (started m) text)
reached m text = reached_from text (started m) [] (reached_at_start m)
