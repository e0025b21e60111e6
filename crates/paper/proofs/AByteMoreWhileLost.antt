-- What one byte more does to a lost reader. How much of the opening it has matched is the longest beginning of it with which the
-- bytes since the refused one end, and that is the whole opening exactly when they end with it. With that byte the reader answers
-- instep and is the starting reader; with any other it answers skipped, and has kept the byte.
use Prim.Native.Nat.{ℕ, ◌+◌, ◌<◌, ◌≤◌}
use mathlib.Core.Path.{◌≡◌, refl, sym, ap, ◌∙◌}
use mathlib.Core.Bool.{Bool, true, false}
use mathlib.Core.List.{List, [], ◌∷◌, ◌++◌}
use native.Mathlib.Omega.{arith}
use borrow.Author.Tests.{leb-true, leb-false, eq-eqb, ne_eqb, lt-ltb, le-ltb}
use lib.Dec.{leb, ltb, eqb}
use lib.ListN.{length, length-append}
use Rattle.paper.specs.Choice.{◌gives◌or◌}
use Rattle.paper.specs.Words.{Form, Standing, Reader, Answer, Answered}
use Rattle.paper.specs.Starting.{started, opening}
use Rattle.paper.specs.Searching.{ends_with, matched_with, most_skipped, skipped_bytes, one_more}
use Rattle.paper.specs.Marks.{recording, record_after}
use Rattle.paper.specs.Characters.{standing_at}
use Rattle.paper.specs.Answering.{answer_lost, answer_to}
use Rattle.paper.proofs.ListsThatEnd.{Longest}
use Rattle.paper.proofs.BeginningsByteByByte.{next_longest, complete, not_yet, none_seen}

-- ---- the count

count_on : (n : ℕ) → one_more (skipped_bytes n) ≡ skipped_bytes (n + 1)
unfolding one_more skipped_bytes
count_on n = by (leb n most_skipped) refl (leb (n + 1) most_skipped) refl
  where
    by : (s : Bool) → leb n most_skipped ≡ s → (t : Bool) → leb (n + 1) most_skipped ≡ t →
        (ltb (s gives n or most_skipped) most_skipped gives (s gives n or most_skipped) + 1 or most_skipped) ≡
        (t gives n + 1 or most_skipped)
    by true p true q = let h : n < most_skipped = omega (arith, leb-true) in rw (lt-ltb n most_skipped h)
    by true p false q = let h : most_skipped ≤ n = omega (arith, leb-false) in rw (le-ltb n most_skipped h)
    by false p true q =
        let h : most_skipped < n = leb-false n most_skipped p in
        let k : n + 1 ≤ most_skipped = leb-true (n + 1) most_skipped q in
        absurd (omega arith)
    by false p false q = refl

-- ---- a lost reader

-- what a lost reader keeps of the bytes since the refused one
pub record Kept (m : Form) (seen : List ℕ) (k n : ℕ) : Type 0 where
  pub matched : Longest (opening m) seen (length (opening m)) k
  pub counted : n ≡ skipped_bytes (length seen)

-- it has recorded nothing of an opening
abbrev pub lost : Reader → ℕ → ℕ → Reader
lost r k n = standing_at (Standing.Lost k n) (recording 0 r)

-- one byte more: the opening is complete with it, or the search goes on
module _ (r : Reader) (seen : List ℕ) (k n b : ℕ) (kept : Kept r.form seen k n) where
  abbrev all : List ℕ
  all = seen ++ (b ∷ [])

  abbrev now : ℕ
  now = matched_with r.form k b

  now_longest : Longest (opening r.form) all (length (opening r.form)) now
  unfolding matched_with
  now_longest = next_longest (opening r.form) seen k b kept.matched

  now_counted : one_more n ≡ skipped_bytes (length all)
  now_counted = rw kept.counted (count_on (length seen)) ∙ ap skipped_bytes (sym (length-append seen (b ∷ [])))

  abbrev whether : Bool → Answered
  whether complete =
      complete gives record { answer = Answer.InStep (one_more n); reader = started r.form } or
      record { answer = Answer.Skipped; reader = lost r now (one_more n) }

  abbrev recorded_after : Answered → Answered
  recorded_after a = record { answer = a.answer; reader = recording (record_after (lost r k n) b a.reader.standing) a.reader }

  nothing_recorded : (complete : Bool) → recorded_after (whether complete) ≡ whether complete
  nothing_recorded true = refl
  nothing_recorded false = refl

  by_the_match : answer_to (lost r k n) b ≡ whether (eqb now (length (opening r.form)))
  unfolding answer_to answer_lost
  by_the_match = nothing_recorded (eqb now (length (opening r.form)))

  pub found : ends_with all (opening r.form) ≡ true →
      answer_to (lost r k n) b ≡ record { answer = Answer.InStep (skipped_bytes (length all)); reader = started r.form }
  found e =
      by_the_match ∙
      (ap whether (eq-eqb now (length (opening r.form)) (complete (opening r.form) all now now_longest e)) ∙
      ap (λ (c : ℕ). record { answer = Answer.InStep c; reader = started r.form }) now_counted)

  pub not_found : ends_with all (opening r.form) ≡ false →
      answer_to (lost r k n) b ≡ record { answer = Answer.Skipped; reader = lost r now (one_more n) }
  not_found e =
      let less : now < length (opening r.form) = not_yet (opening r.form) all now now_longest e in
      by_the_match ∙ ap whether (ne_eqb now (length (opening r.form)) (λ q. absurd (omega arith)))

  pub still_kept : Kept r.form all now (one_more n)
  still_kept = record { matched = now_longest; counted = now_counted }

-- ---- it begins with nothing, and then the refused byte

kept_none : (m : Form) → Kept m [] 0 0
unfolding skipped_bytes
kept_none m = record { matched = none_seen (opening m); counted = refl }

pub kept_first : (m : Form) (b : ℕ) → Kept m (b ∷ []) (matched_with m 0 b) (one_more 0)
kept_first m b = still_kept (started m) [] 0 0 b (kept_none m)
