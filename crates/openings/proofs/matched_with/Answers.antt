-- The tests are those of `next_match`, which is what is matched.
use Prim.Native.Nat.{◌≤◌, ◌<◌}
use mathlib.Core.Path.{◌≡◌, sym, ◌∙◌}
use mathlib.Core.Bool.{true, false}
use borrow.Author.Tests.{leb-true, leb-false, eq-eqb}
use Rattle.paper.proofs.Tests.{tests}
use Rattle.openings.specs.NextMatch.{next_match}
use Rattle.openings.proofs.MatchGoesOn.{next_match_is}
use Rattle.openings.proofs.matched_with.Goals.{then-matched-eq0, else-matched-eq0}
use Rattle.openings.proofs.matched_with.Goals as goal

pub returns-then-matched-opening_length : goal.returns-then-matched-opening_length
unfolding next_match
returns-then-matched-opening_length c = elim c.if-matched-eq0.branch [
  | then-matched-eq0 w ↦ search (tests, ← next_match_is, c.begun.ensures)
  | else-matched-eq0 w ↦
      let past : w.opening_length.result ≤ c.args.matched = leb-true _ _ (sym w.value-is ∙ c.if-matched-opening_length.true) in
      search (tests, ← next_match_is, ← w.opening_length.ensures, c.begun.ensures)
]

pub returns-then-byte-opening_at : goal.returns-then-byte-opening_at
unfolding next_match
returns-then-byte-opening_at c = elim c.if-matched-eq0.branch [
  | then-matched-eq0 w ↦
      let no : false ≡ true = sym c.if-matched-opening_length.false ∙ w.value-is ∙ eq-eqb _ _ w.if-matched-eq0.true in cc
  | else-matched-eq0 w ↦
      let part : c.args.matched < w.opening_length.result = leb-false _ _ (sym w.value-is ∙ c.if-matched-opening_length.false) in
      search (tests, ← next_match_is, ← w.opening_length.ensures, ← c.opening_at.ensures)
]

pub returns-else-byte-opening_at : goal.returns-else-byte-opening_at
unfolding next_match
returns-else-byte-opening_at c = elim c.if-matched-eq0.branch [
  | then-matched-eq0 w ↦
      let no : false ≡ true = sym c.if-matched-opening_length.false ∙ w.value-is ∙ eq-eqb _ _ w.if-matched-eq0.true in cc
  | else-matched-eq0 w ↦
      let part : c.args.matched < w.opening_length.result = leb-false _ _ (sym w.value-is ∙ c.if-matched-opening_length.false) in
      search (tests, ← next_match_is, ← w.opening_length.ensures, ← c.opening_at.ensures, c.begun_at.ensures)
]
