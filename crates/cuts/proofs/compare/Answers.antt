-- One byte more: readers that answer it the same, and then what is left, answer both the same.
use Rattle.std.proofs.Common.{arith, ◌≡◌, ℕ, ◌+◌, ◌<◌, List, length, get_or, drop}
use Rattle.std.proofs.lemmas.List.{at_drop_more}
use Rattle.paper.specs.declared.Reader.{Reader}
use Rattle.paper.specs.declared.Answered.{Answered}
use Rattle.paper.specs.Answering.{answer_to}
use Rattle.paper.specs.Texts.{answers_from}
use Rattle.cuts.proofs.compare.Goals as goal

one_byte_more : (i : ℕ) (r s : Reader) (given expected : Answered) (l : List ℕ) → i < length l →
    given ≡ answer_to r (get_or l i 0) → expected ≡ answer_to s (get_or l i 0) → given.answer ≡ expected.answer →
    answers_from (i + 1) given.reader (drop (i + 1) l) ≡ answers_from (i + 1) expected.reader (drop (i + 1) l) →
    answers_from i r (drop i l) ≡ answers_from i s (drop i l)
one_byte_more i r s given expected l inside is_given is_expected same rest =
    let of_r = at_drop_more (answers_from i r) l i 0 inside in
    let of_s = at_drop_more (answers_from i s) l i 0 inside in
    grind arith

pub loop-offset-preserved : goal.loop-offset-preserved
loop-offset-preserved c rest =
    let same = c.same.ensures c.if-same.true in
    c.loop-offset.invariant
    (one_byte_more _ _ _ _ _ c.args.second.now c.loop-offset-test.true c.read-given.ensures c.read-expected.ensures same rest)
