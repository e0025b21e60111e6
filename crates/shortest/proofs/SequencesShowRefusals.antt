-- A refusal stands in the sequence of its text, since only nothing yet and shifts are left out. So a text that has the sequence of one that
-- refuses nothing refuses nothing.
use Prim.Native.Nat.{ℕ, suc}
use mathlib.Core.Path.{◌≡◌, refl, sym, ap, ◌∙◌}
use mathlib.Core.Bool.{Bool, true, false}
use mathlib.Core.List.{List, [], ◌∷◌}
use Rattle.paper.specs.Marks.{is_mark}
use Rattle.paper.specs.Answering.{answer_to}
use Rattle.paper.specs.Texts.{answers_from}
use Rattle.paper.specs.Surveying.{refusal_or, first_refusal}
use Rattle.paper.specs.WrittenForms.{Entry, given, mark, with_answer, with_mark, sequence_from}
use Rattle.paper.specs.declared.Reader.{Reader}
use Rattle.paper.specs.declared.Answer.{Answer}
use Rattle.paper.proofs.Choices.{impossible}
use Rattle.std.specs.Prelude.{Option, Some, None}
use Rattle.paper.specs.declared.Refused.{Refused}

-- the first refusal among entries, wherever it stands
abbrev refusal_among : List Entry → Option Refused
refusal_among [] = None
refusal_among (given a ∷ l) = refusal_or (refusal_among l) 0 a
refusal_among (mark ∷ l) = refusal_among l

abbrev is_never : Option Refused → Bool
is_never None = true
is_never (Some r) = false

never_is : (x : Option Refused) → is_never x ≡ true → x ≡ None
never_is None h = refl
never_is (Some r) h = impossible (cc)

with_answer_lem : (a : Answer) (l : List Entry) (x : Option Refused) (at : ℕ) → is_never x ≡ is_never (refusal_among l) →
    is_never (refusal_or x at a) ≡ is_never (refusal_among (with_answer a l))
with_answer_lem (Answer.Refused n) l x at h = refl
with_answer_lem _ l x at h = h

with_mark_lem : (is_one : Bool) (l : List Entry) → refusal_among (with_mark is_one l) ≡ refusal_among l
with_mark_lem true l = refl
with_mark_lem false l = refl

in_the_sequence : (text : List ℕ) (r : Reader) (at : ℕ) →
    is_never (first_refusal (answers_from at r text)) ≡ is_never (refusal_among (sequence_from r text))
in_the_sequence [] r at = refl
in_the_sequence (b ∷ bs) r at =
    let l : List Entry = sequence_from (answer_to r b).reader bs in
    with_answer_lem (answer_to r b).answer (with_mark (is_mark r b) l) (first_refusal (answers_from (suc at) (answer_to r b).reader bs)) at
    (in_the_sequence bs (answer_to r b).reader (suc at) ∙ ap is_never (sym (with_mark_lem (is_mark r b) l)))

pub same_refuses_nothing : (text other : List ℕ) (r q : Reader) → sequence_from q other ≡ sequence_from r text →
    first_refusal (answers_from 0 r text) ≡ None → first_refusal (answers_from 0 q other) ≡ None
same_refuses_nothing text other r q same never =
    never_is (first_refusal (answers_from 0 q other))
    (in_the_sequence other q 0 ∙ ap (λ (l : List Entry). is_never (refusal_among l)) same ∙ sym (in_the_sequence text r 0) ∙ ap is_never never)
