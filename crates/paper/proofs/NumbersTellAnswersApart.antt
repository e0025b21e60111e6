-- The paper's numbers and values lose nothing: each answer can be made again from its word and its values, so two answers that
-- have the same are equal.
use Prim.Native.Nat.{ℕ}
use mathlib.Core.Path.{◌≡◌, refl, ◌∙◌, sym, ap}
use mathlib.Core.List.{List}
use lib.Dec.{eqb}
use lib.ListN.{length, get_or}
use Rattle.paper.specs.Choice.{◌gives◌or◌}
use Rattle.paper.specs.Words.{Position, ControlElement, Element, G0, G1, G2, G3, Kind, Of94, Of96, Count, Set}
use Rattle.paper.specs.Words.{Intermediates, Shift, LS0, LS1, LS2, LS3, LS1R, LS2R, LS3R, SS2, SS3}
use Rattle.paper.specs.Words.{PositionBytes, Refusal, Answer, Located}
use Rattle.paper.specs.Sets.{size_of, bytes_of}
use Rattle.paper.specs.Refusals.{number_of}
use Rattle.paper.specs.Results.{control_element_number, element_number, shift_number, word_of, values_of, Returned}
use Rattle.paper.specs.Results.{returned_number, returned_position}
use Rattle.std.specs.Prelude.{Option, Some, None}
use Rattle.paper.specs.LatinGreek.{located_at}

-- each thing from its number
abbrev control_element_from : ℕ → ControlElement
control_element_from n = eqb n (control_element_number ControlElement.C0) gives ControlElement.C0 or ControlElement.C1

abbrev element_from : ℕ → Element
element_from n = eqb n (element_number G0) gives G0 or eqb n (element_number G1) gives G1 or eqb n (element_number G2) gives G2 or G3

abbrev kind_from : ℕ → Kind
kind_from n = eqb n (size_of Of94) gives Of94 or Of96

abbrev count_from : ℕ → Count
count_from n = eqb n (bytes_of Count.One) gives Count.One or eqb n (bytes_of Count.Two) gives Count.Two or Count.Three

abbrev shift_from : ℕ → Shift
shift_from n =
    eqb n (shift_number LS0) gives LS0 or
    eqb n (shift_number LS1) gives LS1 or
    eqb n (shift_number LS2) gives LS2 or
    eqb n (shift_number LS3) gives LS3 or
    eqb n (shift_number LS1R) gives LS1R or
    eqb n (shift_number LS2R) gives LS2R or
    eqb n (shift_number LS3R) gives LS3R or
    eqb n (shift_number SS2) gives SS2 or
    SS3

abbrev refusal_from : ℕ → Refusal
refusal_from n =
    eqb n (number_of Refusal.ByteOfEightBits) gives Refusal.ByteOfEightBits or
    eqb n (number_of Refusal.NotOfSequence) gives Refusal.NotOfSequence or
    eqb n (number_of Refusal.ThirdIntermediate) gives Refusal.ThirdIntermediate or
    eqb n (number_of Refusal.WithoutMeaning) gives Refusal.WithoutMeaning or
    eqb n (number_of Refusal.NotOfSet) gives Refusal.NotOfSet or
    eqb n (number_of Refusal.AnotherArea) gives Refusal.AnotherArea or
    eqb n (number_of Refusal.EndsInside) gives Refusal.EndsInside or
    eqb n (number_of Refusal.TooLong) gives Refusal.TooLong or
    eqb n (number_of Refusal.BufferShort) gives Refusal.BufferShort or
    eqb n (number_of Refusal.NoNumber) gives Refusal.NoNumber or
    eqb n (number_of Refusal.NotMapped) gives Refusal.NotMapped or
    eqb n (number_of Refusal.InputTooLong) gives Refusal.InputTooLong or
    Refusal.WorkBufferShort

abbrev set_from : ℕ → ℕ → ℕ → Set
set_from k n f = record { kind = kind_from k; count = count_from n; last = f }

abbrev position_from : List ℕ → PositionBytes
position_from v =
    eqb (length v) 5 gives PositionBytes.One (get_or v 4 0) or
    eqb (length v) 6 gives PositionBytes.Two (get_or v 4 0) (get_or v 5 0) or
    PositionBytes.Three (get_or v 4 0) (get_or v 5 0) (get_or v 6 0)

abbrev other_from : List ℕ → Answer
other_from v =
    eqb (length v) 1 gives Answer.Other Intermediates.None (get_or v 0 0) or
    eqb (length v) 2 gives Answer.Other (Intermediates.One (get_or v 0 0)) (get_or v 1 0) or
    Answer.Other (Intermediates.Two (get_or v 0 0) (get_or v 1 0)) (get_or v 2 0)

abbrev designate_from : List ℕ → Answer
designate_from v =
    eqb (length v) 3 gives Answer.DesignateControls (control_element_from (get_or v 0 0)) (get_or v 2 0) or
    Answer.Designate (element_from (get_or v 0 0)) (set_from (get_or v 1 0) (get_or v 2 0) (get_or v 3 0))

-- an answer from its word and its values
abbrev answer_from : ℕ → List ℕ → Answer
answer_from w v =
    eqb w 0 gives Answer.NothingYet or
    eqb w 1 gives Answer.Char (element_from (get_or v 0 0)) (set_from (get_or v 1 0) (get_or v 2 0) (get_or v 3 0)) (position_from v) or
    eqb w 2 gives Answer.Space or
    eqb w 3 gives Answer.Delete or
    eqb w 4 gives Answer.Control (control_element_from (get_or v 0 0)) (get_or v 1 0) (get_or v 2 0) or
    eqb w 5 gives designate_from v or
    eqb w 6 gives Answer.Shift (shift_from (get_or v 0 0)) or
    eqb w 7 gives other_from v or
    eqb w 8 gives Answer.Refused (refusal_from (get_or v 0 0)) or
    eqb w 9 gives Answer.Skipped or
    Answer.InStep (get_or v 0 0)

-- each is made again
control_element_again : (w : ControlElement) → control_element_from (control_element_number w) ≡ w
control_element_again ControlElement.C0 = refl
control_element_again ControlElement.C1 = refl

element_again : (e : Element) → element_from (element_number e) ≡ e
element_again G0 = refl
element_again G1 = refl
element_again G2 = refl
element_again G3 = refl

kind_again : (k : Kind) → kind_from (size_of k) ≡ k
kind_again Of94 = refl
kind_again Of96 = refl

count_again : (n : Count) → count_from (bytes_of n) ≡ n
count_again Count.One = refl
count_again Count.Two = refl
count_again Count.Three = refl

set_again : (x : Set) → set_from (size_of x.kind) (bytes_of x.count) x.last ≡ x
set_again x i = record { kind = kind_again x.kind i; count = count_again x.count i; last = x.last }

shift_again : (h : Shift) → shift_from (shift_number h) ≡ h
shift_again LS0 = refl
shift_again LS1 = refl
shift_again LS2 = refl
shift_again LS3 = refl
shift_again LS1R = refl
shift_again LS2R = refl
shift_again LS3R = refl
shift_again SS2 = refl
shift_again SS3 = refl

refusal_again : (r : Refusal) → refusal_from (number_of r) ≡ r
refusal_again Refusal.ByteOfEightBits = refl
refusal_again Refusal.NotOfSequence = refl
refusal_again Refusal.ThirdIntermediate = refl
refusal_again Refusal.WithoutMeaning = refl
refusal_again Refusal.NotOfSet = refl
refusal_again Refusal.AnotherArea = refl
refusal_again Refusal.EndsInside = refl
refusal_again Refusal.TooLong = refl
refusal_again Refusal.BufferShort = refl
refusal_again Refusal.NoNumber = refl
refusal_again Refusal.NotMapped = refl
refusal_again Refusal.InputTooLong = refl
refusal_again Refusal.WorkBufferShort = refl

answer_again : (a : Answer) → answer_from (word_of a) (values_of a) ≡ a
answer_again Answer.NothingYet = refl
answer_again (Answer.Char e x (PositionBytes.One a)) =
    λ i. Answer.Char (element_again e i) (set_again x i) (PositionBytes.One a)
answer_again (Answer.Char e x (PositionBytes.Two a b)) =
    λ i. Answer.Char (element_again e i) (set_again x i) (PositionBytes.Two a b)
answer_again (Answer.Char e x (PositionBytes.Three a b c)) =
    λ i. Answer.Char (element_again e i) (set_again x i) (PositionBytes.Three a b c)
answer_again Answer.Space = refl
answer_again Answer.Delete = refl
answer_again (Answer.Control w f n) = λ i. Answer.Control (control_element_again w i) f n
answer_again (Answer.DesignateControls w f) = λ i. Answer.DesignateControls (control_element_again w i) f
answer_again (Answer.Designate e x) = λ i. Answer.Designate (element_again e i) (set_again x i)
answer_again (Answer.Shift h) = λ i. Answer.Shift (shift_again h i)
answer_again (Answer.Other Intermediates.None f) = refl
answer_again (Answer.Other (Intermediates.One a) f) = refl
answer_again (Answer.Other (Intermediates.Two a b) f) = refl
answer_again (Answer.Refused r) = λ i. Answer.Refused (refusal_again r i)
answer_again Answer.Skipped = refl
answer_again (Answer.InStep n) = refl

pub answers_told_apart : (a b : Answer) → word_of a ≡ word_of b → values_of a ≡ values_of b → a ≡ b
answers_told_apart a b w v = sym (answer_again a) ∙ (λ i. answer_from (w i) (v i)) ∙ answer_again b

-- and so for the lookups: a refusal, or the value
abbrev numbered_from : Returned → Option ℕ
numbered_from r = eqb r.refusal 0 gives Some (get_or r.values 0 0) or None

numbered_again : (a : Option ℕ) → numbered_from (returned_number a) ≡ a
numbered_again (Some n) = refl
numbered_again None = refl

abbrev positioned_from : List ℕ → Position
positioned_from v = record { column = record { 0 = get_or v 3 0 }; row = record { 0 = get_or v 4 0 } }

abbrev located_from : Returned → Option Located
located_from r =
    eqb r.refusal 0 gives
    Some (located_at (set_from (get_or r.values 0 0) (get_or r.values 1 0) (get_or r.values 2 0)) (positioned_from r.values)) or
    None

located_again : (a : Option Located) → located_from (returned_position a) ≡ a
located_again (Some l) = λ i. Some (located_at (set_again l.set i) l.position)
located_again None = refl

pub lookups_told_apart :
    ((a b : Option ℕ) → returned_number a ≡ returned_number b → a ≡ b) ×
    ((a b : Option Located) → returned_position a ≡ returned_position b → a ≡ b)
lookups_told_apart = (
  λ a b e. sym (numbered_again a) ∙ ap numbered_from e ∙ numbered_again b,
  λ a b e. sym (located_again a) ∙ ap located_from e ∙ located_again b,
)
