-- What is written for a text is written answer by answer: nothing for the answers that the sequence leaves out, which leave the writer
-- as it was. All along the writer has the reader's sets, since what an answer does to these is said by the answer itself.
use Prim.Native.Nat.{ℕ, ◌-◌}
use mathlib.Core.Path.{◌≡◌, refl}
use mathlib.Core.List.{List, ◌++◌}
use lib.Dec.{ltb, eqb}
use Rattle.paper.specs.Words.{Form, Seven, Eight, Area, Element, Set, SetByte, OfSpace, OfDelete, OfSet, Outside, Refused}
use Rattle.paper.specs.Words.{SequenceByte, Intermediate, Final, Neither, Intermediates, Meaning, NoMeaning, Function, Shifts}
use Rattle.paper.specs.Words.{GraphicArea, PositionBytes, Within, Standing, Reader, Answer, Answered}
use Rattle.paper.specs.CodeTable.{area_of, form_has, bit8, so, si, esc}
use Rattle.paper.specs.Sets.{bytes_of, set_in}
use Rattle.paper.specs.Sequences.{sequence_byte, c1_function, meaning_of}
use Rattle.paper.specs.Marks.{recording}
use Rattle.paper.specs.Characters.{c0_byte, position_in, byte_in, bytes_so_far, with_byte, character, of_character, first_in_gl}
use Rattle.paper.specs.Answering.{means, intermediate, sequence_at, ground_at, answer_within, answer_in_step, answer_standing, answer_to}
use Rattle.paper.specs.Surveying.{refusal_or}
use Rattle.paper.specs.WrittenForms.{Entry, with_answer, Writer, written_for, sets_with, writer_after, written_from}
use Rattle.paper.proofs.Choices.{impossible, gives_has}
use Rattle.paper.proofs.LawfulAnswers.{IsInStep}
use Rattle.std.specs.Prelude.{Option, None}

-- ---- a turn

-- an answer joins the sequence or is left out; either way its bytes come first
pub one_turn : (a : Answer) (to : Form) (w : Writer) (l : List Entry) →
    written_from to w (with_answer a l) ≡ written_for to w a ++ written_from to (writer_after to w a) l
one_turn Answer.NothingYet Seven w l = refl
one_turn Answer.NothingYet Eight w l = refl
one_turn (Answer.Char e x p) to w l = refl
one_turn Answer.Space to w l = refl
one_turn Answer.Delete to w l = refl
one_turn (Answer.Control v f n) to w l = refl
one_turn (Answer.DesignateControls v f) to w l = refl
one_turn (Answer.Designate e x) to w l = refl
one_turn (Answer.Shift h) Seven w l = refl
one_turn (Answer.Shift h) Eight w l = refl
one_turn (Answer.Other s f) to w l = refl
one_turn (Answer.Refused r) to w l = refl
one_turn Answer.Skipped to w l = refl
one_turn (Answer.InStep n) to w l = refl

-- where this answer and those after it refuse nothing, those after it do not
pub later_refuse_nothing : (a : Answer) (at : ℕ) (later : Option Refused) → refusal_or later at a ≡ None → later ≡ None
later_refuse_nothing Answer.NothingYet at later h = h
later_refuse_nothing (Answer.Char e x p) at later h = h
later_refuse_nothing Answer.Space at later h = h
later_refuse_nothing Answer.Delete at later h = h
later_refuse_nothing (Answer.Control w f n) at later h = h
later_refuse_nothing (Answer.DesignateControls w f) at later h = h
later_refuse_nothing (Answer.Designate e x) at later h = h
later_refuse_nothing (Answer.Shift s) at later h = h
later_refuse_nothing (Answer.Other s f) at later h = h
later_refuse_nothing (Answer.Refused n) at later h = impossible (cc)
later_refuse_nothing Answer.Skipped at later h = h
later_refuse_nothing (Answer.InStep n) at later h = h

-- ---- the writer's sets are the reader's

module _ (r : Reader) (b : ℕ) where
  abbrev Told : Answered → Type 0
  Told a = a.reader.sets ≡ sets_with r.sets a.answer

  told_c0 : Told (c0_byte b r)
  unfolding c0_byte
  told_c0 = gives_has Told (eqb b esc) refl (gives_has Told (eqb b so) refl (gives_has Told (eqb b si) refl refl))

  told_character : (e : Element) (x : Set) (a : GraphicArea) (p : PositionBytes) → Told (character e x a p r)
  unfolding character
  told_character e x a p = gives_has Told (ltb (bytes_so_far p) (bytes_of x.count)) refl refl

  told_of : (s : SetByte) (e : Element) (x : Set) (a : GraphicArea) (p : PositionBytes) → Told (of_character s e x a p b r)
  told_of OfSpace e x a p = refl
  told_of OfDelete e x a p = refl
  told_of OfSet e x a p = told_character e x a p
  told_of Outside e x a p = refl

  told_first : (s : SetByte) (e : Element) (x : Set) → Told (first_in_gl s e x b r)
  told_first OfSpace e x = refl
  told_first OfDelete e x = refl
  told_first OfSet e x = told_character e x GraphicArea.GL (PositionBytes.One b)
  told_first Outside e x = refl

  told_means : (w : Meaning) (s : Intermediates) → Told (means w s b r)
  unfolding means
  told_means NoMeaning s = refl
  told_means Meaning.Other s = refl
  told_means (Function n) s = refl
  told_means (Shifts h) s = refl
  told_means (Meaning.DesignateControls w) s = refl
  told_means (Meaning.Designate e k n) s = refl

  told_intermediate : (s : Intermediates) → Told (intermediate s b r)
  told_intermediate Intermediates.None = refl
  told_intermediate (Intermediates.One i) = refl
  told_intermediate (Intermediates.Two i j) = refl

  told_sequence : (k : SequenceByte) (s : Intermediates) → Told (sequence_at k s b r)
  told_sequence Intermediate s = told_intermediate s
  told_sequence Final s = told_means (meaning_of r.form s b) s
  told_sequence Neither s = refl

  told_ground : (a : Area) → Told (ground_at a b r)
  told_ground Area.C0 = told_c0
  told_ground Area.GL = let x = set_in r.sets r.gl in told_first (byte_in GraphicArea.GL x.kind b) r.gl x
  told_ground Area.C1 = told_means (c1_function (b - bit8)) Intermediates.None
  told_ground Area.GR =
      let x = set_in r.sets r.gr in
      told_of (byte_in GraphicArea.GR x.kind b) r.gr x GraphicArea.GR (PositionBytes.One (position_in GraphicArea.GR b))

  told_within : (w : Within) → Told (answer_within w b r)
  told_within Within.Ground = told_ground (area_of b)
  told_within (Within.Sequence s) = told_sequence (sequence_byte b) s
  told_within (Within.SingleShift e) =
      let x = set_in r.sets e in told_of (byte_in GraphicArea.GL x.kind b) e x GraphicArea.GL (PositionBytes.One b)
  told_within (Within.Character e a p) =
      let x = set_in r.sets e in told_of (byte_in a x.kind b) e x a (with_byte p (position_in a b))

  -- refusals too leave the sets
  in_step_told : (w : Within) → Told (answer_in_step w b r)
  unfolding answer_in_step
  in_step_told w = gives_has Told (form_has r.form b) (told_within w) refl

  told_standing : (s : Standing) → IsInStep s → Told (answer_standing s b r)
  told_standing (Standing.InStep w) h = in_step_told w
  told_standing (Standing.Lost k n) h = absurd h

pub sets_by_the_answer : (r : Reader) (b : ℕ) → IsInStep r.standing →
    (answer_to r b).reader.sets ≡ sets_with r.sets (answer_to r b).answer
unfolding answer_to
sets_by_the_answer r b h = told_standing (recording 0 r) b r.standing h
