-- What a reader in step hands out can be written, by one walk over the definitions; and so, answer by answer, is the sequence of
-- every text without a refusal. Carried along is that what is read so far of a sequence or a character is fit to become one.
use Prim.Native.Nat.{ℕ, suc, ◌-◌, ◌≤◌, ◌<◌}
use mathlib.Core.Path.{◌≡◌, refl, sym, ap, ◌∙◌, subst}
use mathlib.Core.Bool.{false}
use mathlib.Core.List.{List, [], ◌∷◌, ◌++◌}
use native.Mathlib.Omega.{arith}
use borrow.Author.Tests.{ltb-true, ltb-false}
use lib.Dec.{ltb, leb, eqb}
use Rattle.paper.specs.Choice.{between}
use Rattle.paper.specs.Words.{Form, Seven, Eight, Area, Element, G1, Kind, Count, Sets, SetByte, OfSpace, OfDelete, OfSet, Outside}
use Rattle.paper.specs.Words.{SequenceByte, Intermediate, Final, Neither, Intermediates, Shift, LS0, LS1, LS2, LS3, LS1R, LS2R}
use Rattle.paper.specs.Words.{LS3R, SS2, SS3, Meaning, NoMeaning, Function, Shifts, GraphicArea, PositionBytes, Within, Standing}
use Rattle.paper.specs.Words.{Reader, Refusal, Answer, Answered}
use Rattle.paper.specs.CodeTable.{area_of, form_has, column_area, form_has_column, position_of, bit8, so, si, esc}
use Rattle.paper.specs.Sets.{bytes_of, set_in, set_byte}
use Rattle.paper.specs.Starting.{starting_sets, started, opening}
use Rattle.paper.specs.Sequences.{function_of_ss2, function_of_ss3, last_function, sequence_byte, c1_function, meaning_of, right_shift}
use Rattle.paper.specs.Sequences.{shift_or_other, meaning_of_none, designation, by_intermediate, meaning_of_one}
use Rattle.paper.specs.Searching.{matched_with, one_more}
use Rattle.paper.specs.Marks.{recording}
use Rattle.paper.specs.Characters.{refuses, c0_byte, position_in, byte_in, bytes_so_far, with_byte, character, of_character, first_in_gl}
use Rattle.paper.specs.Characters.{standing_at, after_shift}
use Rattle.paper.specs.Answering.{means, intermediate, sequence_at, ground_at, answer_within, answer_in_step, answer_lost}
use Rattle.paper.specs.Answering.{answer_standing, answer_to}
use Rattle.paper.specs.Texts.{answers_from, answers_of}
use Rattle.paper.specs.Surveying.{first_refusal, refusal_or}
use Rattle.paper.specs.WrittenForms.{Entry, given, left_out, with_answer, sequence_from, sequence_of, sets_with}
use Rattle.paper.proofs.Choices.{impossible, gives_has, gives_by}
use Rattle.paper.proofs.TableOfSequences.{Lasts, Rows, every_meaning}
use Rattle.paper.proofs.LawfulAnswers.{IsInStep}
use Rattle.paper.proofs.AnswersWithoutTheRecord.{answer_of, record_of, answers_alike}
use Rattle.paper.proofs.OpeningsTakenWhole.{with_opening, on_ground, ShowsG1, by_openings}
use Rattle.paper.proofs.WrittenTurnByTurn.{later_refuse_nothing, sets_by_the_answer}
use Rattle.paper.proofs.WhatCanBeWritten.{AllOfSet, AllIntermediate, MayHave, CanBeWritten, ended, said, opened, InSteps}
use Rattle.paper.proofs.WhatCanBeWritten.{SoFar, Stands, NotRefused}
use Rattle.paper.proofs.OtherInAnyForm.{other_in_any_form}
use Rattle.std.specs.Prelude.{Option, None}
use Rattle.paper.specs.Words.{Refused}

-- ---- a byte of a character

one_at_least : (n : Count) → 1 ≤ bytes_of n
one_at_least Count.One = omega arith
one_at_least Count.Two = omega arith
one_at_least Count.Three = omega arith

with_fits : (k : Kind) (p : PositionBytes) (b : ℕ) → AllOfSet k p → set_byte k b ≡ OfSet → AllOfSet k (with_byte p b)
with_fits k (PositionBytes.One a) c h e = (h, e)
with_fits k (PositionBytes.Two a b) c h e = (h.0, h.1, e)
with_fits k (PositionBytes.Three a b c) d h e = h

with_more : (p : PositionBytes) (b n : ℕ) → bytes_so_far p < n → bytes_so_far (with_byte p b) ≤ n
with_more (PositionBytes.One a) b n h = h
with_more (PositionBytes.Two a b) c n h = h
with_more (PositionBytes.Three a b c) d n h = omega arith

-- a byte of the set in an area is of the set once bit 8 is taken off
of_set_in : (a : GraphicArea) (k : Kind) (b : ℕ) → byte_in a k b ≡ OfSet → set_byte k (position_in a b) ≡ OfSet
unfolding byte_in
of_set_in GraphicArea.GL k b e = e
of_set_in GraphicArea.GR k b e =
    gives_has (λ s. s ≡ OfSet → set_byte k (position_in GraphicArea.GR b) ≡ OfSet) (leb bit8 b) (λ h. h) (λ h. impossible (cc)) e

-- ---- what a final means

shift_stands : (h : Shift) (t : Sets) → SoFar t (after_shift h)
shift_stands LS0 t = tt
shift_stands LS1 t = tt
shift_stands LS2 t = tt
shift_stands LS3 t = tt
shift_stands LS1R t = tt
shift_stands LS2R t = tt
shift_stands LS3R t = tt
shift_stands SS2 t = tt
shift_stands SS3 t = tt

abbrev Becomes : ℕ → Meaning → Type 0
Becomes f NoMeaning = Unit {0}
Becomes f Meaning.Other = Unit {0}
Becomes f (Function n) = c1_function n ≡ Function n
Becomes f (Shifts h) = Unit {0}
Becomes f (Meaning.DesignateControls w) = Unit {0}
Becomes f (Meaning.Designate e k n) = MayHave e k × Lasts n f

becomes_right : (m : Form) (f : ℕ) (h : Shift) → Becomes f (right_shift m h)
becomes_right Seven f h = tt
becomes_right Eight f h = tt

becomes : (m : Form) (f : ℕ) → Rows m f (Becomes f)
becomes m f = record {
  no_meaning = tt;
  other = tt;
  function = λ n e. e;
  ss2 = tt;
  ss3 = tt;
  ls2 = tt;
  ls3 = tt;
  right = becomes_right m f;
  controls = λ w. tt;
  of94 = λ e n lasts. (tt, lasts);
  of96_in_g1 = λ n lasts. (tt, lasts);
  of96_in_g2 = λ n lasts. (tt, lasts);
  of96_in_g3 = λ n lasts. (tt, lasts);
}

-- ---- an answer

module _ (r : Reader) (b : ℕ) where
  -- an answer that refuses nothing can be written, and leaves a reader that is fit
  abbrev pub Fair : Answered → Type 0
  Fair a = NotRefused a.answer → CanBeWritten r.sets a.answer × Stands a.reader.sets a.reader.standing

  fair_refusal : (n : Refusal) → Fair (refuses n b r)
  fair_refusal n ok = absurd (ok n refl)

  fair_c0 : area_of b ≡ Area.C0 → Fair (c0_byte b r)
  unfolding c0_byte
  fair_c0 area =
      gives_by Fair (eqb b esc) (λ x ok. (tt, tt))
      (λ not_esc. gives_by Fair (eqb b so) (λ x ok. (tt, tt))
      (λ not_so. gives_by Fair (eqb b si) (λ x ok. (tt, tt))
      (λ not_si ok. (record { of_element = refl; area = area; not_esc = not_esc; not_so = not_so; not_si = not_si }, tt))))

  fair_character : (e : Element) (a : GraphicArea) (p : PositionBytes) → AllOfSet (set_in r.sets e).kind p →
      bytes_so_far p ≤ bytes_of (set_in r.sets e).count → Fair (character e (set_in r.sets e) a p r)
  unfolding character
  fair_character e a p fits most =
      let n : ℕ = bytes_of (set_in r.sets e).count in
      gives_by Fair (ltb (bytes_so_far p) n) (λ more ok. (tt, (fits, ltb-true (bytes_so_far p) n more)))
      (λ all ok. (record { of_element = refl; whole = omega (arith, ltb-false (bytes_so_far p) n all); of_set = fits }, tt))

  fair_of : (s : SetByte) (e : Element) (a : GraphicArea) (p : PositionBytes) →
      (s ≡ OfSet → Fair (character e (set_in r.sets e) a p r)) → Fair (of_character s e (set_in r.sets e) a p b r)
  fair_of OfSpace e a p h = fair_refusal Refusal.NotOfSet
  fair_of OfDelete e a p h = fair_refusal Refusal.NotOfSet
  fair_of OfSet e a p h = h refl
  fair_of Outside e a p h = fair_refusal Refusal.AnotherArea

  fair_first : (s : SetByte) (e : Element) → (s ≡ OfSet → set_byte (set_in r.sets e).kind b ≡ OfSet) →
      Fair (first_in_gl s e (set_in r.sets e) b r)
  fair_first OfSpace e h ok = (tt, tt)
  fair_first OfDelete e h ok = (tt, tt)
  fair_first OfSet e h ok = fair_character e GraphicArea.GL (PositionBytes.One b) (h refl) (one_at_least (set_in r.sets e).count) ok
  fair_first Outside e h ok = fair_refusal Refusal.AnotherArea ok

  -- a first byte from an area
  fair_begins : (e : Element) (a : GraphicArea) → let x = set_in r.sets e in
      Fair (of_character (byte_in a x.kind b) e x a (PositionBytes.One (position_in a b)) b r)
  fair_begins e a =
      let x = set_in r.sets e in
      fair_of (byte_in a x.kind b) e a (PositionBytes.One (position_in a b))
      (λ s. fair_character e a (PositionBytes.One (position_in a b)) (of_set_in a x.kind b s) (one_at_least x.count))

  fair_means : (w : Meaning) (s : Intermediates) → meaning_of r.form s b ≡ w → Becomes b w → sequence_byte b ≡ Final →
      AllIntermediate s → Fair (means w s b r)
  unfolding means
  fair_means NoMeaning s e h final leads ok = fair_refusal Refusal.WithoutMeaning ok
  fair_means Meaning.Other s e h final leads ok =
      (record { ends = final; leads = leads; other = λ m. other_in_any_form r.form m s b e }, tt)
  fair_means (Function n) s e h final leads ok = (record { of_element = refl; no_shift = h }, tt)
  fair_means (Shifts h) s e x final leads ok = (tt, shift_stands h r.sets)
  fair_means (Meaning.DesignateControls w) s e h final leads ok = (final, tt)
  fair_means (Meaning.Designate g k n) s e h final leads ok = (record { ends = final; into = h.0; lasts = h.1 }, tt)

  -- a C1 function by its byte
  fair_function : (n : ℕ) → Fair (means (c1_function n) Intermediates.None b r)
  unfolding c1_function means
  fair_function n =
      let P : Meaning → Type 0 = λ w. Fair (means w Intermediates.None b r) in
      gives_by P (eqb n function_of_ss2) (λ x ok. (tt, tt))
      (λ ss2. gives_by P (eqb n function_of_ss3) (λ x ok. (tt, tt))
      (λ ss3. gives_by P (leb n last_function) (λ low ok. (record { of_element = refl; no_shift = rw (ss2, ss3, low) }, tt))
      (λ high. fair_refusal Refusal.WithoutMeaning)))

  fair_intermediate : (s : Intermediates) → sequence_byte b ≡ Intermediate → AllIntermediate s → Fair (intermediate s b r)
  fair_intermediate Intermediates.None e leads ok = (tt, e)
  fair_intermediate (Intermediates.One i) e leads ok = (tt, (leads, e))
  fair_intermediate (Intermediates.Two i j) e leads ok = fair_refusal Refusal.ThirdIntermediate ok

  fair_sequence : (k : SequenceByte) (s : Intermediates) → sequence_byte b ≡ k → AllIntermediate s → Fair (sequence_at k s b r)
  fair_sequence Intermediate s e leads = fair_intermediate s e leads
  fair_sequence Final s e leads =
      fair_means (meaning_of r.form s b) s refl (every_meaning r.form b (Becomes b) (becomes r.form b) s) e leads
  fair_sequence Neither s e leads = fair_refusal Refusal.NotOfSequence

  fair_ground : (a : Area) → area_of b ≡ a → Fair (ground_at a b r)
  unfolding byte_in
  fair_ground Area.C0 e = fair_c0 e
  fair_ground Area.GL e = fair_first (byte_in GraphicArea.GL (set_in r.sets r.gl).kind b) r.gl (λ s. s)
  fair_ground Area.C1 e = fair_function (b - bit8)
  fair_ground Area.GR e = fair_begins r.gr GraphicArea.GR

  fair_within : (w : Within) → SoFar r.sets w → Fair (answer_within w b r)
  fair_within Within.Ground h = fair_ground (area_of b) refl
  fair_within (Within.Sequence s) h = fair_sequence (sequence_byte b) s refl h
  fair_within (Within.SingleShift e) h = fair_begins e GraphicArea.GL
  fair_within (Within.Character e a p) h =
      let x = set_in r.sets e in
      fair_of (byte_in a x.kind b) e a (with_byte p (position_in a b))
      (λ s. fair_character e a (with_byte p (position_in a b)) (with_fits x.kind p (position_in a b) h.0 (of_set_in a x.kind b s))
      (with_more p (position_in a b) (bytes_of x.count) h.1))

  pub fair_standing : (s : Standing) → Stands r.sets s → Fair (answer_standing s b r)
  unfolding answer_in_step
  fair_standing (Standing.InStep w) h =
      gives_has Fair (form_has r.form b) (fair_within w h) (fair_refusal Refusal.ByteOfEightBits)
  fair_standing (Standing.Lost k n) h = absurd h

-- ---- a text

pub stands_in_step : (t : Sets) (s : Standing) → Stands t s → IsInStep s
stands_in_step t (Standing.InStep w) h = tt
stands_in_step t (Standing.Lost k n) h = absurd h

-- where a text refuses nothing, its first answer is no refusal
pub not_refused : (a : Answer) (at : ℕ) (later : Option Refused) → refusal_or later at a ≡ None → NotRefused a
not_refused a at later h n e = impossible (cc (ap (refusal_or later at) e))

-- an answer that can be written joins what can be written, or is left out
pub one_more_lem : (a : Answer) (t : Sets) (l : List Entry) → left_out a ≡ false → CanBeWritten t a → InSteps (sets_with t a) l →
    InSteps t (given a ∷ l)
one_more_lem a t l stays h more = record {
  steps = said a more.steps;
  is = ap (λ (l : List Entry). given a ∷ l) more.is;
  all = (stays, h, more.all);
}

joins : (a : Answer) (t : Sets) (l : List Entry) → CanBeWritten t a → InSteps (sets_with t a) l → InSteps t (with_answer a l)
joins Answer.NothingYet t l h more = more
joins (Answer.Char e x p) t l h more = one_more_lem (Answer.Char e x p) t l refl h more
joins Answer.Space t l h more = one_more_lem Answer.Space t l refl h more
joins Answer.Delete t l h more = one_more_lem Answer.Delete t l refl h more
joins (Answer.Control w f n) t l h more = one_more_lem (Answer.Control w f n) t l refl h more
joins (Answer.DesignateControls w f) t l h more = one_more_lem (Answer.DesignateControls w f) t l refl h more
joins (Answer.Designate e x) t l h more = one_more_lem (Answer.Designate e x) t l refl h more
joins (Answer.Shift s) t l h more = more
joins (Answer.Other s f) t l h more = one_more_lem (Answer.Other s f) t l refl h more
joins (Answer.Refused n) t l h more = absurd h
joins Answer.Skipped t l h more = absurd h
joins (Answer.InStep n) t l h more = absurd h

-- of a text from a reader: where it refuses nothing, its sequence can be written
abbrev pub Written : Reader → List ℕ → List Entry → Type 0
Written r text l = (at : ℕ) → Stands r.sets r.standing → first_refusal (answers_from at r text) ≡ None → InSteps r.sets l

written_byte : (r : Reader) (b : ℕ) (bs : List ℕ) (l : List Entry) → Written (answer_of r b).reader bs l →
    Written r (b ∷ bs) (with_answer (answer_of r b).answer l)
unfolding answer_to
written_byte r b bs l more at h never =
    let a = (answer_of r b).answer in
    let next : Reader = (answer_of r b).reader in
    let later : Option Refused = first_refusal (answers_from (suc at) (answer_to r b).reader bs) in
    let fair = fair_standing (recording 0 r) b r.standing h (not_refused a at later never) in
    joins a r.sets l fair.0
    (subst (λ (t : Sets). InSteps t l) (sets_by_the_answer r b (stands_in_step r.sets r.standing h))
    (more (suc at) fair.1
    (ap first_refusal (answers_alike bs (suc at) next.gone (record_of r b) next) ∙ later_refuse_nothing a at later never)))

-- where a reader on the ground refuses nothing in an opening and what follows it, a reader just started refuses nothing in that
abbrev pub past : ℕ → List ℕ → ℕ
past at [] = at
past at (b ∷ bs) = past (suc at) bs

abbrev pub from_opening : Form → ℕ → List ℕ → Option Refused
from_opening m at rest = first_refusal (answers_from (past at (opening m)) (started m) rest)

pub refused_after : (m : Form) (t : Sets) (l g : Element) (at : ℕ) (rest : List ℕ) → (m ≡ Seven → g ≡ G1) →
    first_refusal (answers_from at (on_ground m t l g) (opening m ++ rest)) ≡ from_opening m at rest
unfolding between column_area form_has_column position_of set_byte sequence_byte c1_function shift_or_other meaning_of_none designation
    by_intermediate meaning_of_one matched_with one_more c0_byte byte_in means answer_in_step answer_lost answer_to
refused_after Seven t l g at rest shows =
    ap (λ (e : Element). first_refusal (answers_from at (on_ground Seven t l e) (opening Seven ++ rest))) (shows refl)
refused_after Eight t l g at rest shows = refl

written_whole : (r : Reader) (rest : List ℕ) (l : List Entry) → r.standing ≡ Standing.InStep Within.Ground → ShowsG1 r →
    Written (started r.form) rest l → Written r (opening r.form ++ rest) (with_opening l)
written_whole r rest l ground shows more at h never =
    let m : Form = r.form in
    let text : List ℕ = opening m ++ rest in
    let nothing : from_opening m at rest ≡ None =
    sym (refused_after m r.sets r.gl r.gr at rest shows) ∙
    ap (λ (s : Standing). first_refusal (answers_from at (recording 0 (standing_at s r)) text)) (sym ground) ∙
    ap first_refusal (answers_alike text at 0 r.gone r) ∙ never in
    let after = more (past at (opening m)) tt nothing in
    record { steps = opened after.steps; is = ap with_opening after.is; all = after.all }

-- from a reader that has recorded nothing
pub rest_can_be_written : (text : List ℕ) (r : Reader) → ShowsG1 r → Written r text (sequence_from (recording 0 r) text)
rest_can_be_written =
    by_openings Written (λ r at h none. record { steps = ended; is = refl; all = tt }) written_byte written_whole

pub can_be_written : (m : Form) (text : List ℕ) → first_refusal (answers_of m text) ≡ None → InSteps starting_sets (sequence_of m text)
can_be_written m text never = rest_can_be_written text (started m) (λ seven. refl) 0 tt never
