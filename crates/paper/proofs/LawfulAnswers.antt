-- What an answer says of the next reader, by one walk over the definitions. A reader in step answers neither skipped nor instep; it
-- refuses by 1 to 6 alone and is then lost with the refused byte; after any other answer it is in step. The form stays, and in
-- 7-bit form GR shows what it showed.
use Prim.Native.Nat.{ℕ, ◌-◌, ◌≤◌}
use mathlib.Core.Path.{◌≡◌, refl, sym, ap, ◌∙◌, subst}
use mathlib.Core.List.{List, [], ◌∷◌}
use native.Mathlib.Omega.{arith}
use lib.Dec.{ltb, eqb}
use lib.ListN.{length}
use Rattle.paper.specs.Words.{Seven, Area, G1, Element, Set, SetByte, OfSpace, OfDelete, OfSet, Outside}
use Rattle.paper.specs.Words.{SequenceByte, Intermediate, Final, Neither, Intermediates, Meaning}
use Rattle.paper.specs.Words.{NoMeaning, Function, Shifts, GraphicArea, PositionBytes, Within, Standing, Reader}
use Rattle.paper.specs.Words.{Refusal, Answer, Answered}
use Rattle.paper.specs.CodeTable.{area_of, form_has, bit8, so, si, esc}
use Rattle.paper.specs.Sets.{bytes_of, set_in}
use Rattle.paper.specs.Starting.{opening}
use Rattle.paper.specs.Sequences.{sequence_byte, c1_function, meaning_of}
use Rattle.paper.specs.Refusals.{number_of}
use Rattle.paper.specs.Searching.{matched_with, one_more}
use Rattle.paper.specs.Marks.{recording, record_after}
use Rattle.paper.specs.Characters.{lost_with, refuses, c0_byte, position_in, byte_in}
use Rattle.paper.specs.Characters.{bytes_so_far, with_byte, character, of_character, first_in_gl}
use Rattle.paper.specs.Answering.{means, intermediate, sequence_at, ground_at, answer_within, answer_in_step}
use Rattle.paper.specs.Answering.{answer_searching, answer_lost, answer_standing, answer_to}
use Rattle.paper.specs.Texts.{reader_after}
use Rattle.paper.proofs.Choices.{impossible, gives_has}
use Rattle.paper.proofs.SevenBitsKeepGR.{KeepsGR, function_keeps_gr, sequence_keeps_gr}

abbrev pub IsInStep : Standing → Type 0
IsInStep (Standing.InStep w) = Unit {0}
IsInStep (Standing.Lost k n) = ⊥

module _ (r : Reader) (b : ℕ) where
  abbrev pub Leaves : Answer → Reader → Type 0
  Leaves Answer.NothingYet next = IsInStep next.standing
  Leaves (Answer.Char e x p) next = IsInStep next.standing
  Leaves Answer.Space next = IsInStep next.standing
  Leaves Answer.Delete next = IsInStep next.standing
  Leaves (Answer.Control w f n) next = IsInStep next.standing
  Leaves (Answer.DesignateControls w f) next = IsInStep next.standing
  Leaves (Answer.Designate e x) next = IsInStep next.standing
  Leaves (Answer.Shift h) next = IsInStep next.standing
  Leaves (Answer.Other s f) next = IsInStep next.standing
  Leaves (Answer.Refused n) next = (number_of n ≤ 6) × (next ≡ lost_with b r)
  Leaves Answer.Skipped next = ⊥
  Leaves (Answer.InStep n) next = ⊥

  abbrev pub Lawful : Answered → Type 0
  Lawful a = (a.reader.form ≡ r.form) × (r.form ≡ Seven → a.reader.gr ≡ r.gr) × Leaves a.answer a.reader

  lawful_refusal : (n : Refusal) → number_of n ≤ 6 → Lawful (refuses n b r)
  lawful_refusal n h = (refl, λ seven. refl, (h, refl))

  lawful_c0 : Lawful (c0_byte b r)
  unfolding c0_byte
  lawful_c0 =
      gives_has Lawful (eqb b esc) (refl, λ seven. refl, tt)
      (gives_has Lawful (eqb b so) (refl, λ seven. refl, tt)
      (gives_has Lawful (eqb b si) (refl, λ seven. refl, tt) (refl, λ seven. refl, tt)))

  lawful_character : (e : Element) (x : Set) (a : GraphicArea) (p : PositionBytes) → Lawful (character e x a p r)
  unfolding character
  lawful_character e x a p = gives_has Lawful (ltb (bytes_so_far p) (bytes_of x.count)) (refl, λ seven. refl, tt) (refl, λ seven. refl, tt)

  lawful_of : (s : SetByte) (e : Element) (x : Set) (a : GraphicArea) (p : PositionBytes) → Lawful (of_character s e x a p b r)
  lawful_of OfSpace e x a p = lawful_refusal Refusal.NotOfSet (omega arith)
  lawful_of OfDelete e x a p = lawful_refusal Refusal.NotOfSet (omega arith)
  lawful_of OfSet e x a p = lawful_character e x a p
  lawful_of Outside e x a p = lawful_refusal Refusal.AnotherArea (omega arith)

  lawful_first : (s : SetByte) (e : Element) (x : Set) → Lawful (first_in_gl s e x b r)
  lawful_first OfSpace e x = (refl, λ seven. refl, tt)
  lawful_first OfDelete e x = (refl, λ seven. refl, tt)
  lawful_first OfSet e x = lawful_character e x GraphicArea.GL (PositionBytes.One b)
  lawful_first Outside e x = lawful_refusal Refusal.AnotherArea (omega arith)

  lawful_means : (w : Meaning) (s : Intermediates) → (r.form ≡ Seven → KeepsGR w) → Lawful (means w s b r)
  unfolding means
  lawful_means NoMeaning s keeps = lawful_refusal Refusal.WithoutMeaning (omega arith)
  lawful_means Meaning.Other s keeps = (refl, λ seven. refl, tt)
  lawful_means (Function n) s keeps = (refl, λ seven. refl, tt)
  lawful_means (Shifts h) s keeps = (refl, λ seven. keeps seven r.gr, tt)
  lawful_means (Meaning.DesignateControls w) s keeps = (refl, λ seven. refl, tt)
  lawful_means (Meaning.Designate e k n) s keeps = (refl, λ seven. refl, tt)

  lawful_intermediate : (s : Intermediates) → Lawful (intermediate s b r)
  lawful_intermediate Intermediates.None = (refl, λ seven. refl, tt)
  lawful_intermediate (Intermediates.One i) = (refl, λ seven. refl, tt)
  lawful_intermediate (Intermediates.Two i j) = lawful_refusal Refusal.ThirdIntermediate (omega arith)

  lawful_sequence : (k : SequenceByte) (s : Intermediates) → Lawful (sequence_at k s b r)
  lawful_sequence Intermediate s = lawful_intermediate s
  lawful_sequence Final s = lawful_means (meaning_of r.form s b) s (λ seven. sequence_keeps_gr r.form seven s b)
  lawful_sequence Neither s = lawful_refusal Refusal.NotOfSequence (omega arith)

  lawful_ground : (a : Area) → Lawful (ground_at a b r)
  lawful_ground Area.C0 = lawful_c0
  lawful_ground Area.GL = let x = set_in r.sets r.gl in lawful_first (byte_in GraphicArea.GL x.kind b) r.gl x
  lawful_ground Area.C1 = lawful_means (c1_function (b - bit8)) Intermediates.None (λ seven. function_keeps_gr (b - bit8))
  lawful_ground Area.GR =
      let x = set_in r.sets r.gr in
      lawful_of (byte_in GraphicArea.GR x.kind b) r.gr x GraphicArea.GR (PositionBytes.One (position_in GraphicArea.GR b))

  lawful_within : (w : Within) → Lawful (answer_within w b r)
  lawful_within Within.Ground = lawful_ground (area_of b)
  lawful_within (Within.Sequence s) = lawful_sequence (sequence_byte b) s
  lawful_within (Within.SingleShift e) =
      let x = set_in r.sets e in lawful_of (byte_in GraphicArea.GL x.kind b) e x GraphicArea.GL (PositionBytes.One b)
  lawful_within (Within.Character e a p) =
      let x = set_in r.sets e in lawful_of (byte_in a x.kind b) e x a (with_byte p (position_in a b))

  pub in_step_lawful : (w : Within) → Lawful (answer_in_step w b r)
  unfolding answer_in_step
  in_step_lawful w =
      gives_has Lawful (form_has r.form b) (lawful_within w) (lawful_refusal Refusal.ByteOfEightBits (omega arith))

  -- a lost reader keeps its form, and does not refuse
  abbrev LostLawful : Answered → Type 0
  LostLawful a = (a.reader.form ≡ r.form) × ((n : Refusal) → a.answer ≡ Answer.Refused n → ⊥)

  lost_lawful : (k n : ℕ) → LostLawful (answer_searching k n r)
  lost_lawful k n =
      gives_has LostLawful (eqb k (length (opening r.form))) (refl, λ m e. impossible (cc)) (refl, λ m e. impossible (cc))

  form_standing : (s : Standing) → (answer_standing s b r).reader.form ≡ r.form
  unfolding answer_lost
  form_standing (Standing.InStep w) = (in_step_lawful w).0
  form_standing (Standing.Lost k n) = (lost_lawful (matched_with r.form k b) (one_more n)).0

  refused_standing : (s : Standing) (n : Refusal) → (answer_standing s b r).answer ≡ Answer.Refused n →
      (number_of n ≤ 6) × ((answer_standing s b r).reader ≡ lost_with b r)
  unfolding answer_lost
  refused_standing (Standing.InStep w) n e =
      subst (λ (a : Answer). Leaves a (answer_in_step w b r).reader) e (in_step_lawful w).2
  refused_standing (Standing.Lost k c) n e = absurd ((lost_lawful (matched_with r.form k b) (one_more c)).1 n e)

-- ---- any reader, in step or lost

module _ (r : Reader) (b : ℕ) where
  -- it refuses by 1 to 6 alone, and is then lost, with nothing recorded
  pub refused_lost : (n : Refusal) → (answer_to r b).answer ≡ Answer.Refused n →
      (number_of n ≤ 6) × ((answer_to r b).reader ≡ lost_with b (recording 0 r))
  unfolding answer_to
  refused_lost n e =
      let h = refused_standing (recording 0 r) b r.standing n e in
      (h.0, ap (λ (x : Reader). recording (record_after r b x.standing) x) h.1)

  pub form_on : (answer_to r b).reader.form ≡ r.form
  unfolding answer_to
  form_on = form_standing (recording 0 r) b r.standing

-- in 7-bit form GR shows G1 where it did
shows_in : (r : Reader) (b : ℕ) (s : Standing) → (r.form ≡ Seven → r.gr ≡ G1) → r.form ≡ Seven → (answer_standing s b r).reader.gr ≡ G1
unfolding answer_lost
shows_in r b (Standing.InStep w) shows seven = (in_step_lawful r b w).1 seven ∙ shows seven
shows_in r b (Standing.Lost k n) shows seven =
    gives_has (λ (a : Answered). a.reader.gr ≡ G1) (eqb (matched_with r.form k b) (length (opening r.form))) refl (shows seven)

pub shows_on : (r : Reader) (b : ℕ) → (r.form ≡ Seven → r.gr ≡ G1) →
    (answer_to r b).reader.form ≡ Seven → (answer_to r b).reader.gr ≡ G1
unfolding answer_to
shows_on r b shows seven = shows_in (recording 0 r) b r.standing shows (sym (form_on r b) ∙ seven)

-- a text does not change the form
pub form_after : (l : List ℕ) (r : Reader) → (reader_after r l).form ≡ r.form
form_after [] r = refl
form_after (b ∷ bs) r = form_after bs (answer_to r b).reader ∙ form_on r b
