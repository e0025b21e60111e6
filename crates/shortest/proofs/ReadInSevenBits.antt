-- What has been read of a 7-bit text since its last answer, byte by byte: nothing, part of a sequence, a single shift, part of a character.
-- When an answer is complete, what it is written as does not come after those bytes; a locking shift is one of the four.
use Prim.Native.Nat.{ℕ, ◌+◌, ◌-◌, ◌%◌, ◌<◌, ◌≤◌}
use mathlib.Core.Path.{◌≡◌, refl, sym, ap, ◌∙◌, subst}
use mathlib.Core.Bool.{Bool, true, false}
use mathlib.Core.List.{List, [], ◌∷◌, ◌++◌, append_assoc, map}
use native.Mathlib.Omega.{arith}
use borrow.Author.Tests.{eqb-true, leb-true, leb-false}
use lib.Dec.{ltb, leb, eqb}
use Rattle.paper.specs.Choice.{◌gives◌or◌, between}
use Rattle.paper.specs.CodeTable.{area_of, form_has, column_area, form_has_column, position_of, last_of_c0, last_of_gl, so, si, esc}
use Rattle.paper.specs.Sets.{space, delete, set_in, bytes_of, set_byte}
use Rattle.paper.specs.Sequences.{function_of_ss2, function_of_ss3, last_function, sequence_byte, c1_function, meaning_of, shift_or_other}
use Rattle.paper.specs.Sequences.{final_of_function, meaning_of_none, designation, by_intermediate, meaning_of_one, several_bytes, meaning_of_two}
use Rattle.paper.specs.Sequences.{final_of_ls2, final_of_ls3, first_final, last_final, is_final, intermediate_of, several, is_short, short_designation}
use Rattle.paper.specs.Sequences.{intermediate_of_controls}
use Rattle.paper.specs.Characters.{c0_byte, byte_in, bytes_so_far, with_byte, character, of_character, first_in_gl}
use Rattle.paper.specs.Answering.{means, intermediate, sequence_at, ground_at, answer_within, answer_in_step}
use Rattle.paper.specs.Results.{position_values}
use Rattle.paper.specs.WrittenForms.{left_out, sequence_bytes, takes_short, designation_bytes, function_bytes, single_shift, byte_from}
use Rattle.paper.specs.WrittenForms.{character_bytes}
use Rattle.paper.specs.declared.Form.{Form}
use Rattle.paper.specs.declared.Area.{Area}
use Rattle.paper.specs.declared.ControlElement.{ControlElement}
use Rattle.paper.specs.declared.Kind.{Kind}
use Rattle.paper.specs.declared.Kind.TheVariants.{Of94, Of96}
use Rattle.paper.specs.declared.Count.{Count}
use Rattle.paper.specs.declared.Set.{Set}
use Rattle.paper.specs.declared.SetByte.{SetByte}
use Rattle.paper.specs.declared.SequenceByte.{SequenceByte}
use Rattle.paper.specs.declared.Element.{Element}
use Rattle.paper.specs.declared.Element.TheVariants.{G0, G1, G2, G3}
use Rattle.paper.specs.declared.Sets.{Sets}
use Rattle.paper.specs.declared.Shift.{Shift}
use Rattle.paper.specs.declared.Intermediates.{Intermediates}
use Rattle.paper.specs.declared.Meaning.{Meaning}
use Rattle.paper.specs.declared.Meaning.TheVariants.{NoMeaning, Function, Shifts}
use Rattle.paper.specs.declared.GraphicArea.{GraphicArea}
use Rattle.paper.specs.declared.PositionBytes.{PositionBytes}
use Rattle.paper.specs.declared.Within.{Within}
use Rattle.paper.specs.declared.Standing.{Standing}
use Rattle.paper.specs.declared.Reader.{Reader}
use Rattle.paper.specs.declared.Refusal.{Refusal}
use Rattle.paper.specs.declared.Answer.{Answer}
use Rattle.paper.specs.declared.Answered.{Answered}
use Rattle.paper.proofs.Choices.{gives_by, gives_has, between_bounds}
use Rattle.paper.proofs.ReadingOn.{reader_with}
use Rattle.paper.proofs.WhatCanBeWritten.{SoFar}
use Rattle.shortest.specs.ByteOrder.{NotAfter}
use Rattle.shortest.specs.ShortestText.{is_shown, is_taken, is_of94, fits, bytes_under, shift_to}
use Rattle.shortest.proofs.TextsInOrder.{by_length, not_after_itself}
use Rattle.shortest.proofs.BytesOfAnAnswer.{shown_itself, taken_itself}

-- ---- what has been read since the last answer

-- what leads a character: nothing where GL shows its element, or its single shift
abbrev pub HasSingle : Element → Type 0
HasSingle G0 = ⊥
HasSingle G1 = ⊥
HasSingle G2 = Unit {0}
HasSingle G3 = Unit {0}

pub data Leads (gl e : Element) : List ℕ → Type 0 where
  shown : gl ≡ e → Leads gl e []
  single : HasSingle e → Leads gl e (single_shift Form.Seven e)

abbrev pub positions : PositionBytes → List ℕ
positions p = map (byte_from GraphicArea.GL) (position_values p)

pub record Begun (gl e : Element) (p : PositionBytes) (pre : List ℕ) : Type 0 where
  pub lead : List ℕ
  pub leads : Leads gl e lead
  pub is : pre ≡ lead ++ positions p

abbrev pub so_far_lem : Intermediates → List ℕ
so_far_lem Intermediates.None = esc ∷ []
so_far_lem (Intermediates.One i) = esc ∷ i ∷ []
so_far_lem (Intermediates.Two i j) = esc ∷ i ∷ j ∷ []

abbrev pub Came : Element → Within → List ℕ → Type 0
Came gl Within.Ground pre = pre ≡ []
Came gl (Within.Sequence s) pre = pre ≡ so_far_lem s
Came gl (Within.SingleShift e) pre = (pre ≡ single_shift Form.Seven e) × HasSingle e
Came gl (Within.Character e GraphicArea.GL p) pre = Begun gl e p pre
Came gl (Within.Character e GraphicArea.GR p) pre = ⊥

-- the intermediates of a designation, by the number of bytes to a character
abbrev pub intermediates_as : Count → ℕ → Intermediates
intermediates_as Count.One i = Intermediates.One i
intermediates_as Count.Two i = Intermediates.Two several i
intermediates_as Count.Three i = Intermediates.Two several i

-- ---- what a byte makes of it; the bytes are those before it and itself

pub data Outcome (t : Sets) (gl : Element) (pre : List ℕ) (x : Answered) : Type 0 where
  waiting : (w : Within) → left_out x.answer ≡ true → x.reader.standing ≡ Standing.InStep w → x.reader.gl ≡ gl → Came gl w pre →
      Outcome t gl pre x
  shifting : (e : Element) → left_out x.answer ≡ true → x.reader.standing ≡ Standing.InStep Within.Ground → x.reader.gl ≡ e →
      pre ≡ shift_to e → Outcome t gl pre x
  saying : left_out x.answer ≡ false → x.reader.standing ≡ Standing.InStep Within.Ground → x.reader.gl ≡ gl →
      fits t gl x.answer ≡ true → NotAfter (bytes_under gl x.answer) pre → Outcome t gl pre x
  refusing : (n : Refusal) → x.answer ≡ Answer.Refused n → Outcome t gl pre x

-- ---- characters

taken_with_single : (gl e : Element) → HasSingle e → is_taken gl e ≡ true
taken_with_single gl G0 h = absurd h
taken_with_single gl G1 h = absurd h
taken_with_single gl G2 h = refl
taken_with_single gl G3 h = refl

taken_by : {gl e : Element} {lead : List ℕ} → Leads gl e lead → is_taken gl e ≡ true
taken_by {gl} {e} (shown is) = subst (λ (x : Element). is_taken gl x ≡ true) is (taken_itself gl)
taken_by {gl} {e} (single h) = taken_with_single gl e h

single_longer : (e : Element) (p : PositionBytes) → HasSingle e → NotAfter (positions p) (single_shift Form.Seven e ++ positions p)
single_longer G0 p h = absurd h
single_longer G1 p h = absurd h
single_longer G2 p h = by_length (positions p) _ (omega arith)
single_longer G3 p h = by_length (positions p) _ (omega arith)

character_first : {gl e : Element} {lead : List ℕ} (x : Set) (p : PositionBytes) → Leads gl e lead →
    NotAfter (bytes_under gl (Answer.Char e x p)) (lead ++ positions p)
character_first {gl} {e} x p (shown is) =
    subst (λ (k : Element). NotAfter (is_shown gl k gives positions p or character_bytes Form.Seven k p) (positions p)) is
    (subst (λ (b : Bool). NotAfter (b gives positions p or character_bytes Form.Seven gl p) (positions p)) (sym (shown_itself gl))
    (not_after_itself (positions p)))
character_first {gl} {e} x p (single h) =
    gives_has (λ (bytes : List ℕ). NotAfter bytes (single_shift Form.Seven e ++ positions p)) (is_shown gl e) (single_longer e p h)
    (not_after_itself _)

with_positions : (p : PositionBytes) (b : ℕ) → bytes_so_far p < 3 → positions (with_byte p b) ≡ positions p ++ (b ∷ [])
with_positions (PositionBytes.One a) b h = refl
with_positions (PositionBytes.Two a c) b h = refl
with_positions (PositionBytes.Three a c d) b h = absurd (omega arith)

-- ---- a byte, where the reader stands

module _ (t : Sets) (gl : Element) (b : ℕ) where
  abbrev here : Within → Reader
  here w = reader_with Form.Seven t gl G1 w

  abbrev After : List ℕ → Answered → Type 0
  After pre x = Outcome t gl pre x

  after_character : (w : Within) (e : Element) (p : PositionBytes) (pre : List ℕ) → Begun gl e p pre →
      After pre (character e (set_in t e) GraphicArea.GL p (here w))
  unfolding character
  after_character w e p pre begun =
      gives_has (After pre) (ltb (bytes_so_far p) (bytes_of (set_in t e).count))
      (waiting (Within.Character e GraphicArea.GL p) refl refl refl begun)
      (saying refl refl refl (taken_by begun.leads)
      (subst (NotAfter (bytes_under gl (Answer.Char e (set_in t e) p))) (sym begun.is) (character_first (set_in t e) p begun.leads)))

  after_of : (s : SetByte) (w : Within) (e : Element) (p : PositionBytes) (pre : List ℕ) → Begun gl e p pre →
      After pre (of_character s e (set_in t e) GraphicArea.GL p b (here w))
  after_of SetByte.OfSpace w e p pre begun = refusing Refusal.NotOfSet refl
  after_of SetByte.OfDelete w e p pre begun = refusing Refusal.NotOfSet refl
  after_of SetByte.OfSet w e p pre begun = after_character w e p pre begun
  after_of SetByte.Outside w e p pre begun = refusing Refusal.AnotherArea refl

  -- SPACE and DELETE are met where GL shows a set of 94 type
  abbrev Blank : Kind → SetByte → Type 0
  Blank k SetByte.OfSpace = (is_of94 k ≡ true) × (b ≡ space)
  Blank k SetByte.OfDelete = (is_of94 k ≡ true) × (b ≡ delete)
  Blank k SetByte.OfSet = Unit {0}
  Blank k SetByte.Outside = Unit {0}

  blank : (k : Kind) → Blank k (byte_in GraphicArea.GL k b)
  unfolding byte_in set_byte
  blank Of94 =
      gives_by (Blank Of94) (between space delete b)
      (λ within. gives_by (Blank Of94) (eqb b space) (λ e. (refl, eqb-true b space e))
      (λ no. gives_by (Blank Of94) (eqb b delete) (λ e. (refl, eqb-true b delete e)) (λ e. tt)))
      (λ outside. tt)
  blank Of96 = gives_by (Blank Of96) (between space delete b) (λ within. tt) (λ outside. tt)

  after_first : (s : SetByte) → Blank (set_in t gl).kind s → After (b ∷ []) (first_in_gl s gl (set_in t gl) b (here Within.Ground))
  after_first SetByte.OfSpace h =
      saying refl refl refl h.0 (subst (λ (n : ℕ). NotAfter (n ∷ []) (b ∷ [])) h.1 (not_after_itself (b ∷ [])))
  after_first SetByte.OfDelete h =
      saying refl refl refl h.0 (subst (λ (n : ℕ). NotAfter (n ∷ []) (b ∷ [])) h.1 (not_after_itself (b ∷ [])))
  after_first SetByte.OfSet h =
      after_character Within.Ground gl (PositionBytes.One b) (b ∷ []) (record { lead = []; leads = shown refl; is = refl })
  after_first SetByte.Outside h = refusing Refusal.AnotherArea refl

  after_c0 : After (b ∷ []) (c0_byte b (here Within.Ground))
  unfolding c0_byte
  after_c0 =
      gives_by (After (b ∷ [])) (eqb b esc)
      (λ e. waiting (Within.Sequence Intermediates.None) refl refl refl (ap (λ (n : ℕ). n ∷ []) (eqb-true b esc e)))
      (λ no_esc. gives_by (After (b ∷ [])) (eqb b so) (λ e. shifting G1 refl refl refl (ap (λ (n : ℕ). n ∷ []) (eqb-true b so e)))
      (λ no_so. gives_by (After (b ∷ [])) (eqb b si) (λ e. shifting G0 refl refl refl (ap (λ (n : ℕ). n ∷ []) (eqb-true b si e)))
      (λ no_si. saying refl refl refl refl (not_after_itself (b ∷ [])))))

  -- 7-bit form has C0 and GL alone
  abbrev InSeven : Area → Type 0
  InSeven Area.C0 = Unit {0}
  InSeven Area.GL = Unit {0}
  InSeven Area.C1 = ⊥
  InSeven Area.GR = ⊥

  in_seven_lem : form_has Form.Seven b ≡ true → InSeven (area_of b)
  unfolding column_area form_has_column
  in_seven_lem has =
      let low = leb-true (position_of b).column.0 last_of_gl has in
      gives_by InSeven (leb (position_of b).column.0 last_of_c0) (λ e. tt)
      (λ no. gives_by InSeven (leb (position_of b).column.0 last_of_gl) (λ e. tt)
      (λ high. absurd (omega (arith, low, leb-false (position_of b).column.0 last_of_gl high))))

  after_ground : (a : Area) → InSeven a → After (b ∷ []) (ground_at a b (here Within.Ground))
  after_ground Area.C0 h = after_c0
  after_ground Area.GL h = after_first (byte_in GraphicArea.GL (set_in t gl).kind b) (blank (set_in t gl).kind)
  after_ground Area.C1 h = absurd h
  after_ground Area.GR h = absurd h

  -- ---- sequences

  -- what a final means, by what stands before it
  abbrev Means : Intermediates → Meaning → Type 0
  Means s NoMeaning = Unit {0}
  Means s Meaning.Other = Unit {0}
  Means s (Function n) = sequence_bytes s b ≡ function_bytes Form.Seven n
  Means s (Shifts Shift.LS2) = sequence_bytes s b ≡ shift_to G2
  Means s (Shifts Shift.LS3) = sequence_bytes s b ≡ shift_to G3
  Means s (Shifts Shift.SS2) = sequence_bytes s b ≡ single_shift Form.Seven G2
  Means s (Shifts Shift.SS3) = sequence_bytes s b ≡ single_shift Form.Seven G3
  Means s (Meaning.DesignateControls w) = sequence_bytes s b ≡ sequence_bytes (Intermediates.One (intermediate_of_controls w)) b
  Means s (Meaning.Designate e k n) =
      NotAfter (designation_bytes e (record { kind = k; count = n; last = b })) (sequence_bytes s b)
  Means s (Shifts _) = ⊥

  with_final : (s : Intermediates) → so_far_lem s ++ (b ∷ []) ≡ sequence_bytes s b
  with_final Intermediates.None = refl
  with_final (Intermediates.One i) = refl
  with_final (Intermediates.Two i j) = refl

  after_means : (w : Meaning) (s : Intermediates) → Means s w → After (sequence_bytes s b) (means w s b (here (Within.Sequence s)))
  unfolding means
  after_means NoMeaning s h = refusing Refusal.WithoutMeaning refl
  after_means Meaning.Other s h = saying refl refl refl refl (not_after_itself _)
  after_means (Function n) s h = saying refl refl refl refl (subst (λ (l : List ℕ). NotAfter l (sequence_bytes s b)) h (not_after_itself _))
  after_means (Shifts Shift.LS2) s h = shifting G2 refl refl refl h
  after_means (Shifts Shift.LS3) s h = shifting G3 refl refl refl h
  after_means (Shifts Shift.SS2) s h = waiting (Within.SingleShift G2) refl refl refl (h, tt)
  after_means (Shifts Shift.SS3) s h = waiting (Within.SingleShift G3) refl refl refl (h, tt)
  after_means (Meaning.DesignateControls w) s h =
      saying refl refl refl refl (subst (λ (l : List ℕ). NotAfter l (sequence_bytes s b)) h (not_after_itself _))
  after_means (Meaning.Designate e k n) s h = saying refl refl refl refl h
  after_means (Shifts _) s h = absurd h

  -- ESC F
  means_shift : Means Intermediates.None (shift_or_other Form.Seven b)
  unfolding shift_or_other
  means_shift =
      let P : Meaning → Type 0 = Means Intermediates.None in
      gives_by P (eqb b final_of_ls2) (λ e. ap (λ (n : ℕ). esc ∷ n ∷ []) (eqb-true b final_of_ls2 e))
      (λ no. gives_by P (eqb b final_of_ls3) (λ e. ap (λ (n : ℕ). esc ∷ n ∷ []) (eqb-true b final_of_ls3 e))
      (λ no. gives_has P (eqb b 0x7E) tt (gives_has P (eqb b 0x7D) tt (gives_has P (eqb b 0x7C) tt tt))))

  means_function : (n : ℕ) → b ≡ final_of_function + n → Means Intermediates.None (c1_function n)
  unfolding c1_function
  means_function n is =
      let P : Meaning → Type 0 = Means Intermediates.None in
      gives_by P (eqb n function_of_ss2)
      (λ e. ap (λ (k : ℕ). esc ∷ k ∷ []) (is ∙ ap (λ (k : ℕ). final_of_function + k) (eqb-true n function_of_ss2 e)))
      (λ no. gives_by P (eqb n function_of_ss3)
      (λ e. ap (λ (k : ℕ). esc ∷ k ∷ []) (is ∙ ap (λ (k : ℕ). final_of_function + k) (eqb-true n function_of_ss3 e)))
      (λ no. gives_by P (leb n last_function)
      (λ low.
      let small = leb-true n last_function low in
      let same : b ≡ final_of_function + n % 32 = omega (arith, is, small) in
      ap (λ (k : ℕ). esc ∷ k ∷ []) same)
      (λ high. tt)))

  means_none : Means Intermediates.None (meaning_of_none Form.Seven b)
  unfolding meaning_of_none
  means_none =
      let P : Meaning → Type 0 = Means Intermediates.None in
      gives_has P (between first_final 0x3F b) tt
      (gives_by P (between final_of_function 0x5F b)
      (λ within. let bounds = between_bounds final_of_function 0x5F b within in means_function (b - final_of_function) (omega (arith, bounds.0)))
      (λ no. gives_has P (between 0x60 last_final b) means_shift tt))

  -- a designation by its intermediate
  abbrev Designated : ℕ → Count → Meaning → Type 0
  Designated i n NoMeaning = Unit {0}
  Designated i n (Meaning.Designate e k m) = (i ≡ intermediate_of k e) × (m ≡ n)
  Designated i n _ = ⊥

  designated_by : (i : ℕ) (n : Count) → Designated i n (designation i n)
  unfolding designation
  designated_by i n =
      let P : Meaning → Type 0 = Designated i n in
      gives_by P (eqb i (intermediate_of Of94 G0)) (λ e. (eqb-true i (intermediate_of Of94 G0) e, refl))
      (λ x. gives_by P (eqb i (intermediate_of Of94 G1)) (λ e. (eqb-true i (intermediate_of Of94 G1) e, refl))
      (λ x. gives_by P (eqb i (intermediate_of Of94 G2)) (λ e. (eqb-true i (intermediate_of Of94 G2) e, refl))
      (λ x. gives_by P (eqb i (intermediate_of Of94 G3)) (λ e. (eqb-true i (intermediate_of Of94 G3) e, refl))
      (λ x. gives_by P (eqb i (intermediate_of Of96 G1)) (λ e. (eqb-true i (intermediate_of Of96 G1) e, refl))
      (λ x. gives_by P (eqb i (intermediate_of Of96 G2)) (λ e. (eqb-true i (intermediate_of Of96 G2) e, refl))
      (λ x. gives_by P (eqb i (intermediate_of Of96 G3)) (λ e. (eqb-true i (intermediate_of Of96 G3) e, refl)) (λ x. tt)))))))

  -- it is written with that intermediate, or by the short sequence
  designation_first : (n : Count) (k : Kind) (e : Element) → NotAfter (designation_bytes e (record { kind = k; count = n; last = b }))
      (sequence_bytes (intermediates_as n (intermediate_of k e)) b)
  designation_first Count.One k e = not_after_itself _
  designation_first Count.Two k e =
      gives_has (λ (s : Intermediates). NotAfter (sequence_bytes s b) (sequence_bytes (Intermediates.Two several (intermediate_of k e)) b))
      (takes_short e b) (by_length _ _ (omega arith)) (not_after_itself _)
  designation_first Count.Three k e = not_after_itself _

  means_designation : (w : Meaning) (i : ℕ) (n : Count) → Designated i n w → Means (intermediates_as n i) w
  means_designation NoMeaning i n h = tt
  means_designation (Meaning.Designate e k m) i n h =
      subst (λ (j : ℕ). NotAfter (designation_bytes e (record { kind = k; count = m; last = b })) (sequence_bytes (intermediates_as n j) b))
      (sym h.0)
      (subst (λ (c : Count). NotAfter (designation_bytes e (record { kind = k; count = m; last = b }))
      (sequence_bytes (intermediates_as c (intermediate_of k e)) b)) h.1 (designation_first m k e))
  means_designation _ i n h = absurd h

  -- ESC I F
  means_short : Means (Intermediates.One several) (short_designation b)
  unfolding short_designation
  means_short =
      gives_by (Means (Intermediates.One several)) (is_short b) (λ short. rw short (not_after_itself _)) (λ no. tt)

  means_one : (i : ℕ) → Means (Intermediates.One i) (meaning_of_one i b)
  unfolding meaning_of_one by_intermediate
  means_one i =
      let P : Meaning → Type 0 = Means (Intermediates.One i) in
      gives_has P (is_final b)
      (gives_has P (eqb i 0x20) tt (gives_has P (eqb i 0x23) tt (gives_has P (eqb i 0x26) tt
      (gives_by P (eqb i (intermediate_of_controls ControlElement.C0))
      (λ e. ap (λ (n : ℕ). esc ∷ n ∷ b ∷ []) (eqb-true i (intermediate_of_controls ControlElement.C0) e))
      (λ x. gives_by P (eqb i (intermediate_of_controls ControlElement.C1))
      (λ e. ap (λ (n : ℕ). esc ∷ n ∷ b ∷ []) (eqb-true i (intermediate_of_controls ControlElement.C1) e))
      (λ x. gives_by P (eqb i several)
      (λ e. subst (λ (n : ℕ). Means (Intermediates.One n) (short_designation b)) (sym (eqb-true i several e)) means_short)
      (λ x. means_designation (designation i Count.One) i Count.One (designated_by i Count.One))))))))
      tt

  -- ESC I I F
  means_two : (i j : ℕ) → Means (Intermediates.Two i j) (meaning_of_two i j b)
  unfolding meaning_of_two several_bytes
  means_two i j =
      gives_by (Means (Intermediates.Two i j)) (eqb i several)
      (λ e. subst (λ (n : ℕ). Means (Intermediates.Two n j) (several_bytes j b)) (sym (eqb-true i several e))
      (gives_has (Means (Intermediates.Two several j)) (between 0x40 0x5F b)
      (means_designation (designation j Count.Two) j Count.Two (designated_by j Count.Two))
      (gives_has (Means (Intermediates.Two several j)) (between 0x60 0x6F b)
      (means_designation (designation j Count.Three) j Count.Three (designated_by j Count.Three)) tt)))
      (λ x. tt)

  means_final : (s : Intermediates) → Means s (meaning_of Form.Seven s b)
  means_final Intermediates.None = means_none
  means_final (Intermediates.One i) = means_one i
  means_final (Intermediates.Two i j) = means_two i j

  after_intermediate : (s : Intermediates) → After (so_far_lem s ++ (b ∷ [])) (intermediate s b (here (Within.Sequence s)))
  after_intermediate Intermediates.None = waiting (Within.Sequence (Intermediates.One b)) refl refl refl refl
  after_intermediate (Intermediates.One i) = waiting (Within.Sequence (Intermediates.Two i b)) refl refl refl refl
  after_intermediate (Intermediates.Two i j) = refusing Refusal.ThirdIntermediate refl

  after_sequence : (k : SequenceByte) (s : Intermediates) → After (so_far_lem s ++ (b ∷ [])) (sequence_at k s b (here (Within.Sequence s)))
  after_sequence SequenceByte.Intermediate s = after_intermediate s
  after_sequence SequenceByte.Final s =
      subst (λ (l : List ℕ). After l (means (meaning_of Form.Seven s b) s b (here (Within.Sequence s)))) (sym (with_final s))
      (after_means (meaning_of Form.Seven s b) s (means_final s))
  after_sequence SequenceByte.Neither s = refusing Refusal.NotOfSequence refl

  -- ---- by where the reader stands

  later_begun : (e : Element) (p : PositionBytes) (pre : List ℕ) → bytes_so_far p < 3 → Begun gl e p pre →
      Begun gl e (with_byte p b) (pre ++ (b ∷ []))
  later_begun e p pre few begun = record {
    lead = begun.lead;
    leads = begun.leads;
    is = ap (λ (l : List ℕ). l ++ (b ∷ [])) begun.is ∙ append_assoc begun.lead (positions p) (b ∷ []) ∙
        ap (λ (l : List ℕ). begun.lead ++ l) (sym (with_positions p b few));
  }

  few_bytes : (n : Count) → bytes_of n ≤ 3
  few_bytes Count.One = omega arith
  few_bytes Count.Two = omega arith
  few_bytes Count.Three = omega arith

  after_within : (w : Within) (pre : List ℕ) → form_has Form.Seven b ≡ true → SoFar t w → Came gl w pre →
      After (pre ++ (b ∷ [])) (answer_within w b (here w))
  unfolding byte_in
  after_within Within.Ground pre has so_far came =
      subst (λ (l : List ℕ). After (l ++ (b ∷ [])) (ground_at (area_of b) b (here Within.Ground))) (sym came)
      (after_ground (area_of b) (in_seven_lem has))
  after_within (Within.Sequence s) pre has so_far came =
      subst (λ (l : List ℕ). After (l ++ (b ∷ [])) (sequence_at (sequence_byte b) s b (here (Within.Sequence s)))) (sym came)
      (after_sequence (sequence_byte b) s)
  after_within (Within.SingleShift e) pre has so_far came =
      after_of (byte_in GraphicArea.GL (set_in t e).kind b) (Within.SingleShift e) e (PositionBytes.One b) (pre ++ (b ∷ []))
      (record { lead = single_shift Form.Seven e; leads = single came.1; is = ap (λ (l : List ℕ). l ++ (b ∷ [])) came.0 })
  after_within (Within.Character e GraphicArea.GL p) pre has so_far came =
      after_of (byte_in GraphicArea.GL (set_in t e).kind b) (Within.Character e GraphicArea.GL p) e (with_byte p b) (pre ++ (b ∷ []))
      (later_begun e p pre (omega (arith, so_far.1, few_bytes (set_in t e).count)) came)
  after_within (Within.Character e GraphicArea.GR p) pre has so_far came = absurd came

  pub after_byte : (w : Within) (pre : List ℕ) → SoFar t w → Came gl w pre → Outcome t gl (pre ++ (b ∷ [])) (answer_in_step w b (here w))
  unfolding answer_in_step
  after_byte w pre so_far came =
      gives_by (After (pre ++ (b ∷ []))) (form_has Form.Seven b) (λ has. after_within w pre has so_far came)
      (λ no. refusing Refusal.ByteOfEightBits refl)
