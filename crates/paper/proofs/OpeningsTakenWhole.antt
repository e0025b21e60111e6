-- Where an opening is read in step it can be taken whole, and a mark is met nowhere else. On the ground an unbroken opening is six
-- designations and a mark, and the reader after it is the starting reader. Wherever no opening begins, a byte is no mark, and what
-- follows reads as by a reader that has recorded nothing: what the record holds of an opening that is not completed here does not tell.
use Prim.Native.Nat.{ℕ, zero, suc, ◌<◌, ◌≤◌}
use mathlib.Core.Path.{◌≡◌, refl, sym, ap, ◌∙◌, subst}
use mathlib.Core.Logic.{◌⊎◌, inl, inr, ⊎_elim}
use mathlib.Core.Bool.{Bool, true, false}
use mathlib.Core.List.{List, [], ◌∷◌, ◌++◌}
use native.Mathlib.Omega.{arith}
use borrow.Author.Tests.{eqb-true, eqb-false}
use lib.Dec.{eqb}
use lib.ListN.{drop, length, length-append}
use Rattle.paper.specs.Choice.{between}
use Rattle.paper.specs.Words.{Form, Seven, Eight, ControlElement, Element, G0, G1, G2, G3, Sets, GraphicArea, Within, Standing}
use Rattle.paper.specs.Words.{Reader, Answer, Answered}
use Rattle.paper.specs.CodeTable.{form_has, column_area, form_has_column, position_of, esc}
use Rattle.paper.specs.Sets.{set_byte}
use Rattle.paper.specs.Starting.{starting_sets, started, opening}
use Rattle.paper.specs.Sequences.{sequence_byte, c1_function, shift_or_other, meaning_of_none, designation}
use Rattle.paper.specs.Sequences.{by_intermediate, meaning_of_one}
use Rattle.paper.specs.Searching.{begins_with, matched_with, one_more}
use Rattle.paper.specs.Marks.{recording, recorded}
use Rattle.paper.specs.Characters.{standing_at, c0_byte, byte_in}
use Rattle.paper.specs.Answering.{means, answer_within, answer_in_step, answer_lost, answer_standing, answer_to}
use Rattle.paper.specs.Texts.{reader_after}
use Rattle.paper.specs.WrittenForms.{Entry, given, mark, with_answer, sequence_from}
use Rattle.paper.proofs.Choices.{impossible, gives_has}
use Rattle.paper.proofs.LawfulAnswers.{shows_on}
use Rattle.paper.proofs.AnswersWithoutTheRecord.{answer_of}
use Rattle.paper.proofs.ListsThatEnd.{begins_rest, rest_begins}
use Rattle.paper.proofs.BeginningsThatFallBack.{matched_on, none_matched, without, less_without}
use Rattle.paper.proofs.RecordsNotCompleted.{NotBegins, length_of, not_complete, next, from_gone, from_gone_lem, without_mark, no_mark}
use Rattle.paper.proofs.RecordsNotCompleted.{by_the_standings, Alike, form_of, not_completed}

-- ---- an opening, whole

-- its designations, the mark, and what follows
abbrev pub with_opening : List Entry → List Entry
with_opening l =
    given (Answer.DesignateControls ControlElement.C0 starting_sets.c0) ∷
    given (Answer.DesignateControls ControlElement.C1 starting_sets.c1) ∷ given (Answer.Designate G0 starting_sets.g0) ∷
    given (Answer.Designate G1 starting_sets.g1) ∷ given (Answer.Designate G2 starting_sets.g2) ∷
    given (Answer.Designate G3 starting_sets.g3) ∷ mark ∷ l

abbrev pub on_ground : Form → Sets → Element → Element → Reader
on_ground m t l g = record { form = m; sets = t; gl = l; gr = g; gone = 0; standing = Standing.InStep Within.Ground }

pub opening_whole : (m : Form) (t : Sets) (l g : Element) → (m ≡ Seven → g ≡ G1) → (rest : List ℕ) →
    sequence_from (on_ground m t l g) (opening m ++ rest) ≡ with_opening (sequence_from (started m) rest)
unfolding between column_area form_has_column position_of set_byte sequence_byte c1_function shift_or_other meaning_of_none designation
    by_intermediate meaning_of_one matched_with one_more c0_byte byte_in means answer_in_step answer_lost answer_to
opening_whole Seven t l g shows rest = ap (λ (e : Element). sequence_from (on_ground Seven t l e) (opening Seven ++ rest)) (shows refl)
opening_whole Eight t l g shows rest = refl

pub reader_past_opening : (m : Form) (t : Sets) (l g : Element) → (m ≡ Seven → g ≡ G1) → (rest : List ℕ) →
    reader_after (on_ground m t l g) (opening m ++ rest) ≡ reader_after (started m) rest
unfolding between column_area form_has_column position_of set_byte sequence_byte c1_function shift_or_other meaning_of_none designation
    by_intermediate meaning_of_one matched_with one_more c0_byte byte_in means answer_in_step answer_lost answer_to
reader_past_opening Seven t l g shows rest = ap (λ (e : Element). reader_after (on_ground Seven t l e) (opening Seven ++ rest)) (shows refl)
reader_past_opening Eight t l g shows rest = refl

-- ---- a byte where no opening begins

some_bytes : (m : Form) → 1 < length_of m
some_bytes Seven = omega arith
some_bytes Eight = omega arith

module _ (r : Reader) (b : ℕ) (bs : List ℕ) where
  abbrev pub Alone : Type 0
  Alone = sequence_from (recording 0 r) (b ∷ bs) ≡ with_answer (answer_of r b).answer (sequence_from (recording 0 (answer_of r b).reader) bs)

  nothing_gone : from_gone r b bs 0 ≡ without_mark r b bs 0
  nothing_gone = no_mark r b bs 0 some ∙ by (next r b bs).standing r.standing
    where
      some : 0 < length_of r.form
      some = omega (arith, some_bytes r.form)

      by : (after before : Standing) → without_mark r b bs (recorded after before r.form 0) ≡ without_mark r b bs 0
      by (Standing.InStep w) (Standing.InStep v) = rw (not_complete r.form 0 some)
      by (Standing.InStep w) (Standing.Lost i n) = refl
      by (Standing.Lost i n) before = refl

  no_escape : eqb b esc ≡ false → Alone
  unfolding matched_with
  no_escape other =
      from_gone_lem r b bs 0 ∙
      (ap (from_gone r b bs) (none_matched (opening r.form) b (λ q. absurd (eqb-false b esc other q))) ∙ nothing_gone)

  -- the first byte of an opening, where what follows does not tell
  escape : eqb b esc ≡ true → from_gone r b bs 1 ≡ from_gone r b bs 0 → Alone
  unfolding matched_with
  escape e same =
      let one : matched_with r.form 0 b ≡ 1 =
      ap (matched_with r.form 0) (eqb-true b esc e) ∙ matched_on (opening r.form) 0 (omega (arith, some_bytes r.form)) in
      from_gone_lem r b bs 0 ∙ (ap (from_gone r b bs) one ∙ (same ∙ nothing_gone))

  pub byte_alone : NotBegins (opening r.form) (b ∷ bs) → Alone
  byte_alone stops = by (eqb b esc) refl
    where
      by : (t : Bool) → eqb b esc ≡ t → Alone
      by false e = no_escape e
      by true e =
          let m : Form = r.form in
          let more : 1 < length_of m = some_bytes m in
          let none : without (opening m) 1 ≡ 0 = omega (arith, less_without (opening m) 1 (omega arith) (omega arith)) in
          let rest = subst (Alike 1 bs (next r b bs)) (form_of r b) (not_completed bs (next r b bs) 1 (omega arith)) more
          (λ tail is. stops tail (ap (λ (c : ℕ). c ∷ bs) (eqb-true b esc e) ∙ ap (λ (l : List ℕ). esc ∷ l) is)) in
          escape e (by_the_standings r b bs 1 0 more (omega arith)
          (rest ∙ ap (λ (j : ℕ). sequence_from (recording j (next r b bs)) bs) none))

-- ---- and where the reader is not on the ground, whatever follows

abbrev IsLost : Standing → Type 0
IsLost (Standing.InStep w) = ⊥
IsLost (Standing.Lost k n) = Unit {0}

abbrev pub Elsewhere : Standing → Type 0
Elsewhere (Standing.InStep Within.Ground) = ⊥
Elsewhere (Standing.InStep (Within.Sequence s)) = Unit {0}
Elsewhere (Standing.InStep (Within.SingleShift e)) = Unit {0}
Elsewhere (Standing.InStep (Within.Character e a p)) = Unit {0}
Elsewhere (Standing.Lost k n) = Unit {0}

-- inside a sequence, after a single shift and inside a character the first byte of an opening is refused
escape_refused : (w : Within) → Elsewhere (Standing.InStep w) → (x : Reader) → IsLost (answer_in_step w esc x).reader.standing
unfolding between set_byte sequence_byte byte_in answer_in_step
escape_refused w elsewhere x =
    gives_has (λ (a : Answered). IsLost a.reader.standing) (form_has x.form esc) (by w elsewhere) tt
  where
    by : (w : Within) → Elsewhere (Standing.InStep w) → IsLost (answer_within w esc x).reader.standing
    by Within.Ground h = absurd h
    by (Within.Sequence s) h = tt
    by (Within.SingleShift e) h = tt
    by (Within.Character e GraphicArea.GL p) h = tt
    by (Within.Character e GraphicArea.GR p) h = tt

module _ (r : Reader) (b : ℕ) (bs : List ℕ) where
  -- a record that is taken over neither way
  not_taken_over : ((k : ℕ) → recorded (next r b bs).standing r.standing r.form k ≡ 0) → from_gone r b bs 1 ≡ from_gone r b bs 0
  not_taken_over none =
      let more : 1 < length_of r.form = some_bytes r.form in
      no_mark r b bs 1 more ∙
      (ap (without_mark r b bs) (none 1 ∙ sym (none 0)) ∙ sym (no_mark r b bs 0 (omega arith)))

  pub byte_elsewhere : Elsewhere r.standing → Alone r b bs
  byte_elsewhere elsewhere = by (eqb b esc) refl
    where
      nothing : (before after : Standing) → IsLost before ⊎ IsLost after → (k : ℕ) → recorded after before r.form k ≡ 0
      nothing before (Standing.Lost i n) h k = refl
      nothing (Standing.Lost i n) (Standing.InStep w) h k = refl
      nothing (Standing.InStep v) (Standing.InStep w) h k = absurd (⊎_elim (λ x. x) (λ x. x) h)

      lost_then : (s : Standing) → Elsewhere s → IsLost s ⊎ IsLost (answer_standing s esc (recording 0 r)).reader.standing
      lost_then (Standing.InStep w) h = inr (escape_refused w h (recording 0 r))
      lost_then (Standing.Lost k n) h = inl tt

      by : (t : Bool) → eqb b esc ≡ t → Alone r b bs
      by false e = no_escape r b bs e
      by true e =
          escape r b bs e
          (not_taken_over (nothing r.standing (next r b bs).standing
          (subst (λ (c : ℕ). IsLost r.standing ⊎ IsLost (answer_of r c).reader.standing) (sym (eqb-true b esc e))
          (lost_then r.standing elsewhere))))

-- ---- so every text is read byte by byte, but for openings on the ground, which are taken whole

-- an opening begins here, and the reader is on the ground
pub record OpensHere (r : Reader) (text : List ℕ) : Type 0 where
  pub ground : r.standing ≡ Standing.InStep Within.Ground
  pub rest : List ℕ
  pub is : text ≡ opening r.form ++ rest

pub whole_or_alone : (r : Reader) (b : ℕ) (bs : List ℕ) → OpensHere r (b ∷ bs) ⊎ Alone r b bs
whole_or_alone r b bs = by (begins_with (b ∷ bs) (opening r.form)) refl
  where
    on : (s : Standing) → r.standing ≡ s → begins_with (b ∷ bs) (opening r.form) ≡ true → OpensHere r (b ∷ bs) ⊎ Alone r b bs
    on (Standing.InStep Within.Ground) e h =
        inl (record { ground = e; rest = drop (length_of r.form) (b ∷ bs); is = begins_rest (b ∷ bs) (opening r.form) h })
    on (Standing.InStep (Within.Sequence s)) e h = inr (byte_elsewhere r b bs (subst Elsewhere (sym e) tt))
    on (Standing.InStep (Within.SingleShift x)) e h = inr (byte_elsewhere r b bs (subst Elsewhere (sym e) tt))
    on (Standing.InStep (Within.Character x a p)) e h = inr (byte_elsewhere r b bs (subst Elsewhere (sym e) tt))
    on (Standing.Lost k n) e h = inr (byte_elsewhere r b bs (subst Elsewhere (sym e) tt))

    by : (t : Bool) → begins_with (b ∷ bs) (opening r.form) ≡ t → OpensHere r (b ∷ bs) ⊎ Alone r b bs
    by true e = on r.standing refl e
    by false e = inr (byte_alone r b bs (λ rest is.
        let there : begins_with (b ∷ bs) (opening r.form) ≡ true =
        ap (λ (l : List ℕ). begins_with l (opening r.form)) is ∙ rest_begins (opening r.form) rest in
        impossible (cc)))

-- in 7-bit form GR shows G1, as it does after any text
abbrev pub ShowsG1 : Reader → Type 0
ShowsG1 r = r.form ≡ Seven → r.gr ≡ G1

pub shows_of : (r : Reader) (b : ℕ) → ShowsG1 r → ShowsG1 (answer_of r b).reader
unfolding answer_to
shows_of r b shows = shows_on r b shows

module _
    (Q : Reader → List ℕ → List Entry → Type 0)
    (at_end : (r : Reader) → Q r [] [])
    (byte : (r : Reader) (b : ℕ) (bs : List ℕ) (l : List Entry) → Q (answer_of r b).reader bs l →
    Q r (b ∷ bs) (with_answer (answer_of r b).answer l))
    (whole : (r : Reader) (rest : List ℕ) (l : List Entry) → r.standing ≡ Standing.InStep Within.Ground → ShowsG1 r →
    Q (started r.form) rest l → Q r (opening r.form ++ rest) (with_opening l)) where
  abbrev Holds : ℕ → Type 0
  Holds n = (text : List ℕ) (r : Reader) → length text ≤ n → ShowsG1 r → Q r text (sequence_from (recording 0 r) text)

  taken_whole : (n : ℕ) → Holds n → (b : ℕ) (bs : List ℕ) (r : Reader) → length (b ∷ bs) ≤ suc n → ShowsG1 r → OpensHere r (b ∷ bs) →
      Q r (b ∷ bs) (sequence_from (recording 0 r) (b ∷ bs))
  taken_whole n shorter b bs r fits shows opens =
      let m : Form = r.form in
      let rest : List ℕ = opens.rest in
      let l : List Entry = sequence_from (started m) rest in
      let fewer : length rest ≤ n = omega (arith, length-append (opening m) rest, ap length opens.is, some_bytes m) in
      let same : sequence_from (recording 0 r) (b ∷ bs) ≡ with_opening l =
      ap (sequence_from (recording 0 r)) opens.is ∙
      (ap (λ (s : Standing). sequence_from (recording 0 (standing_at s r)) (opening m ++ rest)) opens.ground ∙
      opening_whole m r.sets r.gl r.gr shows rest) in
      subst (Q r (b ∷ bs)) (sym same)
      (subst (λ (text : List ℕ). Q r text (with_opening l)) (sym opens.is)
      (whole r rest l opens.ground shows (shorter rest (started m) fewer (λ seven. refl))))

  one_longer : (n : ℕ) → Holds n → Holds (suc n)
  one_longer n shorter [] r fits shows = at_end r
  one_longer n shorter (b ∷ bs) r fits shows = ⊎_elim
      (taken_whole n shorter b bs r fits shows)
      (λ (alone : Alone r b bs).
      subst (Q r (b ∷ bs)) (sym alone)
      (byte r b bs (sequence_from (recording 0 (answer_of r b).reader) bs)
      (shorter bs (answer_of r b).reader (omega arith) (shows_of r b shows))))
      (whole_or_alone r b bs)

  none : Holds zero
  none [] r fits shows = at_end r
  none (b ∷ bs) r fits shows = absurd (omega arith)

  of_length : (n : ℕ) → Holds n
  of_length zero = none
  of_length (suc n) = one_longer n (of_length n)

  pub by_openings : (text : List ℕ) (r : Reader) → ShowsG1 r → Q r text (sequence_from (recording 0 r) text)
  by_openings text r shows = of_length (length text) text r (omega arith) shows
