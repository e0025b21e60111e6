-- What is written for an answer that can be written is read as that answer, in both forms, and leaves the reader with the writer's sets
-- and, in 7-bit form, with GL at the element that the writer has there. So a sequence that can be written is read as that sequence.
use Prim.Native.Nat.{ℕ, zero, suc, ◌-◌, ◌<◌, ◌≤◌}
use mathlib.Core.Path.{◌≡◌, refl, sym, ap, ◌∙◌, subst}
use mathlib.Core.Logic.{⊎_elim}
use mathlib.Core.Bool.{true, false}
use mathlib.Core.List.{List, ◌∷◌, ◌++◌, append_assoc, map}
use native.Mathlib.Omega.{arith}
use native.Mathlib.Nat.{eq-or-lt_of_le}
use lib.ListN.{take, drop, length, length-drop, take-append-drop}
use lib.Seq.{take-append-le, take_at}
use Rattle.paper.specs.Words.{Form, Seven, Eight, ControlElement, Element, G0, G1, G2, G3, Kind, Of94, Of96, Set, Sets, OfSet}
use Rattle.paper.specs.Words.{Intermediates, SS2, SS3, Meaning, Function, Shifts, GraphicArea, PositionBytes, Within, Reader, Answer}
use Rattle.paper.specs.Sets.{space, delete, bytes_of, set_in, set_byte}
use Rattle.paper.specs.CodeTable.{si}
use Rattle.paper.specs.Choice.{between}
use Rattle.paper.specs.Starting.{started, opening}
use Rattle.paper.specs.Searching.{ends_with}
use Rattle.paper.specs.Marks.{recording}
use Rattle.paper.specs.Sequences.{function_of_ss2, function_of_ss3, c1_function, intermediate_of_controls}
use Rattle.paper.specs.Characters.{says, shifts, bytes_so_far}
use Rattle.paper.specs.Answering.{means, end_of_text}
use Rattle.paper.specs.Results.{position_values}
use Rattle.paper.specs.WrittenForms.{Entry, given, left_out, sequence_from, intermediates_of, function_bytes, byte_from}
use Rattle.paper.specs.WrittenForms.{character_bytes, bytes_of_answer, Writer}
use Rattle.paper.specs.WrittenForms.{Locking, none, shift_in, shift_out, locking_bytes, gl_with, before_character, before_space}
use Rattle.paper.specs.WrittenForms.{locking_in_seven, written_for, sets_with, writer_at_start, writer_after, written_from}
use Rattle.paper.proofs.Choices.{impossible}
use Rattle.paper.proofs.WhatCanBeWritten.{AllOfSet, MayHave, CanBeWritten, Steps, ended, said, opened, entries_of, AllCanBeWritten}
use Rattle.paper.proofs.ListsThatEnd.{tail_ends}
use Rattle.paper.proofs.OpeningsAmongBytes.{no_overlap}
use Rattle.paper.proofs.BeginningsThatFallBack.{without, less_without}
use Rattle.paper.proofs.RecordsNotCompleted.{NotBegins, not_completed}
use Rattle.paper.proofs.OpeningsTakenWhole.{with_opening, opening_whole, reader_past_opening}
use Rattle.paper.proofs.WhatIsReadCanBeWritten.{past, refused_after}
use Rattle.paper.proofs.WrittenBytes.{both_have_gl, final_is, function_low}
use Rattle.paper.proofs.WrittenDesignations.{intermediate_of_controls_lem, designation_leads, designation_means, controls_mean}
use Rattle.paper.proofs.ReadingOn.{ReadsAs, all_longer, reads_on, reader_with, NoShiftIn, reads_si, reads_so}
use Rattle.paper.proofs.WrittenCharactersReadBack.{begins_in_gl, begins_in_gr, begins_shifted, reads_character}
use Rattle.paper.proofs.WrittenSequencesReadBack.{reads_sequence, reads_c0, reads_space, reads_delete, reads_function}

-- ---- what GL shows where an answer's bytes are written

abbrev pub Shows : Form → Element → Element → Type 0
Shows m G0 gl = gl ≡ G0
Shows Seven G1 gl = gl ≡ G1
Shows Eight G1 gl = Unit {0}
Shows m G2 gl = Unit {0}
Shows m G3 gl = Unit {0}

abbrev pub Ready : Form → Sets → Element → Answer → Type 0
Ready m t gl Answer.NothingYet = Unit {0}
Ready m t gl (Answer.Char e x p) = Shows m e gl
Ready m t gl Answer.Space = (set_in t gl).kind ≡ Of94
Ready m t gl Answer.Delete = (set_in t gl).kind ≡ Of94
Ready m t gl (Answer.Control w f n) = Unit {0}
Ready m t gl (Answer.DesignateControls w f) = Unit {0}
Ready m t gl (Answer.Designate e x) = Unit {0}
Ready m t gl (Answer.Shift h) = Unit {0}
Ready m t gl (Answer.Other s f) = Unit {0}
Ready m t gl (Answer.Refused r) = Unit {0}
Ready m t gl Answer.Skipped = Unit {0}
Ready m t gl (Answer.InStep n) = Unit {0}

-- in 7-bit form, after the locking shift
shows_after : (e gl : Element) → Shows Seven e (gl_with (before_character e gl) gl)
shows_after G0 G0 = refl
shows_after G0 G1 = refl
shows_after G0 G2 = refl
shows_after G0 G3 = refl
shows_after G1 G0 = refl
shows_after G1 G1 = refl
shows_after G1 G2 = refl
shows_after G1 G3 = refl
shows_after G2 gl = tt
shows_after G3 gl = tt

of_94_after : (k : Kind) (t : Sets) (gl : Element) → (set_in t gl).kind ≡ k → t.g0.kind ≡ Of94 →
    (set_in t (gl_with (before_space k) gl)).kind ≡ Of94
of_94_after Of94 t gl e g0 = e
of_94_after Of96 t gl e g0 = g0

ready_in_seven : (a : Answer) (w : Writer) → w.sets.g0.kind ≡ Of94 → Ready Seven w.sets (gl_with (locking_in_seven w a) w.gl) a
ready_in_seven Answer.NothingYet w g0 = tt
ready_in_seven (Answer.Char e x p) w g0 = shows_after e w.gl
ready_in_seven Answer.Space w g0 = of_94_after (set_in w.sets w.gl).kind w.sets w.gl refl g0
ready_in_seven Answer.Delete w g0 = of_94_after (set_in w.sets w.gl).kind w.sets w.gl refl g0
ready_in_seven (Answer.Control v f n) w g0 = tt
ready_in_seven (Answer.DesignateControls v f) w g0 = tt
ready_in_seven (Answer.Designate e x) w g0 = tt
ready_in_seven (Answer.Shift h) w g0 = tt
ready_in_seven (Answer.Other s f) w g0 = tt
ready_in_seven (Answer.Refused r) w g0 = tt
ready_in_seven Answer.Skipped w g0 = tt
ready_in_seven (Answer.InStep n) w g0 = tt

-- in 8-bit form, where GL shows G0
shows_in_eight : (e : Element) → Shows Eight e G0
shows_in_eight G0 = refl
shows_in_eight G1 = tt
shows_in_eight G2 = tt
shows_in_eight G3 = tt

ready_in_eight : (a : Answer) (t : Sets) → t.g0.kind ≡ Of94 → Ready Eight t G0 a
ready_in_eight Answer.NothingYet t g0 = tt
ready_in_eight (Answer.Char e x p) t g0 = shows_in_eight e
ready_in_eight Answer.Space t g0 = g0
ready_in_eight Answer.Delete t g0 = g0
ready_in_eight (Answer.Control v f n) t g0 = tt
ready_in_eight (Answer.DesignateControls v f) t g0 = tt
ready_in_eight (Answer.Designate e x) t g0 = tt
ready_in_eight (Answer.Shift h) t g0 = tt
ready_in_eight (Answer.Other s f) t g0 = tt
ready_in_eight (Answer.Refused r) t g0 = tt
ready_in_eight Answer.Skipped t g0 = tt
ready_in_eight (Answer.InStep n) t g0 = tt

-- ---- an answer, but for the locking shift before it

module _ (t : Sets) (gl : Element) (bs : List ℕ) (l : List Entry) where
  abbrev pub ground : Form → Reader
  ground m = reader_with m t gl G1 Within.Ground

  module _ (p : PositionBytes) where
    -- what a character of an element needs
    abbrev Is : Form → Element → Type 0
    Is m e = (bytes_so_far p ≡ bytes_of (set_in t e).count) × AllOfSet (set_in t e).kind p × ReadsAs (ground m) bs l

    abbrev left : List ℕ
    left = map (byte_from GraphicArea.GL) (position_values p) ++ bs

    in_gl : (m : Form) (e : Element) → gl ≡ e → Is m e → ReadsAs (ground m) left (given (Answer.Char e (set_in t e) p) ∷ l)
    in_gl m e shows h =
        reads_character m t gl G1 p Within.Ground e GraphicArea.GL bs l (begins_in_gl m t gl G1 e shows) (both_have_gl m)
        h.0 h.1 h.2

    shifted : (m : Form) (e : Element) → Is m e →
        ReadsAs (reader_with m t gl G1 (Within.SingleShift e)) left (given (Answer.Char e (set_in t e) p) ∷ l)
    shifted m e h =
        reads_character m t gl G1 p (Within.SingleShift e) e GraphicArea.GL bs l (begins_shifted m t gl G1 e) (both_have_gl m)
        h.0 h.1 h.2

    in_g2 : (m : Form) → Is m G2 → ReadsAs (ground m) (function_bytes m function_of_ss2 ++ left) (given (Answer.Char G2 (set_in t G2) p) ∷ l)
    unfolding means c1_function
    in_g2 m h =
        reads_function m t gl G1 function_of_ss2 (Shifts SS2) (shifts SS2 (ground m)) left (given (Answer.Char G2 (set_in t G2) p) ∷ l)
        (omega arith) refl (λ f v. refl) tt (shifted m G2 h)

    in_g3 : (m : Form) → Is m G3 → ReadsAs (ground m) (function_bytes m function_of_ss3 ++ left) (given (Answer.Char G3 (set_in t G3) p) ∷ l)
    unfolding means c1_function
    in_g3 m h =
        reads_function m t gl G1 function_of_ss3 (Shifts SS3) (shifts SS3 (ground m)) left (given (Answer.Char G3 (set_in t G3) p) ∷ l)
        (omega arith) refl (λ f v. refl) tt (shifted m G3 h)

    character_back : (m : Form) (e : Element) → Shows m e gl → Is m e →
        ReadsAs (ground m) (character_bytes m e p ++ bs) (given (Answer.Char e (set_in t e) p) ∷ l)
    character_back Seven G0 shows h = in_gl Seven G0 shows h
    character_back Seven G1 shows h = in_gl Seven G1 shows h
    character_back Seven G2 shows h = in_g2 Seven h
    character_back Seven G3 shows h = in_g3 Seven h
    character_back Eight G0 shows h = in_gl Eight G0 shows h
    character_back Eight G1 shows h =
        reads_character Eight t gl G1 p Within.Ground G1 GraphicArea.GR bs l (begins_in_gr Eight t gl G1 refl) refl h.0 h.1 h.2
    character_back Eight G2 shows h = in_g2 Eight h
    character_back Eight G3 shows h = in_g3 Eight h

  pub reads_back : (a : Answer) (m : Form) → left_out a ≡ false → CanBeWritten t a → Ready m t gl a →
      ReadsAs (reader_with m (sets_with t a) gl G1 Within.Ground) bs l → ReadsAs (ground m) (bytes_of_answer m a ++ bs) (given a ∷ l)
  unfolding means
  reads_back Answer.NothingYet m stays h ready more = impossible (cc)
  reads_back (Answer.Char e x p) m stays h ready more =
      subst (λ (x : Set). ReadsAs (ground m) (character_bytes m e p ++ bs) (given (Answer.Char e x p) ∷ l)) (sym h.of_element)
      (character_back p m e ready (h.whole, h.of_set, more))
  reads_back Answer.Space m stays h ready more =
      reads_on (ground m) space (says Answer.Space (ground m)) bs l (reads_space m t gl G1 ready) tt more
  reads_back Answer.Delete m stays h ready more =
      reads_on (ground m) delete (says Answer.Delete (ground m)) bs l (reads_delete m t gl G1 ready) tt more
  reads_back (Answer.Control ControlElement.C0 f n) m stays h ready more =
      subst (λ (f : ℕ). ReadsAs (ground m) (n ∷ bs) (given (Answer.Control ControlElement.C0 f n) ∷ l)) (sym h.of_element)
      (reads_on (ground m) n (says (Answer.Control ControlElement.C0 t.c0 n) (ground m)) bs l (reads_c0 m t gl G1 f n h)
      tt more)
  reads_back (Answer.Control ControlElement.C1 f n) m stays h ready more =
      subst (λ (f : ℕ). ReadsAs (ground m) (function_bytes m n ++ bs) (given (Answer.Control ControlElement.C1 f n) ∷ l)) (sym h.of_element)
      (reads_function m t gl G1 n (Function n) (says (Answer.Control ControlElement.C1 t.c1 n) (ground m)) bs l
      (function_low n h.no_shift) h.no_shift (λ f v. refl) tt more)
  reads_back (Answer.DesignateControls w f) m stays h ready more =
      reads_sequence m t gl G1 (Intermediates.One (intermediate_of_controls w)) f (Meaning.DesignateControls w) bs l
      (intermediate_of_controls_lem w) h (controls_mean w m f (final_is f h)) tt more
  reads_back (Answer.Designate e x) m stays h ready more =
      reads_sequence m t gl G1 (intermediates_of x.count x.kind e x.last) x.last
      (Meaning.Designate e x.kind x.count) bs l (designation_leads x.count x.kind e x.last) h.ends
      (designation_means x.count x.kind e x.last m (final_is x.last h.ends) h.into h.lasts) tt more
  reads_back (Answer.Shift h) m stays c ready more = impossible (cc)
  reads_back (Answer.Other s f) m stays h ready more =
      reads_sequence m t gl G1 s f Meaning.Other bs l h.leads h.ends (h.other m) tt more
  reads_back (Answer.Refused r) m stays h ready more = absurd h
  reads_back Answer.Skipped m stays h ready more = absurd h
  reads_back (Answer.InStep n) m stays h ready more = absurd h

-- ---- a sequence

-- 8-bit form shows G0 throughout; GR shows G1
abbrev pub shown : Form → Element → Element
shown Seven gl = gl
shown Eight gl = G0

-- the reader of what a writer writes next
abbrev pub reader_of : Form → Writer → Reader
reader_of m w = reader_with m w.sets (shown m w.gl) G1 Within.Ground

-- in 7-bit form no answer's bytes begin with SI
not_shift_in : (k : Kind) (q : ℕ) → set_byte k q ≡ OfSet → q ≡ si → ⊥
unfolding set_byte between
not_shift_in k q of_set e = impossible (cc (ap (set_byte k) e))

character_begins : (k : Kind) (p : PositionBytes) (bs : List ℕ) → AllOfSet k p →
    NoShiftIn (map (byte_from GraphicArea.GL) (position_values p) ++ bs)
character_begins k (PositionBytes.One a) bs h = not_shift_in k a h
character_begins k (PositionBytes.Two a b) bs h = not_shift_in k a h.0
character_begins k (PositionBytes.Three a b c) bs h = not_shift_in k a h.0

-- a locking shift, and then what it is written for
reads_locking : (t : Sets) (gl : Element) (k : Locking) (bs : List ℕ) (l : List Entry) → (k ≡ shift_out → NoShiftIn bs) →
    ReadsAs (reader_with Seven t (gl_with k gl) G1 Within.Ground) bs l → ReadsAs (reader_with Seven t gl G1 Within.Ground) (locking_bytes k ++ bs) l
reads_locking t gl none bs l other more = more
reads_locking t gl shift_in bs l other more = reads_si t gl G1 bs l more
reads_locking t gl shift_out bs l other more = reads_so t gl G1 bs l (other refl) more

-- SO is written before characters of G1 alone
space_locking : (k : Kind) → before_space k ≡ shift_out → ⊥
space_locking Of94 e = impossible (cc)
space_locking Of96 e = impossible (cc)

out_before : (a : Answer) (w : Writer) (bs : List ℕ) → CanBeWritten w.sets a → locking_in_seven w a ≡ shift_out →
    NoShiftIn (bytes_of_answer Seven a ++ bs)
out_before Answer.NothingYet w bs h e = impossible (cc)
out_before (Answer.Char G0 x p) w bs h e = character_begins (set_in w.sets G0).kind p bs h.of_set
out_before (Answer.Char G1 x p) w bs h e = character_begins (set_in w.sets G1).kind p bs h.of_set
out_before (Answer.Char G2 x p) w bs h e = impossible (cc)
out_before (Answer.Char G3 x p) w bs h e = impossible (cc)
out_before Answer.Space w bs h e = absurd (space_locking (set_in w.sets w.gl).kind e)
out_before Answer.Delete w bs h e = absurd (space_locking (set_in w.sets w.gl).kind e)
out_before (Answer.Control v f n) w bs h e = impossible (cc)
out_before (Answer.DesignateControls v f) w bs h e = impossible (cc)
out_before (Answer.Designate g x) w bs h e = impossible (cc)
out_before (Answer.Shift s) w bs h e = impossible (cc)
out_before (Answer.Other s f) w bs h e = impossible (cc)
out_before (Answer.Refused r) w bs h e = absurd h
out_before Answer.Skipped w bs h e = absurd h
out_before (Answer.InStep n) w bs h e = absurd h

one_answer : (m : Form) (w : Writer) (a : Answer) (bs : List ℕ) (l : List Entry) → w.sets.g0.kind ≡ Of94 → left_out a ≡ false →
    CanBeWritten w.sets a → ReadsAs (reader_of m (writer_after m w a)) bs l → ReadsAs (reader_of m w) (written_for m w a ++ bs) (given a ∷ l)
one_answer Seven w a bs l g0 stays h more =
    let k : Locking = locking_in_seven w a in
    subst (λ (xs : List ℕ). ReadsAs (reader_of Seven w) xs (given a ∷ l)) (sym (append_assoc (locking_bytes k) (bytes_of_answer Seven a) bs))
    (reads_locking w.sets w.gl k (bytes_of_answer Seven a ++ bs) (given a ∷ l) (out_before a w bs h)
    (reads_back w.sets (gl_with k w.gl) bs l a Seven stays h (ready_in_seven a w g0) more))
one_answer Eight w a bs l g0 stays h more = reads_back w.sets G0 bs l a Eight stays h (ready_in_eight a w.sets g0) more

-- G0 stays of 94 type
of_94 : (k : Kind) → MayHave G0 k → k ≡ Of94
of_94 Of94 h = refl
of_94 Of96 h = absurd h

pub keeps_g0 : (a : Answer) (t : Sets) → CanBeWritten t a → t.g0.kind ≡ Of94 → (sets_with t a).g0.kind ≡ Of94
keeps_g0 Answer.NothingYet t h g0 = g0
keeps_g0 (Answer.Char e x p) t h g0 = g0
keeps_g0 Answer.Space t h g0 = g0
keeps_g0 Answer.Delete t h g0 = g0
keeps_g0 (Answer.Control w f n) t h g0 = g0
keeps_g0 (Answer.DesignateControls ControlElement.C0 f) t h g0 = g0
keeps_g0 (Answer.DesignateControls ControlElement.C1 f) t h g0 = g0
keeps_g0 (Answer.Designate G0 x) t h g0 = of_94 x.kind h.into
keeps_g0 (Answer.Designate G1 x) t h g0 = g0
keeps_g0 (Answer.Designate G2 x) t h g0 = g0
keeps_g0 (Answer.Designate G3 x) t h g0 = g0
keeps_g0 (Answer.Shift s) t h g0 = g0
keeps_g0 (Answer.Other s f) t h g0 = g0
keeps_g0 (Answer.Refused r) t h g0 = g0
keeps_g0 Answer.Skipped t h g0 = g0
keeps_g0 (Answer.InStep n) t h g0 = g0

-- ---- an opening, which is written whole

-- no opening goes on from a part of another
not_its_own_rest : (m : Form) (k : ℕ) (rest : List ℕ) → 1 ≤ k → k < length (opening m) → NotBegins (drop k (opening m)) (opening m ++ rest)
not_its_own_rest m k rest some less tail is =
    let o : List ℕ = opening m in
    let n : ℕ = length o - k in
    let long : length (drop k o) ≡ n = length-drop k o in
    let same : take n o ≡ drop k o =
    sym (take-append-le n o rest (omega arith)) ∙ ap (take n) is ∙ take_at (drop k o) tail n long in
    let overlaps : ends_with o (take n o) ≡ true =
    tail_ends o (take n o) (record { front = take k o; is = sym (take-append-drop k o) ∙ ap (λ (l : List ℕ). take k o ++ l) (sym same) }) in
    let none : ends_with o (take n o) ≡ false = no_overlap m n (omega arith) (omega arith) in
    impossible (cc)

-- so what was recorded before one does not tell
module _ (r : Reader) (rest : List ℕ) where
  abbrev from : ℕ → List Entry
  from k = sequence_from (recording k r) (opening r.form ++ rest)

  from_nothing : (n k : ℕ) → k ≤ n → k < length (opening r.form) → from k ≡ from 0
  from_nothing zero k h less = ap from (omega arith)
  from_nothing (suc n) k h less = ⊎_elim
      (λ (none : 0 ≡ k). ap from (sym none))
      (λ (some : 0 < k).
      let o : List ℕ = opening r.form in
      let fewer : without o k < k = less_without o k some (omega arith) in
      not_completed (o ++ rest) r k some less (not_its_own_rest r.form k rest some less) ∙
      from_nothing n (without o k) (omega arith) (omega arith))
      (eq-or-lt_of_le (omega arith))

pub written_opening : (m : Form) (w : Writer) (l : List Entry) → written_from m w (with_opening l) ≡ opening m ++ written_from m writer_at_start l
written_opening Seven w l = refl
written_opening Eight w l = refl

pub reads_opening : (m : Form) (t : Sets) (gl : Element) (bs : List ℕ) (l : List Entry) → ReadsAs (started m) bs l →
    ReadsAs (reader_with m t gl G1 Within.Ground) (opening m ++ bs) (with_opening l)
reads_opening m t gl bs l more =
    let r : Reader = reader_with m t gl G1 Within.Ground in
    record {
      never = λ at. refused_after m t gl G1 at bs (λ seven. refl) ∙ more.never (past at (opening m));
      whole = ap end_of_text (reader_past_opening m t gl G1 (λ seven. refl) bs) ∙ more.whole;
      sequence = λ k h.
          from_nothing r bs k k (omega arith) (omega (arith, all_longer m)) ∙ opening_whole m t gl G1 (λ seven. refl) bs ∙
          ap with_opening (more.sequence 0 (omega arith));
    }

pub reader_at_start : (m : Form) → reader_of m writer_at_start ≡ started m
reader_at_start Seven = refl
reader_at_start Eight = refl

pub sequence_reads_back : (m : Form) (s : Steps) (w : Writer) → w.sets.g0.kind ≡ Of94 → AllCanBeWritten w.sets s →
    ReadsAs (reader_of m w) (written_from m w (entries_of s)) (entries_of s)
sequence_reads_back m ended w g0 h = record { never = λ at. refl; whole = refl; sequence = λ k least. refl }
sequence_reads_back m (said a s) w g0 h =
    one_answer m w a (written_from m (writer_after m w a) (entries_of s)) (entries_of s) g0 h.0 h.1
    (sequence_reads_back m s (writer_after m w a) (keeps_g0 a w.sets h.1 g0) h.2)
sequence_reads_back m (opened s) w g0 h =
    let rest : List ℕ = written_from m writer_at_start (entries_of s) in
    subst (λ (bytes : List ℕ). ReadsAs (reader_of m w) bytes (with_opening (entries_of s))) (sym (written_opening m w (entries_of s)))
    (reads_opening m w.sets (shown m w.gl) rest (entries_of s)
    (subst (λ (r : Reader). ReadsAs r rest (entries_of s)) (reader_at_start m) (sequence_reads_back m s writer_at_start refl h)))
