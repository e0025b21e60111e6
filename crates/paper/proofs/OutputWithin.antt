-- What is written in either form for any text has at most three times the text's bytes, by one walk over the definitions: an answer
-- writes at most three bytes for each byte of its unit, the bytes of what is read so far counted until it is answered. A byte of GR
-- where GR shows G2 or G3 takes three in 7-bit form.
use Prim.Native.Nat.{ℕ, ◌+◌, ◌-◌, ◌*◌, ◌≤◌}
use mathlib.Core.Path.{◌≡◌, refl, sym, subst}
use mathlib.Core.List.{List, ◌∷◌, ◌++◌}
use native.Mathlib.Omega.{arith}
use lib.Dec.{ltb, leb, eqb}
use lib.ListN.{length, length-append}
use Rattle.paper.specs.Words.{Form, Seven, Eight, Area, Element, Set, SetByte, OfSpace, OfDelete, OfSet, Outside, SequenceByte, Intermediate, Final}
use Rattle.paper.specs.Words.{Neither, Intermediates, Shift, LS0, LS1, LS2, LS3, LS1R, LS2R, LS3R, SS2, SS3, Meaning, NoMeaning}
use Rattle.paper.specs.Words.{Function, Shifts, GraphicArea, PositionBytes, Within, Standing, Reader, Refusal, Answered}
use Rattle.paper.specs.CodeTable.{area_of, form_has, bit8, so, si, esc}
use Rattle.paper.specs.Sets.{bytes_of, set_in}
use Rattle.paper.specs.Starting.{started, opening}
use Rattle.paper.specs.Sequences.{function_of_ss2, function_of_ss3, last_function, sequence_byte, c1_function, meaning_of}
use Rattle.paper.specs.Searching.{matched_with, one_more}
use Rattle.paper.specs.Marks.{recording}
use Rattle.paper.specs.Characters.{refuses, after_shift, c0_byte, position_in, byte_in, bytes_so_far, with_byte, character, of_character}
use Rattle.paper.specs.Characters.{first_in_gl}
use Rattle.paper.specs.Answering.{means, intermediate, sequence_at, ground_at, answer_within, answer_in_step, answer_searching}
use Rattle.paper.specs.Answering.{answer_lost, answer_standing}
use Rattle.paper.specs.WrittenForms.{Entry, with_answer, Writer, writer_at_start, written_for, writer_after, written_from}
use Rattle.paper.specs.Conversions.{output}
use Rattle.paper.proofs.Choices.{gives_has}
use Rattle.paper.proofs.AnswersWithoutTheRecord.{answer_of}
use Rattle.paper.proofs.OpeningsTakenWhole.{with_opening, ShowsG1, by_openings}
use Rattle.paper.proofs.WrittenTurnByTurn.{one_turn}
use Rattle.paper.proofs.WrittenAnswersReadBack.{written_opening}
use Rattle.paper.proofs.MostWritten.{how_many_intermediates, most_written, most_written_lem}

-- how many bytes of a unit are read so far
abbrev read_of : Within → ℕ
read_of Within.Ground = 0
read_of (Within.Sequence s) = 1 + how_many_intermediates s
read_of (Within.SingleShift e) = 1
read_of (Within.Character e a p) = bytes_so_far p

abbrev read_so_far : Standing → ℕ
read_so_far (Standing.InStep w) = read_of w
read_so_far (Standing.Lost k n) = 0

one_at_least : (p : PositionBytes) → 1 ≤ bytes_so_far p
one_at_least (PositionBytes.One a) = omega arith
one_at_least (PositionBytes.Two a b) = omega arith
one_at_least (PositionBytes.Three a b c) = omega arith

with_one_more : (p : PositionBytes) (b : ℕ) → bytes_so_far (with_byte p b) ≤ bytes_so_far p + 1
with_one_more (PositionBytes.One a) b = omega arith
with_one_more (PositionBytes.Two a b) c = omega arith
with_one_more (PositionBytes.Three a b c) d = omega arith

shift_of_one : (h : Shift) → read_of (after_shift h) ≤ 1
shift_of_one LS0 = omega arith
shift_of_one LS1 = omega arith
shift_of_one LS2 = omega arith
shift_of_one LS3 = omega arith
shift_of_one LS1R = omega arith
shift_of_one LS2R = omega arith
shift_of_one LS3R = omega arith
shift_of_one SS2 = omega arith
shift_of_one SS3 = omega arith

module _ (r : Reader) (b : ℕ) where
  -- n bytes were read before this one; what is answered and what stays unanswered is paid for by them and it
  abbrev Paid : ℕ → Answered → Type 0
  Paid n a = most_written a.answer + 3 * read_so_far a.reader.standing ≤ 3 * (n + 1)

  paid_c0 : Paid 0 (c0_byte b r)
  unfolding c0_byte
  paid_c0 =
      gives_has (Paid 0) (eqb b esc) (omega arith)
      (gives_has (Paid 0) (eqb b so) (omega arith) (gives_has (Paid 0) (eqb b si) (omega arith) (omega arith)))

  module _ (n : ℕ) where
    paid_refusal : (x : Refusal) → Paid n (refuses x b r)
    paid_refusal x = omega arith

    paid_character : (e : Element) (x : Set) (a : GraphicArea) (p : PositionBytes) → bytes_so_far p ≤ n + 1 → Paid n (character e x a p r)
    unfolding character
    paid_character e x a p h =
        gives_has (Paid n) (ltb (bytes_so_far p) (bytes_of x.count)) (omega arith) (omega (arith, one_at_least p))

    paid_of : (s : SetByte) (e : Element) (x : Set) (a : GraphicArea) (p : PositionBytes) → bytes_so_far p ≤ n + 1 →
        Paid n (of_character s e x a p b r)
    paid_of OfSpace e x a p h = paid_refusal Refusal.NotOfSet
    paid_of OfDelete e x a p h = paid_refusal Refusal.NotOfSet
    paid_of OfSet e x a p h = paid_character e x a p h
    paid_of Outside e x a p h = paid_refusal Refusal.AnotherArea

  paid_first : (s : SetByte) (e : Element) (x : Set) → Paid 0 (first_in_gl s e x b r)
  paid_first OfSpace e x = omega arith
  paid_first OfDelete e x = omega arith
  paid_first OfSet e x = paid_character 0 e x GraphicArea.GL (PositionBytes.One b) (omega arith)
  paid_first Outside e x = paid_refusal 0 Refusal.AnotherArea

  paid_means : (w : Meaning) (s : Intermediates) → Paid (1 + how_many_intermediates s) (means w s b r)
  unfolding means
  paid_means NoMeaning s = paid_refusal (1 + how_many_intermediates s) Refusal.WithoutMeaning
  paid_means Meaning.Other s = omega arith
  paid_means (Function n) s = omega arith
  paid_means (Shifts h) s = omega (arith, shift_of_one h)
  paid_means (Meaning.DesignateControls w) s = omega arith
  paid_means (Meaning.Designate e k n) s = omega arith

  -- a C1 function by its byte
  paid_function : (n : ℕ) → Paid 0 (means (c1_function n) Intermediates.None b r)
  unfolding c1_function means
  paid_function n =
      let P : Meaning → Type 0 = λ w. Paid 0 (means w Intermediates.None b r) in
      gives_has P (eqb n function_of_ss2) (omega arith)
      (gives_has P (eqb n function_of_ss3) (omega arith) (gives_has P (leb n last_function) (omega arith) (omega arith)))

  paid_intermediate : (s : Intermediates) → Paid (1 + how_many_intermediates s) (intermediate s b r)
  paid_intermediate Intermediates.None = omega arith
  paid_intermediate (Intermediates.One i) = omega arith
  paid_intermediate (Intermediates.Two i j) = paid_refusal 3 Refusal.ThirdIntermediate

  paid_sequence : (k : SequenceByte) (s : Intermediates) → Paid (1 + how_many_intermediates s) (sequence_at k s b r)
  paid_sequence Intermediate s = paid_intermediate s
  paid_sequence Final s = paid_means (meaning_of r.form s b) s
  paid_sequence Neither s = paid_refusal (1 + how_many_intermediates s) Refusal.NotOfSequence

  paid_ground : (a : Area) → Paid 0 (ground_at a b r)
  paid_ground Area.C0 = paid_c0
  paid_ground Area.GL = let x = set_in r.sets r.gl in paid_first (byte_in GraphicArea.GL x.kind b) r.gl x
  paid_ground Area.C1 = paid_function (b - bit8)
  paid_ground Area.GR =
      let x = set_in r.sets r.gr in
      paid_of 0 (byte_in GraphicArea.GR x.kind b) r.gr x GraphicArea.GR (PositionBytes.One (position_in GraphicArea.GR b)) (omega arith)

  paid_within : (w : Within) → Paid (read_of w) (answer_within w b r)
  paid_within Within.Ground = paid_ground (area_of b)
  paid_within (Within.Sequence s) = paid_sequence (sequence_byte b) s
  paid_within (Within.SingleShift e) =
      let x = set_in r.sets e in paid_of 1 (byte_in GraphicArea.GL x.kind b) e x GraphicArea.GL (PositionBytes.One b) (omega arith)
  paid_within (Within.Character e a p) =
      let x = set_in r.sets e in
      paid_of (bytes_so_far p) (byte_in a x.kind b) e x a (with_byte p (position_in a b)) (with_one_more p (position_in a b))

  -- a lost reader writes nothing
  paid_searching : (k n : ℕ) → Paid 0 (answer_searching k n r)
  paid_searching k n = gives_has (Paid 0) (eqb k (length (opening r.form))) (omega arith) (omega arith)

  paid_standing : (s : Standing) → Paid (read_so_far s) (answer_standing s b r)
  unfolding answer_in_step answer_lost
  paid_standing (Standing.InStep w) =
      gives_has (Paid (read_of w)) (form_has r.form b) (paid_within w) (paid_refusal (read_of w) Refusal.ByteOfEightBits)
  paid_standing (Standing.Lost k n) = paid_searching (matched_with r.form k b) (one_more n)

-- ---- a text

abbrev Fits : Reader → List ℕ → List Entry → Type 0
Fits r text l = (to : Form) (w : Writer) → length (written_from to w l) ≤ 3 * (read_so_far r.standing + length text)

fits_byte : (r : Reader) (b : ℕ) (bs : List ℕ) (l : List Entry) → Fits (answer_of r b).reader bs l →
    Fits r (b ∷ bs) (with_answer (answer_of r b).answer l)
fits_byte r b bs l more to w =
    let a = (answer_of r b).answer in
    let rest : List ℕ = written_from to (writer_after to w a) l in
    subst (λ (bytes : List ℕ). length bytes ≤ 3 * (read_so_far r.standing + length (b ∷ bs))) (sym (one_turn a to w l))
    (omega (
      arith,
      length-append (written_for to w a) rest,
      most_written_lem a to w,
      paid_standing (recording 0 r) b r.standing,
      more to (writer_after to w a),
    ))

opening_bounds : (m : Form) → (20 ≤ length (opening m)) × (length (opening m) ≤ 21)
opening_bounds Seven = (omega arith, omega arith)
opening_bounds Eight = (omega arith, omega arith)

-- an opening has 20 bytes at least, and is written as one of 21 at most
fits_opening : (r : Reader) (rest : List ℕ) (l : List Entry) → r.standing ≡ Standing.InStep Within.Ground → ShowsG1 r →
    Fits (started r.form) rest l → Fits r (opening r.form ++ rest) (with_opening l)
fits_opening r rest l ground shows more to w =
    let written : List ℕ = written_from to writer_at_start l in
    subst (λ (bytes : List ℕ). length bytes ≤ 3 * (read_so_far r.standing + length (opening r.form ++ rest)))
    (sym (written_opening to w l))
    (omega (
      arith,
      length-append (opening to) written,
      length-append (opening r.form) rest,
      opening_bounds to,
      opening_bounds r.form,
      more to writer_at_start,
    ))

pub output_within : (from to : Form) (text : List ℕ) → length (output from to text) ≤ 3 * length text
output_within from to text =
    omega (arith, by_openings Fits (λ r to w. omega arith) fits_byte fits_opening text (started from) (λ seven. refl) to writer_at_start)
