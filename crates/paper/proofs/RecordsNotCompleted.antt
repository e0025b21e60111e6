-- What a reader has recorded of an opening that is not completed here does not tell: the sequence from here is that of a reader that had
-- not met the first byte of it. Byte by byte both go on, or both fall back to the same.
use Prim.Native.Nat.{ℕ, suc, ◌<◌, ◌≤◌}
use mathlib.Core.Path.{◌≡◌, refl, sym, ap, ◌∙◌, subst}
use mathlib.Core.Logic.{⊎_elim}
use mathlib.Core.Bool.{Bool, true, false}
use mathlib.Core.List.{List, [], ◌∷◌, ◌++◌}
use native.Mathlib.Omega.{arith}
use native.Mathlib.Nat.{eq-or-lt_of_le}
use borrow.Author.Tests.{eqb-true, eqb-false, ne_eqb}
use lib.Dec.{eqb}
use lib.ListN.{drop, length, get_or}
use lib.Seq.{drop-cons, drop-length}
use Rattle.paper.specs.Choice.{◌gives◌or◌}
use Rattle.paper.specs.Words.{Form, Standing, Reader}
use Rattle.paper.specs.Starting.{opening}
use Rattle.paper.specs.Searching.{matched_with}
use Rattle.paper.specs.Marks.{recording, is_complete, is_in_step, recorded}
use Rattle.paper.specs.Answering.{answer_to}
use Rattle.paper.specs.WrittenForms.{Entry, with_answer, with_mark, sequence_from}
use Rattle.paper.proofs.LawfulAnswers.{form_on}
use Rattle.paper.proofs.AnswersWithoutTheRecord.{answer_of}
use Rattle.paper.proofs.BeginningsThatFallBack.{matched_on, without, less_without, without_on, falls_back}

abbrev pub NotBegins : List ℕ → List ℕ → Type 0
NotBegins start bs = (rest : List ℕ) → bs ≡ start ++ rest → ⊥

abbrev pub length_of : Form → ℕ
length_of m = length (opening m)

pub not_complete : (m : Form) (k : ℕ) → k < length_of m → is_complete m k ≡ false
not_complete m k less = ne_eqb k (length_of m) (λ q. absurd (omega arith))

-- the sequence from a byte on, by how much of the opening has gone by with it
module _ (r : Reader) (b : ℕ) (bs : List ℕ) where
  abbrev pub next : Reader
  next = (answer_of r b).reader

  abbrev pub from_gone : ℕ → List Entry
  from_gone k =
      with_answer (answer_of r b).answer
      (with_mark (is_in_step r.standing gives is_complete r.form k or false)
      (sequence_from (recording (recorded next.standing r.standing r.form k) next) bs))

  -- the answer does not know the record. Said first: where it is false, the two sequences of the law below would be compared to their ends
  answer_alone : (k : ℕ) → (answer_to (recording k r) b).answer ≡ (answer_of r b).answer
  unfolding answer_to
  answer_alone k = refl

  pub from_gone_lem : (k : ℕ) → sequence_from (recording k r) (b ∷ bs) ≡ from_gone (matched_with r.form k b)
  unfolding answer_to
  from_gone_lem k = let same = answer_alone k in refl

  -- no mark, and then a record
  abbrev pub without_mark : ℕ → List Entry
  without_mark j = with_answer (answer_of r b).answer (sequence_from (recording j next) bs)

  pub no_mark : (k : ℕ) → k < length_of r.form → from_gone k ≡ without_mark (recorded next.standing r.standing r.form k)
  no_mark k less = by (is_in_step r.standing)
    where
      by : (t : Bool) →
          with_answer (answer_of r b).answer
          (with_mark (t gives is_complete r.form k or false)
          (sequence_from (recording (recorded next.standing r.standing r.form k) next) bs)) ≡
          without_mark (recorded next.standing r.standing r.form k)
      by true = rw (not_complete r.form k less)
      by false = refl

  -- what holds of two records where both are taken over, and where none is, holds
  pub by_the_standings : (j k : ℕ) → j < length_of r.form → k < length_of r.form →
      sequence_from (recording j next) bs ≡ sequence_from (recording k next) bs → from_gone j ≡ from_gone k
  by_the_standings j k less-j less-k same =
      no_mark j less-j ∙ by next.standing r.standing ∙ sym (no_mark k less-k)
    where
      by : (after before : Standing) → without_mark (recorded after before r.form j) ≡ without_mark (recorded after before r.form k)
      by (Standing.InStep w) (Standing.InStep v) =
          rw (not_complete r.form j less-j, not_complete r.form k less-k)
          (ap (with_answer (answer_of r b).answer) same)
      by (Standing.InStep w) (Standing.Lost i n) = refl
      by (Standing.Lost i n) before = refl

-- ---- a byte after so much of the opening

module _ (m : Form) (k : ℕ) (some : 1 ≤ k) (less : k < length_of m) where
  abbrev next_byte : ℕ
  next_byte = get_or (opening m) k 0

  goes_on : matched_with m k next_byte ≡ suc k
  unfolding matched_with
  goes_on = matched_on (opening m) k less

  goes_on_without : matched_with m (without (opening m) k) next_byte ≡ without (opening m) (suc k)
  unfolding matched_with
  goes_on_without = sym (without_on (opening m) k some (omega arith) less)

  pub breaks_off : (b : ℕ) → (b ≡ next_byte → ⊥) → matched_with m k b ≡ matched_with m (without (opening m) k) b
  unfolding matched_with
  breaks_off b other = falls_back (opening m) k some (omega arith) b (λ h e. other e)

-- what has gone by and is not completed here reads as if its first byte had not been there
module _ (k : ℕ) (bs : List ℕ) (r : Reader) where
  abbrev pub Alike : Form → Type 0
  Alike m = k < length_of m → NotBegins (drop k (opening m)) bs →
      sequence_from (recording k r) bs ≡ sequence_from (recording (without (opening m) k) r) bs

pub form_of : (r : Reader) (b : ℕ) → (answer_of r b).reader.form ≡ r.form
unfolding answer_to
form_of r b = form_on r b

-- the byte goes on with what has gone by, or breaks it off
module _ (r : Reader) (b : ℕ) (bs : List ℕ) (k : ℕ) (some : 1 ≤ k) (less : k < length_of r.form)
    (stops : NotBegins (drop k (opening r.form)) (b ∷ bs)) where
  abbrev o : List ℕ
  o = opening r.form

  abbrev d : ℕ
  d = get_or o k 0

  -- where the opening were complete with it, it would stand here
  not_the_last : b ≡ d → suc k < length o
  not_the_last e = ⊎_elim
      (λ (last : suc k ≡ length o).
      absurd (stops bs (ap (λ (c : ℕ). c ∷ bs) e ∙
      ap (λ (l : List ℕ). l ++ bs) (sym (drop-cons o k 0 less ∙ ap (λ (l : List ℕ). d ∷ l) (ap (λ (n : ℕ). drop n o) last ∙ drop-length o))))))
      (λ more. more)
      (eq-or-lt_of_le less)

  goes_on_alike : b ≡ d → Alike (suc k) bs (next r b bs) r.form →
      from_gone r b bs (matched_with r.form k b) ≡ from_gone r b bs (matched_with r.form (without o k) b)
  goes_on_alike e rest =
      let more : suc k < length o = not_the_last e in
      let left : matched_with r.form k b ≡ suc k = ap (matched_with r.form k) e ∙ goes_on r.form k some less in
      let right : matched_with r.form (without o k) b ≡ without o (suc k) =
      ap (matched_with r.form (without o k)) e ∙ goes_on_without r.form k some less in
      ap (from_gone r b bs) left ∙
      (by_the_standings r b bs (suc k) (without o (suc k)) more (omega (arith, less_without o (suc k) (omega arith) (omega arith)))
      (rest more (λ tail is. stops tail
      (ap (λ (c : ℕ). c ∷ bs) e ∙ (ap (λ (l : List ℕ). d ∷ l) is ∙ ap (λ (l : List ℕ). l ++ tail) (sym (drop-cons o k 0 less)))))) ∙
      sym (ap (from_gone r b bs) right))

  one_byte_alike : Alike (suc k) bs (next r b bs) r.form →
      sequence_from (recording k r) (b ∷ bs) ≡ sequence_from (recording (without o k) r) (b ∷ bs)
  one_byte_alike rest = from_gone_lem r b bs k ∙ (by (eqb b d) refl ∙ sym (from_gone_lem r b bs (without o k)))
    where
      by : (t : Bool) → eqb b d ≡ t → from_gone r b bs (matched_with r.form k b) ≡ from_gone r b bs (matched_with r.form (without o k) b)
      by true e = goes_on_alike (eqb-true b d e) rest
      by false e = ap (from_gone r b bs) (breaks_off r.form k some less b (λ q. absurd (eqb-false b d e q)))

pub not_completed : (bs : List ℕ) (r : Reader) (k : ℕ) → 1 ≤ k → Alike k bs r r.form
not_completed [] r k some less stops = refl
not_completed (b ∷ bs) r k some less stops =
    one_byte_alike r b bs k some less stops
    (subst (Alike (suc k) bs (next r b bs)) (form_of r b) (not_completed bs (next r b bs) (suc k) (omega arith)))
