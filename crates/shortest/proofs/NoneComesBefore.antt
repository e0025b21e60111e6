-- Of all 7-bit texts that read as a sequence none comes before the one that is written. By induction over such a text: at each answer what it
-- is written as is no later than the bytes that were read for it, and a locking shift is no better; an opening is taken whole.
use Prim.Native.Nat.{ℕ, suc}
use mathlib.Core.Path.{◌≡◌, refl, sym, ap, ◌∙◌, subst}
use mathlib.Core.Bool.{Bool, true, false}
use mathlib.Core.List.{List, [], ◌∷◌, ◌++◌, append_assoc}
use Rattle.paper.specs.Choice.{◌gives◌or◌}
use Rattle.paper.specs.Starting.{starting_sets, started, opening}
use Rattle.paper.specs.Marks.{recording}
use Rattle.paper.specs.Answering.{answer_in_step, answer_standing, answer_to}
use Rattle.paper.specs.Texts.{answers_from}
use Rattle.paper.specs.Surveying.{first_refusal}
use Rattle.paper.specs.WrittenForms.{Entry, given, left_out, with_answer, sequence_from, sets_with}
use Rattle.paper.specs.declared.Form.{Form}
use Rattle.paper.specs.declared.Kind.TheVariants.{Of94}
use Rattle.paper.specs.declared.Element.{Element}
use Rattle.paper.specs.declared.Element.TheVariants.{G0, G1}
use Rattle.paper.specs.declared.Sets.{Sets}
use Rattle.paper.specs.declared.Within.{Within}
use Rattle.paper.specs.declared.Standing.{Standing}
use Rattle.paper.specs.declared.Reader.{Reader}
use Rattle.paper.specs.declared.Answer.{Answer}
use Rattle.paper.specs.declared.Answered.{Answered}
use Rattle.paper.proofs.Choices.{impossible}
use Rattle.paper.proofs.LawfulAnswers.{IsInStep}
use Rattle.paper.proofs.AnswersWithoutTheRecord.{answer_of, record_of, answers_alike}
use Rattle.paper.proofs.RecordsNotCompleted.{form_of}
use Rattle.paper.proofs.OpeningsTakenWhole.{with_opening, on_ground, ShowsG1, shows_of, by_openings}
use Rattle.paper.proofs.ReadingOn.{reader_with}
use Rattle.paper.proofs.WhatCanBeWritten.{CanBeWritten, Steps, ended, said, opened, entries_of, AllCanBeWritten, SoFar, Stands, NotRefused}
use Rattle.paper.proofs.WhatIsReadCanBeWritten.{fair_standing, not_refused, past, refused_after}
use Rattle.paper.proofs.WrittenTurnByTurn.{later_refuse_nothing, sets_by_the_answer}
use Rattle.paper.proofs.WrittenAnswersReadBack.{keeps_g0}
use Rattle.shortest.specs.ByteOrder.{NotAfter}
use Rattle.shortest.specs.ShortestText.{shift_to, shortest_from}
use Rattle.shortest.proofs.TextsInOrder.{nothing_first, not_after_itself, not_after_on, not_after_both}
use Rattle.shortest.proofs.NoBetterByAShift.{answer_first, no_better_by_a_shift}
use Rattle.shortest.proofs.ReadInSevenBits.{Came, Outcome, waiting, shifting, saying, refusing, after_byte}
use Rattle.std.specs.Prelude.{Option, None}
use Rattle.paper.specs.declared.Refused.{Refused}

-- the steps of what is read, and that their text comes first, whatever has been read since the last answer
pub record First (t : Sets) (gl : Element) (w : Within) (text : List ℕ) (l : List Entry) : Type 0 where
  pub steps : Steps
  pub is : l ≡ entries_of steps
  pub all : AllCanBeWritten t steps
  pub first : (pre : List ℕ) → Came gl w pre → NotAfter (shortest_from steps t gl) (pre ++ text)

-- a reader of 7-bit form that is in step
pub record InSeven (r : Reader) (w : Within) : Type 0 where
  pub form : r.form ≡ Form.Seven
  pub right : r.gr ≡ G1
  pub stands : r.standing ≡ Standing.InStep w
  pub so_far : SoFar r.sets w
  pub g0 : r.sets.g0.kind ≡ Of94

-- of a text from a reader: where it refuses nothing
abbrev pub ComesFirst : Reader → List ℕ → List Entry → Type 0
ComesFirst r text l = (w : Within) → InSeven r w → (at : ℕ) → first_refusal (answers_from at r text) ≡ None → First r.sets r.gl w text l

-- ---- the end

at_end : (r : Reader) → ComesFirst r [] []
unfolding shortest_from
at_end r w here at never = record { steps = ended; is = refl; all = tt; first = λ pre came. nothing_first _ }

-- ---- a byte

-- what is left out changes no set
pub sets_stay : (a : Answer) (t : Sets) → left_out a ≡ true → sets_with t a ≡ t
sets_stay Answer.NothingYet t h = refl
sets_stay (Answer.Shift s) t h = refl
sets_stay _ t h = impossible (cc)

abbrev within_of : Standing → Within
within_of (Standing.InStep w) = w
within_of (Standing.Lost k n) = Within.Ground

-- after a byte that is answered so, and leaves the reader there
module _ (b : ℕ) (bs : List ℕ) (l : List Entry) (x : Answered) (w : Within) (stands : x.reader.standing ≡ Standing.InStep w)
    (rest : First x.reader.sets x.reader.gl w bs l) where
  abbrev steps : Steps
  steps = rest.steps

  goes_on : (t : Sets) → x.reader.sets ≡ t → (e : Element) → x.reader.gl ≡ e → (v : Within) → x.reader.standing ≡ Standing.InStep v →
      (pre : List ℕ) → Came e v pre → NotAfter (shortest_from steps t e) (pre ++ bs)
  goes_on t sets e shows v there pre came =
      subst (λ (t : Sets). NotAfter (shortest_from steps t e) (pre ++ bs)) sets
      (subst (λ (e : Element). Came e w pre → NotAfter (shortest_from steps x.reader.sets e) (pre ++ bs)) shows (rest.first pre)
      (subst (λ (v : Within). Came e v pre) (ap within_of (sym there ∙ stands)) came))

  module _ (t : Sets) (g0 : t.g0.kind ≡ Of94) (gl : Element) (sets : x.reader.sets ≡ sets_with t x.answer) where
    abbrev a : Answer
    a = x.answer

    -- an answer that is left out
    first_without : left_out a ≡ true → AllCanBeWritten t steps → NotRefused a → (pre : List ℕ) → Outcome t gl pre x →
        NotAfter (shortest_from steps t gl) (pre ++ bs)
    first_without out all ok pre (waiting v again there shows came) = goes_on t (sets ∙ sets_stay a t out) gl shows v there pre came
    first_without out all ok pre (shifting e again there shows is) =
        subst (λ (bytes : List ℕ). NotAfter (shortest_from steps t gl) (bytes ++ bs)) (sym is)
        (not_after_on (no_better_by_a_shift steps t g0 all gl e)
        (not_after_both (not_after_itself (shift_to e)) (goes_on t (sets ∙ sets_stay a t out) e shows Within.Ground there [] refl)))
    first_without out all ok pre (saying kept there shows fit one) = impossible (cc)
    first_without out all ok pre (refusing n is) = absurd (ok n is)

    -- and one that is in the sequence
    first_with_lem : left_out a ≡ false → AllCanBeWritten t (said a steps) → NotRefused a → (pre : List ℕ) → Outcome t gl pre x →
        NotAfter (shortest_from (said a steps) t gl) (pre ++ bs)
    first_with_lem kept all ok pre (waiting v out there shows came) = impossible (cc)
    first_with_lem kept all ok pre (shifting e out there shows is) = impossible (cc)
    first_with_lem kept all ok pre (saying again there shows fit one) =
        answer_first a steps t g0 all gl pre bs fit one (goes_on (sets_with t a) sets gl shows Within.Ground there [] refl)
    first_with_lem kept all ok pre (refusing n is) = absurd (ok n is)

    joined : (v : Within) → CanBeWritten t a → NotRefused a →
        ((pre : List ℕ) → Came gl v pre → Outcome t gl (pre ++ (b ∷ [])) x) → First t gl v (b ∷ bs) (with_answer a l)
    joined v can ok outcome = by (left_out a) refl
      where
        before : (s : Steps) → ((pre : List ℕ) → Outcome t gl pre x → NotAfter (shortest_from s t gl) (pre ++ bs)) →
            (pre : List ℕ) → Came gl v pre → NotAfter (shortest_from s t gl) (pre ++ (b ∷ bs))
        before s first pre came =
            subst (NotAfter (shortest_from s t gl)) (append_assoc pre (b ∷ []) bs) (first (pre ++ (b ∷ [])) (outcome pre came))

        by : (out : Bool) → left_out a ≡ out → First t gl v (b ∷ bs) (out gives l or given a ∷ l)
        by true out =
            let all : AllCanBeWritten t steps = subst (λ (t : Sets). AllCanBeWritten t steps) (sets ∙ sets_stay a t out) rest.all in
            record { steps = steps; is = rest.is; all = all; first = before steps (first_without out all ok) }
        by false kept =
            let all : AllCanBeWritten t (said a steps) =
            (kept, can, subst (λ (t : Sets). AllCanBeWritten t steps) sets rest.all) in
            record {
              steps = said a steps;
              is = ap (λ (l : List Entry). given a ∷ l) rest.is;
              all = all;
              first = before (said a steps) (first_with_lem kept all ok);
            }

in_step : {r : Reader} {w : Within} → InSeven r w → IsInStep r.standing
in_step here = subst IsInStep (sym here.stands) tt

module _ (r : Reader) (b : ℕ) (bs : List ℕ) (l : List Entry) (more : ComesFirst (answer_of r b).reader bs l) (w : Within) (here : InSeven r w)
    (at : ℕ) (never : first_refusal (answers_from at r (b ∷ bs)) ≡ None) where
  abbrev x : Answered
  x = answer_of r b

  abbrev later : Option Refused
  later = first_refusal (answers_from (suc at) (answer_to r b).reader bs)

  ok : NotRefused x.answer
  unfolding answer_to
  ok = not_refused x.answer at later never

  fair : CanBeWritten r.sets x.answer × Stands x.reader.sets x.reader.standing
  fair = fair_standing (recording 0 r) b r.standing (subst (Stands r.sets) (sym here.stands) here.so_far) ok

  sets_are : x.reader.sets ≡ sets_with r.sets x.answer
  unfolding answer_to
  sets_are = sets_by_the_answer r b (in_step here)

  refuses_nothing : first_refusal (answers_from (suc at) x.reader bs) ≡ None
  unfolding answer_to
  refuses_nothing =
      ap first_refusal (answers_alike bs (suc at) x.reader.gone (record_of r b) x.reader) ∙
      later_refuse_nothing x.answer at later never

  -- the answer is that of a reader of 7-bit form that stands there
  as_read : x ≡ answer_in_step w b (reader_with Form.Seven r.sets r.gl G1 w)
  as_read i = answer_standing (here.stands i) b (record {
    form = here.form i;
    sets = r.sets;
    gl = r.gl;
    gr = here.right i;
    gone = 0;
    standing = here.stands i;
  })

  next : (v : Within) → x.reader.standing ≡ Standing.InStep v → SoFar x.reader.sets v → InSeven x.reader v
  next v there so_far = record {
    form = form_of r b ∙ here.form;
    right = shows_of r b (λ seven. here.right) (form_of r b ∙ here.form);
    stands = there;
    so_far = so_far;
    g0 = ap (λ (t : Sets). t.g0.kind) sets_are ∙ keeps_g0 x.answer r.sets fair.0 here.g0;
  }

  byte_first : First r.sets r.gl w (b ∷ bs) (with_answer x.answer l)
  byte_first = by x.reader.standing refl fair.1
    where
      by : (s : Standing) → x.reader.standing ≡ s → Stands x.reader.sets s →
          First r.sets r.gl w (b ∷ bs) (with_answer x.answer l)
      by (Standing.InStep v) there so_far =
          joined b bs l x v there (more v (next v there so_far) (suc at) refuses_nothing) r.sets here.g0 r.gl sets_are w
          fair.0 ok
          (λ pre came. subst (Outcome r.sets r.gl (pre ++ (b ∷ []))) (sym as_read) (after_byte r.sets r.gl b w pre here.so_far came))
      by (Standing.Lost k n) there so_far = absurd so_far

-- ---- an opening, taken whole

module _ (r : Reader) (rest : List ℕ) (l : List Entry) (w : Within) (here : InSeven r w) (ground : r.standing ≡ Standing.InStep Within.Ground) where
  abbrev grounded : Reader
  grounded = on_ground Form.Seven r.sets r.gl G1

  abbrev text : List ℕ
  text = opening Form.Seven ++ rest

  as_grounded : recording 0 r ≡ grounded
  as_grounded i = record { form = here.form i; sets = r.sets; gl = r.gl; gr = here.right i; gone = 0; standing = ground i }

  opening_refuses_nothing : (at : ℕ) → first_refusal (answers_from at r text) ≡ None →
      first_refusal (answers_from (past at (opening Form.Seven)) (started Form.Seven) rest) ≡ None
  opening_refuses_nothing at never =
      sym (refused_after Form.Seven r.sets r.gl G1 at rest (λ seven. refl)) ∙
      ap (λ (y : Reader). first_refusal (answers_from at y text)) (sym as_grounded) ∙
      ap first_refusal (answers_alike text at 0 r.gone r) ∙ never

  opened_first : First starting_sets G0 Within.Ground rest l → First r.sets r.gl Within.Ground text (with_opening l)
  unfolding shortest_from
  opened_first more = record {
    steps = opened more.steps;
    is = ap with_opening more.is;
    all = more.all;
    first = λ pre came.
        subst (λ (bytes : List ℕ). NotAfter (shortest_from (opened more.steps) r.sets r.gl) (bytes ++ text)) (sym came)
        (not_after_both (not_after_itself (opening Form.Seven)) (more.first [] refl));
  }

at_start : InSeven (started Form.Seven) Within.Ground
at_start = record { form = refl; right = refl; stands = refl; so_far = tt; g0 = refl }

opening_first : (r : Reader) (rest : List ℕ) (l : List Entry) → r.standing ≡ Standing.InStep Within.Ground → ShowsG1 r →
    ComesFirst (started r.form) rest l → ComesFirst r (opening r.form ++ rest) (with_opening l)
opening_first r rest l ground shows more w here =
    subst (λ (v : Within). (at : ℕ) → first_refusal (answers_from at r (opening r.form ++ rest)) ≡ None →
    First r.sets r.gl v (opening r.form ++ rest) (with_opening l)) (ap within_of (sym ground ∙ here.stands))
    (subst (λ (m : Form). ComesFirst (started m) rest l → (at : ℕ) → first_refusal (answers_from at r (opening m ++ rest)) ≡ None →
    First r.sets r.gl Within.Ground (opening m ++ rest) (with_opening l)) (sym here.form)
    (λ after at never.
    opened_first r rest l w here ground (after Within.Ground at_start (past at (opening Form.Seven))
    (opening_refuses_nothing r rest l w here ground at never))) more)

-- ---- a text

pub none_comes_before : (text : List ℕ) → first_refusal (answers_from 0 (started Form.Seven) text) ≡ None →
    First starting_sets G0 Within.Ground text (sequence_from (started Form.Seven) text)
none_comes_before text never =
    by_openings ComesFirst at_end byte_first opening_first text (started Form.Seven) (λ seven. refl) Within.Ground at_start 0 never
