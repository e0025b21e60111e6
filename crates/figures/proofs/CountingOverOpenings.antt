-- What is counted over an opening that is taken whole: on the ground its answers are nothing yet, six designations and two shifts, and
-- the reader after it is the starting reader, as is computed.
use Prim.Native.Nat.{ℕ, suc, ◌+◌, ◌≤◌}
use mathlib.Core.Path.{◌≡◌, refl, sym, ap, ◌∙◌, subst}
use mathlib.Core.Bool.{Bool, true, false}
use mathlib.Core.List.{List, [], ◌∷◌, ◌++◌}
use native.Mathlib.Omega.{arith}
use borrow.Author.Tests.{eqb-true, ne_eqb}
use lib.Dec.{eqb}
use lib.ListN.{length, drop, get_or, length-append, length-drop, length-set}
use lib.Seq.{drop-drop}
use Rattle.paper.specs.Choice.{◌gives◌or◌, between}
use Rattle.paper.specs.CodeTable.{column_area, form_has_column, position_of}
use Rattle.paper.specs.Sets.{set_byte}
use Rattle.paper.specs.Starting.{started, opening}
use Rattle.paper.specs.Sequences.{sequence_byte, c1_function, shift_or_other, meaning_of_none, designation, by_intermediate, meaning_of_one}
use Rattle.paper.specs.Searching.{begins_with, matched_with, one_more}
use Rattle.paper.specs.Characters.{c0_byte, byte_in}
use Rattle.paper.specs.Answering.{means, answer_in_step, answer_lost, answer_to, end_of_text}
use Rattle.paper.specs.Results.{word_of, nothing_yet_word, designate_word, shift_word}
use Rattle.paper.specs.Texts.{Placed, reader_after, answers_from}
use Rattle.paper.specs.Surveying.{how_many, first_refusal, first_of}
use Rattle.paper.specs.declared.Form.{Form}
use Rattle.paper.specs.declared.Element.{Element}
use Rattle.paper.specs.declared.Sets.{Sets}
use Rattle.paper.specs.declared.Within.{Within}
use Rattle.paper.specs.declared.Reader.{Reader}
use Rattle.paper.proofs.Choices.{impossible, gives_by}
use Rattle.paper.proofs.ListsThatEnd.{begins_rest}
use Rattle.paper.proofs.TextsThatGoOn.{reader_on, answers_on}
use Rattle.paper.proofs.RecordsOfOpenings.{noted_none, nothing_after}
use Rattle.paper.proofs.AnOpeningInStep.{from_in_step}
use Rattle.paper.proofs.OpeningsTakenWhole.{on_ground}
use Rattle.items.specs.States.{starting_cells}
use Rattle.items.specs.Items.{Item}
use Rattle.items.proofs.ItemsByBytes.{Opens}
use Rattle.figures.specs.Counting.{added, Fits, HasFigure, Counting, Counts}
use Rattle.figures.specs.Stretches.{opening_counted}
use Rattle.figures.proofs.AddedCounts.{part, part_more, part_of_none, entry, fits_more}
use Rattle.figures.proofs.RestToCount.{one_and}
use Rattle.figures.proofs.CountingOverRefusals.{in_step_again}
use Rattle.std.specs.Prelude.{Option}
use Rattle.paper.specs.declared.Refused.{Refused}

-- ---- answers that are nothing yet, designations and shifts

abbrev is_of_opening : ℕ → Bool
is_of_opening w = eqb w nothing_yet_word gives true or eqb w designate_word gives true or eqb w shift_word gives true or false

abbrev all_of_opening : List Placed → Bool
all_of_opening [] = true
all_of_opening (a ∷ l) = is_of_opening (word_of a.answer) gives all_of_opening l or false

one_more_lem : (i n w : ℕ) → part i (suc n) w ≡ part i 1 w + part i n w
one_more_lem i n w = let e : suc n ≡ 1 + n = omega arith in ap (λ (m : ℕ). part i m w) e ∙ part_more i 1 n w

module _ (w : ℕ) (figure : HasFigure w) where
  -- of a word there are what designations and shifts have of it
  abbrev Has : ℕ → ℕ → ℕ → Type 0
  Has many designations shifts = many ≡ part designate_word designations w + part shift_word shifts w

  abbrev plus : ℕ → ℕ → ℕ → ℕ
  plus k v n = eqb k v gives suc n or n

  has_one_more : (k many d s : ℕ) (rest : Bool) → (rest ≡ true → Has many d s) → (is_of_opening k gives rest or false) ≡ true →
      Has (plus k w many) (plus k designate_word d) (plus k shift_word s)
  unfolding part
  has_one_more k many d s rest has =
      let Goal : Bool → Type 0 =
      λ t. (t gives rest or false) ≡ true → Has (plus k w many) (plus k designate_word d) (plus k shift_word s) in
      gives_by Goal (eqb k nothing_yet_word)
      (λ e all. rw (eqb-true k nothing_yet_word e, ne_eqb nothing_yet_word w (λ q. figure.not_nothing_yet (sym q))) (has all))
      (λ e. gives_by Goal (eqb k designate_word)
      (λ e all. rw (eqb-true k designate_word e)
      (omega (arith, one_and (eqb designate_word w) many, one_more_lem designate_word d w, has all)))
      (λ e. gives_by Goal (eqb k shift_word)
      (λ e all. rw (eqb-true k shift_word e) (omega (arith, one_and (eqb shift_word w) many, one_more_lem shift_word s w, has all)))
      (λ e all. impossible (cc))))

  has_all : (l : List Placed) → all_of_opening l ≡ true → Has (how_many w l) (how_many designate_word l) (how_many shift_word l)
  unfolding part
  has_all [] all = omega (arith, part_of_none designate_word w, part_of_none shift_word w)
  has_all (a ∷ l) all =
      has_one_more (word_of a.answer) (how_many w l) (how_many designate_word l) (how_many shift_word l) (all_of_opening l) (has_all l) all

-- the same number as a sum, which takes fewer steps to compute
abbrev in_all : ℕ → List Placed → ℕ
in_all w [] = 0
in_all w (a ∷ l) = (eqb (word_of a.answer) w gives 1 or 0) + in_all w l

how_many_in_all : (w : ℕ) (l : List Placed) → how_many w l ≡ in_all w l
how_many_in_all w [] = refl
how_many_in_all w (a ∷ l) = omega (arith, one_and (eqb (word_of a.answer) w) (how_many w l), how_many_in_all w l)

how_many_on : (w : ℕ) (l more : List Placed) → how_many w (l ++ more) ≡ how_many w l + how_many w more
how_many_on w [] more = omega arith
how_many_on w (a ∷ l) more =
    let t : Bool = eqb (word_of a.answer) w in
    omega (arith, how_many_on w l more, one_and t (how_many w l), one_and t (how_many w (l ++ more)))

-- ---- an opening, computed

-- its answers, on the ground
abbrev answers_in : Form → ℕ → Sets → Element → Element → List Placed
answers_in m at t left right = answers_from at (on_ground m t left right) (opening m)

-- what it has, and that it refuses nothing
record OfOpening (m : Form) (at : ℕ) (t : Sets) (left right : Element) : Type 0 where
  pub all : all_of_opening (answers_in m at t left right) ≡ true
  pub designations : in_all designate_word (answers_in m at t left right) ≡ 6
  pub shifts : in_all shift_word (answers_in m at t left right) ≡ 2
  pub refuses : (l : List Placed) → first_refusal (answers_in m at t left right ++ l) ≡ first_refusal l

of_opening_lem : (m : Form) (at : ℕ) (t : Sets) (left right : Element) → OfOpening m at t left right
unfolding between column_area form_has_column position_of set_byte sequence_byte c1_function shift_or_other meaning_of_none designation
    by_intermediate meaning_of_one matched_with one_more c0_byte byte_in means answer_in_step answer_lost answer_to
of_opening_lem Form.Seven at t left right =
    record { all = refl; designations = refl; shifts = refl; refuses = λ l. refl }
of_opening_lem Form.Eight at t left right =
    record { all = refl; designations = refl; shifts = refl; refuses = λ l. refl }

at_least_eight : (m : Form) → 8 ≤ length (opening m)
at_least_eight Form.Seven = omega arith
at_least_eight Form.Eight = omega arith

-- ---- what is counted goes on over it

module _ {form : Form} {text counts : List ℕ} {first : Option Refused} {place : ℕ} (t : Sets) (left right : Element)
    (c : Counting form text counts first (on_ground form t left right) place)
    (begins : begins_with (drop place text) (opening form) ≡ true) where
  abbrev reader : Reader
  reader = on_ground form t left right

  abbrev there : ℕ
  there = place + length (opening form)

  abbrev after_it : List ℕ
  after_it = drop there text

  abbrev whole : List Placed
  whole = answers_in form place t left right

  abbrev rest : List Placed
  rest = answers_from there (started form) after_it

  computed : OfOpening form place t left right
  computed = of_opening_lem form place t left right

  text_is : drop place text ≡ opening form ++ after_it
  text_is =
      begins_rest (drop place text) (opening form) begins ∙
      ap (λ (l : List ℕ). opening form ++ l) (drop-drop (length (opening form)) place text)

  reader_is : reader_after reader (opening form) ≡ started form
  reader_is =
      from_in_step form Within.Ground t left right 0 c.gr_shows_g1 (nothing_after form [] 0 (noted_none form))

  answers_are : answers_from place reader (drop place text) ≡ whole ++ rest
  answers_are =
      ap (answers_from place reader) text_is ∙ answers_on (opening form) after_it place reader ∙
      ap (λ (r : Reader). whole ++ answers_from there r after_it) reader_is

  end_is : end_of_text (reader_after reader (drop place text)) ≡ end_of_text (reader_after (started form) after_it)
  end_is =
      ap (λ (l : List ℕ). end_of_text (reader_after reader l)) text_is ∙ ap end_of_text (reader_on (opening form) after_it reader) ∙
      ap (λ (r : Reader). end_of_text (reader_after r after_it)) reader_is

  many_are : (w : ℕ) → HasFigure w →
      how_many w (answers_from place reader (drop place text)) ≡ part designate_word 6 w + part shift_word 2 w + how_many w rest
  many_are w figure =
      ap (how_many w) answers_are ∙ how_many_on w whole rest ∙
      ap (λ (n : ℕ). n + how_many w rest)
      (has_all w figure whole computed.all ∙
      ap (λ (n : ℕ). part designate_word n w + part shift_word (how_many shift_word whole) w)
      (how_many_in_all designate_word whole ∙ computed.designations) ∙
      ap (λ (n : ℕ). part designate_word 6 w + part shift_word n w) (how_many_in_all shift_word whole ∙ computed.shifts))

  inside : there ≤ length text
  inside =
      omega (
        arith,
        c.fits.within,
        ap length text_is,
        length-append (opening form) after_it,
        length-drop place text,
        length-drop there text,
      )

  fits_designations : Fits text (added counts designate_word 6) (place + 6)
  fits_designations = fits_more c.fits designate_word 6 refl (omega (arith, inside, at_least_eight form))

  fits_opening : Fits text (opening_counted counts) there
  fits_opening =
      let long = at_least_eight form in
      let within = inside in
      let f = fits_more fits_designations shift_word 2 refl (omega arith) in
      record { short = f.short; within = within; bounded = λ w. omega (arith, f.bounded w) }

  words_designations : length (added counts designate_word 6) ≡ 11
  words_designations = length-set counts designate_word (get_or counts designate_word 0 + 6) ∙ c.words

  counts_opening : Counting form text (opening_counted counts) first (started form) there
  counts_opening = record {
    fits = fits_opening;
    words = length-set (added counts designate_word 6) shift_word (get_or (added counts designate_word 6) shift_word 0 + 2) ∙ words_designations;
    in_form = refl;
    gr_shows_g1 = λ seven. refl;
    counted = λ w figure. omega (
      arith,
      c.counted w figure,
      many_are w figure,
      entry counts designate_word 6 w (omega (arith, c.words)),
      entry (added counts designate_word 6) shift_word 2 w (omega (arith, words_designations)),
    );
    refused = ap (first_of first) (sym (computed.refuses rest) ∙ ap first_refusal (sym answers_are)) ∙ c.refused;
    ends = sym end_is ∙ c.ends;
  }

module _ {form : Form} {text cells counts : List ℕ} {first : Option Refused} {place : ℕ} (c : Counts form text cells counts first place)
    {i : Item} (o : Opens form text c.reader place i) where
  pub opening_onward : place + 8 ≤ i.place
  opening_onward = omega (arith, ap (λ (x : Item). x.place) o.is, at_least_eight form)

  pub opening_counts : Counts form text starting_cells (opening_counted counts) first i.place
  opening_counts =
      let r : Reader = c.reader in
      let ground : r ≡ on_ground form r.sets r.gl r.gr =
      λ j. record {
        form = c.counting.in_form j;
        sets = r.sets;
        gl = r.gl;
        gr = r.gr;
        gone = c.stands.nothing_gone j;
        standing = o.ground j;
      } in
      rw (ap (λ (x : Item). x.place) o.is)
      (in_step_again
      (counts_opening r.sets r.gl r.gr
      (subst (λ (x : Reader). Counting form text counts first x place) ground c.counting) o.begins))
