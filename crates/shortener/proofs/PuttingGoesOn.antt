-- The output goes on by an item: an opening is written whole, an answer after the shift that was chosen for it, and a shift is not written.
use Prim.Native.Nat.{ℕ, ◌+◌, ◌<◌, ◌≤◌}
use mathlib.Core.Path.{◌≡◌, refl, sym, ap, ◌∙◌}
use mathlib.Core.Bool.{false}
use mathlib.Core.List.{List, [], ◌∷◌, ◌++◌, append_assoc, append-nil}
use native.Mathlib.Omega.{arith}
use lib.ListN.{length, get_or, length-append}
use lib.Seq.{sets, get_or_at}
use Rattle.paper.specs.Starting.{starting_sets, opening}
use Rattle.paper.specs.LentBuffers.{over}
use Rattle.paper.specs.WrittenForms.{left_out, sequence_of, sets_with}
use Rattle.paper.specs.declared.Form.{Form}
use Rattle.paper.specs.declared.Element.{Element}
use Rattle.paper.specs.declared.Element.TheVariants.{G0}
use Rattle.paper.specs.declared.Sets.{Sets}
use Rattle.paper.specs.declared.Answer.{Answer}
use Rattle.paper.proofs.WhatCanBeWritten.{CanBeWritten, Steps, said, opened}
use Rattle.items.specs.States.{starting_cells}
use Rattle.items.proofs.OverTheBuffer.{length_over, over_more}
use Rattle.shortest.specs.ShortestText.{steps_of, bytes_under, shift_from, chosen, costs, shortest_from}
use Rattle.shortest.specs.Shortening.{shortest_text}
use Rattle.shortener.specs.declared.code.Code.{Code}
use Rattle.shortener.specs.Codes.{packed, unpacked, code_of, codes_of}
use Rattle.shortener.specs.Choices.{choices_with, packed_choices, costs_by, choices_by, choice_in}
use Rattle.shortener.specs.Going.{Going}
use Rattle.shortener.specs.Putting.{Putting}
use Rattle.shortener.specs.declared.put.Written.{Written}
use Rattle.shortener.proofs.StepsByItems.{no_step_left}
use Rattle.shortener.proofs.CodesTell.{choice_told}

module _ {m : Form} {text lent work cells : List ℕ} {v : Written} {buffer : List ℕ} (p : Putting m text lent work cells v buffer) where
  -- the buffer is as long as it was lent
  so_far_fits : length p.so_far ≤ length lent
  so_far_fits =
      omega (arith, ap length p.whole, length-append p.so_far (shortest_from p.steps p.sets v.shown), p.room)

  pub buffer_long : length buffer ≡ length lent
  buffer_long = ap length p.wrote ∙ length_over p.so_far lent so_far_fits

  -- what is written next, and what is left after it
  module _ (bytes : List ℕ) (then : Steps) (u : Sets) (e : Element)
      (is : shortest_from p.steps p.sets v.shown ≡ bytes ++ shortest_from then u e) where
    pub fits_here : v.at + length bytes ≤ length lent
    fits_here =
        omega (
          arith,
          p.at_is,
          ap length p.whole,
          ap length is,
          length-append p.so_far (shortest_from p.steps p.sets v.shown),
          length-append bytes (shortest_from then u e),
          p.room,
        )

    whole_then : (p.so_far ++ bytes) ++ shortest_from then u e ≡ shortest_text m text
    whole_then = append_assoc p.so_far bytes (shortest_from then u e) ∙ ap (λ (l : List ℕ). p.so_far ++ l) (sym is) ∙ p.whole

    wrote_then : (after_it : List ℕ) → after_it ≡ sets buffer v.at bytes → after_it ≡ over (p.so_far ++ bytes) lent
    wrote_then after_it stored =
        stored ∙ ap (λ (l : List ℕ). sets l v.at bytes) p.wrote ∙ over_more p.so_far lent bytes v.at p.at_is fits_here

    at_then : length (p.so_far ++ bytes) ≡ v.at + length bytes
    at_then = length-append p.so_far bytes ∙ ap (λ (n : ℕ). n + length bytes) p.at_is

    -- a unit more
    pub unit_put : (choice : ℕ) → choices_by (codes_of p.steps p.sets) ≡ choice ∷ choices_by (codes_of then u) →
        (next : ℕ) (known after_it : List ℕ) → v.place < next → Going m text known next then u → after_it ≡ sets buffer v.at bytes →
        Putting m text lent work known (record { place = next; unit = v.unit + 1; at = v.at + length bytes; shown = e }) after_it
    unit_put choice codes next known after_it onward going stored = record {
      steps = then;
      sets = u;
      going = going;
      front = p.front ++ (choice ∷ []);
      rest = p.rest;
      choices = p.choices ∙ ap (λ (l : List ℕ). p.front ++ (l ++ p.rest)) codes ∙
          sym (append_assoc p.front (choice ∷ []) (choices_by (codes_of then u) ++ p.rest));
      counted = length-append p.front (choice ∷ []) ∙ ap (λ (n : ℕ). n + 1) p.counted;
      few = omega (arith, p.few, onward);
      so_far = p.so_far ++ bytes;
      whole = whole_then;
      at_is = at_then;
      room = p.room;
      wrote = wrote_then after_it stored;
    }

  -- ---- an opening

  opening_first : (then : Steps) → p.steps ≡ opened then →
      shortest_from p.steps p.sets v.shown ≡ opening Form.Seven ++ shortest_from then starting_sets G0
  unfolding shortest_from
  opening_first then is = ap (λ (s : Steps). shortest_from s p.sets v.shown) is

  opening_choice : (then : Steps) → p.steps ≡ opened then →
      choices_by (codes_of p.steps p.sets) ≡
      packed_choices (choices_with (unpacked (packed Code.Opening)) (costs_by (codes_of then starting_sets))) ∷
      choices_by (codes_of then starting_sets)
  unfolding choices_by
  opening_choice then is = ap (λ (s : Steps). choices_by (codes_of s p.sets)) is

  pub opening_fits : (then : Steps) → p.steps ≡ opened then → v.at + length (opening Form.Seven) ≤ length lent
  opening_fits then is = fits_here (opening Form.Seven) then starting_sets G0 (opening_first then is)

  pub opening_put_lem : (then : Steps) → p.steps ≡ opened then → (next : ℕ) (known after_it : List ℕ) → v.place < next →
      Going m text known next then starting_sets →
      after_it ≡ sets buffer v.at (opening Form.Seven) →
      Putting m text lent work known
      (record { place = next; unit = v.unit + 1; at = v.at + length (opening Form.Seven); shown = G0 }) after_it
  opening_put_lem then is next known after_it onward going stored =
      unit_put (opening Form.Seven) then starting_sets G0 (opening_first then is) _ (opening_choice then is) next known after_it onward going stored

  -- ---- an answer

  module _ (x : Answer) (then : Steps) (is : p.steps ≡ said x then) (stays : left_out x ≡ false) (can : CanBeWritten p.sets x) where
    abbrev pub to_show : Element
    to_show = chosen (costs x then p.sets) v.shown (bytes_under v.shown x)

    abbrev pub answer_bytes : List ℕ
    answer_bytes = shift_from v.shown to_show ++ bytes_under to_show x

    answer_first : shortest_from p.steps p.sets v.shown ≡ answer_bytes ++ shortest_from then (sets_with p.sets x) to_show
    unfolding shortest_from
    answer_first =
        ap (λ (s : Steps). shortest_from s p.sets v.shown) is ∙
        sym (append_assoc (shift_from v.shown to_show) (bytes_under to_show x) (shortest_from then (sets_with p.sets x) to_show))

    abbrev choice : ℕ
    choice = packed_choices (choices_with (unpacked (packed (code_of p.sets x))) (costs_by (codes_of then (sets_with p.sets x))))

    answer_choice : choices_by (codes_of p.steps p.sets) ≡ choice ∷ choices_by (codes_of then (sets_with p.sets x))
    unfolding choices_by
    answer_choice = ap (λ (s : Steps). choices_by (codes_of s p.sets)) is

    work_is : work ≡ p.front ++ (choice ∷ (choices_by (codes_of then (sets_with p.sets x)) ++ p.rest))
    work_is = p.choices ∙ ap (λ (l : List ℕ). p.front ++ (l ++ p.rest)) answer_choice

    -- the choice stands at its place
    pub choice_within : v.unit < length work
    choice_within =
        omega (
          arith,
          ap length work_is,
          length-append p.front (choice ∷ (choices_by (codes_of then (sets_with p.sets x)) ++ p.rest)),
          p.counted,
        )

    pub choice_here : choice_in (get_or work v.unit 0) v.shown ≡ to_show
    choice_here =
        ap (λ (l : List ℕ). choice_in (get_or l v.unit 0) v.shown) work_is ∙
        ap (λ (n : ℕ). choice_in n v.shown)
        (get_or_at p.front choice (choices_by (codes_of then (sets_with p.sets x)) ++ p.rest) 0 v.unit p.counted) ∙
        choice_told x then p.sets v.shown stays can

    pub answer_fits : v.at + length answer_bytes ≤ length lent
    answer_fits = fits_here answer_bytes then (sets_with p.sets x) to_show answer_first

    pub answer_put_lem : (next : ℕ) (known after_it : List ℕ) → v.place < next → Going m text known next then (sets_with p.sets x) →
        after_it ≡ sets buffer v.at answer_bytes →
        Putting m text lent work known
        (record { place = next; unit = v.unit + 1; at = v.at + length answer_bytes; shown = to_show }) after_it
    answer_put_lem next known after_it onward going stored =
        unit_put answer_bytes then (sets_with p.sets x) to_show answer_first choice answer_choice next known after_it onward going stored

  -- ---- a shift

  pub shift_put : (next : ℕ) (known : List ℕ) → v.place < next → Going m text known next p.steps p.sets →
      Putting m text lent work known (record { place = next; unit = v.unit; at = v.at; shown = v.shown }) buffer
  shift_put next known onward going = record {
    steps = p.steps;
    sets = p.sets;
    going = going;
    front = p.front;
    rest = p.rest;
    choices = p.choices;
    counted = p.counted;
    few = omega (arith, p.few, onward);
    so_far = p.so_far;
    whole = p.whole;
    at_is = p.at_is;
    room = p.room;
    wrote = p.wrote;
  }

  -- ---- the end

  pub put_all : length text ≤ v.place → buffer ≡ over (shortest_text m text) lent
  unfolding shortest_from
  put_all past =
      let all : p.so_far ≡ shortest_text m text =
      sym (append-nil p.so_far) ∙
      ap (λ (s : Steps). p.so_far ++ shortest_from s p.sets v.shown) (sym (no_step_left p.going past)) ∙ p.whole in
      p.wrote ∙ ap (λ (l : List ℕ). over l lent) all

pub putting_starts : (m : Form) (text lent work rest : List ℕ) → Going m text starting_cells 0 (steps_of (sequence_of m text)) starting_sets →
    work ≡ choices_by (codes_of (steps_of (sequence_of m text)) starting_sets) ++ rest → length (shortest_text m text) ≤ length lent →
    Putting m text lent work starting_cells (record { place = 0; unit = 0; at = 0; shown = G0 }) lent
putting_starts m text lent work rest going choices room = record {
  steps = steps_of (sequence_of m text);
  sets = starting_sets;
  going = going;
  front = [];
  rest = rest;
  choices = choices;
  counted = refl;
  few = omega arith;
  so_far = [];
  whole = refl;
  at_is = refl;
  room = room;
  wrote = refl;
}
