-- Going over a text goes on by an item: an opening or an answer is one unit more, whose code is written where there is room and which is weighed
-- where there is none; a shift is no unit.
use Prim.Native.Nat.{ℕ, suc, ◌+◌, ◌<◌, ◌≤◌}
use mathlib.Core.Path.{◌≡◌, refl, sym, ap, ◌∙◌, subst}
use mathlib.Core.Bool.{Bool, true, false}
use mathlib.Core.List.{List, [], ◌∷◌, ◌++◌, append_assoc, append-nil}
use native.Mathlib.Omega.{arith}
use native.Mathlib.Nat.{add-zero}
use native.Mathlib.Numerals.{add-one}
use borrow.Author.Tests.{ltb-true, ltb-false}
use lib.Dec.{ltb}
use lib.ListN.{length, set, drop, get_or, length-append, length-set}
use lib.Seq.{drop-cons, set_at}
use Rattle.paper.specs.Choice.{◌gives◌or◌}
use Rattle.paper.specs.Starting.{starting_sets, opening}
use Rattle.paper.specs.LentBuffers.{over}
use Rattle.paper.specs.WrittenForms.{sequence_of, sets_with}
use Rattle.paper.specs.declared.Form.{Form}
use Rattle.paper.specs.declared.Element.{Element}
use Rattle.paper.specs.declared.Element.TheVariants.{G0, G1, G2, G3}
use Rattle.paper.specs.declared.Sets.{Sets}
use Rattle.paper.specs.declared.Answer.{Answer}
use Rattle.paper.proofs.WhatCanBeWritten.{Steps, ended, said, opened}
use Rattle.items.specs.States.{starting_cells}
use Rattle.shortest.specs.ShortestText.{steps_of, cost, cost_of, shortest_from}
use Rattle.shortest.specs.Shortening.{shortest_text}
use Rattle.shortest.proofs.WhatIsChosen.{after, long_text}
use Rattle.shortener.specs.ByElements.{at_element, by_element, lowest_of}
use Rattle.shortener.specs.declared.code.Code.{Code}
use Rattle.shortener.specs.Codes.{cost_by, count_in, packed, code_of, codes_of}
use Rattle.shortener.specs.Ways.{first_ways, with, further, Closed}
use Rattle.shortener.specs.Going.{Going}
use Rattle.shortener.specs.Weighing.{all_codes, unit_more, opening_more, answer_more, more, put, Bounded, Weight, Weighing}
use Rattle.shortener.specs.declared.weigh.Weighed.{Weighed}
use Rattle.shortener.proofs.CodesAsBytes.{same_each}
use Rattle.shortener.proofs.SmallCosts.{small_cost}
use Rattle.shortener.proofs.CodesTell.{few_bytes, cost_told}
use Rattle.shortener.proofs.StepsByItems.{no_step_left}
use Rattle.shortener.proofs.WaysGoOn.{lowest_at, first_closed, first_total, further_low, further_closed, further_total}

-- ---- one code more over the work buffer

pub over_one : (so_far lent : List ℕ) (k : ℕ) → length so_far < length lent →
    set (over so_far lent) (length so_far) k ≡ over (so_far ++ (k ∷ [])) lent
over_one so_far lent k room =
    let n : ℕ = length so_far in
    ap (λ (l : List ℕ). set (so_far ++ l) n k) (drop-cons lent n 0 room) ∙
    set_at so_far (get_or lent n 0) (drop (suc n) lent) k n refl ∙
    sym (append_assoc so_far (k ∷ []) (drop (suc n) lent)) ∙
    ap (λ (j : ℕ). (so_far ++ (k ∷ [])) ++ drop j lent) (sym (add-one n) ∙ sym (length-append so_far (k ∷ [])))

-- ---- what is said of each element

same_at : (n : Element → ℕ) (e : Element) → at_element (by_element n) e ≡ n e
same_at n e = ap (λ (m : Element → ℕ). m e) (same_each n)

first_low : (e : Element) → first_ways e ≤ 2
first_low G0 = omega arith
first_low G1 = omega arith
first_low G2 = omega arith
first_low G3 = omega arith

-- ---- a unit more

module _ {m : Form} {text lent cells : List ℕ} {v : Weighed} {work : List ℕ} (p : Weighing m text lent cells v work)
    (inside : v.place < length text) where
  -- at a later place, with one unit more at most
  bounded_on : (next count : ℕ) → v.place < next → count ≤ v.count + 1 →
      Bounded (record { place = next; count = count; length = v.length; ways = v.ways })
  bounded_on next count onward at_most = record {
    few = omega (arith, p.bounded.few, onward, at_most);
    each = λ e. omega (arith, p.bounded.each e, onward);
  }

  -- what is left after a unit that has this code
  module _ (code : Code) (next : ℕ) (else : Weighed) (then : Steps) (u : Sets) (known : List ℕ) (onward : v.place < next)
      (codes : codes_of p.steps p.sets ≡ packed code ∷ codes_of then u) (count_is : else.count ≡ v.count + 1) (place_is : else.place ≡ next)
      (going : Going m text known next then u) (bounded : Bounded else) (weight : length lent ≡ 0 → Weight m text then u else) where
    abbrev so_far : List ℕ
    so_far = p.before ++ (packed code ∷ [])

    whole_then : so_far ++ codes_of then u ≡ all_codes m text
    whole_then = append_assoc p.before (packed code ∷ []) (codes_of then u) ∙ ap (λ (l : List ℕ). p.before ++ l) (sym codes) ∙ p.whole

    counted_then : length so_far ≡ v.count + 1
    counted_then = length-append p.before (packed code ∷ []) ∙ ap (λ (n : ℕ). n + 1) p.counted

    written : v.count < length work → Weighing m text lent known (unit_more v next) (set work v.count (packed code))
    written room = record {
      steps = then;
      sets = u;
      going = going;
      bounded = bounded_on next (v.count + 1) onward (omega arith);
      before = so_far;
      whole = whole_then;
      counted = counted_then;
      as_long = length-set work v.count (packed code) ∙ p.as_long;
      wrote = λ h.
          ap (λ (l : List ℕ). set l v.count (packed code)) (p.wrote h) ∙
          ap (λ (n : ℕ). set (over p.before lent) n (packed code)) (sym p.counted) ∙
          over_one p.before lent (packed code) (omega (arith, room, p.counted, p.as_long));
      weight = λ none. absurd (omega (arith, none, room, p.as_long));
    }

    weighed : length work ≤ v.count → Weighing m text lent known else work
    weighed none = record {
      steps = then;
      sets = u;
      going = subst (λ (n : ℕ). Going m text known n then u) (sym place_is) going;
      bounded = bounded;
      before = so_far;
      whole = whole_then;
      counted = counted_then ∙ sym count_is;
      as_long = p.as_long;
      wrote = λ h. absurd (omega (arith, h, none, p.bounded.few, inside, p.as_long));
      weight = weight;
    }

    pub unit_more_lem : Weighing m text lent known (more v next work else) (put v work code)
    unit_more_lem = by (ltb v.count (length work)) refl
      where
        by : (b : Bool) → ltb v.count (length work) ≡ b →
            Weighing m text lent known (b gives unit_more v next or else) (b gives set work v.count (packed code) or work)
        by true h = written (ltb-true v.count (length work) h)
        by false h = weighed (ltb-false v.count (length work) h)

  -- ---- an opening

  bounded_opening : (next : ℕ) → v.place < next → Bounded (opening_more v next)
  bounded_opening next onward =
      let h = p.bounded in
      let low = lowest_at (at_element v.ways) G0 in
      record {
        few = omega (arith, h.few, onward);
        each = λ e. omega (arith, h.each G0, low, onward, same_at first_ways e, first_low e);
      }

  without_cost : (s : Steps) (t : Sets) → with (at_element v.ways) (cost_of (opened s) t) ≡ at_element v.ways
  unfolding cost_of
  without_cost s t i e = add-zero (at_element v.ways e) i

  after_opening : (then : Steps) → Going m text cells v.place (opened then) p.sets →
      after (opened then) ≡ length (opening Form.Seven) + (cost_of then starting_sets G0 + after then)
  after_opening then g =
      length-append (opening Form.Seven) (shortest_from then starting_sets G0) ∙
      ap (λ (n : ℕ). length (opening Form.Seven) + n) (long_text then starting_sets refl g.all G0)

  weight_opening : (next : ℕ) (then : Steps) → p.steps ≡ opened then → length lent ≡ 0 → Weight m text then starting_sets (opening_more v next)
  weight_opening next then is none =
      let w : Weight m text (opened then) p.sets v = subst (λ (s : Steps). Weight m text s p.sets v) is (p.weight none) in
      let g : Going m text cells v.place (opened then) p.sets = subst (λ (s : Steps). Going m text cells v.place s p.sets) is p.going in
      let lows : lowest_of (with (at_element v.ways) (cost_of (opened then) p.sets)) ≡ lowest_of (at_element v.ways) =
      ap lowest_of (without_cost then p.sets) in
      let firsts : lowest_of (with (at_element (by_element first_ways)) (cost_of then starting_sets)) ≡ cost_of then starting_sets G0 =
      ap (λ (n : Element → ℕ). lowest_of (with n (cost_of then starting_sets))) (same_each first_ways) ∙ first_total then starting_sets in
      record {
        closed = subst Closed (sym (same_each first_ways)) first_closed;
        total = omega (arith, w.total, lows, firsts, after_opening then g);
      }

  pub opening_more_lem : (next : ℕ) (then : Steps) (known : List ℕ) → v.place < next → p.steps ≡ opened then →
      Going m text known next then starting_sets →
      Weighing m text lent known (more v next work (opening_more v next)) (put v work Code.Opening)
  opening_more_lem next then known onward is going =
      unit_more_lem Code.Opening next (opening_more v next) then starting_sets known onward (ap (λ (s : Steps). codes_of s p.sets) is) refl refl going
      (bounded_opening next onward) (weight_opening next then is)

  -- ---- an answer

  bounded_answer : (next : ℕ) (code : Code) → count_in code ≤ 15 → v.place < next → Bounded (answer_more v next code)
  bounded_answer next code short onward =
      let h = p.bounded in
      let low : (e : Element) → further (at_element v.ways) (cost_by code) e ≤ at_element v.ways e + cost_by code e =
      further_low (at_element v.ways) (cost_by code) in
      record {
        few = omega (arith, h.few, onward);
        each = λ e. omega (arith, h.each e, low e, small_cost code short e, onward, same_at (further (at_element v.ways) (cost_by code)) e);
      }

  weight_answer : (next : ℕ) (x : Answer) (then : Steps) → p.steps ≡ said x then → length lent ≡ 0 →
      Weight m text then (sets_with p.sets x) (answer_more v next (code_of p.sets x))
  weight_answer next x then is none =
      let t : Sets = p.sets in
      let u : Sets = sets_with t x in
      let ways : Element → ℕ = at_element v.ways in
      let w : Weight m text (said x then) t v = subst (λ (s : Steps). Weight m text s t v) is (p.weight none) in
      let same : at_element (by_element (further ways (cost_by (code_of t x)))) ≡ further ways (cost t x) =
      same_each (further ways (cost_by (code_of t x))) ∙ ap (further ways) (λ i e. cost_told t x e i) in
      let sums :
      lowest_of (with (at_element (by_element (further ways (cost_by (code_of t x))))) (cost_of then u)) ≡
      lowest_of (with (further ways (cost t x)) (cost_of then u)) =
      ap (λ (n : Element → ℕ). lowest_of (with n (cost_of then u))) same in
      record {
        closed = subst Closed (sym same) (further_closed ways (cost t x));
        total = omega (arith, w.total, sums, further_total ways w.closed x then t);
      }

  pub answer_more_lem : (next : ℕ) (x : Answer) (then : Steps) (known : List ℕ) → v.place < next → p.steps ≡ said x then →
      Going m text known next then (sets_with p.sets x) →
      let code = code_of p.sets x in
      Weighing m text lent known (more v next work (answer_more v next code)) (put v work code)
  answer_more_lem next x then known onward is going =
      let code : Code = code_of p.sets x in
      unit_more_lem code next (answer_more v next code) then (sets_with p.sets x) known onward (ap (λ (s : Steps). codes_of s p.sets) is) refl refl going
      (bounded_answer next code (few_bytes p.sets x) onward) (weight_answer next x then is)

  -- ---- a shift

  pub shift_more : (next : ℕ) (known : List ℕ) → v.place < next → Going m text known next p.steps p.sets →
      Weighing m text lent known (record { place = next; count = v.count; length = v.length; ways = v.ways }) work
  shift_more next known onward going = record {
    steps = p.steps;
    sets = p.sets;
    going = going;
    bounded = bounded_on next v.count onward (omega arith);
    before = p.before;
    whole = p.whole;
    counted = p.counted;
    as_long = p.as_long;
    wrote = p.wrote;
    weight = λ none. let w = p.weight none in record { closed = w.closed; total = w.total };
  }

-- ---- the start and the end

pub weighing_starts : (m : Form) (text lent : List ℕ) → Going m text starting_cells 0 (steps_of (sequence_of m text)) starting_sets →
    Weighing m text lent starting_cells (record { place = 0; count = 0; length = 0; ways = by_element first_ways }) lent
weighing_starts m text lent going = record {
  steps = steps_of (sequence_of m text);
  sets = starting_sets;
  going = going;
  bounded = record { few = omega arith; each = λ e. omega (arith, same_at first_ways e, first_low e) };
  before = [];
  whole = refl;
  counted = refl;
  as_long = refl;
  wrote = λ h. refl;
  weight = λ none.
      let s : Steps = steps_of (sequence_of m text) in
      let firsts : lowest_of (with (at_element (by_element first_ways)) (cost_of s starting_sets)) ≡ cost_of s starting_sets G0 =
      ap (λ (n : Element → ℕ). lowest_of (with n (cost_of s starting_sets))) (same_each first_ways) ∙ first_total s starting_sets in
      record {
        closed = subst Closed (sym (same_each first_ways)) first_closed;
        total = omega (arith, firsts, long_text s starting_sets refl going.all G0);
      };
}

module _ {m : Form} {text lent cells : List ℕ} {v : Weighed} {work : List ℕ} (p : Weighing m text lent cells v work)
    (past : length text ≤ v.place) where
  none_left : p.steps ≡ ended
  none_left = no_step_left p.going past

  all_before : p.before ≡ all_codes m text
  all_before =
      sym (append-nil p.before) ∙ ap (λ (s : Steps). p.before ++ codes_of s p.sets) (sym none_left) ∙ p.whole

  nothing_costs : with (at_element v.ways) (cost_of ended p.sets) ≡ at_element v.ways
  unfolding cost_of
  nothing_costs i e = add-zero (at_element v.ways e) i

  pub weighed_all : length lent ≡ 0 → v.length + lowest_of (at_element v.ways) ≡ length (shortest_text m text)
  weighed_all none =
      let w : Weight m text ended p.sets v = subst (λ (s : Steps). Weight m text s p.sets v) none_left (p.weight none) in
      let lows : lowest_of (with (at_element v.ways) (cost_of ended p.sets)) ≡ lowest_of (at_element v.ways) = ap lowest_of nothing_costs in
      omega (arith, w.total, lows)

  pub written_all : length text ≤ length lent →
      (work ≡ over (all_codes m text) lent) × (v.count ≡ length (all_codes m text)) × (v.count ≤ length text)
  written_all room = (
    p.wrote room ∙ ap (λ (l : List ℕ). over l lent) all_before,
    sym p.counted ∙ ap length all_before,
    omega (arith, p.bounded.few, p.going.reading.within),
  )
