-- A code tells what it was made from: what its answer costs while GL shows an element, and whether the answer's bytes come before a locking
-- shift. So the costs and the choices that are made from the codes of a sequence are those of the sequence.
use Prim.Native.Nat.{ℕ, ◌+◌, ◌*◌, ◌/◌, ◌%◌, ◌<◌, ◌≤◌}
use mathlib.Core.Path.{◌≡◌, refl, sym, ap, ◌∙◌}
use mathlib.Core.Bool.{Bool, true, false}
use mathlib.Core.List.{List, ◌∷◌, map}
use native.Mathlib.Omega.{arith}
use borrow.Author.Tests.{lt-ltb, le-ltb, eqb-true, eqb-false, ltb-true, ltb-false}
use lib.Dec.{ltb, eqb}
use lib.ListN.{length}
use Rattle.paper.specs.Choice.{◌gives◌or◌}
use Rattle.paper.specs.CodeTable.{esc}
use Rattle.paper.specs.Sequences.{final_of_ls2}
use Rattle.paper.specs.Characters.{bytes_so_far}
use Rattle.paper.specs.Results.{position_values}
use Rattle.paper.specs.WrittenForms.{left_out, byte_from, sets_with}
use Rattle.paper.specs.Sets.{set_in}
use Rattle.paper.specs.Starting.{starting_sets}
use Rattle.paper.specs.declared.Kind.{Kind}
use Rattle.paper.specs.declared.Element.{Element}
use Rattle.paper.specs.declared.Element.TheVariants.{G0, G1, G2, G3}
use Rattle.paper.specs.declared.Set.{Set}
use Rattle.paper.specs.declared.Sets.{Sets}
use Rattle.paper.specs.declared.GraphicArea.{GraphicArea}
use Rattle.paper.specs.declared.PositionBytes.{PositionBytes}
use Rattle.paper.specs.declared.Answer.{Answer}
use Rattle.paper.proofs.Choices.{impossible, gives_by}
use Rattle.paper.proofs.WrittenBytes.{of_set_bounds}
use Rattle.paper.proofs.WhatCanBeWritten.{AllOfSet, CanBeWritten, Steps, ended, said, opened}
use Rattle.shortest.specs.ShortestText.{is_of94, far, bytes_under, cost, shift_to, rank, moving, cheapest, chosen, least}
use Rattle.shortest.specs.ShortestText.{cost_of, costs}
use Rattle.shortest.proofs.BytesOfAnAnswer.{short_at_home, Clear, byte_alone, two_bytes, clear_bytes}
use Rattle.shortener.specs.declared.code.Place.{Place}
use Rattle.shortener.specs.declared.code.Code.{Code}
use Rattle.shortener.specs.ByElements.{at_element, by_element, index_of, element_at}
use Rattle.shortener.specs.Codes.{place_of_rank, character_cost, cost_by, character_place, place_by, is_opening, count_in, packed, unpacked, code_of, codes_of}
use Rattle.shortener.specs.Choices.{is_before, choice_at, with_code, choices_with, packed_choices, choice_in, costs_by}
use Rattle.shortener.proofs.CodesAsBytes.{same_each, index_bound, element_back, code_told}

-- ---- what an answer costs

positions_length : (p : PositionBytes) → length (map (byte_from GraphicArea.GL) (position_values p)) ≡ bytes_so_far p
positions_length (PositionBytes.One a) = refl
positions_length (PositionBytes.Two a b) = refl
positions_length (PositionBytes.Three a b c) = refl

-- with a single shift
few_positions : (p : PositionBytes) → bytes_so_far p ≤ 3
few_positions (PositionBytes.One a) = omega arith
few_positions (PositionBytes.Two a b) = omega arith
few_positions (PositionBytes.Three a b c) = omega arith

shifted_length : (p : PositionBytes) → bytes_so_far p + 2 ≡ length (esc ∷ esc ∷ map (byte_from GraphicArea.GL) (position_values p))
shifted_length p = omega (arith, positions_length p)

character_cost_is : (own e : Element) (p : PositionBytes) (t : Sets) (x : Set) →
    character_cost own e (bytes_so_far p) ≡ cost t (Answer.Char own x p) e
character_cost_is G0 G0 p t x = sym (positions_length p)
character_cost_is G0 G1 p t x = refl
character_cost_is G0 G2 p t x = refl
character_cost_is G0 G3 p t x = refl
character_cost_is G1 G0 p t x = refl
character_cost_is G1 G1 p t x = sym (positions_length p)
character_cost_is G1 G2 p t x = refl
character_cost_is G1 G3 p t x = refl
character_cost_is G2 G0 p t x = shifted_length p
character_cost_is G2 G1 p t x = shifted_length p
character_cost_is G2 G2 p t x = sym (positions_length p)
character_cost_is G2 G3 p t x = shifted_length p
character_cost_is G3 G0 p t x = shifted_length p
character_cost_is G3 G1 p t x = shifted_length p
character_cost_is G3 G2 p t x = shifted_length p
character_cost_is G3 G3 p t x = sym (positions_length p)

pub few_bytes : (t : Sets) (a : Answer) → count_in (code_of t a) ≤ 15
few_bytes t Answer.NothingYet = omega arith
few_bytes t (Answer.Char own x p) = omega (arith, few_positions p)
few_bytes t Answer.Space = omega arith
few_bytes t Answer.Delete = omega arith
few_bytes t (Answer.Control w f n) = omega (arith, short_at_home (Answer.Control w f n))
few_bytes t (Answer.DesignateControls w f) = omega (arith, short_at_home (Answer.DesignateControls w f))
few_bytes t (Answer.Designate g x) = omega (arith, short_at_home (Answer.Designate g x))
few_bytes t (Answer.Shift h) = omega arith
few_bytes t (Answer.Other s f) = omega (arith, short_at_home (Answer.Other s f))
few_bytes t (Answer.Refused r) = omega arith
few_bytes t Answer.Skipped = omega arith
few_bytes t (Answer.InStep n) = omega arith

kind_of_each : (t : Sets) (e : Element) → at_element (by_element (λ e. (set_in t e).kind)) e ≡ (set_in t e).kind
kind_of_each t e = ap (λ (n : Element → Kind). n e) (same_each (λ e. (set_in t e).kind))

pub cost_told : (t : Sets) (a : Answer) (e : Element) → cost_by (code_of t a) e ≡ cost t a e
cost_told t Answer.NothingYet e = refl
cost_told t (Answer.Char own x p) e = character_cost_is own e p t x
cost_told t Answer.Space e = ap (λ (k : Kind). is_of94 k gives 1 or far) (kind_of_each t e)
cost_told t Answer.Delete e = ap (λ (k : Kind). is_of94 k gives 1 or far) (kind_of_each t e)
cost_told t (Answer.Control w f n) e = refl
cost_told t (Answer.DesignateControls w f) e = refl
cost_told t (Answer.Designate g x) e = refl
cost_told t (Answer.Shift h) e = refl
cost_told t (Answer.Other s f) e = refl
cost_told t (Answer.Refused r) e = refl
cost_told t Answer.Skipped e = refl
cost_told t (Answer.InStep n) e = refl

-- ---- where its bytes stand in byte order

-- no bytes of an answer stand between SO and SI, or between LS2 and LS3
module _ (n : ℕ) where
  abbrev Told : Element → Place → Type 0
  Told e place = is_before place e ≡ ltb n (rank (shift_to e))

  told_by_rank : (e : Element) → (rank (shift_to G1) ≤ n → rank (shift_to G0) ≤ n) → (rank (shift_to G2) ≤ n → rank (shift_to G3) ≤ n) →
      Told e (place_of_rank n)
  unfolding place_of_rank
  told_by_rank e so-si two-three =
      gives_by (Told e) (ltb n (rank (shift_to G1))) (λ h. in_front e (ltb-true n (rank (shift_to G1)) h))
      (λ after_so. gives_by (Told e) (ltb n (rank (shift_to G2)))
      (λ h. between_them e (so-si (ltb-false n (rank (shift_to G1)) after_so)) (ltb-true n (rank (shift_to G2)) h))
      (λ h. behind e (two-three (ltb-false n (rank (shift_to G2)) h))))
    where
      in_front : (e : Element) → n < rank (shift_to G1) → true ≡ ltb n (rank (shift_to e))
      in_front G0 h = sym (lt-ltb n (rank (shift_to G0)) (omega arith))
      in_front G1 h = sym (lt-ltb n (rank (shift_to G1)) (omega arith))
      in_front G2 h = sym (lt-ltb n (rank (shift_to G2)) (omega arith))
      in_front G3 h = sym (lt-ltb n (rank (shift_to G3)) (omega arith))

      between_them : (e : Element) → rank (shift_to G0) ≤ n → n < rank (shift_to G2) → is_before Place.Middle e ≡ ltb n (rank (shift_to e))
      between_them G0 l h = sym (le-ltb n (rank (shift_to G0)) (omega arith))
      between_them G1 l h = sym (le-ltb n (rank (shift_to G1)) (omega arith))
      between_them G2 l h = sym (lt-ltb n (rank (shift_to G2)) (omega arith))
      between_them G3 l h = sym (lt-ltb n (rank (shift_to G3)) (omega arith))

      behind : (e : Element) → rank (shift_to G3) ≤ n → false ≡ ltb n (rank (shift_to e))
      behind G0 h = sym (le-ltb n (rank (shift_to G0)) (omega arith))
      behind G1 h = sym (le-ltb n (rank (shift_to G1)) (omega arith))
      behind G2 h = sym (le-ltb n (rank (shift_to G2)) (omega arith))
      behind G3 h = sym (le-ltb n (rank (shift_to G3)) (omega arith))

past_si : {bytes : List ℕ} → Clear bytes → rank (shift_to G1) ≤ rank bytes → rank (shift_to G0) ≤ rank bytes
past_si (byte_alone b not_esc not_so not_si) h = omega (arith, not_so)
past_si (two_bytes b d l low not_so not_si no_shift) h = omega (arith, not_so)

past_three : {bytes : List ℕ} → Clear bytes → rank (shift_to G2) ≤ rank bytes → rank (shift_to G3) ≤ rank bytes
past_three (byte_alone b not_esc not_so not_si) h = omega arith
past_three (two_bytes b d l low not_so not_si no_shift) h = by (eqb b esc) refl
  where
    by : (t : Bool) → eqb b esc ≡ t → rank (shift_to G3) ≤ b * 0x100 + d
    by true e = let other : d ≡ final_of_ls2 → ⊥ = (no_shift (eqb-true b esc e)).0 in omega (arith, other, eqb-true b esc e)
    by false e = omega (arith, eqb-false b esc e)

told : {bytes : List ℕ} (e : Element) → Clear bytes → is_before (place_of_rank (rank bytes)) e ≡ ltb (rank bytes) (rank (shift_to e))
told {bytes} e clear = told_by_rank (rank bytes) e (past_si clear) (past_three clear)

-- position bytes come after every shift
positions_late : (k : Kind) (p : PositionBytes) → AllOfSet k p → rank (shift_to G3) ≤ rank (map (byte_from GraphicArea.GL) (position_values p))
positions_late k (PositionBytes.One a) h = omega (arith, (of_set_bounds k a h).0)
positions_late k (PositionBytes.Two a b) h = omega (arith, (of_set_bounds k a h.0).0)
positions_late k (PositionBytes.Three a b c) h = omega (arith, (of_set_bounds k a h.0).0)

last_place : (n : ℕ) → rank (shift_to G3) ≤ n → Place.Last ≡ place_of_rank n
unfolding place_of_rank
last_place n h = rw (le-ltb n (rank (shift_to G1)) (omega arith), le-ltb n (rank (shift_to G2)) (omega arith))

character_place_is : (own gl : Element) (x : Set) (p : PositionBytes) (k : Kind) → AllOfSet k p →
    character_place own gl ≡ place_of_rank (rank (bytes_under gl (Answer.Char own x p)))
unfolding place_of_rank
character_place_is G0 G0 x p k h = last_place _ (positions_late k p h)
character_place_is G0 G1 x p k h = last_place _ (positions_late k p h)
character_place_is G0 G2 x p k h = last_place _ (positions_late k p h)
character_place_is G0 G3 x p k h = last_place _ (positions_late k p h)
character_place_is G1 G0 x p k h = last_place _ (positions_late k p h)
character_place_is G1 G1 x p k h = last_place _ (positions_late k p h)
character_place_is G1 G2 x p k h = last_place _ (positions_late k p h)
character_place_is G1 G3 x p k h = last_place _ (positions_late k p h)
character_place_is G2 G0 x p k h = refl
character_place_is G2 G1 x p k h = refl
character_place_is G2 G2 x p k h = last_place _ (positions_late k p h)
character_place_is G2 G3 x p k h = refl
character_place_is G3 G0 x p k h = refl
character_place_is G3 G1 x p k h = refl
character_place_is G3 G2 x p k h = refl
character_place_is G3 G3 x p k h = last_place _ (positions_late k p h)

place_told : (t : Sets) (a : Answer) (gl : Element) → left_out a ≡ false → CanBeWritten t a →
    place_by (code_of t a) gl ≡ place_of_rank (rank (bytes_under gl a))
unfolding place_of_rank
place_told t Answer.NothingYet gl stays can = impossible (cc)
place_told t (Answer.Char own x p) gl stays can = character_place_is own gl x p (set_in t own).kind can.of_set
place_told t Answer.Space gl stays can = refl
place_told t Answer.Delete gl stays can = refl
place_told t (Answer.Control w f n) gl stays can = refl
place_told t (Answer.DesignateControls w f) gl stays can = refl
place_told t (Answer.Designate g x) gl stays can = refl
place_told t (Answer.Shift h) gl stays can = impossible (cc)
place_told t (Answer.Other s f) gl stays can = refl
place_told t (Answer.Refused r) gl stays can = absurd can
place_told t Answer.Skipped gl stays can = absurd can
place_told t (Answer.InStep n) gl stays can = absurd can

before_told : (t : Sets) (a : Answer) (gl e : Element) → left_out a ≡ false → CanBeWritten t a →
    is_before (place_by (code_of t a) gl) e ≡ ltb (rank (bytes_under gl a)) (rank (shift_to e))
before_told t a gl e stays can =
    ap (λ (place : Place). is_before place e) (place_told t a gl stays can) ∙ told e (clear_bytes a t gl stays can)

-- ---- no answer has the code of an opening

no_opening : (t : Sets) (a : Answer) → is_opening (code_of t a) ≡ false
no_opening t Answer.NothingYet = refl
no_opening t (Answer.Char own x p) = refl
no_opening t Answer.Space = refl
no_opening t Answer.Delete = refl
no_opening t (Answer.Control w f n) = refl
no_opening t (Answer.DesignateControls w f) = refl
no_opening t (Answer.Designate e x) = refl
no_opening t (Answer.Shift h) = refl
no_opening t (Answer.Other s f) = refl
no_opening t (Answer.Refused r) = refl
no_opening t Answer.Skipped = refl
no_opening t (Answer.InStep n) = refl

-- ---- the costs and the choices of a sequence

-- what an answer costs from here on
abbrev from_codes : Answer → Steps → Sets → Element → ℕ
from_codes a s t = with_code (code_of t a) (costs_by (codes_of s (sets_with t a)))

pub byte_told : (t : Sets) (a : Answer) → unpacked (packed (code_of t a)) ≡ code_of t a
byte_told t a = code_told (code_of t a) (few_bytes t a)

costs_told : (s : Steps) (t : Sets) → costs_by (codes_of s t) ≡ cost_of s t
unfolding costs_by cost_of
costs_told ended t = refl
costs_told (said a s) t =
    let same : from_codes a s t ≡ costs a s t = λ i e. cost_told t a e i + costs_told s (sets_with t a) i e in
    (λ i e. is_opening (byte_told t a i) gives 0 or least (with_code (byte_told t a i) (costs_by (codes_of s (sets_with t a)))) e) ∙
    (λ i e. no_opening t a i gives 0 or least (from_codes a s t) e) ∙ (λ i e. least (same i) e)
costs_told (opened s) t =
    λ i e. is_opening (code_told Code.Opening (omega arith) i) gives 0 or least (with_code (code_told Code.Opening (omega arith) i)
    (costs_by (codes_of s starting_sets))) e

said_costs_told : (a : Answer) (s : Steps) (t : Sets) → from_codes a s t ≡ costs a s t
said_costs_told a s t i e = cost_told t a e i + costs_told s (sets_with t a) i e

packed_choice : (n : Element → Element) (gl : Element) → choice_in (packed_choices n) gl ≡ n gl
packed_choice n G0 =
    let is : packed_choices n % 4 ≡ index_of (n G0) = omega (arith, index_bound (n G0)) in ap element_at is ∙ element_back (n G0)
packed_choice n G1 =
    let is : packed_choices n / 4 % 4 ≡ index_of (n G1) = omega (arith, index_bound (n G0), index_bound (n G1)) in
    ap element_at is ∙ element_back (n G1)
packed_choice n G2 =
    let is : packed_choices n / 16 % 4 ≡ index_of (n G2) = omega (arith, index_bound (n G0), index_bound (n G1), index_bound (n G2)) in
    ap element_at is ∙ element_back (n G2)
packed_choice n G3 =
    let is : packed_choices n / 64 ≡ index_of (n G3) =
    omega (arith, index_bound (n G0), index_bound (n G1), index_bound (n G2), index_bound (n G3)) in
    ap element_at is ∙ element_back (n G3)

-- the choice at an answer, where GL shows an element
pub choice_told : (a : Answer) (s : Steps) (t : Sets) (gl : Element) → left_out a ≡ false → CanBeWritten t a →
    choice_in (packed_choices (choices_with (unpacked (packed (code_of t a))) (costs_by (codes_of s (sets_with t a))))) gl ≡
    chosen (costs a s t) gl (bytes_under gl a)
choice_told a s t gl stays can =
    let later : Element → ℕ = costs_by (codes_of s (sets_with t a)) in
    let code : Code = code_of t a in
    let c : Element → ℕ = from_codes a s t in
    let best : Element = cheapest c in
    packed_choice (choices_with (unpacked (packed code)) later) gl ∙
    ap (λ (k : Code). choices_with k later gl) (byte_told t a) ∙
    ap (λ (b : Bool). b gives G0 or choice_at c code gl) (no_opening t a) ∙
    ap (λ (before : Bool). (ltb (c gl) (moving c best) gives true or eqb (c gl) (moving c best) gives before or false) gives gl or best)
    (before_told t a gl best stays can) ∙
    ap (λ (n : Element → ℕ). chosen n gl (bytes_under gl a)) (said_costs_told a s t)
