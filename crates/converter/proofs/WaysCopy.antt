-- A byte that passes a letter's way passes the lane of the state, so it is one item that changes nothing; and one byte is written for it,
-- with no shift.
use Prim.Native.Nat.{ℕ, ◌+◌, ◌-◌, ◌%◌, ◌≤◌, ◌<◌}
use mathlib.Core.Path.{◌≡◌, refl, sym, ap, ◌∙◌, subst}
use mathlib.Core.Bool.{Bool, true, false}
use mathlib.Core.List.{List, [], ◌∷◌}
use mathlib.Core.Logic.{◌⊎◌, inl, inr, ⊎_elim}
use native.Mathlib.Omega.{arith}
use borrow.Author.Tests.{ltb-true, ltb-false, eqb-true, eqb-false, lt-ltb, le-ltb, lt-leb}
use lib.Dec.{ltb, leb, eqb}
use lib.ListN.{length, get_or}
use Rattle.paper.specs.Choice.{between}
use Rattle.paper.specs.CodeTable.{form_has, bit8}
use Rattle.paper.specs.Sets.{space, delete}
use Rattle.paper.specs.Results.{element_number}
use Rattle.paper.specs.declared.Form.{Form}
use Rattle.paper.specs.declared.Kind.{Kind}
use Rattle.paper.specs.declared.Kind.TheVariants.{Of94, Of96}
use Rattle.paper.specs.declared.Element.{Element}
use Rattle.paper.specs.declared.Reader.{Reader}
use Rattle.paper.proofs.Choices.{impossible, gives_by, in_bounds}
use Rattle.charsets.specs.Sizes.{kind_of, is_one}
use Rattle.items.specs.States.{single_in, left_in, right_in, size_in, element_of, Stands}
use Rattle.items.specs.Letters.{is_letter}
use Rattle.items.proofs.ItemsOfBytes.{Letter, letter_is}
use Rattle.lane.specs.Passing.{passes}
use Rattle.lane.specs.Lanes.{first_position, last_position, plain_to, positions_of, last_plain, lane_of}
use Rattle.lane.specs.declared.Lane.{Lane}
use Rattle.lane.proofs.EachPasses.{both_true, passes_means, passes_too, bound_passes, plain_passes}
use Rattle.lane.proofs.LaneItems.{less_or_not, plain_with, shown_in_gl, shown_in_gr_lem, IsCharacter, LaneItem, control, space_sign, character, lane_item}
use Rattle.lane.proofs.LettersPass.{plain_by_kind, lane_by_kind, bounds_by_kind, seven_below}
use Rattle.converter.specs.Passing.{OfTwo}
use Rattle.converter.specs.Writing.{alone, shifted_to, in_seven, in_eight, under_kind, character_in, space_in, writes}
use Rattle.converter.specs.Runs.{low_as_it_is, low_raised, high_lowered, way_of, copied_by, Copied, Copies, in_one_byte}
use Rattle.converter.specs.declared.run.Way.{Way}
use Rattle.converter.proofs.WritesAnswers.{control_of_c0}
use Rattle.escapes.specs.Effects.{as_word}
use Rattle.paper.specs.Results.{char_word, space_word, control_word}

-- ---- what is copied

outside : (first last b : ℕ) → (b < first) ⊎ (last < b) → between first last b ≡ false
unfolding between
outside first last b (inl low) = rw (lt-leb first b low)
outside first last b (inr high) = gives_by (λ (t : Bool). t ≡ false) (leb first b) (λ e. lt-leb b last high) (λ e. refl)

module _ (way : Way) (b : ℕ) where
  as_it_is : (b < way.first) ⊎ (way.last < b) → copied_by way b ≡ b
  unfolding copied_by
  as_it_is out = rw (outside way.first way.last b out)

  with_bit_8 : way.first ≤ b → b ≤ way.last → b < bit8 → copied_by way b ≡ b + bit8
  unfolding copied_by
  with_bit_8 low high h = rw (in_bounds way.first way.last b low high, lt-ltb b bit8 h)

  without_bit_8 : way.first ≤ b → b ≤ way.last → bit8 ≤ b → copied_by way b ≡ b - bit8
  unfolding copied_by
  without_bit_8 low high h = rw (in_bounds way.first way.last b low high, le-ltb b bit8 h)

nowhere_low : (b : ℕ) → (b < 1) ⊎ (0 < b)
nowhere_low b = ⊎_elim (λ low. inl low) (λ high. inr (omega arith)) (less_or_not b 1)

-- ---- one byte written, and no shift

-- to 7-bit form, of the element that GL shows
shown_in_seven : (gl : Element) → OfTwo gl → (bytes : List ℕ) →
    in_seven (element_number gl) (element_number gl) bytes ≡ alone bytes (element_number gl)
unfolding in_seven shifted_to
shown_in_seven Element.G0 two bytes = refl
shown_in_seven Element.G1 two bytes = refl
shown_in_seven Element.G2 two bytes = absurd two
shown_in_seven Element.G3 two bytes = absurd two

-- to 8-bit form, of G0 as it is, of G1 with bit 8
g0_by_number : (gl : Element) → element_number gl < element_number Element.G2 → (element_number gl ≡ element_number Element.G1 → ⊥) → gl ≡ Element.G0
g0_by_number Element.G0 low other = refl
g0_by_number Element.G1 low other = absurd (other refl)
g0_by_number Element.G2 low other = absurd (omega arith)
g0_by_number Element.G3 low other = absurd (omega arith)

lowest_first : (k : Kind) → space ≤ first_position k
lowest_first Of94 = omega arith
lowest_first Of96 = omega arith

lowest_plain : (x : ℕ) → space - 1 ≤ last_plain x
unfolding last_plain
lowest_plain x =
    let P : ℕ → Type 0 = λ (n : ℕ). space - 1 ≤ n in
    gives_by P (eqb x 0) (λ _. omega arith) (λ _. gives_by P (eqb x 1) (λ _. omega arith) (λ _. omega arith))

plain_of : (m : Form) (cells : List ℕ) → (lane_of m cells).plain ≡ last_plain (size_in cells (left_in cells))
plain_of Form.Seven cells = refl
plain_of Form.Eight cells = plain_with _ _

-- ---- the ways

module _ (m to : Form) (cells text : List ℕ) (ground : single_in cells ≡ 0) (gl : Element) (two : OfTwo gl) where
  abbrev shown : ℕ
  shown = element_number gl

  abbrev Copying : Way → Type 0
  Copying way = Copies m to cells shown text way

  -- what is to be shown of each kind of item
  pub record Ways (way : Way) (place : ℕ) : Type 0 where
    pub passes_lane : passes (lane_of m cells) (get_or text place 0) ≡ true
    pub of_control : get_or text place 0 < space → copied_by way (get_or text place 0) ≡ get_or text place 0
    pub of_space : get_or text place 0 ≡ space → kind_of (size_in cells (left_in cells)) ≡ Of94 →
        space_in to shown cells (space ∷ []) ≡ alone (copied_by way (get_or text place 0) ∷ []) shown
    pub of_character : IsCharacter m cells text place →
        character_in to shown (element_of cells (get_or text place 0)) (get_or text place 0 % bit8 ∷ []) ≡
        alone (copied_by way (get_or text place 0) ∷ []) shown

  copied : (way : Way) (place : ℕ) → Ways way place → LaneItem m cells text place → Copied m to cells shown text way place
  unfolding writes
  copied way place w (control low reads) = record {
    word = (as_word control_word);
    value = get_or text place 0;
    bytes = get_or text place 0 ∷ [];
    below = omega arith;
    reads = reads;
    wrote =
        control_of_c0 to (get_or text place 0) shown (omega arith) ∙ ap (λ (n : ℕ). alone (n ∷ []) shown) (sym (w.of_control low));
  }
  copied way place w (space_sign is kind reads) = record {
    word = (as_word space_word);
    value = 0;
    bytes = space ∷ [];
    below = omega arith;
    reads = reads;
    wrote = w.of_space is kind;
  }
  copied way place w (character c) = record {
    word = (as_word char_word);
    value = element_of cells (get_or text place 0);
    bytes = get_or text place 0 % bit8 ∷ [];
    below = omega arith;
    reads = c.reads;
    wrote = w.of_character c;
  }

  by_ways : (way : Way) → ((place : ℕ) → place < length text → passes way.lane (get_or text place 0) ≡ true → Ways way place) → Copying way
  by_ways way ways place inside passed =
      let w = ways place inside passed in
      copied way place w (lane_item m cells text place inside ground w.passes_lane)

  -- bytes of GL, of a set of one byte
  module _ (one : is_one (size_in cells (left_in cells)) ≡ true) (way : Way) (plain : ℕ) (is : way.lane ≡ plain_to plain)
      (few : plain ≤ last_position (kind_of (size_in cells (left_in cells)))) where
    abbrev kind : Kind
    kind = kind_of (size_in cells (left_in cells))

    low_ways : ((b : ℕ) → b < space → copied_by way b ≡ b) → copied_by way space ≡ space ⊎ (kind ≡ Of94 → ⊥) →
        space_in to shown cells (space ∷ []) ≡ alone (space ∷ []) shown ⊎ (kind ≡ Of94 → ⊥) →
        ((b : ℕ) → b < bit8 → first_position kind ≤ b → b ≤ last_position kind →
        character_in to shown (left_in cells) (b ∷ []) ≡ alone (copied_by way b ∷ []) shown) → Copying way
    low_ways controls spaces signs characters =
        by_ways way (λ place inside passed.
        let b = get_or text place 0 in
        let through : passes (plain_to plain) b ≡ true = subst (λ (x : Lane). passes x b ≡ true) is passed in
        let limit = plain_of m cells ∙ plain_by_kind (size_in cells (left_in cells)) one in
        let low : b < bit8 = ⊎_elim (λ w. absurd (omega arith)) (λ w. omega (arith, few, bounds_by_kind kind, w.0))
        (passes_means (plain_to plain) b through) in
        record {
          passes_lane = passes_too (plain_to plain) (lane_of m cells) b through (λ l h. absurd (omega arith)) (λ h. omega (arith, limit, few));
          of_control = controls b;
          of_space = λ same of_94.
              ⊎_elim (λ e. e) (λ never. absurd (never of_94)) signs ∙
              ap (λ (n : ℕ). alone (n ∷ []) shown)
              (sym (ap (copied_by way) same ∙ ⊎_elim (λ e. e) (λ never. absurd (never of_94)) spaces));
          of_character = λ c.
              let e = shown_in_gl cells b low in
              let low_seven : b % bit8 ≡ b = omega arith in
              let k : kind_of (size_in cells (element_of cells b)) ≡ kind = ap (λ (x : ℕ). kind_of (size_in cells x)) e in
              ap (λ (x : ℕ). character_in to shown x (b % bit8 ∷ [])) e ∙
              ap (λ (x : ℕ). character_in to shown (left_in cells) (x ∷ [])) low_seven ∙
              characters b low
              (omega (arith, c.low, ap first_position k, low_seven)) (omega (arith, c.high, ap last_position k, low_seven));
        })

  -- positions of a set of one byte in GR
  high_ways : (one : is_one (size_in cells (right_in cells)) ≡ true) → m ≡ Form.Eight → right_in cells ≡ shown →
      ((bytes : List ℕ) → character_in to shown shown bytes ≡ alone bytes shown) → Copying (high_lowered (kind_of (size_in cells (right_in cells))))
  high_ways one form same as-shown =
      let k : Kind = kind_of (size_in cells (right_in cells)) in
      let way : Way = high_lowered k in
      let limits = bounds_by_kind k in
      by_ways way (λ place inside passed.
      let b = get_or text place 0 in
      let either = passes_means (positions_of (space - 1) k) b passed in
      let lane : lane_of m cells ≡ positions_of (last_plain (size_in cells (left_in cells))) k =
      ap (λ (f : Form). lane_of f cells) form ∙ lane_by_kind (last_plain (size_in cells (left_in cells))) (size_in cells (right_in cells)) one in
      record {
        passes_lane = subst (λ (x : Lane). passes x b ≡ true) (sym lane)
            (passes_too (positions_of (space - 1) k) (positions_of (last_plain (size_in cells (left_in cells))) k) b passed
            (bound_passes (positions_of (last_plain (size_in cells (left_in cells))) k) b)
            (λ h. omega (arith, lowest_plain (size_in cells (left_in cells)))));
        of_control = λ low. as_it_is way b (inl (omega (arith, limits)));
        of_space = λ is of_94. absurd (⊎_elim (λ w. omega (arith, w.0)) (λ w. omega (arith, w.0)) either);
        of_character = λ c.
            ⊎_elim
            (λ w.
            let high : bit8 ≤ b = omega (arith, w.0) in
            let lowered : b % bit8 ≡ b - bit8 = omega (arith, w, limits) in
            ap (λ (x : ℕ). character_in to shown x (b % bit8 ∷ [])) (shown_in_gr_lem cells b high ∙ same) ∙
            as-shown (b % bit8 ∷ []) ∙
            ap (λ (n : ℕ). alone (n ∷ []) shown) (lowered ∙ sym (without_bit_8 way b w.0 w.1 high)))
            (λ w. absurd (let low = c.low in
            omega (arith, w.0, low, lowest_first (kind_of (size_in cells (element_of cells b))))))
            either;
      })

-- ---- by a letter

pub form_of_gr : (m : Form) (b : ℕ) → form_has m b ≡ true → bit8 ≤ b → m ≡ Form.Eight
form_of_gr Form.Seven b has high = absurd (omega (arith, seven_below b has, high))
form_of_gr Form.Eight b has high = refl

module _ (m : Form) (cells text : List ℕ) (r : Reader) (s : Stands cells r) (gl : Element) (two : OfTwo gl) (b : ℕ)
    (letter : is_letter m cells b ≡ true) where
  abbrev l : Letter m cells b
  l = letter_is m cells b letter

  one_in : (e : ℕ) → element_of cells b ≡ e → is_one (size_in cells e) ≡ true
  one_in e is = ap (λ (x : ℕ). is_one (size_in cells x)) (sym is) ∙ l.one

  -- what GL shows is an element
  left_element : left_in cells ≡ element_number r.gl
  left_element = ap left_in s.has

  seven_low : b < bit8 → element_of cells b ≡ element_number gl → Copies m Form.Seven cells (element_number gl) text low_as_it_is
  unfolding writes
  seven_low low same =
      let e = shown_in_gl cells b low in
      let is : left_in cells ≡ element_number gl = sym e ∙ same in
      low_ways m Form.Seven cells text l.ground gl two (one_in (left_in cells) e) low_as_it_is (delete - 1) refl
      (omega (arith, bounds_by_kind (kind_of (size_in cells (left_in cells)))))
      (λ n h. as_it_is low_as_it_is n (nowhere_low n))
      (inl (as_it_is low_as_it_is space (nowhere_low space)))
      (of_94_or_not (kind_of (size_in cells (left_in cells))) refl is)
      (λ n h low high.
      ap (λ (x : ℕ). in_seven (element_number gl) x (n ∷ [])) is ∙ shown_in_seven gl two (n ∷ []) ∙
      ap (λ (x : ℕ). alone (x ∷ []) (element_number gl)) (sym (as_it_is low_as_it_is n (nowhere_low n))))
    where
      of_94_or_not : (k : Kind) → kind_of (size_in cells (left_in cells)) ≡ k → left_in cells ≡ element_number gl →
          (space_in Form.Seven (element_number gl) cells (space ∷ []) ≡ alone (space ∷ []) (element_number gl)) ⊎
          (kind_of (size_in cells (left_in cells)) ≡ Of94 → ⊥)
      of_94_or_not Of94 k is =
          inl (ap (λ (x : Kind). under_kind x (element_number gl) (space ∷ []))
          (ap (λ (x : ℕ). kind_of (size_in cells x)) (sym is) ∙ k))
      of_94_or_not Of96 k is = inr (λ other. impossible (cc))

  eight_as_it_is : b < bit8 → element_of cells b < element_number Element.G2 → (element_of cells b ≡ element_number Element.G1 → ⊥) →
      Copies m Form.Eight cells (element_number gl) text low_as_it_is
  unfolding in_eight
  eight_as_it_is low few other =
      let e = shown_in_gl cells b low in
      let is : r.gl ≡ Element.G0 =
      g0_by_number r.gl (omega (arith, few, e, left_element)) (λ same. other (e ∙ left_element ∙ same)) in
      low_ways m Form.Eight cells text l.ground gl two (one_in (left_in cells) e) low_as_it_is (delete - 1) refl
      (omega (arith, bounds_by_kind (kind_of (size_in cells (left_in cells)))))
      (λ n h. as_it_is low_as_it_is n (nowhere_low n))
      (inl (as_it_is low_as_it_is space (nowhere_low space)))
      (inl refl)
      (λ n h low high.
      ap (λ (x : ℕ). in_eight (element_number gl) x (n ∷ [])) (left_element ∙ ap element_number is) ∙
      ap (λ (x : ℕ). alone (x ∷ []) (element_number gl)) (sym (as_it_is low_as_it_is n (nowhere_low n))))

  eight_raised : b < bit8 → element_of cells b ≡ element_number Element.G1 →
      Copies m Form.Eight cells (element_number gl) text (low_raised (kind_of (size_in cells (left_in cells))))
  unfolding in_eight
  eight_raised low same =
      let e = shown_in_gl cells b low in
      let k : Kind = kind_of (size_in cells (left_in cells)) in
      let way : Way = low_raised k in
      low_ways m Form.Eight cells text l.ground gl two (one_in (left_in cells) e) way (last_position k) refl (omega arith)
      (λ n h. as_it_is way n (inl (omega (arith, lowest_first k))))
      (space_stays k)
      (inl refl)
      (λ n h low high.
      let raised : bit8 + n % bit8 ≡ n + bit8 = omega arith in
      ap (λ (x : ℕ). in_eight (element_number gl) x (n ∷ [])) (sym e ∙ same) ∙
      ap (λ (x : ℕ). alone (x ∷ []) (element_number gl)) (raised ∙ sym (with_bit_8 way n low high h)))
    where
      space_stays : (k : Kind) → (copied_by (low_raised k) space ≡ space) ⊎ (k ≡ Of94 → ⊥)
      space_stays Of94 = inl (as_it_is (low_raised Of94) space (inl (omega arith)))
      space_stays Of96 = inr (λ other. impossible (cc))

  pub letter_copies : (to : Form) → in_one_byte to (element_number gl) (element_of cells b) b ≡ true →
      Copies m to cells (element_number gl) text (way_of to cells b)
  unfolding way_of in_one_byte
  letter_copies Form.Seven short =
      let same : element_of cells b ≡ element_number gl = eqb-true _ _ short in
      gives_by (Copies m Form.Seven cells (element_number gl) text) (ltb b bit8)
      (λ t. seven_low (ltb-true b bit8 t) same)
      (λ t.
      let high = ltb-false b bit8 t in
      let e = shown_in_gr_lem cells b high in
      subst (λ (x : ℕ). Copies m Form.Seven cells (element_number gl) text (high_lowered (kind_of (size_in cells x)))) (sym e)
      (high_ways m Form.Seven cells text l.ground gl two (one_in (right_in cells) e) (form_of_gr m b l.has high) (sym e ∙ same)
      (shown_in_seven gl two)))
  letter_copies Form.Eight short =
      let w = both_true (ltb b bit8) _ short in
      let low = ltb-true b bit8 w.0 in
      let few = ltb-true _ _ w.1 in
      let e = shown_in_gl cells b low in
      gives_by (Copies m Form.Eight cells (element_number gl) text) (eqb (element_of cells b) (element_number Element.G1))
      (λ t. subst (λ (x : ℕ). Copies m Form.Eight cells (element_number gl) text (low_raised (kind_of (size_in cells x)))) (sym e)
      (eight_raised low (eqb-true _ _ t)))
      (λ t. eight_as_it_is low few (eqb-false _ _ t))

  -- the letter passes
  pub letter_passes : (to : Form) → b < 0x100 → in_one_byte to (element_number gl) (element_of cells b) b ≡ true →
      passes (way_of to cells b).lane b ≡ true
  unfolding way_of in_one_byte
  letter_passes Form.Seven most short =
      gives_by (λ (w : Way). passes w.lane b ≡ true) (ltb b bit8)
      (λ t. let low = ltb-true b bit8 t in
      plain_passes low_as_it_is.lane b (omega (arith, l.low)) (omega (arith, l.high)))
      (λ t.
      let high = ltb-false b bit8 t in
      let limits = bounds_by_kind (kind_of (size_in cells (element_of cells b))) in
      bound_passes (high_lowered (kind_of (size_in cells (element_of cells b)))).lane b
      (omega (arith, limits, l.low)) (omega (arith, limits, l.high)))
  letter_passes Form.Eight most short =
      let low = ltb-true b bit8 (both_true (ltb b bit8) _ short).0 in
      let limits = bounds_by_kind (kind_of (size_in cells (element_of cells b))) in
      gives_by (λ (w : Way). passes w.lane b ≡ true) (eqb (element_of cells b) (element_number Element.G1))
      (λ _. plain_passes (low_raised (kind_of (size_in cells (element_of cells b)))).lane b (omega (arith, l.low)) (omega (arith, limits, l.high)))
      (λ _. plain_passes low_as_it_is.lane b (omega (arith, l.low)) (omega (arith, l.high)))
