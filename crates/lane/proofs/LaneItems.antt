-- A byte that passes the lane of a state is one item, which changes nothing: a quiet control, SPACE, or a position of a set of one byte.
use Prim.Native.Nat.{ℕ, ◌+◌, ◌%◌, ◌≤◌, ◌<◌}
use mathlib.Core.Path.{◌≡◌, refl, ap, ◌∙◌, subst}
use mathlib.Core.Bool.{Bool, true, false}
use mathlib.Core.List.{List, [], ◌∷◌}
use mathlib.Core.Logic.{◌⊎◌, inl, inr, ⊎_elim}
use native.Mathlib.Omega.{arith}
use borrow.Author.Tests.{ltb-true, ltb-false, eqb-true, lt-ltb, le-ltb}
use lib.Dec.{ltb, eqb}
use lib.ListN.{length, get_or}
use Rattle.paper.specs.CodeTable.{form_has, bit8}
use Rattle.paper.specs.Sets.{space}
use Rattle.paper.specs.Results.{char_word, space_word, control_word}
use Rattle.paper.specs.declared.Form.{Form}
use Rattle.paper.specs.declared.Kind.TheVariants.{Of94, Of96}
use Rattle.paper.specs.declared.Count.{Count}
use Rattle.paper.proofs.Choices.{gives_by}
use Rattle.charsets.specs.Sizes.{size_number, kind_of, is_one}
use Rattle.escapes.specs.Effects.{plain}
use Rattle.escapes.specs.declared.effect.Word.{Word}
use Rattle.items.specs.States.{single_in, left_in, right_in, size_in, element_of}
use Rattle.items.specs.Items.{Item, character_of, item_at}
use Rattle.items.proofs.ItemsOfBytes.{gl_has, eight_has, position_item, high_item, control_item_lem, space_item_lem}
use Rattle.lane.specs.declared.Lane.{Lane}
use Rattle.lane.specs.Passing.{passes}
use Rattle.lane.specs.Lanes.{first_position, last_position, last_plain, lane_with, lane_of, has_space, word_in}
use Rattle.lane.proofs.EachPasses.{passes_means}
use Rattle.escapes.specs.Effects.{as_word}

pub less_or_not : (n m : ℕ) → (n < m) ⊎ (m ≤ n)
less_or_not n m = by (ltb n m) refl
  where
    by : (t : Bool) → ltb n m ≡ t → (n < m) ⊎ (m ≤ n)
    by true e = inl (ltb-true n m e)
    by false e = inr (ltb-false n m e)

-- the plain bytes of a lane are those of GL
pub plain_with : (p x : ℕ) → (lane_with p x).plain ≡ p
unfolding lane_with
plain_with p x =
    gives_by (λ (l : Lane). l.plain ≡ p) (eqb x (size_number Of94 Count.One)) (λ _. refl)
    (λ _. gives_by (λ (l : Lane). l.plain ≡ p) (eqb x (size_number Of96 Count.One)) (λ _. refl) (λ _. refl))

-- the element that is shown

pub shown_in_gl : (cells : List ℕ) (b : ℕ) → b < bit8 → element_of cells b ≡ left_in cells
unfolding element_of
shown_in_gl cells b h = rw (lt-ltb b bit8 h)

pub shown_in_gr_lem : (cells : List ℕ) (b : ℕ) → bit8 ≤ b → element_of cells b ≡ right_in cells
unfolding element_of
shown_in_gr_lem cells b h = rw (le-ltb b bit8 h)

-- ---- words

pub word_above : (spaced : Bool) (b : ℕ) → space < b → word_in spaced b ≡ char_word
unfolding word_in
word_above spaced b h = rw (lt-ltb space b h)

pub word_below : (spaced : Bool) (b : ℕ) → b < space → word_in spaced b ≡ control_word
unfolding word_in
word_below spaced b h = rw (le-ltb space b (omega arith), lt-ltb b space h)

pub word_of_space : (b : ℕ) → b ≡ space → word_in true b ≡ space_word
unfolding word_in
word_of_space b e = rw e

word_of_position : (b : ℕ) → space ≤ b → word_in false b ≡ char_word
unfolding word_in
word_of_position b h =
    gives_by (λ (n : ℕ). n ≡ char_word) (ltb space b) (λ e. refl) (λ e. rw (le-ltb b space h))

-- ---- the item

abbrev pub control_item : ℕ → ℕ → Item
control_item b next = record { effect = plain (as_word control_word) b; bytes = b ∷ []; place = next }

abbrev pub space_item : ℕ → Item
space_item next = record { effect = plain (as_word space_word) 0; bytes = space ∷ []; place = next }

-- a character of the set that the byte's area shows
pub record IsCharacter (m : Form) (cells text : List ℕ) (place : ℕ) : Type 0 where
  pub word_is : word_in (has_space cells) (get_or text place 0) ≡ char_word
  pub low : first_position (kind_of (size_in cells (element_of cells (get_or text place 0)))) ≤ get_or text place 0 % bit8
  pub high : get_or text place 0 % bit8 ≤ last_position (kind_of (size_in cells (element_of cells (get_or text place 0))))
  pub reads : item_at m cells text place ≡ character_of (element_of cells (get_or text place 0)) (get_or text place 0 % bit8 ∷ []) (place + 1)

pub data LaneItem (m : Form) (cells text : List ℕ) (place : ℕ) : Type 0 where
  control : get_or text place 0 < space → item_at m cells text place ≡ control_item (get_or text place 0) (place + 1) →
      LaneItem m cells text place
  space_sign : get_or text place 0 ≡ space → kind_of (size_in cells (left_in cells)) ≡ Of94 → item_at m cells text place ≡ space_item (place + 1) →
      LaneItem m cells text place
  character : IsCharacter m cells text place → LaneItem m cells text place

module _ (m : Form) (cells text : List ℕ) (place : ℕ) (inside : place < length text) (ground : single_in cells ≡ 0) where
  abbrev b : ℕ
  b = get_or text place 0

  abbrev size : ℕ
  size = size_in cells (element_of cells b)

  -- a position of a set of one byte
  of_94 : size ≡ size_number Of94 Count.One → form_has m b ≡ true → 0x21 ≤ b % bit8 → b % bit8 ≤ 0x7E → LaneItem m cells text place
  unfolding kind_of is_one
  of_94 is has low high = character (record {
    word_is = word_above (has_space cells) b (omega arith);
    low = rw is low;
    high = rw is high;
    reads = position_item m cells text place inside ground has low high (rw is);
  })

  of_96 : size ≡ size_number Of96 Count.One → form_has m b ≡ true → space ≤ b % bit8 → word_in (has_space cells) b ≡ char_word →
      LaneItem m cells text place
  unfolding kind_of is_one
  of_96 is has low word = character (record {
    word_is = word;
    low = rw is low;
    high = rw is (omega arith);
    reads = high_item m cells text place inside ground has low (rw is) (rw is);
  })

  -- within the bounds
  in_gr : (x : ℕ) → size_in cells (right_in cells) ≡ x → m ≡ Form.Eight → (p : ℕ) → (lane_with p x).first ≤ b → b ≤ (lane_with p x).last →
      LaneItem m cells text place
  unfolding lane_with
  in_gr x is form p =
      let Q : Lane → Type 0 = λ (l : Lane). l.first ≤ b → b ≤ l.last → LaneItem m cells text place in
      let has : form_has m b ≡ true = ap (λ (f : Form). form_has f b) form ∙ eight_has b in
      let shown : bit8 ≤ b → size ≡ x = λ high. ap (size_in cells) (shown_in_gr_lem cells b high) ∙ is in
      gives_by Q (eqb x (size_number Of94 Count.One))
      (λ e low high. of_94 (shown (omega arith) ∙ eqb-true x 0 e) has (omega arith) (omega arith))
      (λ _. gives_by Q (eqb x (size_number Of96 Count.One))
      (λ e low high. of_96 (shown (omega arith) ∙ eqb-true x 1 e) has (omega arith) (word_above (has_space cells) b (omega arith)))
      (λ _ low high. absurd (omega arith)))

  -- plain
  in_gl : (x : ℕ) → size_in cells (left_in cells) ≡ x → space ≤ b → b ≤ last_plain x → LaneItem m cells text place
  unfolding last_plain kind_of
  in_gl x is low =
      let Q : ℕ → Type 0 = λ (n : ℕ). b ≤ n → LaneItem m cells text place in
      let shown : b < bit8 → size ≡ x = λ h. ap (size_in cells) (shown_in_gl cells b h) ∙ is in
      gives_by Q (eqb x (size_number Of94 Count.One))
      (λ e high.
      let left_is : size_in cells (left_in cells) ≡ 0 = is ∙ eqb-true x 0 e in
      ⊎_elim
      (λ above. of_94 (shown (omega arith) ∙ eqb-true x 0 e) (gl_has m b low (omega arith)) (omega arith) (omega arith))
      (λ at. let same : b ≡ space = omega arith in
      space_sign same (rw left_is) (space_item_lem m cells text place inside ground same (rw left_is)))
      (less_or_not space b))
      (λ _. gives_by Q (eqb x (size_number Of96 Count.One))
      (λ e high.
      let left_is : size_in cells (left_in cells) ≡ 1 = is ∙ eqb-true x 1 e in
      of_96 (shown (omega arith) ∙ eqb-true x 1 e) (gl_has m b low (omega arith)) (omega arith) (rw left_is (word_of_position b low)))
      (λ _ high. absurd (omega arith)))

  by_form : (form : Form) → m ≡ form → passes (lane_of form cells) b ≡ true → LaneItem m cells text place
  by_form form is passed =
      ⊎_elim
      (λ w. bounds form is w.0 w.1)
      (λ w. ⊎_elim
      (λ low. control low (control_item_lem m cells text place inside ground low w.2 w.3 w.1))
      (λ low. in_gl (size_in cells (left_in cells)) refl low (plain_in form w.0))
      (less_or_not b space))
      (passes_means (lane_of form cells) b passed)
    where
      bounds : (form : Form) → m ≡ form → (lane_of form cells).first ≤ b → b ≤ (lane_of form cells).last → LaneItem m cells text place
      bounds Form.Seven is low high = absurd (omega arith)
      bounds Form.Eight is low high = in_gr (size_in cells (right_in cells)) refl is (last_plain (size_in cells (left_in cells))) low high

      plain_in : (form : Form) → b ≤ (lane_of form cells).plain → b ≤ last_plain (size_in cells (left_in cells))
      plain_in Form.Seven h = h
      plain_in Form.Eight h = subst (λ (n : ℕ). b ≤ n) (plain_with _ _) h

  pub lane_item : passes (lane_of m cells) (get_or text place 0) ≡ true → LaneItem m cells text place
  lane_item passed = by_form m refl passed
