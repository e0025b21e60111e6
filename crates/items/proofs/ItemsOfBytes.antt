-- The items of one byte that make up most texts: a character, SPACE, a control, SI and SO, each by the tests that it passes.
use Rattle.std.proofs.Common.{◌≡◌, ℕ, ◌+◌, ◌%◌, ◌<◌, ◌≤◌, Bool, true, false, eqb, ltb, List, [], ◌∷◌, length, get_or, refl, ap}
use Rattle.std.proofs.Common.{◌∙◌, arith, ltb-false, ltb-true, ne_eqb, eqb-true, le-leb}
use borrow.Author.Tests.{lt-leb}
use Rattle.paper.specs.Choice.{◌gives◌or◌, between}
use Rattle.paper.specs.CodeTable.{area_of, form_has, form_has_column, bit8, so, si, esc}
use Rattle.paper.specs.Sets.{space, delete, set_byte}
use Rattle.paper.specs.Characters.{position_in, byte_in}
use Rattle.paper.specs.Results.{element_number}
use Rattle.paper.specs.declared.Area.{Area}
use Rattle.paper.specs.declared.Form.{Form}
use Rattle.paper.specs.declared.Kind.{Kind}
use Rattle.paper.specs.declared.Count.{Count}
use Rattle.paper.specs.declared.Element.{Element}
use Rattle.paper.specs.declared.SetByte.{SetByte}
use Rattle.paper.specs.declared.GraphicArea.{GraphicArea}
use Rattle.paper.proofs.Choices.{impossible, gives_by, between_bounds, in_bounds}
use Rattle.paper.proofs.WrittenBytes.{form_has_area, both_have_c0, both_have_gl}
use Rattle.charsets.specs.Sizes.{kind_of, is_one}
use Rattle.charsets.proofs.PositionsOfEverySet.{position_of_set}
use Rattle.charsets.proofs.SizesKept.{one_count}
use Rattle.escapes.specs.Effects.{plain}
use Rattle.items.specs.States.{single_in, left_in, size_in, element_of}
use Rattle.items.specs.Items.{character_of, shifts, control_at, graphic_area, element_in, by_count, by_set_byte, not_of_set_at}
use Rattle.items.specs.Items.{graphic_at, is_control, control_or_sequence, item_of_byte, item_at}
use Rattle.items.specs.Letters.{is_letter}
use Rattle.items.proofs.FirstBytes.{opens_not}
use Rattle.items.proofs.AreasOfBytes.{area_by, below_space, below_bit_8}
use Rattle.escapes.specs.Effects.{as_word}
use Rattle.paper.specs.Results.{space_word, control_word}

-- ---- a byte on the ground, by its lower seven bits, whatever its area

low_position : (b : ℕ) → position_in (graphic_area 0 b) b ≡ b % bit8
unfolding graphic_area
low_position b =
    gives_by (λ (a : GraphicArea). position_in a b ≡ b % bit8) (ltb b bit8)
    (λ low. let h : b < bit8 = ltb-true b bit8 low in omega arith) (λ high. refl)

low_byte_in : (k : Kind) (b : ℕ) → byte_in (graphic_area 0 b) k b ≡ set_byte k (b % bit8)
unfolding graphic_area byte_in
low_byte_in k b =
    gives_by (λ (a : GraphicArea). byte_in a k b ≡ set_byte k (b % bit8)) (ltb b bit8)
    (λ low. let h : b < bit8 = ltb-true b bit8 low in let low_seven : b ≡ b % bit8 = omega arith in ap (set_byte k) low_seven)
    (λ high. rw (le-leb bit8 b (ltb-false b bit8 high)))

no_control : (b : ℕ) → space ≤ b % bit8 → is_control (area_of b) ≡ false
no_control b low =
    area_by (λ (a : Area). is_control a ≡ false) b (λ h. absurd (omega arith)) (λ l h. refl) (λ l h. absurd (omega arith)) (λ l. refl)

of_set_of_96 : (n : ℕ) → space ≤ n → n ≤ delete → set_byte Kind.Of96 n ≡ SetByte.OfSet
unfolding set_byte
of_set_of_96 n low high = rw (in_bounds space delete n low high)

-- the form that has the byte

pub gl_has : (m : Form) (b : ℕ) → space ≤ b → b < bit8 → form_has m b ≡ true
gl_has m b low high = form_has_area m b Area.GL (below_bit_8 b low high) (both_have_gl m)

pub eight_has : (b : ℕ) → form_has Form.Eight b ≡ true
unfolding form_has_column
eight_has b = refl

-- ---- what a letter is

pub record Letter (m : Form) (cells : List ℕ) (b : ℕ) : Type 0 where
  pub low : 0x21 ≤ b % bit8
  pub high : b % bit8 ≤ 0x7E
  pub ground : single_in cells ≡ 0
  pub has : form_has m b ≡ true
  pub one : is_one (size_in cells (element_of cells b)) ≡ true

pub letter_is : (m : Form) (cells : List ℕ) (b : ℕ) → is_letter m cells b ≡ true → Letter m cells b
unfolding is_letter
letter_is m cells b =
    let P : Bool → Type 0 = λ (t : Bool). t ≡ true → Letter m cells b in
    gives_by P (between 0x21 0x7E (b % bit8))
    (λ within. let w = between_bounds 0x21 0x7E (b % bit8) within in gives_by P (eqb (single_in cells) 0)
    (λ ground. gives_by P (form_has m b)
    (λ has one. record { low = w.0; high = w.1; ground = eqb-true (single_in cells) 0 ground; has = has; one = one })
    (λ lacks e. impossible (cc)))
    (λ shifted e. impossible (cc)))
    (λ outside e. impossible (cc))

module _ (m : Form) (cells text : List ℕ) (place : ℕ) (inside : place < length text) (ground : single_in cells ≡ 0) where
  abbrev b : ℕ
  b = get_or text place 0

  abbrev size : ℕ
  size = size_in cells (element_of cells b)

  by_byte : (b ≡ esc → ⊥) → form_has m b ≡ true → (t : Bool) → is_control (area_of b) ≡ t →
      item_at m cells text place ≡ (t gives control_or_sequence m b text place or graphic_at m cells 0 b text place)
  unfolding item_at item_of_byte
  by_byte other has t is =
      rw (lt-leb (length text) place inside, opens_not m cells text place inside (λ x e. other e), ground, has, is)

  -- ---- a character

  of_set_item : form_has m b ≡ true → space ≤ b % bit8 → set_byte (kind_of size) (b % bit8) ≡ SetByte.OfSet → is_one size ≡ true →
      item_at m cells text place ≡ character_of (element_of cells b) (b % bit8 ∷ []) (place + 1)
  unfolding element_in
  of_set_item has low of_set one =
      let a : GraphicArea = graphic_area 0 b in
      by_byte (λ e. omega (arith, e)) has false (no_control b low) ∙
      ap (λ (k : SetByte). by_set_byte k m 0 a (element_of cells b) size b text place) (low_byte_in (kind_of size) b ∙ of_set) ∙
      ap (λ (n : Count). by_count n m a (kind_of size) (element_of cells b) (position_in a b) text place) (one_count size one) ∙
      ap (λ (n : ℕ). character_of (element_of cells b) (n ∷ []) (place + 1)) (low_position b)

  -- a position of every set
  pub position_item : form_has m b ≡ true → 0x21 ≤ b % bit8 → b % bit8 ≤ 0x7E → is_one size ≡ true →
      item_at m cells text place ≡ character_of (element_of cells b) (b % bit8 ∷ []) (place + 1)
  position_item has low high =
      of_set_item has (omega arith) (position_of_set (kind_of size) (b % bit8) (omega arith) (omega arith))

  -- under 96 type 2/0 and 7/15 too
  pub high_item : form_has m b ≡ true → space ≤ b % bit8 → kind_of size ≡ Kind.Of96 → is_one size ≡ true →
      item_at m cells text place ≡ character_of (element_of cells b) (b % bit8 ∷ []) (place + 1)
  high_item has low of_96 =
      of_set_item has low (ap (λ (k : Kind). set_byte k (b % bit8)) of_96 ∙ of_set_of_96 (b % bit8) low (omega arith))

  -- ---- a control

  in_c0 : b < space → (b ≡ esc → ⊥) → item_at m cells text place ≡ control_or_sequence m b text place
  in_c0 low other =
      let area : area_of b ≡ Area.C0 = below_space b low in
      by_byte other (form_has_area m b Area.C0 area (both_have_c0 m)) true (ap is_control area)

  pub control_item_lem : b < space → (b ≡ so → ⊥) → (b ≡ si → ⊥) → (b ≡ esc → ⊥) →
      item_at m cells text place ≡ record { effect = plain (as_word control_word) b; bytes = b ∷ []; place = place + 1 }
  unfolding control_or_sequence control_at
  control_item_lem low no_so no_si no_esc =
      in_c0 low no_esc ∙ rw (ne_eqb b esc no_esc, lt-leb bit8 b (omega arith), ne_eqb b so no_so, ne_eqb b si no_si)

  pub shift_out_item : b ≡ so → item_at m cells text place ≡ shifts (element_number Element.G1) (place + 1)
  unfolding control_or_sequence control_at
  shift_out_item e = in_c0 (omega arith) (λ f. omega (arith, e, f)) ∙ ap (λ (c : ℕ). control_or_sequence m c text place) e

  pub shift_in_item : b ≡ si → item_at m cells text place ≡ shifts (element_number Element.G0) (place + 1)
  unfolding control_or_sequence control_at
  shift_in_item e = in_c0 (omega arith) (λ f. omega (arith, e, f)) ∙ ap (λ (c : ℕ). control_or_sequence m c text place) e

  -- ---- SPACE

  pub space_item_lem : b ≡ space → kind_of (size_in cells (left_in cells)) ≡ Kind.Of94 →
      item_at m cells text place ≡ record { effect = plain (as_word space_word) 0; bytes = space ∷ []; place = place + 1 }
  unfolding graphic_area element_in element_of byte_in set_byte between not_of_set_at
  space_item_lem e of_94 =
      let area : area_of b ≡ Area.GL = below_bit_8 b (omega arith) (omega arith) in
      by_byte (λ f. omega (arith, e, f)) (gl_has m b (omega arith) (omega arith)) false (ap is_control area) ∙
      ap (λ (c : ℕ). graphic_at m cells 0 c text place) e ∙
      ap (λ (k : Kind). by_set_byte (byte_in GraphicArea.GL k space) m 0 GraphicArea.GL (left_in cells) (size_in cells (left_in cells)) space text place)
      of_94

-- ---- a letter

pub letter_item : (m : Form) (cells text : List ℕ) (place : ℕ) → place < length text → is_letter m cells (get_or text place 0) ≡ true →
    item_at m cells text place ≡ character_of (element_of cells (get_or text place 0)) (get_or text place 0 % bit8 ∷ []) (place + 1)
letter_item m cells text place inside letter =
    let l = letter_is m cells (get_or text place 0) letter in
    position_item m cells text place inside l.ground l.has l.low l.high l.one
