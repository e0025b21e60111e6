-- The code of an item, and its bytes by what GL shows, are those of the answer that it says.
use Prim.Native.Nat.{ℕ, ◌+◌, ◌-◌, ◌%◌, ◌<◌, ◌≤◌}
use mathlib.Core.Path.{◌≡◌, refl, sym, ap, ◌∙◌}
use mathlib.Core.Bool.{false}
use mathlib.Core.List.{List, [], ◌∷◌, map}
use native.Mathlib.Omega.{arith}
use borrow.Author.Tests.{lt-ltb, le-ltb}
use lib.ListN.{length}
use Rattle.paper.specs.CodeTable.{bit8, esc}
use Rattle.paper.specs.Sets.{set_in}
use Rattle.paper.specs.Sequences.{final_of_function}
use Rattle.paper.specs.Characters.{bytes_so_far}
use Rattle.paper.specs.Results.{element_number, position_values, word_of, char_word, control_word}
use Rattle.paper.specs.WrittenForms.{left_out, sequence_bytes, intermediates_of, byte_from, bytes_of_answer}
use Rattle.paper.specs.declared.Form.{Form}
use Rattle.paper.specs.declared.ControlElement.{ControlElement}
use Rattle.paper.specs.declared.Intermediates.{Intermediates}
use Rattle.paper.specs.declared.Element.{Element}
use Rattle.paper.specs.declared.Element.TheVariants.{G0, G1, G2, G3}
use Rattle.paper.specs.declared.Set.{Set}
use Rattle.paper.specs.declared.Sets.{Sets}
use Rattle.paper.specs.declared.GraphicArea.{GraphicArea}
use Rattle.paper.specs.declared.PositionBytes.{PositionBytes}
use Rattle.paper.specs.declared.Answer.{Answer}
use Rattle.paper.proofs.Choices.{impossible}
use Rattle.paper.proofs.WhatCanBeWritten.{CanBeWritten}
use Rattle.charsets.specs.Sizes.{kind_of}
use Rattle.escapes.specs.declared.effect.Effect.{Effect}
use Rattle.escapes.specs.Effects.{word_number}
use Rattle.items.specs.Pieces.{bytes_in, Small}
use Rattle.items.specs.States.{size_in}
use Rattle.items.specs.declared.piece.Piece.{Piece}
use Rattle.items.proofs.BytesInANumber.{length_of_bytes}
use Rattle.items.proofs.ItemsByBytes.{said_bytes, Said}
use Rattle.shortest.specs.ShortestText.{bytes_under, rank}
use Rattle.shortener.specs.declared.code.Code.{Code}
use Rattle.shortener.specs.ByElements.{by_element, element_of}
use Rattle.shortener.specs.Codes.{place_of_rank, code_of}
use Rattle.shortener.specs.Under.{control_in_seven, alike, character_under, under, alike_code_of, code_by, Fit}

element_back : (e : Element) → element_of (element_number e) ≡ e
unfolding element_of
element_back G0 = refl
element_back G1 = refl
element_back G2 = refl
element_back G3 = refl

-- ---- what is written alike

control_of_c0 : (n : ℕ) → n < bit8 → control_in_seven (n ∷ []) ≡ n ∷ []
unfolding control_in_seven
control_of_c0 n low = rw (lt-ltb n bit8 low)

control_of_c1 : (n : ℕ) → control_in_seven ((bit8 + n % 32) ∷ []) ≡ esc ∷ (final_of_function + n % 32) ∷ []
unfolding control_in_seven
control_of_c1 n =
    let final : bit8 + n % 32 - final_of_function ≡ final_of_function + n % 32 = omega arith in
    rw (le-ltb (bit8 + n % 32) bit8 (omega arith), final)

module _ (x : Effect) (bytes : List ℕ) where
  -- the item says this answer
  abbrev Says : Answer → Type 0
  Says a = (word_number x.word ≡ word_of a) × (bytes ≡ said_bytes a) × Said a x.value

  abbrev Alike : Answer → Type 0
  Alike a = alike (word_number x.word) bytes ≡ bytes_of_answer Form.Seven a

  control_alike : (w : ControlElement) (f n : ℕ) → Says (Answer.Control w f n) → Alike (Answer.Control w f n)
  unfolding alike
  control_alike ControlElement.C0 f n h = rw (h.0, h.1) (control_of_c0 n h.2.1)
  control_alike ControlElement.C1 f n h = rw (h.0, h.1) (control_of_c1 n)

  controls_alike : (w : ControlElement) (f : ℕ) → Says (Answer.DesignateControls w f) → Alike (Answer.DesignateControls w f)
  unfolding alike
  controls_alike w f h = rw (h.0, h.1)

  designation_alike : (e : Element) (y : Set) → Says (Answer.Designate e y) → Alike (Answer.Designate e y)
  unfolding alike
  designation_alike e y h = rw (h.0, h.1)

  other_alike : (s : Intermediates) (f : ℕ) → Says (Answer.Other s f) → Alike (Answer.Other s f)
  unfolding alike
  other_alike s f h = rw (h.0, h.1)

-- ---- the code

alike_code_lem : (x : Effect) (bytes written : List ℕ) → alike (word_number x.word) bytes ≡ written →
    alike_code_of (word_number x.word) bytes ≡ Code.Alike (place_of_rank (rank written)) (length written)
alike_code_lem x bytes written is = ap (λ (l : List ℕ). Code.Alike (place_of_rank (rank l)) (length l)) is

position_count : (p : PositionBytes) → length (position_values p) ≡ bytes_so_far p
position_count (PositionBytes.One a) = refl
position_count (PositionBytes.Two a b) = refl
position_count (PositionBytes.Three a b c) = refl

module _
    (cells : List ℕ)
    (t : Sets)
    (kinds : (e : Element) → kind_of (size_in cells (element_number e)) ≡ (set_in t e).kind)
    (x : Effect)
    (bytes : List ℕ) where
  pub code_said : (a : Answer) → left_out a ≡ false → CanBeWritten t a → (word_number x.word ≡ word_of a) → (bytes ≡ said_bytes a) → Said a x.value →
      code_by cells x bytes ≡ code_of t a
  unfolding code_by
  code_said Answer.NothingYet stays can word are said = impossible (cc)
  code_said (Answer.Char e y p) stays can word are said =
      rw (word, are, said) (ap (λ (g : Element). Code.Character g (length (position_values p))) (element_back e) ∙
      ap (λ (n : ℕ). Code.Character e n) (position_count p))
  code_said Answer.Space stays can word are said = rw word (λ i. Code.SpaceOrDelete (by_element (λ e. kinds e i)))
  code_said Answer.Delete stays can word are said = rw word (λ i. Code.SpaceOrDelete (by_element (λ e. kinds e i)))
  code_said (Answer.Control w f n) stays can word are said =
      rw word (sym (ap (λ (k : ℕ). alike_code_of k bytes) word) ∙ alike_code_lem x bytes _ (control_alike x bytes w f n (word, are, said)))
  code_said (Answer.DesignateControls w f) stays can word are said =
      rw word (sym (ap (λ (k : ℕ). alike_code_of k bytes) word) ∙ alike_code_lem x bytes _ (controls_alike x bytes w f (word, are, said)))
  code_said (Answer.Designate e y) stays can word are said =
      rw word (sym (ap (λ (k : ℕ). alike_code_of k bytes) word) ∙ alike_code_lem x bytes _ (designation_alike x bytes e y (word, are, said)))
  code_said (Answer.Shift s) stays can word are said = impossible (cc)
  code_said (Answer.Other s f) stays can word are said =
      rw word (sym (ap (λ (k : ℕ). alike_code_of k bytes) word) ∙ alike_code_lem x bytes _ (other_alike x bytes s f (word, are, said)))
  code_said (Answer.Refused r) stays can word are said = absurd can
  code_said Answer.Skipped stays can word are said = absurd can
  code_said (Answer.InStep n) stays can word are said = absurd can

-- ---- the bytes

of_gl : (p : PositionBytes) → position_values p ≡ map (byte_from GraphicArea.GL) (position_values p)
of_gl (PositionBytes.One a) = refl
of_gl (PositionBytes.Two a b) = refl
of_gl (PositionBytes.Three a b c) = refl

character_said : (own gl : Element) (y : Set) (p : PositionBytes) →
    character_under gl own (map (byte_from GraphicArea.GL) (position_values p)) ≡ bytes_under gl (Answer.Char own y p)
character_said G0 G0 y p = refl
character_said G0 G1 y p = refl
character_said G0 G2 y p = refl
character_said G0 G3 y p = refl
character_said G1 G0 y p = refl
character_said G1 G1 y p = refl
character_said G1 G2 y p = refl
character_said G1 G3 y p = refl
character_said G2 G0 y p = refl
character_said G2 G1 y p = refl
character_said G2 G2 y p = refl
character_said G2 G3 y p = refl
character_said G3 G0 y p = refl
character_said G3 G1 y p = refl
character_said G3 G2 y p = refl
character_said G3 G3 y p = refl

pub bytes_said : (t : Sets) (x : Effect) (bytes : List ℕ) (gl : Element) (a : Answer) → left_out a ≡ false → CanBeWritten t a →
    (word_number x.word ≡ word_of a) → (bytes ≡ said_bytes a) → Said a x.value → under gl x bytes ≡ bytes_under gl a
unfolding under alike
bytes_said t x bytes gl Answer.NothingYet stays can word are said = impossible (cc)
bytes_said t x bytes gl (Answer.Char e y p) stays can word are said =
    rw (word, are, said) (ap (λ (g : Element). character_under gl g (position_values p)) (element_back e) ∙
    ap (character_under gl e) (of_gl p) ∙ character_said e gl y p)
bytes_said t x bytes gl Answer.Space stays can word are said = rw (word, are)
bytes_said t x bytes gl Answer.Delete stays can word are said = rw (word, are)
bytes_said t x bytes gl (Answer.Control w f n) stays can word are said =
    rw word (sym (ap (λ (k : ℕ). alike k bytes) word) ∙ control_alike x bytes w f n (word, are, said))
bytes_said t x bytes gl (Answer.DesignateControls w f) stays can word are said =
    rw word (sym (ap (λ (k : ℕ). alike k bytes) word) ∙ controls_alike x bytes w f (word, are, said))
bytes_said t x bytes gl (Answer.Designate e y) stays can word are said =
    rw word (sym (ap (λ (k : ℕ). alike k bytes) word) ∙ designation_alike x bytes e y (word, are, said))
bytes_said t x bytes gl (Answer.Shift s) stays can word are said = impossible (cc)
bytes_said t x bytes gl (Answer.Other s f) stays can word are said =
    rw word (sym (ap (λ (k : ℕ). alike k bytes) word) ∙ other_alike x bytes s f (word, are, said))
bytes_said t x bytes gl (Answer.Refused r) stays can word are said = absurd can
bytes_said t x bytes gl Answer.Skipped stays can word are said = absurd can
bytes_said t x bytes gl (Answer.InStep n) stays can word are said = absurd can

-- ---- how many bytes there are

few_positions : (p : PositionBytes) → (1 ≤ length (position_values p)) × (length (position_values p) ≤ 3)
few_positions (PositionBytes.One a) = (omega arith, omega arith)
few_positions (PositionBytes.Two a b) = (omega arith, omega arith)
few_positions (PositionBytes.Three a b c) = (omega arith, omega arith)

some_of_sequence : (s : Intermediates) (f : ℕ) → 1 ≤ length (sequence_bytes s f)
some_of_sequence Intermediates.None f = omega arith
some_of_sequence (Intermediates.One i) f = omega arith
some_of_sequence (Intermediates.Two i j) f = omega arith

abbrev Counts : Answer → Type 0
Counts a =
    (1 ≤ length (said_bytes a)) × (word_of a ≡ char_word → length (said_bytes a) ≤ 3) × (word_of a ≡ control_word → length (said_bytes a) ≡ 1)

counts : (a : Answer) (t : Sets) → left_out a ≡ false → CanBeWritten t a → Counts a
counts Answer.NothingYet t stays can = impossible (cc)
counts (Answer.Char e y p) t stays can = ((few_positions p).0, λ e. (few_positions p).1, λ e. absurd (omega arith))
counts Answer.Space t stays can = (omega arith, λ e. omega arith, λ e. refl)
counts Answer.Delete t stays can = (omega arith, λ e. omega arith, λ e. refl)
counts (Answer.Control ControlElement.C0 f n) t stays can = (omega arith, λ e. omega arith, λ e. refl)
counts (Answer.Control ControlElement.C1 f n) t stays can = (omega arith, λ e. omega arith, λ e. refl)
counts (Answer.DesignateControls w f) t stays can = (omega arith, λ e. absurd (omega arith), λ e. absurd (omega arith))
counts (Answer.Designate e y) t stays can =
    (some_of_sequence (intermediates_of y.count y.kind e y.last) y.last, λ e. absurd (omega arith), λ e. absurd (omega arith))
counts (Answer.Shift s) t stays can = impossible (cc)
counts (Answer.Other s f) t stays can = (some_of_sequence s f, λ e. absurd (omega arith), λ e. absurd (omega arith))
counts (Answer.Refused r) t stays can = absurd can
counts Answer.Skipped t stays can = absurd can
counts (Answer.InStep n) t stays can = absurd can

pub fit_said : (t : Sets) (x : Effect) (p : Piece) (a : Answer) → left_out a ≡ false → CanBeWritten t a → word_number x.word ≡ word_of a →
    bytes_in p ≡ said_bytes a → Small p → Fit x p
fit_said t x p a stays can word are small =
    let long : p.count ≡ length (said_bytes a) = sym (length_of_bytes p) ∙ ap length are in
    let n = counts a t stays can in
    record {
      small = small;
      some = omega (arith, long, n.0);
      of_character = λ e. omega (arith, long, n.1 (sym word ∙ e));
      of_control = λ e. long ∙ n.2 (sym word ∙ e);
    }
