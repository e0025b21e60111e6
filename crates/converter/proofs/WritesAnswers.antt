-- What is written for an item is what the paper writes for the answer that the item says, by the answer.
use Prim.Native.Nat.{ℕ, ◌+◌, ◌-◌, ◌%◌, ◌<◌}
use mathlib.Core.Path.{◌≡◌, refl, ap, ◌∙◌}
use mathlib.Core.List.{List, [], ◌∷◌, ◌++◌, map}
use native.Mathlib.Omega.{arith}
use borrow.Author.Tests.{lt-ltb, le-ltb}
use Rattle.paper.specs.CodeTable.{bit8}
use Rattle.paper.specs.Sets.{set_in}
use Rattle.paper.specs.Results.{element_number, position_values, word_of}
use Rattle.paper.specs.WrittenForms.{Writer, single_shift, area_for, byte_from, locking_bytes, gl_with, before_character, before_space}
use Rattle.paper.specs.WrittenForms.{written_for, writer_after}
use Rattle.paper.specs.declared.Form.{Form}
use Rattle.paper.specs.declared.Kind.{Kind}
use Rattle.paper.specs.declared.ControlElement.{ControlElement}
use Rattle.paper.specs.declared.Element.{Element}
use Rattle.paper.specs.declared.Element.TheVariants.{G0, G1, G2, G3}
use Rattle.paper.specs.declared.GraphicArea.{GraphicArea}
use Rattle.paper.specs.declared.Answer.{Answer}
use Rattle.charsets.specs.Sizes.{kind_of}
use Rattle.escapes.specs.declared.effect.Effect.{Effect}
use Rattle.escapes.specs.Effects.{word_number}
use Rattle.items.specs.States.{size_in}
use Rattle.items.proofs.ItemsByBytes.{said_bytes, Said}
use Rattle.converter.specs.Writing.{alone, shifted_to, in_seven, in_eight, under_kind, control_in, writes}

-- bytes of GL are position bytes
of_gl : (l : List ℕ) → l ≡ map (byte_from GraphicArea.GL) l
of_gl [] = refl
of_gl (b ∷ l) = ap (λ (m : List ℕ). b ∷ m) (of_gl l)

-- ---- characters

character_in_seven : (e gl : Element) (bytes : List ℕ) → in_seven (element_number gl) (element_number e) bytes ≡
    alone (locking_bytes (before_character e gl) ++ (single_shift Form.Seven e ++ bytes)) (element_number (gl_with (before_character e gl) gl))
unfolding in_seven shifted_to
character_in_seven G0 G0 bytes = refl
character_in_seven G0 G1 bytes = refl
character_in_seven G0 G2 bytes = refl
character_in_seven G0 G3 bytes = refl
character_in_seven G1 G0 bytes = refl
character_in_seven G1 G1 bytes = refl
character_in_seven G1 G2 bytes = refl
character_in_seven G1 G3 bytes = refl
character_in_seven G2 gl bytes = refl
character_in_seven G3 gl bytes = refl

character_in_eight : (e gl : Element) (bytes : List ℕ) → in_eight (element_number gl) (element_number e) bytes ≡
    alone (single_shift Form.Eight e ++ map (byte_from (area_for Form.Eight e)) bytes) (element_number gl)
unfolding in_eight
character_in_eight G0 gl bytes = ap (λ (l : List ℕ). alone l (element_number gl)) (of_gl bytes)
character_in_eight G1 gl bytes = refl
character_in_eight G2 gl bytes = ap (λ (l : List ℕ). alone (single_shift Form.Eight G2 ++ l) (element_number gl)) (of_gl bytes)
character_in_eight G3 gl bytes = ap (λ (l : List ℕ). alone (single_shift Form.Eight G3 ++ l) (element_number gl)) (of_gl bytes)

-- ---- SPACE and DELETE

under_kind_lem : (k : Kind) (gl : Element) (bytes : List ℕ) → under_kind k (element_number gl) bytes ≡
    alone (locking_bytes (before_space k) ++ bytes) (element_number (gl_with (before_space k) gl))
under_kind_lem Kind.Of94 gl bytes = refl
under_kind_lem Kind.Of96 gl bytes = refl

-- ---- controls

pub control_of_c0 : (to : Form) (n shown : ℕ) → n < bit8 → control_in to shown (n ∷ []) ≡ alone (n ∷ []) shown
unfolding control_in
control_of_c0 Form.Seven n shown low = rw (lt-ltb n bit8 low)
control_of_c0 Form.Eight n shown low = refl

function_in_seven : (n shown : ℕ) → control_in Form.Seven shown ((bit8 + n % 32) ∷ []) ≡ alone (0x1B ∷ (0x40 + n % 32) ∷ []) shown
unfolding control_in
function_in_seven n shown =
    let final : bit8 + n % 32 - 0x40 ≡ 0x40 + n % 32 = omega arith in
    rw (le-ltb (bit8 + n % 32) bit8 (omega arith), final)

module _ (w : Writer) (cells : List ℕ) (kinds : kind_of (size_in cells (element_number w.gl)) ≡ (set_in w.sets w.gl).kind)
    (x : Effect) (bytes : List ℕ) where
  abbrev As : Form → Answer → Type 0
  As to a = writes to (element_number w.gl) cells x bytes ≡ alone (written_for to w a) (element_number (writer_after to w a).gl)

  in_seven_lem : (a : Answer) → word_number x.word ≡ word_of a → bytes ≡ said_bytes a → Said a x.value → As Form.Seven a
  unfolding writes control_in
  in_seven_lem Answer.NothingYet word are said = rw (word, are)
  in_seven_lem (Answer.Char e s p) word are said =
      rw (word, are, said) (character_in_seven e w.gl (position_values p) ∙
      ap (λ (l : List ℕ). alone (locking_bytes (before_character e w.gl) ++ (single_shift Form.Seven e ++ l))
      (element_number (gl_with (before_character e w.gl) w.gl))) (of_gl (position_values p)))
  in_seven_lem Answer.Space word are said = rw (word, are, kinds) (under_kind_lem (set_in w.sets w.gl).kind w.gl _)
  in_seven_lem Answer.Delete word are said = rw (word, are, kinds) (under_kind_lem (set_in w.sets w.gl).kind w.gl _)
  in_seven_lem (Answer.Control ControlElement.C0 f n) word are said = rw (word, are) (control_of_c0 Form.Seven n (element_number w.gl) said.1)
  in_seven_lem (Answer.Control ControlElement.C1 f n) word are said = rw (word, are) (function_in_seven n (element_number w.gl))
  in_seven_lem (Answer.DesignateControls v f) word are said = rw (word, are)
  in_seven_lem (Answer.Designate e s) word are said = rw (word, are)
  in_seven_lem (Answer.Shift h) word are said = rw (word, are)
  in_seven_lem (Answer.Other s f) word are said = rw (word, are)
  in_seven_lem (Answer.Refused n) word are said = rw (word, are)
  in_seven_lem Answer.Skipped word are said = rw (word, are)
  in_seven_lem (Answer.InStep n) word are said = rw (word, are)

  in_eight_lem : (a : Answer) → word_number x.word ≡ word_of a → bytes ≡ said_bytes a → Said a x.value → As Form.Eight a
  unfolding writes control_in
  in_eight_lem Answer.NothingYet word are said = rw (word, are)
  in_eight_lem (Answer.Char e s p) word are said = rw (word, are, said) (character_in_eight e w.gl (position_values p))
  in_eight_lem Answer.Space word are said = rw (word, are)
  in_eight_lem Answer.Delete word are said = rw (word, are)
  in_eight_lem (Answer.Control v f n) word are said = rw (word, are)
  in_eight_lem (Answer.DesignateControls v f) word are said = rw (word, are)
  in_eight_lem (Answer.Designate e s) word are said = rw (word, are)
  in_eight_lem (Answer.Shift h) word are said = rw (word, are)
  in_eight_lem (Answer.Other s f) word are said = rw (word, are)
  in_eight_lem (Answer.Refused n) word are said = rw (word, are)
  in_eight_lem Answer.Skipped word are said = rw (word, are)
  in_eight_lem (Answer.InStep n) word are said = rw (word, are)

  pub writes_answer : (to : Form) (a : Answer) → word_number x.word ≡ word_of a → bytes ≡ said_bytes a → Said a x.value →
      writes to (element_number w.gl) cells x bytes ≡ alone (written_for to w a) (element_number (writer_after to w a).gl)
  writes_answer Form.Seven a = in_seven_lem a
  writes_answer Form.Eight a = in_eight_lem a
