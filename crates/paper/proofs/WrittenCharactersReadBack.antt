-- The bytes that are written for a character are read as that character, once over the set and the byte count, wherever a first byte
-- begins a character of its element: in GL or GR where it shows, or after a single shift.
use Prim.Native.Nat.{ℕ, ◌≤◌, ◌<◌}
use mathlib.Core.Path.{◌≡◌, ap, ◌∙◌, subst}
use mathlib.Core.Bool.{true}
use mathlib.Core.List.{List, ◌∷◌, ◌++◌, map}
use native.Mathlib.Omega.{arith}
use borrow.Author.Tests.{lt-ltb, le-ltb}
use Rattle.paper.specs.Words.{Form, Area, Element, Set, Sets, SetByte, OfSet, GraphicArea, PositionBytes, Within, Reader, Answer}
use Rattle.paper.specs.Sets.{bytes_of, set_in, set_byte}
use Rattle.paper.specs.Characters.{says, waits, position_in, byte_in, bytes_so_far, with_byte, character, of_character, first_in_gl}
use Rattle.paper.specs.Results.{position_values}
use Rattle.paper.specs.WrittenForms.{Entry, given, byte_from}
use Rattle.paper.proofs.MadeAndTakenApart.{has_area}
use Rattle.paper.proofs.WhatCanBeWritten.{AllOfSet}
use Rattle.paper.proofs.WrittenBytes.{form_has_area, both_have_gl, area_in, byte_of}
use Rattle.paper.proofs.AnswersWithoutTheRecord.{answer_of}
use Rattle.paper.proofs.ReadingOn.{ReadsAs, reads_on, reader_with, in_form, on_ground_lem}

-- ---- a whole character, or not yet

whole_character : (e : Element) (x : Set) (a : GraphicArea) (p : PositionBytes) (r : Reader) → bytes_so_far p ≡ bytes_of x.count →
    character e x a p r ≡ says (Answer.Char e x p) r
unfolding character
whole_character e x a p r h = let k : bytes_of x.count ≤ bytes_so_far p = omega arith in rw (le-ltb (bytes_so_far p) (bytes_of x.count) k)

not_yet : (e : Element) (x : Set) (a : GraphicArea) (p : PositionBytes) (r : Reader) → bytes_so_far p < bytes_of x.count →
    character e x a p r ≡ waits (Within.Character e a p) r
unfolding character
not_yet e x a p r h = rw (lt-ltb (bytes_so_far p) (bytes_of x.count) h)

module _ (m : Form) (t : Sets) (gl gr : Element) where
  abbrev here : Within → Reader
  here w = reader_with m t gl gr w

  -- ---- characters

  -- a byte that begins a character of an element, from an area
  abbrev pub Begins : Within → Element → GraphicArea → Type 0
  Begins w e a = (q : ℕ) → set_byte (set_in t e).kind q ≡ OfSet →
      answer_of (here w) (byte_from a q) ≡ character e (set_in t e) a (PositionBytes.One q) (here w)

  pub begins_in_gl : (e : Element) → gl ≡ e → Begins Within.Ground e GraphicArea.GL
  unfolding byte_in
  begins_in_gl e shows =
      subst (λ (e : Element). Begins Within.Ground e GraphicArea.GL) shows
      (λ q of_set. on_ground_lem m t gl gr q Area.GL (byte_of GraphicArea.GL (set_in t gl).kind q of_set).area (both_have_gl m) ∙
      ap (λ (s : SetByte). first_in_gl s gl (set_in t gl) q (here Within.Ground)) of_set)

  -- a byte of the set in an area that the form has, with what is read so far
  joins : (e : Element) (a : GraphicArea) (q : ℕ) (with : ℕ → PositionBytes) (r : Reader) → set_byte (set_in t e).kind q ≡ OfSet →
      of_character (byte_in a (set_in t e).kind (byte_from a q)) e (set_in t e) a (with (position_in a (byte_from a q))) (byte_from a q) r ≡
      character e (set_in t e) a (with q) r
  joins e a q with r of_set =
      let x : Set = set_in t e in
      let c = byte_of a x.kind q of_set in
      ap (λ (s : SetByte). of_character s e x a (with (position_in a (byte_from a q))) (byte_from a q) r) c.of_set ∙
      ap (λ (p : ℕ). character e x a (with p) r) c.position

  pub begins_in_gr : has_area m Area.GR ≡ true → Begins Within.Ground gr GraphicArea.GR
  begins_in_gr has q of_set =
      on_ground_lem m t gl gr (byte_from GraphicArea.GR q) Area.GR (byte_of GraphicArea.GR (set_in t gr).kind q of_set).area has ∙
      joins gr GraphicArea.GR q PositionBytes.One (here Within.Ground) of_set

  pub begins_shifted : (e : Element) → Begins (Within.SingleShift e) e GraphicArea.GL
  begins_shifted e q of_set =
      in_form m t gl gr (Within.SingleShift e) q
      (form_has_area m q Area.GL (byte_of GraphicArea.GL (set_in t e).kind q of_set).area (both_have_gl m)) ∙
      joins e GraphicArea.GL q PositionBytes.One (here (Within.SingleShift e)) of_set

  -- a later byte
  goes_on : (e : Element) (a : GraphicArea) (p : PositionBytes) (q : ℕ) → has_area m (area_in a) ≡ true →
      set_byte (set_in t e).kind q ≡ OfSet → let w = Within.Character e a p in
      answer_of (here w) (byte_from a q) ≡ character e (set_in t e) a (with_byte p q) (here w)
  goes_on e a p q has of_set =
      let w : Within = Within.Character e a p in
      in_form m t gl gr w (byte_from a q) (form_has_area m (byte_from a q) (area_in a) (byte_of a (set_in t e).kind q of_set).area has) ∙
      joins e a q (with_byte p) (here w) of_set

  -- the bytes of one character, once over the set and the byte count
  pub reads_character : (p : PositionBytes) (w : Within) (e : Element) (a : GraphicArea) (bs : List ℕ) (l : List Entry) →
      Begins w e a → has_area m (area_in a) ≡ true → bytes_so_far p ≡ bytes_of (set_in t e).count → AllOfSet (set_in t e).kind p →
      ReadsAs (here Within.Ground) bs l →
      ReadsAs (here w) (map (byte_from a) (position_values p) ++ bs) (given (Answer.Char e (set_in t e) p) ∷ l)
  reads_character (PositionBytes.One c) w e a bs l begins has n of_set more =
      let x : Set = set_in t e in
      reads_on (here w) (byte_from a c) (says (Answer.Char e x (PositionBytes.One c)) (here w)) bs l
      (begins c of_set ∙ whole_character e x a (PositionBytes.One c) (here w) n)
      tt more
  reads_character (PositionBytes.Two c d) w e a bs l begins has n of_set more =
      let x : Set = set_in t e in
      let one : PositionBytes = PositionBytes.One c in
      let v : Within = Within.Character e a one in
      let two : PositionBytes = PositionBytes.Two c d in
      reads_on (here w) (byte_from a c) (waits v (here w)) (byte_from a d ∷ bs) (given (Answer.Char e x two) ∷ l)
      (begins c of_set.0 ∙ not_yet e x a one (here w) (omega arith)) tt
      (reads_on (here v) (byte_from a d) (says (Answer.Char e x two) (here v)) bs l
      (goes_on e a one d has of_set.1 ∙ whole_character e x a two (here v) n) tt more)
  reads_character (PositionBytes.Three c d f) w e a bs l begins has n of_set more =
      let x : Set = set_in t e in
      let one : PositionBytes = PositionBytes.One c in
      let two : PositionBytes = PositionBytes.Two c d in
      let three : PositionBytes = PositionBytes.Three c d f in
      let u : Within = Within.Character e a one in
      let v : Within = Within.Character e a two in
      reads_on (here w) (byte_from a c) (waits u (here w)) (byte_from a d ∷ byte_from a f ∷ bs) (given (Answer.Char e x three) ∷ l)
      (begins c of_set.0 ∙ not_yet e x a one (here w) (omega arith)) tt
      (reads_on (here u) (byte_from a d) (waits v (here u)) (byte_from a f ∷ bs) (given (Answer.Char e x three) ∷ l)
      (goes_on e a one d has of_set.1 ∙ not_yet e x a two (here u) (omega arith)) tt
      (reads_on (here v) (byte_from a f) (says (Answer.Char e x three) (here v)) bs l
      (goes_on e a two f has of_set.2 ∙ whole_character e x a three (here v) n) tt more))
