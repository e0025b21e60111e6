-- The bytes of an answer, by what GL shows: there is an element that shows them in four bytes at the most; and wherever they can be
-- written, they begin as no locking shift does, so that byte order tells the two apart.
use Prim.Native.Nat.{ℕ, ◌<◌, ◌≤◌}
use mathlib.Core.Path.{◌≡◌, refl, sym, ap, subst}
use mathlib.Core.Bool.{Bool, true, false}
use mathlib.Core.List.{List, [], ◌∷◌, map}
use native.Mathlib.Omega.{arith}
use borrow.Author.Tests.{eqb-false}
use lib.ListN.{length}
use Rattle.paper.specs.Choice.{◌gives◌or◌}
use Rattle.paper.specs.CodeTable.{so, si, esc}
use Rattle.paper.specs.Sets.{space, delete, set_in, set_byte}
use Rattle.paper.specs.Sequences.{sequence_byte, meaning_of, meaning_of_none, shift_or_other, final_of_ls2, final_of_ls3, first_final, last_final}
use Rattle.paper.specs.Sequences.{intermediate_of, several}
use Rattle.paper.specs.Choice.{between}
use Rattle.paper.specs.Results.{position_values}
use Rattle.paper.specs.WrittenForms.{sequence_bytes, takes_short, intermediates_of, byte_from, character_bytes, left_out}
use Rattle.paper.specs.declared.Form.{Form}
use Rattle.paper.specs.declared.ControlElement.{ControlElement}
use Rattle.paper.specs.declared.Kind.{Kind}
use Rattle.paper.specs.declared.Kind.TheVariants.{Of94, Of96}
use Rattle.paper.specs.declared.Count.{Count}
use Rattle.paper.specs.declared.SetByte.{SetByte}
use Rattle.paper.specs.declared.SequenceByte.{SequenceByte}
use Rattle.paper.specs.declared.Element.{Element}
use Rattle.paper.specs.declared.Element.TheVariants.{G0, G1, G2, G3}
use Rattle.paper.specs.declared.Sets.{Sets}
use Rattle.paper.specs.declared.Intermediates.{Intermediates}
use Rattle.paper.specs.declared.Meaning.{Meaning}
use Rattle.paper.specs.declared.GraphicArea.{GraphicArea}
use Rattle.paper.specs.declared.PositionBytes.{PositionBytes}
use Rattle.paper.specs.declared.Answer.{Answer}
use Rattle.paper.proofs.Choices.{impossible, gives_has, between_bounds}
use Rattle.paper.proofs.WrittenBytes.{of_set_bounds, intermediate_bounds, final_is}
use Rattle.paper.proofs.WhatCanBeWritten.{AllOfSet, AllIntermediate, CanBeWritten}
use Rattle.shortest.specs.ShortestText.{is_shown, is_taken, is_of94, fits, bytes_under}

-- ---- where an answer can be written

abbrev pub home : Answer → Element
home (Answer.Char e x p) = e
home _ = G0

pub shown_itself : (e : Element) → is_shown e e ≡ true
shown_itself G0 = refl
shown_itself G1 = refl
shown_itself G2 = refl
shown_itself G3 = refl

pub taken_itself : (e : Element) → is_taken e e ≡ true
taken_itself G0 = refl
taken_itself G1 = refl
taken_itself G2 = refl
taken_itself G3 = refl

pub fits_at_home : (a : Answer) (t : Sets) → t.g0.kind ≡ Of94 → fits t (home a) a ≡ true
fits_at_home (Answer.Char e x p) t g0 = taken_itself e
fits_at_home Answer.Space t g0 = ap is_of94 g0
fits_at_home Answer.Delete t g0 = ap is_of94 g0
fits_at_home _ t g0 = refl

-- ---- how many bytes there are

position_length : (p : PositionBytes) → length (map (byte_from GraphicArea.GL) (position_values p)) ≤ 3
position_length (PositionBytes.One a) = omega arith
position_length (PositionBytes.Two a b) = omega arith
position_length (PositionBytes.Three a b c) = omega arith

sequence_length : (s : Intermediates) (f : ℕ) → length (sequence_bytes s f) ≤ 4
sequence_length Intermediates.None f = omega arith
sequence_length (Intermediates.One i) f = omega arith
sequence_length (Intermediates.Two i j) f = omega arith

pub short_at_home : (a : Answer) → length (bytes_under (home a) a) ≤ 4
short_at_home (Answer.Char e x p) =
    subst (λ (t : Bool). length (t gives map (byte_from GraphicArea.GL) (position_values p) or character_bytes Form.Seven e p) ≤ 4)
    (sym (shown_itself e)) (omega (arith, position_length p))
short_at_home (Answer.Control ControlElement.C0 f n) = omega arith
short_at_home (Answer.Control ControlElement.C1 f n) = omega arith
short_at_home (Answer.Designate e x) = sequence_length (intermediates_of x.count x.kind e x.last) x.last
short_at_home (Answer.Other s f) = sequence_length s f
short_at_home _ = omega arith

-- ---- how they begin

-- with no locking shift, and what follows an ESC is no more than a byte
pub data Clear : List ℕ → Type 0 where
  byte_alone : (b : ℕ) → (b ≡ esc → ⊥) → (b ≡ so → ⊥) → (b ≡ si → ⊥) → Clear (b ∷ [])
  two_bytes : (b d : ℕ) (l : List ℕ) → d < 0x100 → (b ≡ so → ⊥) → (b ≡ si → ⊥) →
      (b ≡ esc → (d ≡ final_of_ls2 → ⊥) × (d ≡ final_of_ls3 → ⊥)) → Clear (b ∷ d ∷ l)

clear_of_set : (k : Kind) (b : ℕ) → set_byte k b ≡ SetByte.OfSet → Clear (b ∷ [])
clear_of_set k b h =
    let bounds = of_set_bounds k b h in
    byte_alone b (λ e. omega (arith, bounds.0)) (λ e. omega (arith, bounds.0)) (λ e. omega (arith, bounds.0))

clear_of_sets : (k : Kind) (b d : ℕ) (l : List ℕ) → set_byte k b ≡ SetByte.OfSet → set_byte k d ≡ SetByte.OfSet → Clear (b ∷ d ∷ l)
clear_of_sets k b d l h i =
    let bounds = of_set_bounds k b h in
    let next = of_set_bounds k d i in
    two_bytes b d l (omega (arith, next.1)) (λ e. omega (arith, bounds.0)) (λ e. omega (arith, bounds.0))
    (λ e. absurd (omega (arith, bounds.0)))

clear_positions : (k : Kind) (p : PositionBytes) → AllOfSet k p → Clear (map (byte_from GraphicArea.GL) (position_values p))
clear_positions k (PositionBytes.One a) h = clear_of_set k a h
clear_positions k (PositionBytes.Two a b) h = clear_of_sets k a b [] h.0 h.1
clear_positions k (PositionBytes.Three a b c) h = clear_of_sets k a b (c ∷ []) h.0 h.1

-- ESC and a byte that ends neither LS2 nor LS3
clear_escape : (d : ℕ) (l : List ℕ) → d < 0x100 → (d ≡ final_of_ls2 → ⊥) → (d ≡ final_of_ls3 → ⊥) → Clear (esc ∷ d ∷ l)
clear_escape d l low two three = two_bytes esc d l low (λ e. omega (arith, e)) (λ e. omega (arith, e)) (λ e. (two, three))

clear_below : (d : ℕ) (l : List ℕ) → d < final_of_ls2 → Clear (esc ∷ d ∷ l)
clear_below d l low = clear_escape d l (omega arith) (λ e. omega arith) (λ e. omega arith)

clear_shifted : (e : Element) (k : Kind) (p : PositionBytes) → AllOfSet k p → Clear (character_bytes Form.Seven e p)
clear_shifted G0 k p h = clear_positions k p h
clear_shifted G1 k p h = clear_positions k p h
clear_shifted G2 k p h = clear_below _ _ (omega arith)
clear_shifted G3 k p h = clear_below _ _ (omega arith)

designating_below : (k : Kind) (e : Element) → intermediate_of k e < final_of_ls2
designating_below Of94 G0 = omega arith
designating_below Of94 G1 = omega arith
designating_below Of94 G2 = omega arith
designating_below Of94 G3 = omega arith
designating_below Of96 G0 = omega arith
designating_below Of96 G1 = omega arith
designating_below Of96 G2 = omega arith
designating_below Of96 G3 = omega arith

clear_designation : (n : Count) (k : Kind) (e : Element) (f : ℕ) → Clear (sequence_bytes (intermediates_of n k e f) f)
clear_designation Count.One k e f = clear_below (intermediate_of k e) (f ∷ []) (designating_below k e)
clear_designation Count.Two k e f =
    gives_has (λ (s : Intermediates). Clear (sequence_bytes s f)) (takes_short e f) (clear_below several (f ∷ []) (omega arith))
    (clear_below several (intermediate_of k e ∷ f ∷ []) (omega arith))
clear_designation Count.Three k e f = clear_below several (intermediate_of k e ∷ f ∷ []) (omega arith)

-- LS2 and LS3 are no other sequences
other_is_no_shift : (f k : ℕ) → meaning_of_none Form.Seven f ≡ Meaning.Other → (meaning_of_none Form.Seven k ≡ Meaning.Other → ⊥) → f ≡ k → ⊥
other_is_no_shift f k other none e = none (subst (λ (n : ℕ). meaning_of_none Form.Seven n ≡ Meaning.Other) e other)

two_no_other : meaning_of_none Form.Seven final_of_ls2 ≡ Meaning.Other → ⊥
unfolding meaning_of_none shift_or_other between
two_no_other e = impossible (cc)

three_no_other : meaning_of_none Form.Seven final_of_ls3 ≡ Meaning.Other → ⊥
unfolding meaning_of_none shift_or_other between
three_no_other e = impossible (cc)

clear_other : (s : Intermediates) (f : ℕ) → sequence_byte f ≡ SequenceByte.Final → AllIntermediate s →
    meaning_of Form.Seven s f ≡ Meaning.Other → Clear (sequence_bytes s f)
clear_other Intermediates.None f final leads other =
    clear_escape f [] (omega (arith, (between_bounds first_final last_final f (final_is f final)).1))
    (other_is_no_shift f final_of_ls2 other two_no_other) (other_is_no_shift f final_of_ls3 other three_no_other)
clear_other (Intermediates.One i) f final leads other = clear_below i (f ∷ []) (omega (arith, (intermediate_bounds i leads).1))
clear_other (Intermediates.Two i j) f final leads other =
    clear_below i (j ∷ f ∷ []) (omega (arith, (intermediate_bounds i leads.0).1))

-- an answer that is in a sequence; those that are left out have no bytes
pub clear_bytes : (a : Answer) (t : Sets) (gl : Element) → left_out a ≡ false → CanBeWritten t a → Clear (bytes_under gl a)
clear_bytes Answer.NothingYet t gl stays h = impossible (cc)
clear_bytes (Answer.Char e x p) t gl stays h =
    gives_has Clear (is_shown gl e) (clear_positions (set_in t e).kind p h.of_set) (clear_shifted e (set_in t e).kind p h.of_set)
clear_bytes Answer.Space t gl stays h = byte_alone space (λ e. omega (arith, e)) (λ e. omega (arith, e)) (λ e. omega (arith, e))
clear_bytes Answer.Delete t gl stays h = byte_alone delete (λ e. omega (arith, e)) (λ e. omega (arith, e)) (λ e. omega (arith, e))
clear_bytes (Answer.Control ControlElement.C0 f n) t gl stays h =
    byte_alone n (eqb-false n esc h.not_esc) (eqb-false n so h.not_so) (eqb-false n si h.not_si)
clear_bytes (Answer.Control ControlElement.C1 f n) t gl stays h = clear_below _ [] (omega arith)
clear_bytes (Answer.DesignateControls ControlElement.C0 f) t gl stays h = clear_below _ (f ∷ []) (omega arith)
clear_bytes (Answer.DesignateControls ControlElement.C1 f) t gl stays h = clear_below _ (f ∷ []) (omega arith)
clear_bytes (Answer.Designate e x) t gl stays h = clear_designation x.count x.kind e x.last
clear_bytes (Answer.Shift s) t gl stays h = impossible (cc)
clear_bytes (Answer.Other s f) t gl stays h = clear_other s f h.ends h.leads (h.other Form.Seven)
clear_bytes _ t gl stays h = absurd h
