-- What an answer writes at most, whatever the form and the writer: a character its position bytes and two more, which are a single shift
-- in 7-bit form; a sequence its own bytes; all else two.
use Prim.Native.Nat.{ℕ, ◌+◌, ◌≤◌}
use mathlib.Core.Path.{◌≡◌, refl}
use mathlib.Core.List.{[], ◌∷◌, ◌++◌, map}
use native.Mathlib.Omega.{arith}
use lib.ListN.{length, length-append}
use Rattle.paper.specs.Words.{Form, Seven, Eight, ControlElement, Element, G0, G1, G2, G3, Set, Intermediates, GraphicArea}
use Rattle.paper.specs.Words.{PositionBytes, Answer}
use Rattle.paper.specs.Sets.{space, delete}
use Rattle.paper.specs.Characters.{bytes_so_far}
use Rattle.paper.specs.Results.{position_values}
use Rattle.paper.specs.WrittenForms.{sequence_bytes, intermediates_of, byte_from, Writer, Locking, none, shift_in, shift_out, locking_bytes}
use Rattle.paper.specs.WrittenForms.{before_character, locking, written_for}

abbrev pub how_many_intermediates : Intermediates → ℕ
how_many_intermediates Intermediates.None = 0
how_many_intermediates (Intermediates.One i) = 1
how_many_intermediates (Intermediates.Two i j) = 2

abbrev pub most_written : Answer → ℕ
most_written Answer.NothingYet = 0
most_written (Answer.Char e x p) = 2 + bytes_so_far p
most_written Answer.Space = 2
most_written Answer.Delete = 2
most_written (Answer.Control w f n) = 2
most_written (Answer.DesignateControls w f) = 3
most_written (Answer.Designate e x) = 4
most_written (Answer.Shift h) = 0
most_written (Answer.Other s f) = 2 + how_many_intermediates s
most_written (Answer.Refused r) = 0
most_written Answer.Skipped = 0
most_written (Answer.InStep n) = 0

most_locking : (k : Locking) → length (locking_bytes k) ≤ 1
most_locking none = omega arith
most_locking shift_in = omega arith
most_locking shift_out = omega arith

position_bytes_lem : (f : ℕ → ℕ) (p : PositionBytes) → length (map f (position_values p)) ≡ bytes_so_far p
position_bytes_lem f (PositionBytes.One a) = refl
position_bytes_lem f (PositionBytes.Two a b) = refl
position_bytes_lem f (PositionBytes.Three a b c) = refl

sequence_bytes_lem : (s : Intermediates) (f : ℕ) → length (sequence_bytes s f) ≡ 2 + how_many_intermediates s
sequence_bytes_lem Intermediates.None f = refl
sequence_bytes_lem (Intermediates.One i) f = refl
sequence_bytes_lem (Intermediates.Two i j) f = refl

two_at_most : (s : Intermediates) → how_many_intermediates s ≤ 2
two_at_most Intermediates.None = omega arith
two_at_most (Intermediates.One i) = omega arith
two_at_most (Intermediates.Two i j) = omega arith

-- a locking shift goes before characters of G0 and G1 alone, a single shift before the others
before_one : (k : Locking) (f : ℕ → ℕ) (p : PositionBytes) →
    length (locking_bytes k ++ map f (position_values p)) ≤ 2 + bytes_so_far p
before_one k f p =
    omega (arith, length-append (locking_bytes k) (map f (position_values p)), most_locking k, position_bytes_lem f p)

most_character : (m : Form) (e : Element) (w : Writer) (x : Set) (p : PositionBytes) →
    length (written_for m w (Answer.Char e x p)) ≤ 2 + bytes_so_far p
most_character Seven G0 w x p = before_one (before_character G0 w.gl) (byte_from GraphicArea.GL) p
most_character Seven G1 w x p = before_one (before_character G1 w.gl) (byte_from GraphicArea.GL) p
most_character Seven G2 w x p = omega (arith, position_bytes_lem (byte_from GraphicArea.GL) p)
most_character Seven G3 w x p = omega (arith, position_bytes_lem (byte_from GraphicArea.GL) p)
most_character Eight G0 w x p = omega (arith, position_bytes_lem (byte_from GraphicArea.GL) p)
most_character Eight G1 w x p = omega (arith, position_bytes_lem (byte_from GraphicArea.GR) p)
most_character Eight G2 w x p = omega (arith, position_bytes_lem (byte_from GraphicArea.GL) p)
most_character Eight G3 w x p = omega (arith, position_bytes_lem (byte_from GraphicArea.GL) p)

most_alone : (k : Locking) (b : ℕ) → length (locking_bytes k ++ (b ∷ [])) ≤ 2
most_alone none b = omega arith
most_alone shift_in b = omega arith
most_alone shift_out b = omega arith

pub most_written_lem : (a : Answer) (m : Form) (w : Writer) → length (written_for m w a) ≤ most_written a
most_written_lem Answer.NothingYet Seven w = omega arith
most_written_lem Answer.NothingYet Eight w = omega arith
most_written_lem (Answer.Char e x p) m w = most_character m e w x p
most_written_lem Answer.Space m w = most_alone (locking m w Answer.Space) space
most_written_lem Answer.Delete m w = most_alone (locking m w Answer.Delete) delete
most_written_lem (Answer.Control ControlElement.C0 f n) m w = most_alone (locking m w (Answer.Control ControlElement.C0 f n)) n
most_written_lem (Answer.Control ControlElement.C1 f n) Seven w = omega arith
most_written_lem (Answer.Control ControlElement.C1 f n) Eight w = omega arith
most_written_lem (Answer.DesignateControls v f) Seven w = omega arith
most_written_lem (Answer.DesignateControls v f) Eight w = omega arith
most_written_lem (Answer.Designate e x) Seven w =
    let s : Intermediates = intermediates_of x.count x.kind e x.last in omega (arith, sequence_bytes_lem s x.last, two_at_most s)
most_written_lem (Answer.Designate e x) Eight w =
    let s : Intermediates = intermediates_of x.count x.kind e x.last in omega (arith, sequence_bytes_lem s x.last, two_at_most s)
most_written_lem (Answer.Shift h) Seven w = omega arith
most_written_lem (Answer.Shift h) Eight w = omega arith
most_written_lem (Answer.Other s f) Seven w = omega (arith, sequence_bytes_lem s f)
most_written_lem (Answer.Other s f) Eight w = omega (arith, sequence_bytes_lem s f)
most_written_lem (Answer.Refused r) Seven w = omega arith
most_written_lem (Answer.Refused r) Eight w = omega arith
most_written_lem Answer.Skipped Seven w = omega arith
most_written_lem Answer.Skipped Eight w = omega arith
most_written_lem (Answer.InStep n) Seven w = omega arith
most_written_lem (Answer.InStep n) Eight w = omega arith
