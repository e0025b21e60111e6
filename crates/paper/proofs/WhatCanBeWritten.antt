-- What can be written of a sequence, said of each answer by the sets at its place: a character has as many position bytes as its set
-- has to a character, each of the set; a C0 control is no ESC, SO or SI; a C1 function is no single shift; a designation and an other
-- sequence are rows of the table.
use Prim.Native.Nat.{ℕ, ◌<◌}
use mathlib.Core.Path.{◌≡◌}
use mathlib.Core.Bool.{false}
use mathlib.Core.List.{List, [], ◌∷◌}
use lib.Dec.{eqb}
use Rattle.paper.specs.Words.{Form, ControlElement, Area, Element, G0, G1, G2, G3, Kind, Of94, Of96, Set, Sets, OfSet}
use Rattle.paper.specs.Words.{Intermediate, Final, Intermediates, Meaning, Function, PositionBytes, Within, Standing}
use Rattle.paper.specs.Words.{Refusal, Answer}
use Rattle.paper.specs.CodeTable.{area_of, so, si, esc}
use Rattle.paper.specs.Sets.{bytes_of, set_in, set_byte}
use Rattle.paper.specs.Sequences.{sequence_byte, c1_function, meaning_of}
use Rattle.paper.specs.Characters.{bytes_so_far}
use Rattle.paper.specs.Starting.{starting_sets}
use Rattle.paper.specs.WrittenForms.{Entry, given, left_out, sets_with}
use Rattle.paper.proofs.OpeningsTakenWhole.{with_opening}
use Rattle.paper.proofs.TableOfSequences.{Lasts}

-- ---- parts of an answer

abbrev pub AllOfSet : Kind → PositionBytes → Type 0
AllOfSet k (PositionBytes.One a) = set_byte k a ≡ OfSet
AllOfSet k (PositionBytes.Two a b) = (set_byte k a ≡ OfSet) × (set_byte k b ≡ OfSet)
AllOfSet k (PositionBytes.Three a b c) = (set_byte k a ≡ OfSet) × (set_byte k b ≡ OfSet) × (set_byte k c ≡ OfSet)

abbrev pub AllIntermediate : Intermediates → Type 0
AllIntermediate Intermediates.None = Unit {0}
AllIntermediate (Intermediates.One i) = sequence_byte i ≡ Intermediate
AllIntermediate (Intermediates.Two i j) = (sequence_byte i ≡ Intermediate) × (sequence_byte j ≡ Intermediate)

-- G0 is never of 96 type
abbrev pub MayHave : Element → Kind → Type 0
MayHave e Of94 = Unit {0}
MayHave G0 Of96 = ⊥
MayHave G1 Of96 = Unit {0}
MayHave G2 Of96 = Unit {0}
MayHave G3 Of96 = Unit {0}

pub record WholeCharacter (t : Sets) (e : Element) (x : Set) (p : PositionBytes) : Type 0 where
  pub of_element : x ≡ set_in t e
  pub whole : bytes_so_far p ≡ bytes_of (set_in t e).count
  pub of_set : AllOfSet (set_in t e).kind p

pub record ControlOfC0 (t : Sets) (f n : ℕ) : Type 0 where
  pub of_element : f ≡ t.c0
  pub area : area_of n ≡ Area.C0
  pub not_esc : eqb n esc ≡ false
  pub not_so : eqb n so ≡ false
  pub not_si : eqb n si ≡ false

pub record FunctionOfC1 (t : Sets) (f n : ℕ) : Type 0 where
  pub of_element : f ≡ t.c1
  pub no_shift : c1_function n ≡ Function n

pub record Designation (e : Element) (x : Set) : Type 0 where
  pub ends : sequence_byte x.last ≡ Final
  pub into : MayHave e x.kind
  pub lasts : Lasts x.count x.last

pub record OtherSequence (s : Intermediates) (f : ℕ) : Type 0 where
  pub ends : sequence_byte f ≡ Final
  pub leads : AllIntermediate s
  pub other : (m : Form) → meaning_of m s f ≡ Meaning.Other

abbrev pub CanBeWritten : Sets → Answer → Type 0
CanBeWritten t Answer.NothingYet = Unit {0}
CanBeWritten t (Answer.Char e x p) = WholeCharacter t e x p
CanBeWritten t Answer.Space = Unit {0}
CanBeWritten t Answer.Delete = Unit {0}
CanBeWritten t (Answer.Control ControlElement.C0 f n) = ControlOfC0 t f n
CanBeWritten t (Answer.Control ControlElement.C1 f n) = FunctionOfC1 t f n
CanBeWritten t (Answer.DesignateControls w f) = sequence_byte f ≡ Final
CanBeWritten t (Answer.Designate e x) = Designation e x
CanBeWritten t (Answer.Shift h) = Unit {0}
CanBeWritten t (Answer.Other s f) = OtherSequence s f
CanBeWritten t (Answer.Refused r) = ⊥
CanBeWritten t Answer.Skipped = ⊥
CanBeWritten t (Answer.InStep n) = ⊥

-- a sequence, as the steps that make it: an answer, or an opening taken whole, with its mark
pub data Steps : Type 0 where
  ended : Steps
  said : Answer → Steps → Steps
  opened : Steps → Steps

abbrev pub entries_of : Steps → List Entry
entries_of ended = []
entries_of (said a s) = given a ∷ entries_of s
entries_of (opened s) = with_opening (entries_of s)

-- none of its answers is one that is left out, and each can be written, by the sets at its place
abbrev pub AllCanBeWritten : Sets → Steps → Type 0
AllCanBeWritten t ended = Unit {0}
AllCanBeWritten t (said a s) = (left_out a ≡ false) × CanBeWritten t a × AllCanBeWritten (sets_with t a) s
AllCanBeWritten t (opened s) = AllCanBeWritten starting_sets s

pub record InSteps (t : Sets) (l : List Entry) : Type 0 where
  pub steps : Steps
  pub is : l ≡ entries_of steps
  pub all : AllCanBeWritten t steps

-- ---- what is read so far

abbrev pub SoFar : Sets → Within → Type 0
SoFar t Within.Ground = Unit {0}
SoFar t (Within.Sequence s) = AllIntermediate s
SoFar t (Within.SingleShift e) = Unit {0}
SoFar t (Within.Character e a p) = AllOfSet (set_in t e).kind p × (bytes_so_far p < bytes_of (set_in t e).count)

abbrev pub Stands : Sets → Standing → Type 0
Stands t (Standing.InStep w) = SoFar t w
Stands t (Standing.Lost k n) = ⊥

abbrev pub NotRefused : Answer → Type 0
NotRefused a = (n : Refusal) → a ≡ Answer.Refused n → ⊥
