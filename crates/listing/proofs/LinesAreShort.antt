-- A buffer of 64 bytes takes every line: the longest has 46 bytes.
use Prim.Native.Nat.{ℕ, zero, suc, ◌/◌, ◌%◌, ◌≤◌}
use mathlib.Core.Path.{subst}
use mathlib.Core.List.{List, [], ◌∷◌, ◌++◌}
use native.Mathlib.Omega.{arith}
use lib.Dec.{lit≤, ltb}
use lib.ListN.{length, length-append}
use Rattle.paper.proofs.Choices.{gives_has}
use Rattle.paper.specs.declared.Answer.{Answer}
use Rattle.paper.specs.declared.ControlElement.{ControlElement}
use Rattle.paper.specs.declared.Count.{Count}
use Rattle.paper.specs.declared.Element.{Element}
use Rattle.paper.specs.declared.Element.TheVariants.{G0, G1, G2, G3}
use Rattle.paper.specs.declared.EndWord.{EndWord}
use Rattle.paper.specs.declared.Intermediates.{Intermediates}
use Rattle.paper.specs.declared.Kind.{Kind}
use Rattle.paper.specs.declared.Kind.TheVariants.{Of94, Of96}
use Rattle.paper.specs.declared.PositionBytes.{PositionBytes}
use Rattle.paper.specs.declared.Set.{Set}
use Rattle.paper.specs.declared.Shift.{Shift}
use Rattle.paper.specs.declared.Shift.TheVariants.{LS0, LS1, LS2, LS3, LS1R, LS2R, LS3R, SS2, SS3}
use Rattle.paper.specs.Sets.{size_of}
use Rattle.paper.specs.Refusals.{number_of}
use Rattle.paper.specs.Lister.{digit, decimal, decimal_within, count_name, control_element_name, element_name, shift_name}
use Rattle.paper.specs.Lister.{position_fields, sequence_fields, line_of, end_name, end_line}
use Rattle.listing.specs.Numerals.{fields, numeral, size_numeral, answer_line, last_line}
use Rattle.listing.proofs.NumbersOpened.{opened, last_opened}

within : (k n : ℕ) → length (decimal_within k n) ≤ k
within zero n = omega arith
within (suc k) n =
    gives_has (λ (l : List ℕ). length l ≤ suc k) (ltb n 10) {a = digit n ∷ []} {b = decimal_within k (n / 10) ++ (digit (n % 10) ∷ [])}
    (omega arith)
    (simp length-append (omega (arith, within k (n / 10))))

numeral_short : (n : ℕ) → length (numeral n) ≤ 20
unfolding numeral
numeral_short n = within 20 n

-- each field
controls : (w : ControlElement) → length (control_element_name w) ≤ 2
controls ControlElement.C0 = lit≤ tt
controls ControlElement.C1 = lit≤ tt

elements : (e : Element) → length (element_name e) ≤ 2
elements G0 = lit≤ tt
elements G1 = lit≤ tt
elements G2 = lit≤ tt
elements G3 = lit≤ tt

shifts : (h : Shift) → length (shift_name h) ≤ 4
shifts LS0 = lit≤ tt
shifts LS1 = lit≤ tt
shifts LS2 = lit≤ tt
shifts LS3 = lit≤ tt
shifts LS1R = lit≤ tt
shifts LS2R = lit≤ tt
shifts LS3R = lit≤ tt
shifts SS2 = lit≤ tt
shifts SS3 = lit≤ tt

sizes : (k : Kind) (n : Count) → length (decimal (size_of k) ++ count_name n) ≤ 4
sizes Of94 Count.One = lit≤ tt
sizes Of94 Count.Two = lit≤ tt
sizes Of94 Count.Three = lit≤ tt
sizes Of96 Count.One = lit≤ tt
sizes Of96 Count.Two = lit≤ tt
sizes Of96 Count.Three = lit≤ tt

of_set : (x : Set) → length (size_numeral x) ≤ 4
unfolding size_numeral
of_set x = sizes x.kind x.count

positions : (p : PositionBytes) → length (fields (position_fields p)) ≤ 9
positions (PositionBytes.One a) = lit≤ tt
positions (PositionBytes.Two a b) = lit≤ tt
positions (PositionBytes.Three a b c) = lit≤ tt

sequences : (s : Intermediates) (f : ℕ) → length (fields (sequence_fields s f)) ≤ 9
sequences Intermediates.None f = lit≤ tt
sequences (Intermediates.One i) f = lit≤ tt
sequences (Intermediates.Two i j) f = lit≤ tt

ends : (w : EndWord) → length (end_name w) ≤ 6
ends EndWord.Whole = lit≤ tt
ends EndWord.Inside = lit≤ tt
ends EndWord.Lost = lit≤ tt

-- each line
answer_short : (at : ℕ) (a : Answer) → length (answer_line at a) ≤ 64
answer_short at Answer.NothingYet = lit≤ tt
answer_short at (Answer.Char e x p) = simp length-append (omega (arith, numeral_short at, elements e, of_set x, positions p))
answer_short at Answer.Space = simp length-append (omega (arith, numeral_short at))
answer_short at Answer.Delete = simp length-append (omega (arith, numeral_short at))
answer_short at (Answer.Control w f n) = simp length-append (omega (arith, numeral_short at, controls w))
answer_short at (Answer.DesignateControls w f) = simp length-append (omega (arith, numeral_short at, controls w))
answer_short at (Answer.Designate e x) = simp length-append (omega (arith, numeral_short at, elements e, of_set x))
answer_short at (Answer.Shift h) = simp length-append (omega (arith, numeral_short at, shifts h))
answer_short at (Answer.Other s f) = simp length-append (omega (arith, numeral_short at, sequences s f))
answer_short at (Answer.Refused n) = simp length-append (omega (arith, numeral_short at, numeral_short (number_of n)))
answer_short at Answer.Skipped = lit≤ tt
answer_short at (Answer.InStep n) = simp length-append (omega (arith, numeral_short at, numeral_short n))

last_line_short : (n : ℕ) (w : EndWord) → length (last_line n w) ≤ 64
last_line_short n w = simp length-append (omega (arith, numeral_short n, ends w))

pub short : (at : ℕ) (a : Answer) → length (line_of at a) ≤ 64
short at a = subst (λ (l : List ℕ). length l ≤ 64) (opened at a) (answer_short at a)

pub last_short : (n : ℕ) (w : EndWord) → length (end_line n w) ≤ 64
last_short n w = subst (λ (l : List ℕ). length l ≤ 64) (last_opened n w) (last_line_short n w)
