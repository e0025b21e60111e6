-- In 7-bit form no sequence and no C1 function moves GR: the shifts into GR are LS1R, LS2R and LS3R, and these have no meaning there.
use Prim.Native.Nat.{ℕ}
use mathlib.Core.Path.{◌≡◌, refl}
use Rattle.paper.specs.Words.{Form, Seven, Eight, Element, Intermediates, Meaning, NoMeaning, Function, Shifts}
use Rattle.paper.specs.Sequences.{c1_function, meaning_of, gr_after}
use Rattle.paper.proofs.Choices.{impossible}
use Rattle.paper.proofs.TableOfSequences.{Rows, every_meaning, every_c1_function}

-- a meaning after which GR shows what it showed
abbrev pub KeepsGR : Meaning → Type 0
KeepsGR NoMeaning = Unit {0}
KeepsGR Meaning.Other = Unit {0}
KeepsGR (Function n) = Unit {0}
KeepsGR (Shifts h) = (e : Element) → gr_after e h ≡ e
KeepsGR (Meaning.DesignateControls w) = Unit {0}
KeepsGR (Meaning.Designate e k n) = Unit {0}

rows : (f : ℕ) → Rows Seven f KeepsGR
rows f = record {
  no_meaning = tt;
  other = tt;
  function = λ n e. tt;
  ss2 = λ e. refl;
  ss3 = λ e. refl;
  ls2 = λ e. refl;
  ls3 = λ e. refl;
  right = λ h. tt;
  controls = λ w. tt;
  of94 = λ e n lasts. tt;
  of96_in_g1 = λ n lasts. tt;
  of96_in_g2 = λ n lasts. tt;
  of96_in_g3 = λ n lasts. tt;
}

pub function_keeps_gr : (n : ℕ) → KeepsGR (c1_function n)
function_keeps_gr n = every_c1_function Seven n KeepsGR (rows n) n

pub sequence_keeps_gr : (m : Form) → m ≡ Seven → (s : Intermediates) (f : ℕ) → KeepsGR (meaning_of m s f)
sequence_keeps_gr Seven e s f = every_meaning Seven f KeepsGR (rows f) s
sequence_keeps_gr Eight e s f = impossible (cc)
