-- What a pass answers at the end of the text, or where it is refused, is what is promised of it.
use Prim.Native.Nat.{ℕ, ◌≤◌}
use mathlib.Core.Path.{◌≡◌, refl, sym, ap, ◌∙◌}
use mathlib.Core.List.{List}
use native.Mathlib.Omega.{arith}
use lib.ListN.{length}
use Rattle.paper.specs.Answering.{end_within, end_of_text, end_standing}
use Rattle.paper.specs.Conversions.{refusal_at_end, refusal_in, output}
use Rattle.paper.specs.declared.Form.{Form}
use Rattle.paper.specs.declared.Element.{Element}
use Rattle.paper.specs.declared.Refusal.{Refusal}
use Rattle.paper.specs.declared.Standing.{Standing}
use Rattle.paper.proofs.Choices.{impossible}
use Rattle.items.specs.States.{single_in, Single, none, one, single_number, within_of}
use Rattle.converter.specs.Passes.{passed_by, at_the_end}
use Rattle.converter.specs.Passing.{Passes}
use Rattle.converter.specs.Stretches.{Promised}
use Rattle.converter.proofs.PassGoesOn.{passing_ends}
use Rattle.std.specs.Prelude.{Option, Some, Result, Err}
use Rattle.paper.specs.Refusals.{refusal_at}
use Rattle.paper.specs.declared.Refused.{Refused}

pub refused_promised : (m to : Form) (text lent buffer : List ℕ) (n : Refusal) (place : ℕ) →
    refusal_in m text ≡ Some (refusal_at n place) → Promised m to text lent (Err (refusal_at n place)) buffer
refused_promised m to text lent buffer n place e =
    (ap (λ (f : Option Refused). passed_by f (length (output m to text))) (sym e), λ accepted room. impossible (cc))

ended_by : (t : Single) (at place : ℕ) → passed_by (refusal_at_end (end_within (within_of t)) place) at ≡ at_the_end (single_number t) at place
ended_by none at place = refl
ended_by (one Element.G0) at place = refl
ended_by (one Element.G1) at place = refl
ended_by (one Element.G2) at place = refl
ended_by (one Element.G3) at place = refl

-- after a single shift the text ends inside
pub end_promised : {m to : Form} {text lent cells : List ℕ} {shown at place : ℕ} {buffer : List ℕ} →
    Passes m to text lent cells shown at place buffer → length text ≤ place → (answer : Result ℕ Refused) →
    answer ≡ at_the_end (single_in cells) at place → Promised m to text lent answer buffer
end_promised {m} {to} {text} {lent} {cells} {shown} {at} {place} p past answer is =
    let ends = passing_ends p.passing past in
    let s = p.stands in
    let at_the_end_lem : place ≡ length text = omega (arith, p.passing.within) in (
      is ∙
          ap (λ (c : List ℕ). at_the_end (single_in c) at place) s.has ∙
          sym (ended_by s.single at place) ∙
          ap (λ (x : Standing). passed_by (refusal_at_end (end_standing x) place) at) (sym s.stands) ∙
          ap (λ (n : ℕ). passed_by (refusal_at_end (end_of_text p.reader) n) at) at_the_end_lem ∙
          ap (λ (f : Option Refused). passed_by f at) (sym ends.0) ∙
          ap (λ (n : ℕ). passed_by (refusal_in m text) n) (sym ends.1),
      λ accepted. ends.2,
    )
