-- Both tests turned round.
use mathlib.Core.Bool.{Bool, true, false, not, ◌&&◌}
use mathlib.Core.Path.{◌≡◌, refl, ◌∙◌, ap}
use lib.Dec.{eqb}
use Rattle.paper.specs.Choice.{◌gives◌or◌, between}
use Rattle.paper.specs.CodeTable.{so, si, esc}
use Rattle.lane.specs.Passing.{is_quiet}
use Rattle.lane.proofs.is_quiet.Goals as goal

turned : (a b : Bool) → (not a && not b) ≡ (a gives false or b gives false or true)
turned true b = refl
turned false true = refl
turned false false = refl

pub returns : goal.returns
unfolding is_quiet
returns c =
    let b = c.args.byte in
    ap (λ (w : Bool). not (eqb b esc) && not w) c.between.ensures ∙ turned (eqb b esc) (between so si b)
