-- Past the text's end there is a refusal, so a later byte of a character that is taken stands inside the text.
use Rattle.std.proofs.Common.{◌≡◌, ℕ, Option, None, ◌<◌, leb, List, length, leb-false}
use Rattle.paper.specs.declared.Form.{Form}
use Rattle.paper.specs.declared.Kind.{Kind}
use Rattle.paper.specs.declared.GraphicArea.{GraphicArea}
use Rattle.paper.specs.declared.Refusal.{Refusal}
use Rattle.paper.proofs.Choices.{gives_by, impossible}
use Rattle.items.specs.Items.{later_at}

pub taken_inside : (m : Form) (a : GraphicArea) (k : Kind) (text : List ℕ) (place : ℕ) →
    later_at m a k text place ≡ None → place < length text
unfolding later_at
taken_inside m a k text place =
    gives_by (λ (refusal : Option Refusal). refusal ≡ None → place < length text) (leb (length text) place)
    (λ past e. impossible (cc))
    (λ inside e. leb-false (length text) place inside)
