-- A character by what GL shows, all else alike.
use native.Mathlib.Omega.{arith}
use borrow.Author.Rules.{rules}
use Rattle.paper.proofs.Tests.{tests}
use Prim.Native.Nat.{ℕ}
use mathlib.Core.Path.{sym, ap, ◌∙◌}
use mathlib.Core.List.{List}
use Rattle.paper.specs.declared.Element.{Element}
use Rattle.escapes.proofs.WordNumbers.{is_word, no_word}
use Rattle.items.specs.Pieces.{bytes_in, Small}
use Rattle.items.specs.declared.piece.Piece.{Piece}
use Rattle.shortener.specs.Under.{character_under, under, Fit, Room}
use Rattle.shortener.proofs.under.bytes_under.Goals as goal
use Rattle.escapes.specs.Effects.{as_word}
use Rattle.paper.specs.Results.{char_word}

room : (p : Piece) → Small p → Room p
room p small = record { few = omega (arith, small.few); low = omega (arith, small.low) }

pub character_under-requires : goal.character_under-requires
character_under-requires c =
    let fit : Fit c.args.unit.effect c.args.unit.piece = search rules in
    (fit.small, fit.of_character (is_word c.args.unit.effect.word (as_word char_word) (sym c.eq.ensures ∙ c.if-eq.true)))

pub returns-then-eq : goal.returns-then-eq
unfolding under
returns-then-eq c =
    let word = is_word c.args.unit.effect.word (as_word char_word) (sym c.eq.ensures ∙ c.if-eq.true) in
    let bytes : List ℕ = bytes_in c.args.unit.piece in
    let shown : Element = c.args.shown in
    (c.character_under.ensures.0 ∙ ap (λ (own : Element). character_under shown own bytes) c.element_of.ensures ∙ search tests, c.character_under.ensures.1)

pub returns : goal.returns
unfolding under
returns c =
    let word = no_word c.args.unit.effect.word (as_word char_word) (sym c.eq.ensures ∙ c.if-eq.false) in
    (search (tests, c.alike.ensures.0), room c.alike.result c.alike.ensures.1)
