-- A control by its byte, all else as it is.
use mathlib.Core.Path.{sym, ◌∙◌}
use Rattle.paper.proofs.Tests.{tests}
use Rattle.escapes.proofs.WordNumbers.{is_word, no_word}
use borrow.Author.Rules.{rules}
use Rattle.shortener.specs.Under as specs
use Rattle.shortener.specs.Under.{Fit}
use Rattle.shortener.proofs.under.alike.Goals as goal
use Rattle.escapes.specs.Effects.{as_word}
use Rattle.paper.specs.Results.{control_word}

pub control_in_seven-requires : goal.control_in_seven-requires
control_in_seven-requires c =
    let fit : Fit c.args.unit.effect c.args.unit.piece = search rules in
    (fit.small, fit.of_control (is_word c.args.unit.effect.word (as_word control_word) (sym c.eq.ensures ∙ c.if-eq.true)))

pub returns-then-eq : goal.returns-then-eq
unfolding specs.alike
returns-then-eq c =
    let word = is_word c.args.unit.effect.word (as_word control_word) (sym c.eq.ensures ∙ c.if-eq.true) in
    (search (tests, c.control_in_seven.ensures.0), c.control_in_seven.ensures.1, c.control_in_seven.ensures.2)

pub returns : goal.returns
unfolding specs.alike
returns c =
    let fit : Fit c.args.unit.effect c.args.unit.piece = search rules in
    let word = no_word c.args.unit.effect.word (as_word control_word) (sym c.eq.ensures ∙ c.if-eq.false) in
    (search tests, fit.small, fit.some)
