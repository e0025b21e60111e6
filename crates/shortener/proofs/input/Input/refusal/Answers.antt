-- The figures are those of the text, which is not too long to be surveyed.
use Rattle.std.proofs.Common.{◌≡◌, ℕ, ◌≤◌, List, length, Option, Some, None, Ok, sym, ap, ◌∙◌, arith, rules, of_calls}
use Rattle.std.specs.Option.{MatchOption}
use borrow.Author.Tests.{le-leb}
use Rattle.paper.specs.Refusals.{longest_text}
use Rattle.paper.specs.Surveying.{first_of, figures_of, survey_of}
use Rattle.paper.specs.Conversions.{refusal_at_end}
use Rattle.paper.specs.declared.Form.{Form}
use Rattle.paper.specs.declared.Refused.{Refused}
use Rattle.paper.specs.declared.Figures.{Figures}
use Rattle.paper.proofs.Choices.{impossible}
use Rattle.shortest.specs.Shortening.{longest_input}
use Rattle.shortener.proofs.input.Input.refusal.Goals as goal

surveyed : (m : Form) (text : List ℕ) → length text ≤ longest_input → survey_of m text ≡ Ok (figures_of m text)
unfolding survey_of
surveyed m text short = rw (le-leb (length text) longest_text (omega arith))

-- the first, or else the second
or_else_lem : (first second result : Option Refused) {P : Type 0} → MatchOption first P (λ r. result ≡ Some r) → (P → result ≡ second) →
    result ≡ first_of first second
or_else_lem None second result h by = by h
or_else_lem (Some r) second result h by = h

pub returns-in-Ok : goal.returns-in-Ok
returns-in-Ok c =
    let text : List ℕ = c.args.self.text.now in
    let f : Figures = c.in-Ok.figures in
    let are : f ≡ figures_of c.args.self.form text = cc (sym c.in-Ok.is ∙ c.survey.ensures ∙ surveyed c.args.self.form text c.args.self.short) in
    or_else_lem f.first (refusal_at_end f.end (length text)) c.or_else.result c.or_else.ensures (λ p. search (of_calls, rules, p)) ∙
    ap (λ (f : Figures). first_of f.first (refusal_at_end f.end (length text))) are

pub returns-in-Err : goal.returns-in-Err
returns-in-Err c = impossible (cc (sym c.in-Err.is ∙ c.survey.ensures ∙ surveyed c.args.self.form c.args.self.text.now c.args.self.short))
