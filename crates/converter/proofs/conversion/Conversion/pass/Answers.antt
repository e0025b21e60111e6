-- The loop keeps `Passes` over a stretch and the opening after it: the state after an opening is the starting one.
use Prim.Native.Nat.{ℕ, ◌+◌}
use mathlib.Core.Path.{sym, ◌∙◌, subst}
use native.Mathlib.Omega.{arith}
use Rattle.paper.specs.Results.{element_number}
use Rattle.paper.specs.declared.Element.{Element}
use Rattle.items.specs.States.{starting_cells}
use Rattle.converter.specs.Passing.{Passes}
use Rattle.converter.specs.Stretches.{EndsAt}
use Rattle.std.specs.Prelude.{Option}
use Rattle.std.proofs.lemmas.Result.{err_from_is_err_and}
use Rattle.converter.proofs.PassByItems.{passes_start, within_thrice, put_whole}
use Rattle.converter.proofs.conversion.Conversion.pass.Goals as goal

pub loop-place-init : goal.loop-place-init
loop-place-init c = passes_start c.args.self.form c.args.self.to c.args.self.text.now c.args.buffer.now

at_opening : (c : goal.After-struct_known-1) →
    Passes c.args.self.form c.args.self.to c.args.self.text.now c.args.buffer.now starting_cells (element_number Element.G0)
    (c.in_ok-end.end.at + c.opening_length.result) c.in-Some.next c.put_opening.new.buffer
at_opening c =
    let a = c.args in
    let held = c.stretch.new.buffer in
    let at : ℕ = c.in_ok-end.end.at in
    let ends =
    subst (λ (o : Option ℕ). EndsAt a.self.form a.self.to a.self.text.now a.buffer.now at o held) c.in-Some.is
    (c.in_ok-end.ensures.by_index a.buffer.now c.loop-place.invariant) in
    let long = c.stretch.auto.buffer ∙ c.loop-place.invariant.passing.as_long in
    subst
    (λ (n : ℕ). Passes a.self.form a.self.to a.self.text.now a.buffer.now starting_cells (element_number Element.G0) (at + n) c.in-Some.next
    c.put_opening.new.buffer)
    (sym c.opening_length.ensures)
    (ends c.put_opening.new.buffer c.put_opening.auto.buffer
    (λ h. c.put_opening.ensures ∙ put_whole a.self.to held at (omega (arith, h, long))))

pub overflow_add-at : goal.overflow_add-at
overflow_add-at c = omega (arith, within_thrice (at_opening c), c.args.self.short)

pub loop-place-preserved : goal.loop-place-preserved
loop-place-preserved c = at_opening c

-- ---- the text's answer

pub returns-in_default : goal.returns-in_default
returns-in_default c =
    let a = c.args in
    let promised =
    subst (λ (o : Option ℕ). EndsAt a.self.form a.self.to a.self.text.now a.buffer.now c.in_ok-end.end.at o c.stretch.new.buffer) c.in_default.is
    (c.in_ok-end.ensures.by_index a.buffer.now c.loop-place.invariant) in
    record { value = promised.0; buffer_after = promised.1 }

pub returns-in_err-end : goal.returns-in_err-end
returns-in_err-end c =
    let handed = err_from_is_err_and c.from_residual.result c.from_residual.ensures.1 in
    let promised = c.in_err-end.ensures.by_index c.args.buffer.now c.loop-place.invariant in
    rw (handed.1, handed.2) (record { value = promised.0; buffer_after = promised.1 })
