-- The loop keeps `Putting` from item to item; at the end no step is left.
use Prim.Native.Nat.{ℕ}
use mathlib.Core.Path.{sym, subst}
use mathlib.Core.List.{List}
use Rattle.paper.specs.declared.Element.TheVariants.{G0}
use Rattle.shortener.specs.Putting.{Putting}
use Rattle.shortener.proofs.StepsByItems.{going_at_start}
use Rattle.shortener.proofs.PuttingGoesOn.{put_all, putting_starts}
use Rattle.shortener.proofs.input.Input.put_units.Goals as goal

pub loop-written-init : goal.loop-written-init
loop-written-init c =
    let a = c.args in
    let text : List ℕ = a.self.text.now in
    let buffer : List ℕ = a.buffer.now in
    let work : List ℕ = a.work.now in
    subst (λ (cells : List ℕ). Putting a.self.form text buffer work cells (record { place = 0; unit = 0; at = 0; shown = G0 }) buffer)
    (sym c.starting-state.ensures)
    (putting_starts a.self.form text buffer work c.requires.by_index.0 (going_at_start a.self.form text c.requires.accepted) c.requires.by_index.1
    c.requires.text_in_bounds)

pub returns : goal.returns
returns c = put_all c.loop-written.invariant c.loop-written-test.false
