-- Four bytes or one, which are those of `gap_bytes`.
use Prim.Native.Nat.{ℕ, ◌+◌, ◌≤◌}
use mathlib.Core.Path.{◌≡◌, sym, ap, ◌∙◌, subst}
use mathlib.Core.Bool.{true}
use mathlib.Core.List.{List}
use native.Mathlib.Omega.{arith}
use lib.ListN.{length}
use lib.Seq.{sets}
use Rattle.paper.specs.declared.Form.{Form}
use Rattle.converter.specs.Runs.{gap_ahead, gap_length, gap_bytes}
use Rattle.converter.proofs.GapsCopy.{SpaceAhead, space_is_ahead, gap_inside}
use Rattle.items.proofs.PiecesPut.{put_sets}
use Rattle.converter.proofs.conversion.Conversion.over_gap.Goals as goal
use Rattle.converter.proofs.conversion.Conversion.over_gap.Goals.{then-at-buffer, else-at-buffer}

ahead : (to : Form) (text : List ℕ) (place : ℕ) → to ≡ Form.Seven → gap_ahead to text place ≡ true → SpaceAhead text place
ahead to text place is there = space_is_ahead text place (ap (λ (m : Form). gap_ahead m text place) (sym is) ∙ there)

pub overflow_add-place : goal.overflow_add-place
overflow_add-place c = let h = (ahead c.args.self.to c.args.self.text.now c.args.place c.in-Seven.is c.requires.0).inside in omega arith

pub bounds-self-place : goal.bounds-self-place
bounds-self-place c = let h = (ahead c.args.self.to c.args.self.text.now c.args.place c.in-Seven.is c.requires.0).inside in omega arith

pub overflow_sub-self : goal.overflow_sub-self
overflow_sub-self c = let h = (ahead c.args.self.to c.args.self.text.now c.args.place c.in-Seven.is c.requires.0).low in omega arith

pub overflow_add-result : goal.overflow_add-result
overflow_add-result c = let h = (ahead c.args.self.to c.args.self.text.now c.args.place c.in-Seven.is c.requires.0).inside in omega arith

pub overflow_add-result-in-Eight : goal.overflow_add-result-in-Eight
overflow_add-result-in-Eight c =
    let h = gap_inside c.args.self.to c.args.self.text.now c.args.place c.requires.0 in
    omega (arith, ap gap_length c.in-Eight.is)

pub returns-after-at-buffer-clause-buffer_after : goal.returns-after-at-buffer-clause-buffer_after
returns-after-at-buffer-clause-buffer_after c =
    let a = c.args in
    subst
    (λ (m : Form). a.at + length (gap_bytes m a.self.text.now a.place) ≤ length a.buffer.now →
    c.if-at-buffer.buffer ≡ sets a.buffer.now a.at (gap_bytes m a.self.text.now a.place)) (sym c.in-Seven.is)
    (elim c.if-at-buffer.branch [
      | then-at-buffer w ↦
          λ room. w.buffer-is ∙
          put_sets a.buffer.now a.at _ (gap_bytes Form.Seven a.self.text.now a.place) _ w.copy_from_slice.ensures.after (omega arith) room
      | else-at-buffer w ↦ λ room. absurd (omega (arith, w.if-at-buffer.false))
    ])
