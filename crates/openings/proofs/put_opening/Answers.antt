-- The opening is put where there is room for all of it.
use native.Mathlib.Omega.{arith}
use Rattle.std.proofs.Common.{rules, ◌+◌, ◌-◌}
use Rattle.openings.proofs.PutWhole.{no_room, put_both}
use Rattle.openings.proofs.put_opening.Goals.{then-place-buffer-via-then-place-buffer, then-place-buffer-via-else-place-buffer+then-buffer-place}
use Rattle.openings.proofs.put_opening.Goals as goal

pub returns-then-place-buffer : goal.returns-then-place-buffer
returns-then-place-buffer c = elim c.then-place-buffer.branch [
  | then-place-buffer-via-then-place-buffer w ↦ no_room _ _ _ (omega arith)
  | then-place-buffer-via-else-place-buffer+then-buffer-place w ↦ no_room _ _ _ (omega arith)
]

pub returns : goal.returns
returns c = let at = c.args.place in
    put_both c.args.form c.args.buffer.now at
    (at + 18 - at) (at + c.from-length.result - (at + 18)) (at + 18) c.copy_from_slice.new.self c.copy_from_slice-2.new.self
    (omega arith) (omega arith) (omega arith) (omega arith)
    (search (rules, c.copy_from_slice.ensures))
    (search (rules, c.copy_from_slice-2.ensures, c.opening_end.ensures))
