-- A byte of GR is not outside; the tests are then those of `position_byte`.
use Prim.Native.Nat.{◌%◌}
use mathlib.Core.Logic.{inl, inr, ⊎_elim}
use Rattle.paper.specs.CodeTable.{bit8}
use Rattle.reader.proofs.BytesOfAreas.{in_gr, of_space, of_delete, of_set, of_96}
use Rattle.reader.proofs.character.gr_byte.Goals.{in_default-via-in-Of94+in_default, in_default-via-in_default}
use Rattle.reader.proofs.character.gr_byte.Goals as goal

pub returns-in-Of94-eq32 : goal.returns-in-Of94-eq32
returns-in-Of94-eq32 c = ⊎_elim
    (λ e. simp (in_gr _ c.requires c.ranges.byte.fits, of_space _ (c.args.byte % bit8) c.in-Of94-eq32.is-0 e, c.refuse.ensures))
    (λ e. simp (in_gr _ c.requires c.ranges.byte.fits, of_delete _ (c.args.byte % bit8) c.in-Of94-eq32.is-0 e, c.refuse.ensures))
    c.in-Of94-eq32.is-1

pub returns-in_default : goal.returns-in_default
returns-in_default c = elim c.in_default.branch [
  | in_default-via-in-Of94+in_default w ↦ simp (
    in_gr _ c.requires c.ranges.byte.fits,
    of_set _ (c.args.byte % bit8) w.in_default.is-0 (λ e. w.in_default.is-1.1 (inl e)) (λ e. w.in_default.is-1.1 (inr e)),
    c.character.ensures,
  )
  | in_default-via-in_default w ↦ simp (
    in_gr _ c.requires c.ranges.byte.fits,
    of_96 _ (c.args.byte % bit8) w.in_default.is-0,
    c.character.ensures,
  )
]
