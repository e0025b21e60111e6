-- A byte of GL is not outside; the tests are then those of `position_byte`.
use Rattle.reader.proofs.BytesOfAreas.{in_gl, of_space, of_delete, of_set, of_96}
use Rattle.reader.proofs.character.gl_byte.Goals.{in_default-via-in-Of94+in_default, in_default-via-in_default}
use Rattle.reader.proofs.character.gl_byte.Goals as goal

pub returns-in-Of94-eq32 : goal.returns-in-Of94-eq32
returns-in-Of94-eq32 c = simp (
  in_gl _ c.requires.0 c.requires.1,
  of_space _ _ c.in-Of94-eq32.is-0 c.in-Of94-eq32.is-1,
  c.say.ensures,
)

pub returns-in-Of94-eq127 : goal.returns-in-Of94-eq127
returns-in-Of94-eq127 c = simp (
  in_gl _ c.requires.0 c.requires.1,
  of_delete _ _ c.in-Of94-eq127.is-0 c.in-Of94-eq127.is-1,
  c.say-in-Of94-eq127.ensures,
)

pub returns-in_default : goal.returns-in_default
returns-in_default c = elim c.in_default.branch [
  | in_default-via-in-Of94+in_default w ↦ simp (
    in_gl _ c.requires.0 c.requires.1,
    of_set _ _ w.in_default.is-0 w.in_default.is-1.0.1 w.in_default.is-1.1,
    c.character.ensures,
  )
  | in_default-via-in_default w ↦ simp (
    in_gl _ c.requires.0 c.requires.1,
    of_96 _ c.args.byte w.in_default.is-0,
    c.character.ensures,
  )
]
