-- Openings that are read in step (request #104). A reader records how much of the opening of its form has just gone by. The last byte of
-- a complete opening, read by a reader that is not lost, is a mark. An instep is none.
use Rattle.std.specs.Prelude.{ℕ, Bool, true, false, eqb, length}
use Rattle.paper.specs.Choice.{◌gives◌or◌}
use Rattle.paper.specs.Words.{Form, Standing, Reader}
use Rattle.paper.specs.Starting.{opening}
use Rattle.paper.specs.Searching.{matched_with}

-- a reader that has recorded so much
abbrev pub recording : ℕ → Reader → Reader
recording k r = record { form = r.form; sets = r.sets; gl = r.gl; gr = r.gr; gone = k; standing = r.standing }

-- so much of the opening is all of it
abbrev pub is_complete : Form → ℕ → Bool
is_complete m k = eqb k (length (opening m))

-- how much of the opening has gone by with a byte, this byte counted
abbrev pub gone_with : Reader → ℕ → ℕ
gone_with r b = matched_with r.form r.gone b

abbrev pub is_in_step : Standing → Bool
is_in_step (Standing.InStep w) = true
is_in_step (Standing.Lost j n) = false

-- a byte is a mark: the opening is complete with it, and the reader is in step before it
abbrev pub is_mark : Reader → ℕ → Bool
is_mark r b = is_in_step r.standing gives is_complete r.form (gone_with r b) or false

-- after a mark nothing of an opening has gone by
abbrev pub unless_complete : Form → ℕ → ℕ
unless_complete m k = is_complete m k gives 0 or k

-- the record after a byte, by where the reader stands then and where it stood before: a lost reader records nothing, and nothing has
-- gone by when it is in step again
abbrev pub recorded : Standing → Standing → Form → ℕ → ℕ
recorded (Standing.InStep w) (Standing.InStep v) m k = unless_complete m k
recorded (Standing.InStep w) (Standing.Lost j n) m k = 0
recorded (Standing.Lost i l) before m k = 0

abbrev pub record_after : Reader → ℕ → Standing → ℕ
record_after r b after = recorded after r.standing r.form (gone_with r b)
