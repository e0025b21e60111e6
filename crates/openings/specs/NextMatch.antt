-- How much of an opening has gone by with a byte more, without looking back, for the search and for the record of a reader in step: one
-- byte more of it; or else what has begun again, which after an ESC can be its first two bytes, and otherwise its first.
use Rattle.std.specs.Prelude.{ℕ, ◌+◌, ◌-◌, ltb, eqb, get_or, length}
use Rattle.paper.specs.Choice.{◌gives◌or◌}
use Rattle.paper.specs.CodeTable.{esc}
use Rattle.paper.specs.Starting.{opening_start, opening}
use Rattle.paper.specs.declared.Form.{Form}

-- the opening's byte at k
abbrev pub opening_at : Form → ℕ → ℕ
opening_at m k = get_or (opening m) k 0

-- the byte begins an opening
unfoldable pub begun : ℕ → ℕ
begun b = eqb b esc gives 1 or 0

-- the byte begins an opening, or is its second byte where the byte before was its first
unfoldable pub begun_after : ℕ → ℕ → ℕ
begun_after before b =
    eqb before esc gives (eqb b (get_or opening_start 1 0) gives 2 or begun b) or
    begun b

-- what has begun again, where so much of the opening stood before the byte; its first two bytes only after two bytes or more
unfoldable pub begun_at : Form → ℕ → ℕ → ℕ
begun_at m k b =
    ltb k 2 gives begun b or
    begun_after (opening_at m (k - 1)) b

unfoldable pub next_match : Form → ℕ → ℕ → ℕ
next_match m k b =
    eqb k 0 gives begun b or
    ltb k (length (opening m)) gives (eqb b (opening_at m k) gives k + 1 or begun_at m k b) or
    begun b
