-- What the lookups are made of; the answers themselves are the paper's.
use Rattle.std.specs.Prelude.{ℕ, ◌-◌, ◌%◌, leb, eqb, Option, Some, None}
use Rattle.paper.specs.Choice.{◌gives◌or◌}
use Rattle.paper.specs.CodeTable.{bit8}
use Rattle.paper.specs.LatinGreek.{left_quote, right_quote, bar, letters}

-- an entry of the table: the number, or 0 where the position is unused
unfoldable pub entry_of : ℕ → Option ℕ
entry_of n = eqb n 0 gives None or Some n

-- the only position byte of 96 F 4/6 that can have a number
unfoldable pub greek_byte : ℕ → ℕ
greek_byte u =
    eqb u left_quote gives 0x21 or
    eqb u right_quote gives 0x22 or
    eqb u bar gives 0x2F or
    leb letters u gives (u - letters) % bit8 or
    u % bit8
