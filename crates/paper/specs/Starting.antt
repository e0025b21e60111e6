-- Starting state (H) and opening (H).
use Rattle.std.specs.Prelude.{ℕ, List, [], ◌∷◌, ◌++◌}
use Rattle.paper.specs.CodeTable.{so, si, esc}
use Rattle.paper.specs.Words.{Form, Seven, Eight, G0, G1, Of94, Of96, Count, Set, Sets, Within, Standing}
use Rattle.paper.specs.Words.{Reader}

-- a set of 96 type, one byte to a character
abbrev pub one_byte96 : ℕ → Set
one_byte96 f = record { kind = Of96; count = Count.One; last = f }

-- 94 F 4/2, the Latin set, and 96 F 4/6, the Greek one
abbrev pub latin : Set
latin = record { kind = Of94; count = Count.One; last = 0x42 }

abbrev pub greek : Set
greek = one_byte96 0x46

-- C0 F 4/0; C1 F 4/3; G0 94 F 4/2; G1 96 F 4/6; G2 96 F 4/1; G3 96 F 4/12
abbrev pub starting_sets : Sets
starting_sets = record { c0 = 0x40; c1 = 0x43; g0 = latin; g1 = greek; g2 = one_byte96 0x41; g3 = one_byte96 0x4C }

-- GL shows G0, GR shows G1; nothing of an opening has gone by
abbrev pub started : Form → Reader
started m = record { form = m; sets = starting_sets; gl = G0; gr = G1; gone = 0; standing = Standing.InStep Within.Ground }

-- both forms begin with these 18 bytes
abbrev pub opening_start : List ℕ
opening_start =
    esc ∷ 0x21 ∷ 0x40 ∷ esc ∷ 0x22 ∷ 0x43 ∷ esc ∷ 0x28 ∷ 0x42 ∷
    esc ∷ 0x2D ∷ 0x46 ∷ esc ∷ 0x2E ∷ 0x41 ∷ esc ∷ 0x2F ∷ 0x4C ∷ []

-- and then each has its own
abbrev pub opening_end : Form → List ℕ
opening_end Eight = si ∷ esc ∷ 0x7E ∷ []
opening_end Seven = so ∷ si ∷ []

-- 21 bytes in 8-bit form, 20 in 7-bit form
abbrev pub opening : Form → List ℕ
opening m = opening_start ++ opening_end m
