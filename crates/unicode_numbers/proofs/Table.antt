-- The table is the paper's rule: one computation along its 96 entries, and so at each of them.
use Prim.Native.Nat.{ℕ, ◌+◌, ◌-◌, ◌≤◌}
use mathlib.Core.Path.{◌≡◌, refl, ◌∙◌, ap}
use mathlib.Core.List.{List, [], ◌∷◌, map}
use native.Mathlib.Omega.{arith}
use lib.ListN.{get_or}
use Rattle.paper.specs.Choice.{between, numbers}
use Rattle.paper.specs.CodeTable.{bit8}
use Rattle.paper.specs.Sets.{size_of, space, delete}
use Rattle.paper.specs.declared.Kind.TheVariants.{Of96}
use Rattle.paper.specs.LatinGreek.{greek_number}
use Rattle.paper.proofs.Choices.{alike}
use Rattle.unicode_numbers.specs.Lookup.{entry_of}

-- the entries of the code's table, in its order
abbrev pub table : List ℕ
table =
    0x00A0 ∷ 0x2018 ∷ 0x2019 ∷ 0x00A3 ∷ 0 ∷ 0 ∷ 0x00A6 ∷ 0x00A7 ∷
    0x00A8 ∷ 0x00A9 ∷ 0 ∷ 0x00AB ∷ 0x00AC ∷ 0x00AD ∷ 0 ∷ 0x2015 ∷
    0x00B0 ∷ 0x00B1 ∷ 0x00B2 ∷ 0x00B3 ∷ 0x0384 ∷ 0x0385 ∷ 0x0386 ∷ 0x00B7 ∷
    0x0388 ∷ 0x0389 ∷ 0x038A ∷ 0x00BB ∷ 0x038C ∷ 0x00BD ∷ 0x038E ∷ 0x038F ∷
    0x0390 ∷ 0x0391 ∷ 0x0392 ∷ 0x0393 ∷ 0x0394 ∷ 0x0395 ∷ 0x0396 ∷ 0x0397 ∷
    0x0398 ∷ 0x0399 ∷ 0x039A ∷ 0x039B ∷ 0x039C ∷ 0x039D ∷ 0x039E ∷ 0x039F ∷
    0x03A0 ∷ 0x03A1 ∷ 0 ∷ 0x03A3 ∷ 0x03A4 ∷ 0x03A5 ∷ 0x03A6 ∷ 0x03A7 ∷
    0x03A8 ∷ 0x03A9 ∷ 0x03AA ∷ 0x03AB ∷ 0x03AC ∷ 0x03AD ∷ 0x03AE ∷ 0x03AF ∷
    0x03B0 ∷ 0x03B1 ∷ 0x03B2 ∷ 0x03B3 ∷ 0x03B4 ∷ 0x03B5 ∷ 0x03B6 ∷ 0x03B7 ∷
    0x03B8 ∷ 0x03B9 ∷ 0x03BA ∷ 0x03BB ∷ 0x03BC ∷ 0x03BD ∷ 0x03BE ∷ 0x03BF ∷
    0x03C0 ∷ 0x03C1 ∷ 0x03C2 ∷ 0x03C3 ∷ 0x03C4 ∷ 0x03C5 ∷ 0x03C6 ∷ 0x03C7 ∷
    0x03C8 ∷ 0x03C9 ∷ 0x03CA ∷ 0x03CB ∷ 0x03CC ∷ 0x03CD ∷ 0x03CE ∷ 0 ∷ []

rule : map entry_of table ≡ map greek_number (numbers (size_of Of96) (bit8 + space))
unfolding entry_of greek_number between
rule = refl

pub entry_at : (b : ℕ) → space ≤ b → b ≤ delete → entry_of (get_or table (b - space) 0) ≡ greek_number (bit8 + b)
entry_at b low high =
    let there : bit8 + space + (b - space) ≡ bit8 + b = omega arith in
    alike entry_of greek_number table (size_of Of96) (bit8 + space) rule (b - space) (omega arith) ∙ ap greek_number there
