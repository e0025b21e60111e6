-- The code table at the corners of its areas, what the bytes there are to a set of each kind, and how many bytes there are to
-- a character.
use Prim.Native.Nat.{ℕ}
use mathlib.Core.Path.{◌≡◌, refl}
use mathlib.Core.List.{List, [], ◌∷◌, map}
use Rattle.paper.specs.Choice.{between}
use Rattle.paper.specs.Words.{Area, Count, Of94, Of96, OfSpace, OfDelete, OfSet, Outside}
use Rattle.paper.specs.CodeTable.{byte_at, position_of, column_area, area_of, so, si, esc}
use Rattle.paper.specs.Sets.{bytes_of, set_byte}
use Rattle.paper.specs.Results.{Returned, returned_made}

abbrev corners : List ℕ
corners = 0x00 ∷ 0x1F ∷ 0x20 ∷ 0x7F ∷ 0x80 ∷ 0x9F ∷ 0xA0 ∷ 0xFF ∷ []

pub areas_of_corners : map area_of corners ≡ Area.C0 ∷ Area.C0 ∷ Area.GL ∷ Area.GL ∷ Area.C1 ∷ Area.C1 ∷ Area.GR ∷ Area.GR ∷ []
unfolding column_area position_of
areas_of_corners = refl

pub corners_of_sets :
    (map (set_byte Of94) corners ≡ Outside ∷ Outside ∷ OfSpace ∷ OfDelete ∷ Outside ∷ Outside ∷ Outside ∷ Outside ∷ []) ×
    (map (set_byte Of96) corners ≡ Outside ∷ Outside ∷ OfSet ∷ OfSet ∷ Outside ∷ Outside ∷ Outside ∷ Outside ∷ [])
unfolding set_byte between
corners_of_sets = (refl, refl)

pub bytes_to_a_character : map bytes_of (Count.One ∷ Count.Two ∷ Count.Three ∷ []) ≡ 1 ∷ 2 ∷ 3 ∷ []
bytes_to_a_character = refl

-- 5/15 is 0x5F; a column or a row above 15 is refused with 10 and value 0
abbrev returned : ℕ → ℕ → Returned
returned c r = returned_made (byte_at (record { 0 = c }) (record { 0 = r }))

pub bytes_made :
    (returned 5 15 ≡ record { refusal = 0; values = 0x5F ∷ [] }) ×
    (returned 16 0 ≡ record { refusal = 10; values = 0 ∷ [] }) ×
    (returned 0 16 ≡ record { refusal = 10; values = 0 ∷ [] })
unfolding byte_at
bytes_made = (refl, refl, refl)

-- SO is 0/14, SI 0/15, ESC 1/11
pub controls_made :
    (returned 0 14 ≡ record { refusal = 0; values = so ∷ [] }) ×
    (returned 0 15 ≡ record { refusal = 0; values = si ∷ [] }) ×
    (returned 1 11 ≡ record { refusal = 0; values = esc ∷ [] })
unfolding byte_at
controls_made = (refl, refl, refl)
