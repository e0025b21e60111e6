-- No rule of the paper: for the contracts of private functions.
-- The code of a unit says what it costs by what GL shows, and where its bytes stand in byte order. In the work buffer it is a byte.
use Rattle.std.specs.Prelude.{ℕ, ◌+◌, ◌-◌, ◌*◌, ◌/◌, ◌%◌, Bool, true, false, List, [], ◌∷◌, ltb, eqb, length}
use Rattle.paper.specs.Choice.{◌gives◌or◌}
use Rattle.paper.specs.Sets.{set_in}
use Rattle.paper.specs.Starting.{starting_sets}
use Rattle.paper.specs.Characters.{bytes_so_far}
use Rattle.paper.specs.WrittenForms.{sets_with, bytes_of_answer}
use Rattle.paper.specs.declared.Form.{Form}
use Rattle.paper.specs.declared.Kind.{Kind}
use Rattle.paper.specs.declared.Element.{Element}
use Rattle.paper.specs.declared.Element.TheVariants.{G0, G1, G2, G3}
use Rattle.paper.specs.declared.Sets.{Sets}
use Rattle.paper.specs.declared.Answer.{Answer}
use Rattle.paper.proofs.WhatCanBeWritten.{Steps, ended, said, opened}
use Rattle.shortest.specs.ShortestText.{is_of94, is_shown, far, shift_to, rank}
use Rattle.shortener.specs.declared.by_element.ByElement.{ByElement}
use Rattle.shortener.specs.declared.code.Place.{Place}
use Rattle.shortener.specs.declared.code.Code.{Code}
use Rattle.shortener.specs.ByElements.{at_element, by_element, index_of, element_at}

unfoldable pub place_of_rank : ℕ → Place
place_of_rank n =
    ltb n (rank (shift_to G1)) gives Place.First or
    ltb n (rank (shift_to G2)) gives Place.Middle or
    Place.Last

-- ---- what a code says

-- by a single shift, where there is one
abbrev pub cost_alone : Element → ℕ → ℕ
cost_alone G0 n = far
cost_alone G1 n = far
cost_alone G2 n = n + 2
cost_alone G3 n = n + 2

abbrev pub character_cost : Element → Element → ℕ → ℕ
character_cost own shown n = is_shown shown own gives n or cost_alone own n

abbrev pub cost_by : Code → Element → ℕ
cost_by (Code.Character own n) e = character_cost own e n
cost_by (Code.SpaceOrDelete kinds) e = is_of94 (at_element kinds e) gives 1 or far
cost_by (Code.Alike place n) e = n
cost_by Code.Opening e = 0

abbrev pub place_alone : Element → Place
place_alone G0 = Place.Last
place_alone G1 = Place.Last
place_alone G2 = Place.Middle
place_alone G3 = Place.Middle

abbrev pub character_place : Element → Element → Place
character_place own shown = is_shown shown own gives Place.Last or place_alone own

abbrev pub place_by : Code → Element → Place
place_by (Code.Character own n) shown = character_place own shown
place_by (Code.SpaceOrDelete kinds) shown = Place.Last
place_by (Code.Alike place n) shown = place
place_by Code.Opening shown = Place.Last

abbrev pub is_opening : Code → Bool
is_opening (Code.Character own n) = false
is_opening (Code.SpaceOrDelete kinds) = false
is_opening (Code.Alike place n) = false
is_opening Code.Opening = true

-- its number of bytes
abbrev pub count_in : Code → ℕ
count_in (Code.Character own n) = n
count_in (Code.SpaceOrDelete kinds) = 1
count_in (Code.Alike place n) = n
count_in Code.Opening = 0

-- ---- a code as a byte

abbrev pub of_space_or_delete : ℕ
of_space_or_delete = 0x40

abbrev pub of_alike : ℕ
of_alike = 0x80

abbrev pub of_opening : ℕ
of_opening = 0xFF

abbrev pub kind_bit : Kind → ℕ
kind_bit Kind.Of94 = 1
kind_bit Kind.Of96 = 0

abbrev pub kind_at : ℕ → Kind
kind_at n = eqb n 1 gives Kind.Of94 or Kind.Of96

abbrev pub bit_of : ℕ → Element → ℕ
bit_of mask G0 = mask % 2
bit_of mask G1 = mask / 2 % 2
bit_of mask G2 = mask / 4 % 2
bit_of mask G3 = mask / 8

abbrev pub mask_of : ByElement Kind → ℕ
mask_of kinds = kind_bit kinds.g0 + 2 * kind_bit kinds.g1 + 4 * kind_bit kinds.g2 + 8 * kind_bit kinds.g3

abbrev pub place_number : Place → ℕ
place_number Place.First = 0
place_number Place.Middle = 1
place_number Place.Last = 2

abbrev pub place_at : ℕ → Place
place_at n =
    eqb n 0 gives Place.First or
    eqb n 1 gives Place.Middle or
    Place.Last

unfoldable pub packed : Code → ℕ
packed (Code.Character own n) = 16 * index_of own + n
packed (Code.SpaceOrDelete kinds) = of_space_or_delete + mask_of kinds
packed (Code.Alike place n) = of_alike + 16 * place_number place + n
packed Code.Opening = of_opening

unfoldable pub unpacked : ℕ → Code
unpacked byte =
    ltb byte of_space_or_delete gives Code.Character (element_at (byte / 16)) (byte % 16) or
    ltb byte of_alike gives Code.SpaceOrDelete (by_element (λ e. kind_at (bit_of (byte % 16) e))) or
    eqb byte of_opening gives Code.Opening or
    Code.Alike (place_at (byte / 16 - of_alike / 16)) (byte % 16)

-- ---- the code of an answer, by the sets at its place

abbrev pub code_alike : Answer → Code
code_alike a = Code.Alike (place_of_rank (rank (bytes_of_answer Form.Seven a))) (length (bytes_of_answer Form.Seven a))

abbrev pub code_of : Sets → Answer → Code
code_of t Answer.NothingYet = code_alike Answer.NothingYet
code_of t (Answer.Char e x p) = Code.Character e (bytes_so_far p)
code_of t Answer.Space = Code.SpaceOrDelete (by_element (λ e. (set_in t e).kind))
code_of t Answer.Delete = Code.SpaceOrDelete (by_element (λ e. (set_in t e).kind))
code_of t (Answer.Control w f n) = code_alike (Answer.Control w f n)
code_of t (Answer.DesignateControls w f) = code_alike (Answer.DesignateControls w f)
code_of t (Answer.Designate e x) = code_alike (Answer.Designate e x)
code_of t (Answer.Shift h) = code_alike (Answer.Shift h)
code_of t (Answer.Other s f) = code_alike (Answer.Other s f)
code_of t (Answer.Refused r) = code_alike (Answer.Refused r)
code_of t Answer.Skipped = code_alike Answer.Skipped
code_of t (Answer.InStep n) = code_alike (Answer.InStep n)

-- the units of what is left, as they stand in the work buffer
abbrev pub codes_of : Steps → Sets → List ℕ
codes_of ended t = []
codes_of (said a s) t = packed (code_of t a) ∷ codes_of s (sets_with t a)
codes_of (opened s) t = packed Code.Opening ∷ codes_of s starting_sets
