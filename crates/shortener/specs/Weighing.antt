-- No rule of the paper: for the contracts of private functions.
-- How far a text has been gone over: with no room for codes it is weighed, with room for all of them they are written.
use Rattle.std.specs.Prelude.{ℕ, ◌+◌, ◌*◌, ◌≤◌, ◌≡◌, List, ◌++◌, ltb, length, set}
use Rattle.paper.specs.Choice.{◌gives◌or◌}
use Rattle.paper.specs.Starting.{starting_sets, opening}
use Rattle.paper.specs.LentBuffers.{over}
use Rattle.paper.specs.WrittenForms.{sequence_of}
use Rattle.paper.specs.declared.Form.{Form}
use Rattle.paper.specs.declared.Element.{Element}
use Rattle.paper.specs.declared.Sets.{Sets}
use Rattle.paper.proofs.WhatCanBeWritten.{Steps}
use Rattle.shortest.specs.ShortestText.{steps_of, cost_of}
use Rattle.shortest.specs.Shortening.{shortest_text}
use Rattle.shortest.proofs.WhatIsChosen.{after}
use Rattle.shortener.specs.ByElements.{at_element, by_element, lowest_of}
use Rattle.shortener.specs.Codes.{cost_by, packed, codes_of}
use Rattle.shortener.specs.Ways.{first_ways, with, further, Closed}
use Rattle.shortener.specs.Going.{Going}
use Rattle.shortener.specs.declared.code.Code.{Code}
use Rattle.shortener.specs.declared.weigh.Weighed.{Weighed}

abbrev pub all_codes : Form → List ℕ → List ℕ
all_codes m text = codes_of (steps_of (sequence_of m text)) starting_sets

-- one unit more, written where there is room, or else weighed
abbrev pub unit_more : Weighed → ℕ → Weighed
unit_more w next = record w { place = next; count = w.count + 1 }

abbrev pub opening_more : Weighed → ℕ → Weighed
opening_more w next = record {
  place = next;
  count = w.count + 1;
  length = w.length + lowest_of (at_element w.ways) + length (opening Form.Seven);
  ways = by_element first_ways;
}

abbrev pub answer_more : Weighed → ℕ → Code → Weighed
answer_more w next code =
    record { place = next; count = w.count + 1; length = w.length; ways = by_element (further (at_element w.ways) (cost_by code)) }

abbrev pub more : Weighed → ℕ → List ℕ → Weighed → Weighed
more w next work else = ltb w.count (length work) gives unit_more w next or else

abbrev pub put : Weighed → List ℕ → Code → List ℕ
put w work code = ltb w.count (length work) gives set work w.count (packed code) or work

-- numbers that stay small, by the place
pub record Bounded (w : Weighed) : Type 0 where
  pub few : w.count ≤ w.place
  pub each : (e : Element) → w.length + at_element w.ways e ≤ 2 + 24 * w.place

-- the length so far, and what is left costs
pub record Weight (m : Form) (text : List ℕ) (s : Steps) (t : Sets) (w : Weighed) : Type 0 where
  pub closed : Closed (at_element w.ways)
  pub total : w.length + lowest_of (with (at_element w.ways) (cost_of s t)) + after s ≡ length (shortest_text m text)

pub record Weighing (m : Form) (text lent cells : List ℕ) (w : Weighed) (work : List ℕ) : Type 0 where
  pub steps : Steps
  pub sets : Sets
  pub going : Going m text cells w.place steps sets
  pub bounded : Bounded w
  pub before : List ℕ
  pub whole : before ++ codes_of steps sets ≡ all_codes m text
  pub counted : length before ≡ w.count
  pub as_long : length work ≡ length lent
  pub wrote : length text ≤ length lent → work ≡ over before lent
  pub weight : length lent ≡ 0 → Weight m text steps sets w
