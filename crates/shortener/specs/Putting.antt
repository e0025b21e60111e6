-- No rule of the paper: for the contracts of private functions.
-- How far the output has been written: what is in the buffer and what is left make the whole text, and the choices that are left are those of
-- the steps that are left.
use Rattle.std.specs.Prelude.{ℕ, ◌+◌, ◌≤◌, ◌≡◌, List, ◌++◌, length, get_or}
use Rattle.paper.specs.Starting.{opening}
use Rattle.paper.specs.LentBuffers.{over}
use Rattle.paper.specs.declared.Form.{Form}
use Rattle.paper.specs.declared.Element.{Element}
use Rattle.paper.specs.declared.Element.TheVariants.{G0}
use Rattle.paper.specs.declared.Sets.{Sets}
use Rattle.paper.proofs.WhatCanBeWritten.{Steps}
use Rattle.escapes.specs.declared.effect.Effect.{Effect}
use Rattle.shortest.specs.ShortestText.{shift_from, shortest_from}
use Rattle.shortest.specs.Shortening.{shortest_text}
use Rattle.shortener.specs.Codes.{codes_of}
use Rattle.shortener.specs.Choices.{choices_by, choice_in}
use Rattle.shortener.specs.Under.{under}
use Rattle.shortener.specs.Going.{Going}
use Rattle.shortener.specs.declared.put.Written.{Written}

-- the element that was chosen for the next unit, and the bytes that are written for an item there
abbrev pub element_for : List ℕ → Written → Element
element_for work w = choice_in (get_or work w.unit 0) w.shown

abbrev pub bytes_for : List ℕ → Written → Effect → List ℕ → List ℕ
bytes_for work w x bytes = shift_from w.shown (element_for work w) ++ under (element_for work w) x bytes

abbrev pub answer_put : List ℕ → Written → ℕ → Effect → List ℕ → Written
answer_put work w next x bytes =
    record { place = next; unit = w.unit + 1; at = w.at + length (bytes_for work w x bytes); shown = element_for work w }

abbrev pub opening_put : Written → ℕ → Written
opening_put w next = record { place = next; unit = w.unit + 1; at = w.at + length (opening Form.Seven); shown = G0 }

pub record Putting (m : Form) (text lent work cells : List ℕ) (w : Written) (buffer : List ℕ) : Type 0 where
  pub steps : Steps
  pub sets : Sets
  pub going : Going m text cells w.place steps sets
  pub front : List ℕ
  pub rest : List ℕ
  pub choices : work ≡ front ++ (choices_by (codes_of steps sets) ++ rest)
  pub counted : length front ≡ w.unit
  pub few : w.unit ≤ w.place
  pub so_far : List ℕ
  pub whole : so_far ++ shortest_from steps sets w.shown ≡ shortest_text m text
  pub at_is : length so_far ≡ w.at
  pub room : length (shortest_text m text) ≤ length lent
  pub wrote : buffer ≡ over so_far lent
