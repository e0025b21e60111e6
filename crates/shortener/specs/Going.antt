-- No rule of the paper: for the contracts of private functions.
-- Where a pass over an accepted text stands between two items: some reader stands so, and what is left are these steps, with these sets.
use Rattle.std.specs.Prelude.{ℕ, ◌≤◌, ◌≡◌, List, length, drop, None}
use Rattle.paper.specs.Marks.{recording}
use Rattle.paper.specs.Answering.{end_of_text}
use Rattle.paper.specs.Texts.{reader_after, answers_from}
use Rattle.paper.specs.Surveying.{first_refusal}
use Rattle.paper.specs.WrittenForms.{sequence_from}
use Rattle.paper.specs.declared.Form.{Form}
use Rattle.paper.specs.declared.Kind.TheVariants.{Of94}
use Rattle.paper.specs.declared.Sets.{Sets}
use Rattle.paper.specs.declared.Reader.{Reader}
use Rattle.paper.specs.declared.EndWord.{EndWord}
use Rattle.paper.proofs.LawfulAnswers.{IsInStep}
use Rattle.paper.proofs.OpeningsTakenWhole.{ShowsG1}
use Rattle.paper.proofs.WhatCanBeWritten.{Steps, entries_of, AllCanBeWritten}
use Rattle.items.specs.States.{Stands}

-- a reader at a place: nothing is refused from there on, and the text ends whole
pub record Reading (m : Form) (text : List ℕ) (t : Sets) (r : Reader) (place : ℕ) : Type 0 where
  pub within : place ≤ length text
  pub in_step : IsInStep r.standing
  pub form : r.form ≡ m
  pub shows : ShowsG1 r
  pub sets_are : r.sets ≡ t
  pub never : first_refusal (answers_from place r (drop place text)) ≡ None
  pub whole : end_of_text (reader_after r (drop place text)) ≡ EndWord.Whole

pub record Going (m : Form) (text cells : List ℕ) (place : ℕ) (s : Steps) (t : Sets) : Type 0 where
  pub reader : Reader
  pub stands : Stands cells reader
  pub reading : Reading m text t reader place
  pub left : sequence_from (recording 0 reader) (drop place text) ≡ entries_of s
  pub all : AllCanBeWritten t s
  pub g0 : t.g0.kind ≡ Of94
