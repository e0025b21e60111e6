-- What is counted over a refusal: the text ends inside the item, or its byte is refused and the reader searches for an opening, with
-- which it is in step again; skipped bytes change no count.
use Prim.Native.Nat.{ℕ, zero, suc, ◌+◌, ◌-◌, ◌≤◌, ◌<◌}
use mathlib.Core.Path.{◌≡◌, refl, sym, ap, ◌∙◌, subst}
use mathlib.Core.Bool.{Bool, true, false}
use mathlib.Core.List.{List}
use native.Mathlib.Omega.{arith}
use borrow.Author.Tests.{eqb-true, eqb-false, eq-eqb, ne_eqb, lt-leb}
use lib.Dec.{eqb}
use lib.ListN.{length, get_or, drop, replicate}
use Rattle.paper.specs.Refusals.{longest_text, refusal_at}
use Rattle.paper.specs.Results.{refused_word, instep_word}
use Rattle.paper.specs.Starting.{started, opening}
use Rattle.paper.specs.Searching.{matched_with, one_more}
use Rattle.paper.specs.Characters.{refuses}
use Rattle.paper.specs.Marks.{recording}
use Rattle.paper.specs.Answering.{answer_lost, end_standing}
use Rattle.paper.specs.Surveying.{first_of, figures_of}
use Rattle.paper.specs.declared.Form.{Form}
use Rattle.paper.specs.declared.Element.{Element}
use Rattle.paper.specs.declared.Standing.{Standing}
use Rattle.paper.specs.declared.Reader.{Reader}
use Rattle.paper.specs.declared.EndWord.{EndWord}
use Rattle.paper.specs.declared.Refusal.{Refusal}
use Rattle.paper.specs.declared.Answer.{Answer}
use Rattle.paper.proofs.Choices.{impossible}
use Rattle.paper.proofs.AnswersWithoutTheRecord.{answer_of}
use Rattle.refusals.specs.ByNumber.{refusal_of}
use Rattle.refusals.proofs.RefusalsByNumber.{refusal_kept}
use Rattle.search.specs.NextOpening.{opening_in, opening_after}
use Rattle.search.proofs.SearchOverAText.{search_ends, search_goes_on, search_misses}
use Rattle.escapes.specs.Effects.{word_number}
use Rattle.items.specs.States.{single_in, Single, none, one, single_number, within_of, starting_cells}
use Rattle.items.specs.Items.{Item, item_at}
use Rattle.items.proofs.ItemsByBytes.{Stopped, refused_at, ends_inside_at, RefusedAt}
use Rattle.figures.specs.Counting.{added, Counting, Counts, end_after, figures_from}
use Rattle.figures.specs.Stretches.{Searched}
use Rattle.figures.proofs.RestToCount.{counting_starts, first_stays, counts_more, counts_no_more, all_figures}
use Rattle.figures.proofs.CountingByItems.{CountingOn, stopped}
use Rattle.std.specs.Prelude.{Option, Some, None}
use Rattle.paper.specs.declared.Refused.{Refused}
use Rattle.escapes.specs.Effects.{opening_word}

-- ---- the start and the end of a text

pub in_step_again : {form : Form} {text counts : List ℕ} {first : Option Refused} {place : ℕ} →
    Counting form text counts first (started form) place → Counts form text starting_cells counts first place
in_step_again {form} c = record {
  reader = started form;
  stands = record { single = none; left = 0; has = refl; stands = refl; nothing_gone = refl };
  counting = c;
}

pub counts_start : (form : Form) (text : List ℕ) → length text ≤ longest_text → Counts form text starting_cells (replicate 11 0) None 0
counts_start form text short = in_step_again (counting_starts form text short)

end_of : (t : Single) → end_standing (Standing.InStep (within_of t)) ≡ end_after (single_number t)
end_of none = refl
end_of (one Element.G0) = refl
end_of (one Element.G1) = refl
end_of (one Element.G2) = refl
end_of (one Element.G3) = refl

pub counts_end : {form : Form} {text cells counts : List ℕ} {first : Option Refused} {place : ℕ} →
    Counts form text cells counts first place → length text ≤ place → figures_of form text ≡ figures_from counts first (end_after (single_in cells))
counts_end c past =
    let s = c.stands in
    all_figures c.counting past _ (ap end_standing s.stands ∙ end_of s.single ∙ ap (λ (l : List ℕ). end_after (single_in l)) (sym s.has))

-- ---- the search

-- so much of an opening is matched
abbrev lost : Form → Reader → ℕ → ℕ → Reader
lost form r k n = record { form = form; sets = r.sets; gl = r.gl; gr = r.gr; gone = r.gone; standing = Standing.Lost k n }

record Searching (form : Form) (text : List ℕ) (k : ℕ) (counts : List ℕ) (first : Option Refused) (place : ℕ) : Type 0 where
  pub reader : Reader
  pub skipped : ℕ
  pub counting : Counting form text counts first (lost form reader k skipped) place

module _ (form : Form) (r : Reader) (k n b : ℕ) where
  instep_answer : matched_with form k b ≡ length (opening form) →
      answer_of (lost form r k n) b ≡ record { answer = Answer.InStep (one_more n); reader = started form }
  unfolding answer_lost
  instep_answer e = rw (eq-eqb (matched_with form k b) (length (opening form)) e)

  skipped_answer : (matched_with form k b ≡ length (opening form) → ⊥) →
      answer_of (lost form r k n) b ≡
      record { answer = Answer.Skipped; reader = lost form (recording 0 r) (matched_with form k b) (one_more n) }
  unfolding answer_lost
  skipped_answer e = rw (ne_eqb (matched_with form k b) (length (opening form)) e)

module _ (form : Form) (text counts : List ℕ) (first : Option Refused) where
  later : (place : ℕ) (o : Option ℕ) → Searched form text counts first (place + 1) o → Searched form text counts first place o
  later place (Some there) p = let h = p.0 in (omega arith, p.1, p.2)
  later place None p = p

  search_from : (left place k : ℕ) → place + left ≡ length text → Searching form text k counts first place →
      Searched form text counts first place (opening_in form k place (drop place text))
  search_from zero place k end c =
      let past : length text ≤ place = omega arith in
      rw (search_misses form text place k past) (all_figures c.counting past EndWord.Lost refl)
  search_from (suc left) place k end c =
      by (search_from left (place + 1) matched (omega arith)) (eqb matched (length (opening form))) refl
    where
      b : ℕ
      b = get_or text place 0

      matched : ℕ
      matched = matched_with form k b

      inside : place < length text
      inside = omega arith

      on : ℕ
      on = place + 1

      by : (Searching form text matched counts first on → Searched form text counts first on (opening_in form matched on (drop on text))) →
          (t : Bool) → eqb matched (length (opening form)) ≡ t →
          Searched form text counts first place (opening_in form k place (drop place text))
      by rest true e =
          let whole : matched ≡ length (opening form) = eqb-true matched (length (opening form)) e in
          let answer : Answer = Answer.InStep (one_more c.skipped) in
          let next : Counting form text (added counts instep_word 1) first (started form) on =
          rw (← first_stays first place answer (λ n f. impossible (cc)))
          (counts_more c.counting (record { answer = answer; reader = started form }) inside
          (instep_answer form c.reader k c.skipped b whole)) in
          rw (search_ends form text place k matched inside refl whole) (omega arith, omega arith, in_step_again next)
      by rest false e =
          let part : matched ≡ length (opening form) → ⊥ = eqb-false matched (length (opening form)) e in
          let reader : Reader = lost form (recording 0 c.reader) matched (one_more c.skipped) in
          let next : Counting form text counts first reader on =
          rw (← first_stays first place Answer.Skipped (λ n f. impossible (cc)))
          (counts_no_more c.counting (record { answer = Answer.Skipped; reader = reader }) inside
          (skipped_answer form c.reader k c.skipped b part) (λ figure. figure.not_skipped refl)) in
          rw (search_goes_on form text place k matched inside refl part)
          (later place (opening_in form matched on (drop on text))
          (rest (record { reader = recording 0 c.reader; skipped = one_more c.skipped; counting = next })))

search_begins : (form : Form) (text : List ℕ) (place : ℕ) → place < length text →
    opening_after form text place ≡ opening_in form (matched_with form 0 (get_or text place 0)) (place + 1) (drop (place + 1) text)
unfolding opening_after
search_begins form text place inside = rw (lt-leb (length text) place inside)

-- a byte is refused, and the search begins with it
refused_search : {form : Form} {text counts : List ℕ} {first : Option Refused} {place : ℕ} (n : Refusal) (there : ℕ) →
    RefusedAt text (CountingOn form text counts first) place n there →
    Searched form text (added counts refused_word 1) (first_of first (Some (refusal_at n there))) (there + 1) (opening_after form text there)
refused_search {form} {text} {counts} {first} n there x =
    let b : ℕ = get_or text there 0 in
    let r : Reader = x.reader in
    let after : List ℕ = added counts refused_word 1 in
    let inside = x.inside in
    rw (search_begins form text there inside)
    (search_from form text after (first_of first (Some (refusal_at n there))) (length text - (there + 1)) (there + 1) (matched_with form 0 b) (omega arith)
    (record {
      reader = r;
      skipped = one_more 0;
      counting =
          subst (λ (m : Form). Counting form text after (first_of first (Some (refusal_at n there))) (lost m r (matched_with m 0 b) (one_more 0)) (there + 1))
          x.holds.1.in_form (counts_more x.holds.1 (refuses n b r) inside x.answers);
    }))

-- ---- an item that stops

module _ {form : Form} {text cells counts : List ℕ} {first : Option Refused} {place : ℕ} (c : Counts form text cells counts first place)
    (inside : place < length text) {i : Item} (is : item_at form cells text place ≡ i) (not_below : refused_word ≤ word_number i.effect.word)
    (no_opening : word_number i.effect.word ≡ opening_word → ⊥) where
  abbrev Stops : Type 0
  Stops = Stopped text (CountingOn form text counts first) place i

  stops : Stops
  stops = stopped c inside is not_below no_opening

  pub stops_onward : place ≤ i.place
  stops_onward = by stops
    where
      by : Stops → place ≤ i.place
      by (refused_at n there e x) = rw e x.from
      by (ends_inside_at there e x) = rw e x.from

  -- the text ends inside it
  pub ends_inside : length text ≤ i.place → figures_of form text ≡ figures_from counts first EndWord.Inside
  ends_inside past = by stops
    where
      by : Stops → figures_of form text ≡ figures_from counts first EndWord.Inside
      by (refused_at n there e x) = absurd (omega (arith, x.inside, ap (λ (j : Item). j.place) e))
      by (ends_inside_at there e x) = all_figures x.holds.1 (omega (arith, x.at_end)) EndWord.Inside x.end

  -- its byte is refused
  pub refused_counts : i.place < length text →
      Searched form text (added counts refused_word 1) (first_of first (Some (refusal_at (refusal_of i.effect.value) i.place))) (i.place + 1)
      (opening_after form text i.place)
  refused_counts before_end = by stops
    where
      by : Stops →
          Searched form text (added counts refused_word 1) (first_of first (Some (refusal_at (refusal_of i.effect.value) i.place))) (i.place + 1)
          (opening_after form text i.place)
      by (refused_at n there e x) = rw (e, refusal_kept n) (refused_search n there x)
      by (ends_inside_at there e x) = absurd (omega (arith, x.at_end, ap (λ (j : Item). j.place) e))
