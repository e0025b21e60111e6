-- After an opening every reader that a text can lead to is the starting reader: it was in step, in 7-bit form with G1 in GR, or lost
-- with what the search needs.
use Prim.Native.Nat.{ℕ}
use mathlib.Core.Path.{◌≡◌, ap, ◌∙◌}
use mathlib.Core.List.{List}
use Rattle.paper.specs.Words.{Standing, Reader}
use Rattle.paper.specs.Starting.{started, opening}
use Rattle.paper.specs.Marks.{recording}
use Rattle.paper.specs.Characters.{standing_at}
use Rattle.paper.specs.Texts.{reader_after}
use Rattle.paper.proofs.RecordsOfOpenings.{nothing_after}
use Rattle.paper.proofs.AnOpeningInStep.{from_in_step}
use Rattle.paper.proofs.AnOpeningWhileLost.{found_at_its_end}
use Rattle.paper.proofs.ReadersThatTextsLeadTo.{KeptIn, Reached}

pub opening_makes_the_start : (since : List ℕ) (r : Reader) → Reached since r → reader_after r (opening r.form) ≡ started r.form
opening_makes_the_start since r h = by r.standing h.keeps
  where
    by : (s : Standing) → KeptIn r.form since s r.gone → reader_after (standing_at s r) (opening r.form) ≡ started r.form
    by (Standing.InStep w) noted =
        from_in_step r.form w r.sets r.gl r.gr r.gone h.gr_shows_g1 (nothing_after r.form since r.gone noted)
    by (Standing.Lost k n) search =
        ap (λ (j : ℕ). reader_after (standing_at (Standing.Lost k n) (recording j r)) (opening r.form)) search.1 ∙
        found_at_its_end r search.0.seen k n search.0.kept
