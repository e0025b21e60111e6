-- The loop keeps `Counts` over a stretch and what stands after it: an opening is counted, or a refusal and the search for an opening.
use mathlib.Core.Path.{sym, ◌∙◌}
use native.Mathlib.Omega.{arith}
use Rattle.figures.proofs.AddedCounts.{room, fits_more}
use Rattle.figures.proofs.CountingOverRefusals.{counts_start, counts_end}
use Rattle.figures.proofs.StretchEnds.{search_counts}
use Rattle.figures.proofs.count.Goals as goal

pub loop-place-init : goal.loop-place-init
loop-place-init c = rw c.none-counts.ensures (counts_start _ _ c.requires)

-- ---- the text is over

pub returns-in-Over : goal.returns-in-Over
returns-in-Over c = c.figures.ensures ∙ sym (c.in-Over.ensures.ends c.loop-place.first c.loop-place.invariant)

-- ---- an opening

pub add-requires : goal.add-requires
add-requires c =
    room (c.in-Opens.ensures.ends c.loop-place.first c.loop-place.invariant).fits _ _ (omega arith) (omega arith)

pub add-requires-in-Opens : goal.add-requires-in-Opens
add-requires-in-Opens c =
    let o = c.in-Opens.ensures.ends c.loop-place.first c.loop-place.invariant in
    room
    (fits_more o.fits _ _ c.add.ensures (omega (arith, o.far, o.after.counting.fits.within)))
    _ _ (omega arith) (omega arith)

-- ---- a refusal, and the search

pub add-requires-in-Stops : goal.add-requires-in-Stops
add-requires-in-Stops c =
    room (c.in-Stops.ensures.ends c.loop-place.first c.loop-place.invariant).fits _ _ (omega arith) (omega arith)

pub add-requires-in-Stops-2 : goal.add-requires-in-Stops-2
add-requires-in-Stops-2 c =
    let r = c.in-Stops.ensures.ends c.loop-place.first c.loop-place.invariant in
    room (fits_more r.fits _ _ c.add-in-Stops.ensures (omega (arith, r.inside))) _ _
    (omega arith) (omega arith)

pub loop-place-smaller : goal.loop-place-smaller
loop-place-smaller c =
    let r = c.in-Stops.ensures.ends c.loop-place.first c.loop-place.invariant in
    let found = search_counts r c.add-in-Stops.ensures c.or-first.ensures c.in-Some.ensures in
    omega (arith, found.0, found.1, c.in-Stops.ensures.onward)

pub returns-in_default : goal.returns-in_default
returns-in_default c =
    let r = c.in-Stops.ensures.ends c.loop-place.first c.loop-place.invariant in
    c.figures-in_default.ensures ∙
    sym (search_counts r c.add-in-Stops.ensures c.or-first.ensures (sym c.in_default.is ∙ c.opening_after.ensures))

-- ---- an empty text, or one that ends with an opening

pub returns : goal.returns
returns c = c.figures-2.ensures ∙ sym (counts_end c.loop-place.invariant c.loop-place-test.false)
