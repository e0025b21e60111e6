use mathlib.Core.Path.{◌≡◌, refl, ◌∙◌}
use native.Mathlib.Omega.{arith}
use Rattle.listing.proofs.FilledFromHere.{gives, refused, rest_first, rest_more, rest_stops, rest_ends, rest_ends_short}
use Rattle.listing.proofs.NumbersOpened.{opened, last_opened}
use Rattle.listing.proofs.list.Goals as goal

pub returns-then-text-gt-LONGEST_TEXT : goal.returns-then-text-gt-LONGEST_TEXT
returns-then-text-gt-LONGEST_TEXT c = gives refl (refused _ _ _ _ c.if-text-gt-LONGEST_TEXT.true)

pub loop-at-init : goal.loop-at-init
loop-at-init c = rest_first _ _ _ _ c.if-text-gt-LONGEST_TEXT.false

pub returns-in_default : goal.returns-in_default
returns-in_default c =
    gives c.stops.ensures
    (rest_stops
    c.loop-at.invariant
    _
    c.in_default.ensures.buffer_after
    c.loop-at-test.true
    c.read-answer.ensures
    (c.answer_line.ensures ∙ opened _ _)
    c.in_default.ensures.value)

pub loop-at-preserved : goal.loop-at-preserved
loop-at-preserved c =
    rest_more
    c.loop-at.invariant
    _
    c.in-Ok.ensures.buffer_after
    c.loop-at-test.true
    c.read-answer.ensures
    (c.answer_line.ensures ∙ opened _ _)
    c.in-Ok.ensures.value

pub returns-in_default-put_into : goal.returns-in_default-put_into
returns-in_default-put_into c =
    let place : c.max.result ≡ c.loop-at.at = omega (arith, c.max.ensures) in
    gives (c.stops-in_default-put_into.ensures ∙ rw place)
    (rest_ends_short
    c.loop-at.invariant
    _
    c.in_default-put_into.ensures.buffer_after
    c.loop-at-test.false
    c.end_word.ensures
    (c.last_line-end.ensures ∙ last_opened _ _)
    c.in_default-put_into.ensures.value)

pub returns : goal.returns
returns c =
    gives refl
    (rest_ends
    c.loop-at.invariant
    _
    c.in-Ok-put_into.ensures.buffer_after
    c.loop-at-test.false
    c.end_word.ensures
    (c.last_line-end.ensures ∙ last_opened _ _)
    c.in-Ok-put_into.ensures.value)
