-- A byte of the lane and a gap go on by their laws, and the first byte passes, so that a run has one.
use Prim.Native.Nat.{ℕ, ◌+◌, ◌≤◌, ◌<◌}
use mathlib.Core.Path.{◌≡◌, sym, ap, ◌∙◌, subst}
use mathlib.Core.Bool.{true, false}
use mathlib.Core.List.{List}
use mathlib.Core.Logic.{⊎_elim}
use native.Mathlib.Nat.{eq-or-lt_of_le}
use native.Mathlib.Omega.{arith}
use borrow.Author.Tests.{lt-ltb}
use lib.ListN.{length, get_or, set}
use Rattle.paper.specs.declared.Form.{Form}
use Rattle.paper.specs.Results.{element_number}
use Rattle.paper.proofs.Choices.{impossible}
use Rattle.lane.specs.Passing.{passes, byte_ahead}
use Rattle.lane.specs.declared.Lane.{Lane}
use Rattle.lane.proofs.EachPasses.{byte_passes}
use Rattle.items.specs.States.{element_of}
use Rattle.items.proofs.ItemsOfBytes.{letter_is}
use Rattle.converter.specs.Passing.{Passes}
use Rattle.converter.specs.Runs.{way_of, Copies, gap_ahead, gap_length, gap_bytes, in_one_byte, Begins}
use Rattle.converter.specs.declared.run.Way.{Way}
use Rattle.converter.proofs.WaysCopy.{letter_copies, letter_passes}
use Rattle.converter.proofs.GapsCopy.{gap_goes_on, gap_inside}
use Rattle.converter.proofs.RunsGoOn.{byte_goes_on}
use Rattle.converter.proofs.conversion.Conversion.copy_run.Goals as goal

-- ---- laws

module _ {m to : Form} {text lent cells : List ℕ} {shown at place : ℕ} {buffer : List ℕ} {b : ℕ}
    (p : Passes m to text lent cells shown at place buffer) (s : Begins m to cells shown b) where
  short : in_one_byte to (element_number p.gl) (element_of cells b) b ≡ true
  short = ap (λ (n : ℕ). in_one_byte to n (element_of cells b) b) (sym p.shown_is) ∙ s.short

  its_copies : Copies m to cells shown text (way_of to cells b)
  its_copies =
      subst (λ (n : ℕ). Copies m to cells n text (way_of to cells b)) (sym p.shown_is)
      (letter_copies m cells text p.reader p.stands p.gl p.of_two b s.letter to short)

  it_passes : b < 0x100 → passes (way_of to cells b).lane b ≡ true
  it_passes most = letter_passes m cells text p.reader p.stands p.gl p.of_two b s.letter to most short

  -- by the way that the run takes
  copies : (way : Way) → way ≡ way_of to cells b → Copies m to cells shown text way
  copies way is = subst (Copies m to cells shown text) (sym is) its_copies

  passed : (way : Way) → way ≡ way_of to cells b → b < 0x100 → passes way.lane b ≡ true
  passed way is most = subst (λ (w : Way). passes w.lane b ≡ true) (sym is) (it_passes most)

-- a byte that passes stands at no place where none does
passes_not : (x : Lane) (text : List ℕ) (place here : ℕ) → place < length text → passes x (get_or text place 0) ≡ true →
    byte_ahead x text here ≡ false → place ≡ here → ⊥
unfolding byte_ahead
passes_not x text place here inside passed e same =
    let t : byte_ahead x text place ≡ true = rw (lt-ltb place (length text) inside, passed) in
    impossible (cc (t, e, same))

-- where no byte passes, the first is behind
onward : (x : Lane) (text : List ℕ) (place here : ℕ) → place < length text → passes x (get_or text place 0) ≡ true → place ≤ here →
    byte_ahead x text here ≡ false → place < here
onward x text place here inside passed most none =
    ⊎_elim (λ same. absurd (passes_not x text place here inside passed none same)) (λ less. less) (eq-or-lt_of_le most)

-- a gap is not short, and its bytes are few
gap_few : (to : Form) (text : List ℕ) (place : ℕ) → (length (gap_bytes to text place) ≤ 4) × (2 ≤ gap_length to)
gap_few Form.Seven text place = (omega arith, omega arith)
gap_few Form.Eight text place = (omega arith, omega arith)

-- ---- blocks

pub returns-then-here-blocks_at-clause-by_index : goal.returns-then-here-blocks_at-clause-by_index
returns-then-here-blocks_at-clause-by_index c shown lent b p =
    let i = c.loop-here.invariant in
    let run = c.copy_blocks-end in (
      omega (arith, c.if-here-blocks_at.true, i.1, run.ensures.lower_bound),
      run.ensures.by_index _ shown lent (letter_is _ _ _ b.letter).ground
          (copies p b c.way_of-way.result c.way_of-way.ensures) (i.6 shown lent b p),
    )

-- ---- a byte

pub loop-here-preserved-then-byte_ahead : goal.loop-here-preserved-then-byte_ahead
loop-here-preserved-then-byte_ahead c =
    let i = c.loop-here.invariant in
    let text = c.args.self.text.now in
    let way = c.way_of-way.result in
    let ahead : byte_ahead way.lane text c.loop-here.here ≡ true = sym c.byte_ahead.ensures ∙ c.if-byte_ahead.true in (
      i.0,
      i.1,
      omega arith,
      omega arith,
      omega arith,
      c.put_byte.auto.buffer ∙ i.5,
      λ shown lent b p.
          let q = i.6 shown lent b p in
          byte_goes_on (copies p b way c.way_of-way.ensures) (letter_is _ _ _ b.letter).ground c.loop-here-test.true
          (byte_passes way.lane text c.loop-here.here ahead) q c.put_byte.new.buffer c.put_byte.auto.buffer
          (λ room. c.put_byte.ensures (omega (arith, q.passing.as_long)) ∙
          ap (set c.loop-here.buffer c.loop-here.put) c.copied.ensures),
    )

-- ---- where no byte passes and no gap is

pub returns-else-gaps-clause-by_index : goal.returns-else-gaps-clause-by_index
returns-else-gaps-clause-by_index c shown lent b p =
    let a = c.args in
    let i = c.loop-here.invariant in
    let way = c.way_of-way.result in (
      onward way.lane a.self.text.now a.place c.loop-here.here c.requires.0
          (passed p b way c.way_of-way.ensures i.0) i.2
          (sym c.byte_ahead.ensures ∙ c.if-byte_ahead.false),
      i.6 shown lent b p,
    )

-- ---- a gap

pub loop-here-preserved : goal.loop-here-preserved
loop-here-preserved c =
    let a = c.args in
    let l = c.loop-here in
    let i = l.invariant in
    let gap = c.over_gap-gap in
    let r = gap.result in
    let held : List ℕ = gap.new.buffer in
    let there : gap_ahead a.self.to a.self.text.now l.here ≡ true = sym c.gap_ahead.ensures ∙ c.if-gap_ahead.true in
    let few = gap_few a.self.to a.self.text.now l.here in
    let inside = gap_inside a.self.to a.self.text.now l.here there in
    let e = gap.ensures.place_value in (
      i.0,
      omega arith,
      omega arith,
      omega arith,
      omega arith,
      gap.auto.buffer ∙ i.5,
      λ shown lent b p.
          let q = i.6 shown lent b p in
          let has = sym c.has_gaps-gaps.ensures ∙ c.if-gaps.true in
          subst (λ (n : ℕ). Passes a.self.form a.self.to a.self.text.now lent a.state.now shown r.at n held) (sym e.0)
          (subst (λ (n : ℕ). Passes a.self.form a.self.to a.self.text.now lent a.state.now shown n (l.here + gap_length a.self.to) held) (sym e.1)
          (gap_goes_on a.self.form a.self.to (get_or a.self.text.now a.place 0) q has b.letter b.short there held gap.auto.buffer
          (λ room. gap.ensures.buffer_after (omega (arith, q.passing.as_long))))),
    )
