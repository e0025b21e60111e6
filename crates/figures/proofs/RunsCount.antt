-- A byte that passes is an item that changes nothing, and so are SI, SPACE and SO together; so many bytes are counted at once, by
-- induction.
use Prim.Native.Nat.{ℕ, zero, suc, ◌+◌, ◌-◌, ◌≤◌, ◌<◌, min}
use mathlib.Core.Path.{◌≡◌, refl, sym, ap, ◌∙◌, subst}
use mathlib.Core.Bool.{Bool, true, false}
use mathlib.Core.List.{List}
use mathlib.Core.Logic.{⊎_elim}
use native.Mathlib.Nat.{eq-or-lt_of_le}
use native.Mathlib.Omega.{arith}
use mir.Val.{bool_byte}
use borrow.Author.Tests.{le-leb, lt-leb, lt-ltb, le-ltb, ltb-true}
use lib.Dec.{leb, ltb}
use lib.ListN.{length, get_or, take, drop, length-set, length-drop}
use Rattle.paper.specs.Choice.{◌gives◌or◌}
use Rattle.paper.specs.Sets.{space}
use Rattle.paper.specs.Results.{char_word, space_word, control_word, shift_word}
use Rattle.paper.specs.declared.Form.{Form}
use Rattle.paper.proofs.Choices.{impossible, gives_has}
use Rattle.charsets.specs.Sizes.{is_of94}
use Rattle.lane.specs.Passing.{passes, byte_ahead, block_ahead}
use Rattle.lane.specs.Lanes.{lane_of, has_space, word_in}
use Rattle.lane.specs.Gaps.{gap_ahead, has_gaps}
use Rattle.lane.specs.declared.Lane.{Lane}
use Rattle.lane.proofs.EachPasses.{both_true, block_inside, block_passes_each}
use Rattle.lane.proofs.LaneItems.{LaneItem, control, space_sign, character, lane_item, word_above, word_below, word_of_space, less_or_not}
use Rattle.lane.proofs.LettersPass.{letter_passes}
use Rattle.lane.proofs.GapItems.{after_in, after_space, gap_items}
use Rattle.items.specs.States.{single_in}
use Rattle.items.specs.Letters.{is_letter}
use Rattle.std.specs.Prelude.{count_by}
use Rattle.std.proofs.lemmas.List.Sums.{count_by_more_no, count_by_more_yes}
use Rattle.std.proofs.lemmas.List.{get_or-drop, get_or-take, length-take}
use Rattle.figures.specs.Counting.{added, tally, Takes, up_to, Fits, Counts, GoesOn}
use Rattle.figures.specs.Runs.{LaneGoesOn}
use Rattle.figures.proofs.AddedCounts.{part, part_more, part_of_none, entry, takes, tally_is}
use Rattle.figures.proofs.CountingByItems.{in_state, item_counts, plain_counts}

module _ (form : Form) (text cells : List ℕ) (ground : single_in cells ≡ 0) where
  -- ---- one byte

  pub byte_counts : {lane : Lane} {counts : List ℕ} {place : ℕ} → lane ≡ lane_of form cells → place < length text →
      passes lane (get_or text place 0) ≡ true →
      GoesOn form text cells counts place (added counts (word_in (has_space cells) (get_or text place 0)) 1) (place + 1)
  byte_counts {counts = counts} {place} is inside passed first c = by (lane_item form cells text place inside ground (rw (← is) passed))
    where
      by : LaneItem form cells text place →
          Counts form text cells (added counts (word_in (has_space cells) (get_or text place 0)) 1) first (place + 1)
      by (control low is) =
          rw (word_below (has_space cells) (get_or text place 0) low) (plain_counts c inside ground is (omega arith))
      by (space_sign same of_94 is) =
          rw (ap is_of94 of_94, word_of_space (get_or text place 0) same) (plain_counts c inside ground is (omega arith))
      by (character x) = rw x.word_is (plain_counts c inside ground x.reads (omega arith))

  -- ---- SI, SPACE and SO

  pub gap_counts : {counts : List ℕ} {place : ℕ} → has_gaps cells ≡ true → gap_ahead text place ≡ true →
      GoesOn form text cells counts place (added (added (added counts shift_word 1) space_word 1) shift_word 1) (place + 3)
  gap_counts {counts} {place} gaps ahead first c =
      let g = gap_items form cells text place c.reader c.stands ground gaps ahead in
      let inside = g.inside in
      let one : Counts form text (after_in cells) (added counts shift_word 1) first (place + 1) =
      item_counts c (omega arith) g.shift_in (omega arith) in
      let after_space_lem : place + 1 + 1 ≡ place + 2 = omega arith in
      let two : Counts form text (after_space cells) (added (added counts shift_word 1) space_word 1) first (place + 2) =
      rw (← after_space_lem) (item_counts one (omega arith) g.space_sign (omega arith)) in
      let after_all : place + 2 + 1 ≡ place + 3 = omega arith in
      rw (← after_all) (in_state g.same (item_counts two (omega arith) g.shift_out (omega arith)))

-- a letter passes
pub letter_ahead : (form : Form) (cells : List ℕ) {lane : Lane} (text : List ℕ) (place : ℕ) → place < length text →
    get_or text place 0 < 0x100 → is_letter form cells (get_or text place 0) ≡ true → lane ≡ lane_of form cells → byte_ahead lane text place ≡ true
unfolding byte_ahead
letter_ahead form cells text place inside byte letter is =
    rw (is, lt-ltb place (length text) inside, letter_passes form cells (get_or text place 0) byte letter)

-- a byte ahead among the first of a text, which passes
pub record Ahead (lane : Lane) (text : List ℕ) (end here : ℕ) : Type 0 where
  pub first : here < length (take end text)
  pub inside : here < length text
  pub same : get_or (take end text) here 0 ≡ get_or text here 0
  pub passed : passes lane (get_or text here 0) ≡ true

pub ahead_passes : (lane : Lane) (text : List ℕ) (end here : ℕ) → byte_ahead lane (take end text) here ≡ true → Ahead lane text end here
unfolding byte_ahead
ahead_passes lane text end here e =
    let first : List ℕ = take end text in
    let both = both_true (ltb here (length first)) (passes lane (get_or first here 0)) e in
    let long = length-take end text in
    let inside : here < length first = ltb-true here (length first) both.0 in
    let before : here < end = omega arith in
    let same = get_or-take end text here 0 before in
    record { first = inside; inside = omega arith; same = same; passed = rw (← same) both.1 }

-- one that does not, which is not the first if that passes
pub past_the_first : (lane : Lane) (text : List ℕ) (end place here : ℕ) → end ≡ min (length text) (place + 24) → place ≤ here →
    byte_ahead lane (take end text) here ≡ false → byte_ahead lane text place ≡ true → place < here
unfolding byte_ahead
past_the_first lane text end place here is_end from out ahead =
    ⊎_elim
    (λ (same : place ≡ here).
    let both = both_true (ltb place (length text)) (passes lane (get_or text place 0)) ahead in
    let inside = ltb-true place (length text) both.0 in
    let some : place < end = omega arith in
    let there : byte_ahead lane (take end text) place ≡ true =
    rw (get_or-take end text place 0 some, lt-ltb place (length (take end text)) (omega (arith, length-take end text))) both.1 in
    impossible (cc (out, there, same)))
    (λ less. less)
    (eq-or-lt_of_le from)

-- ---- a byte's word

pub known_word : (spaced : Bool) (b : ℕ) → word_in spaced b < 11
unfolding word_in
known_word spaced b =
    let P : ℕ → Type 0 = λ (n : ℕ). n < 11 in
    gives_has P (ltb space b) (omega arith) (gives_has P (ltb b space) (omega arith) (gives_has P spaced (omega arith) (omega arith)))

-- whether a byte is at most a bound
abbrev bit : ℕ → ℕ → ℕ
bit bound b = leb b bound gives 1 or 0

-- it is a control, 2/0 or another
record OneByte (spaced : Bool) (b : ℕ) : Type 0 where
  pub control : ℕ
  pub space_sign : ℕ
  pub other : ℕ
  pub below : bit (space - 1) b ≡ control
  pub low : bit space b ≡ control + space_sign
  pub all : control + space_sign + other ≡ 1
  pub words : (w : ℕ) →
      part (word_in spaced b) 1 w ≡ part control_word control w + part (word_in spaced space) space_sign w + part char_word other w

one_byte_lem : (spaced : Bool) (b : ℕ) → OneByte spaced b
one_byte_lem spaced b =
    ⊎_elim
    (λ less. record {
      control = 1;
      space_sign = 0;
      other = 0;
      below = rw (le-leb b (space - 1) (omega arith));
      low = rw (le-leb b space (omega arith));
      all = refl;
      words = λ w.
          rw (word_below spaced b less) (omega (arith, part_of_none (word_in spaced space) w, part_of_none char_word w));
    })
    (λ (from : space ≤ b). ⊎_elim
    (λ high. record {
      control = 0;
      space_sign = 0;
      other = 1;
      below = rw (lt-leb b (space - 1) (omega arith));
      low = rw (lt-leb b space (omega arith));
      all = refl;
      words = λ w.
          rw (word_above spaced b high) (omega (arith, part_of_none control_word w, part_of_none (word_in spaced space) w));
    })
    (λ (to : b ≤ space).
    let is : b ≡ space = omega arith in
    record {
      control = 0;
      space_sign = 1;
      other = 0;
      below = rw is;
      low = rw is;
      all = refl;
      words = λ w. rw is (omega (arith, part_of_none control_word w, part_of_none char_word w));
    })
    (less_or_not space b))
    (less_or_not b space)

-- ---- so many bytes

abbrev one_by_one : Bool → List ℕ → List ℕ → ℕ → ℕ → List ℕ
one_by_one spaced text counts place zero = counts
one_by_one spaced text counts place (suc n) =
    added (one_by_one spaced text counts place n) (word_in spaced (get_or text (place + n) 0)) 1

up_to_none : (bound : ℕ) (text : List ℕ) (place : ℕ) → up_to bound text place 0 ≡ 0
unfolding up_to
up_to_none bound text place =
    let none : place + 0 - place ≡ 0 = omega arith in ap (λ (n : ℕ). count_by (λ b. leb b bound) (take n (drop place text))) none

up_to_more : (bound : ℕ) (text : List ℕ) (place n : ℕ) → place + n < length text →
    up_to bound text place (suc n) ≡ up_to bound text place n + bit bound (get_or text (place + n) 0)
unfolding up_to
up_to_more bound text place n inside =
    let more : place + suc n - place ≡ n + 1 = omega arith in
    let here : place + n - place ≡ n = omega arith in
    rw (more, here, ← get_or-drop place text n 0) (by (leb (get_or rest n 0) bound) refl)
  where
    rest : List ℕ
    rest = drop place text

    low : ℕ → Bool
    low b = leb b bound

    below : n < length rest
    below = omega (arith, length-drop place text)

    by : (t : Bool) → low (get_or rest n 0) ≡ t → count_by low (take (n + 1) rest) ≡ count_by low (take n rest) + (t gives 1 or 0)
    by true e = count_by_more_yes low rest n 0 below e
    by false e = omega (arith, count_by_more_no low rest n 0 below e)

up_to_in_order : (text : List ℕ) (place n : ℕ) → place + n ≤ length text →
    (up_to (space - 1) text place n ≤ up_to space text place n) × (up_to space text place n ≤ n)
up_to_in_order text place zero inside =
    let low = up_to_none (space - 1) text place in let all = up_to_none space text place in (omega arith, omega arith)
up_to_in_order text place (suc n) inside =
    let o = one_byte_lem true (get_or text (place + n) 0) in
    let h = up_to_in_order text place n (omega arith) in
    let low = up_to_more (space - 1) text place n (omega arith) in
    let all = up_to_more space text place n (omega arith) in
    (omega (arith, o.below, o.low), omega (arith, o.low, o.all))

module _ (spaced : Bool) (text counts : List ℕ) (place : ℕ) (words : length counts ≡ 11) where
  eleven : (n : ℕ) → length (one_by_one spaced text counts place n) ≡ 11
  eleven zero = words
  eleven (suc n) = length-set (one_by_one spaced text counts place n) _ _ ∙ eleven n

  entries : (n w : ℕ) → place + n ≤ length text →
      get_or (one_by_one spaced text counts place n) w 0 ≡
      get_or counts w 0 + part control_word (up_to (space - 1) text place n) w +
      part (word_in spaced space) (up_to space text place n - up_to (space - 1) text place n) w + part char_word (n - up_to space text place n) w
  entries zero w inside =
      rw (up_to_none (space - 1) text place, up_to_none space text place)
      (omega (arith, part_of_none control_word w, part_of_none (word_in spaced space) w, part_of_none char_word w))
  entries (suc n) w inside =
      let b : ℕ = get_or text (place + n) 0 in
      let o = one_byte_lem spaced b in
      let within : place + n ≤ length text = omega arith in
      let h = up_to_in_order text place n within in
      let l = eleven n in
      let k = known_word spaced b in
      let controls : ℕ = up_to (space - 1) text place n in
      let low : ℕ = up_to space text place n in
      let is_control_lem : controls + bit (space - 1) b ≡ controls + o.control = omega (arith, o.below) in
      let is_space : low + bit space b - (controls + bit (space - 1) b) ≡ low - controls + o.space_sign = omega (arith, o.below, o.low) in
      let is_other : suc n - (low + bit space b) ≡ n - low + o.other = omega (arith, o.low, o.all) in
      rw (
        up_to_more (space - 1) text place n (omega arith),
        up_to_more space text place n (omega arith),
        is_other,
        is_space,
        is_control_lem,
      )
      (omega (
        arith,
        entry (one_by_one spaced text counts place n) (word_in spaced b) 1 w (omega arith),
        entries n w within,
        o.words w,
        part_more control_word controls o.control w,
        part_more (word_in spaced space) (low - controls) o.space_sign w,
        part_more char_word (n - low) o.other w,
      ))

-- a truth is one at most
pub one_bit : (t : Bool) → bool_byte t ≤ 1
one_bit true = omega arith
one_bit false = omega arith

-- ---- a run

-- so many bytes, which all pass: how many are controls, and how many are controls or 2/0
pub record Passed (lane : Lane) (text : List ℕ) (place here controls low : ℕ) : Type 0 where
  pub many : ℕ
  pub at : here ≡ place + many
  pub inside : place + many ≤ length text
  pub controls_are : controls ≡ up_to (space - 1) text place many
  pub low_are : low ≡ up_to space text place many
  pub pass : (k : ℕ) → k < many → passes lane (get_or text (place + k) 0) ≡ true

pub passed_most : {lane : Lane} {text : List ℕ} {place here controls low : ℕ} → Passed lane text place here controls low →
    (controls ≤ low) × (place + low ≤ here) × (here ≤ length text)
passed_most {text = text} {place} p =
    let h = up_to_in_order text place p.many p.inside in
    (omega (arith, p.controls_are, p.low_are), omega (arith, p.at, p.low_are), omega (arith, p.at, p.inside))

-- what they take of the counts
pub passed_takes : {lane : Lane} {text counts : List ℕ} {place here controls low : ℕ} → Fits text counts place →
    Passed lane text place here controls low → (controls ≤ low) × (low ≤ here - place) × Takes counts (here - place)
passed_takes f p =
    let m = passed_most p in (m.0, omega (arith, m.1), takes f (omega (arith, m.1, m.2)))

pub none_passed : (lane : Lane) (text : List ℕ) (place : ℕ) → place ≤ length text → Passed lane text place place 0 0
none_passed lane text place within = record {
  many = 0;
  at = omega arith;
  inside = omega arith;
  controls_are = sym (up_to_none (space - 1) text place);
  low_are = sym (up_to_none space text place);
  pass = λ k h. absurd (omega arith);
}

-- with one byte more
passed_on : {lane : Lane} {text : List ℕ} {place here controls low : ℕ} → Passed lane text place here controls low → here < length text →
    passes lane (get_or text here 0) ≡ true → {controls_now low_now : ℕ} → controls_now ≡ controls + bit (space - 1) (get_or text here 0) →
    low_now ≡ low + bit space (get_or text here 0) → Passed lane text place (here + 1) controls_now low_now
passed_on {lane} {text} {place} {here} p inside passed controls-is low-is = record {
  many = suc p.many;
  at = omega (arith, p.at);
  inside = omega (arith, p.at, inside);
  controls_are = one_more_lem (space - 1) p.controls_are controls-is;
  low_are = one_more_lem space p.low_are low-is;
  pass = λ k h.
      ⊎_elim
      (λ before. p.pass k before)
      (λ after. let there : here ≡ place + k = omega (arith, p.at) in rw (← there) passed)
      (less_or_not k p.many);
}
  where
    one_more_lem : (bound : ℕ) {x y : ℕ} → x ≡ up_to bound text place p.many → y ≡ x + bit bound (get_or text here 0) →
        y ≡ up_to bound text place (suc p.many)
    one_more_lem bound e f = f ∙ rw (e, p.at) (sym (up_to_more bound text place p.many (omega (arith, p.at, inside))))

pub letter_more : {lane : Lane} {text : List ℕ} {place here controls low : ℕ} → Passed lane text place here controls low →
    here < length text → passes lane (get_or text here 0) ≡ true → space < get_or text here 0 → Passed lane text place (here + 1) controls low
letter_more {text = text} {here = here} p inside passed high =
    let b : ℕ = get_or text here 0 in
    let no_control : bit (space - 1) b ≡ 0 = rw (lt-leb b (space - 1) (omega arith)) in
    let not_low : bit space b ≡ 0 = rw (lt-leb b space high) in
    passed_on p inside passed (omega (arith, no_control)) (omega (arith, not_low))

pub low_more : {lane : Lane} {text : List ℕ} {place here controls low : ℕ} → Passed lane text place here controls low →
    here < length text → passes lane (get_or text here 0) ≡ true → get_or text here 0 ≤ space → {more : ℕ} →
    more ≡ bool_byte (ltb (get_or text here 0) space) → Passed lane text place (here + 1) (controls + more) (low + 1)
low_more {text = text} {here = here} p inside passed few is =
    let b : ℕ = get_or text here 0 in
    let is_low : bit space b ≡ 1 = rw (le-leb b space few) in
    passed_on p inside passed (rw (is, ⊎_elim below not_below (less_or_not b space))) (omega (arith, is_low))
  where
    below : get_or text here 0 < space → bool_byte (ltb (get_or text here 0) space) ≡ bit (space - 1) (get_or text here 0)
    below less = rw (lt-ltb (get_or text here 0) space less, le-leb (get_or text here 0) (space - 1) (omega arith))

    not_below : space ≤ get_or text here 0 → bool_byte (ltb (get_or text here 0) space) ≡ bit (space - 1) (get_or text here 0)
    not_below from = rw (le-ltb (get_or text here 0) space from, lt-leb (get_or text here 0) (space - 1) (omega arith))

up_to_on : (bound : ℕ) (text : List ℕ) (place m n : ℕ) → place + (m + n) ≤ length text →
    up_to bound text place (m + n) ≡ up_to bound text place m + up_to bound text (place + m) n
up_to_on bound text place m zero inside =
    let e : m + 0 ≡ m = omega arith in ap (up_to bound text place) e ∙ omega (arith, up_to_none bound text (place + m))
up_to_on bound text place m (suc n) inside =
    let e : m + suc n ≡ suc (m + n) = omega arith in
    let at : place + (m + n) ≡ place + m + n = omega arith in
    ap (up_to bound text place) e ∙
    omega (
      arith,
      up_to_more bound text place (m + n) (omega arith),
      up_to_more bound text (place + m) n (omega arith),
      up_to_on bound text place m n (omega arith),
      ap (λ (k : ℕ). bit bound (get_or text k 0)) at,
    )

pub block_more : {lane : Lane} {text : List ℕ} {place here controls low : ℕ} → Passed lane text place here controls low →
    block_ahead lane text here ≡ true → {more more_low : ℕ} → more ≡ up_to (space - 1) text here 16 → more_low ≡ up_to space text here 16 →
    Passed lane text place (here + 16) (controls + more) (low + more_low)
block_more {lane} {text} {place} {here} p block is-more is-more-low = record {
  many = p.many + 16;
  at = omega (arith, p.at);
  inside = omega (arith, p.at, block_inside lane text here block);
  controls_are = with_block (space - 1) p.controls_are is-more;
  low_are = with_block space p.low_are is-more-low;
  pass = λ k h.
      ⊎_elim
      (λ before. p.pass k before)
      (λ after.
      let there : here + (k - p.many) ≡ place + k = omega (arith, p.at) in
      rw (← there) (block_passes_each lane text here (k - p.many) block (omega arith)))
      (less_or_not k p.many);
}
  where
    with_block : (bound : ℕ) {x y : ℕ} → x ≡ up_to bound text place p.many → y ≡ up_to bound text here 16 →
        x + y ≡ up_to bound text place (p.many + 16)
    with_block bound e f =
        rw (up_to_on bound text place p.many 16 (omega (arith, p.at, block_inside lane text here block)), ← p.at, e, f)

module _ (form : Form) (text cells : List ℕ) (ground : single_in cells ≡ 0) {counts : List ℕ} {place : ℕ} where
  by_bytes : {lane : Lane} → lane ≡ lane_of form cells → (n : ℕ) → place + n ≤ length text →
      ((k : ℕ) → k < n → passes lane (get_or text (place + k) 0) ≡ true) →
      GoesOn form text cells counts place (one_by_one (has_space cells) text counts place n) (place + n)
  by_bytes is zero inside pass first c =
      let here : place ≡ place + 0 = omega arith in
      subst (λ (p : ℕ). Counts form text cells counts first p) here c
  by_bytes is (suc n) inside pass first c =
      let there : place + n + 1 ≡ place + suc n = omega arith in
      subst (λ (p : ℕ). Counts form text cells (one_by_one (has_space cells) text counts place (suc n)) first p) there
      (byte_counts form text cells ground is (omega arith) (pass n (omega arith)) first
      (by_bytes is n (omega arith) (λ k h. pass k (omega arith)) first c))

  pub blocks_count : {lane : Lane} {here controls low : ℕ} → lane ≡ lane_of form cells → Passed lane text place here controls low →
      GoesOn form text cells counts place
      (tally counts (word_in (has_space cells) space) controls (low - controls) (here - place - low)) here
  blocks_count is p first c =
      let spaced : Bool = has_space cells in
      let n : ℕ = p.many in
      let words : length counts ≡ 11 = c.counting.words in
      let all : place + n - place ≡ n = omega arith in
      let same = tally_is counts words (word_in spaced space) (up_to (space - 1) text place n)
      (up_to space text place n - up_to (space - 1) text place n) (n - up_to space text place n) (known_word spaced space)
      (one_by_one spaced text counts place n) (eleven spaced text counts place words n) (λ w. entries spaced text counts place words n w p.inside) in
      rw (p.at, p.controls_are, p.low_are, all, ← same) (by_bytes is n p.inside p.pass first c)

-- so many bytes that pass are counted at once
pub lane_goes_on : {lane : Lane} {spaced : Bool} {text counts after : List ℕ} {place here controls low : ℕ} →
    Passed lane text place here controls low → after ≡ tally counts (word_in spaced space) controls (low - controls) (here - place - low) →
    LaneGoesOn lane spaced text counts place after here
lane_goes_on {text = text} p is-after form cells ground is-lane is_space first c =
    rw (is-after, is_space) (blocks_count form text cells ground is-lane p first c)
