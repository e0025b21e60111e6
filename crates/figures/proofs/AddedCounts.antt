-- What is added to one count after another is there in whatever order and however often it was added, by the lists' entries.
use Prim.Native.Nat.{ℕ, ◌+◌, ◌-◌, ◌*◌, ◌≤◌, ◌<◌}
use mathlib.Core.Path.{◌≡◌, refl, sym, ◌∙◌, subst}
use mathlib.Core.Bool.{Bool, true, false}
use mathlib.Core.List.{List}
use mathlib.Core.Logic.{⊎_elim}
use native.Mathlib.Omega.{arith}
use borrow.Author.Tests.{eqb-true, eqb-false}
use lib.Dec.{eqb}
use lib.ListN.{length, get_or, length-set}
use lib.Seq.{get_or-set_same, get_or-set_other, set_out, ext_get_or}
use Rattle.paper.specs.Choice.{◌gives◌or◌}
use Rattle.paper.specs.Refusals.{longest_text}
use Rattle.paper.specs.Results.{char_word, control_word}
use Rattle.paper.proofs.Choices.{gives_has}
use Rattle.lane.proofs.LaneItems.{less_or_not}
use Rattle.figures.specs.Counting.{added, tally, Takes, Fits}

-- what one entry has of so many more of a word
unfoldable pub part : ℕ → ℕ → ℕ → ℕ
part i n w = eqb i w gives n or 0

pub part_more : (i n m w : ℕ) → part i (n + m) w ≡ part i n w + part i m w
unfolding part
part_more i n m w = by (eqb i w)
  where
    by : (t : Bool) → (t gives n + m or 0) ≡ (t gives n or 0) + (t gives m or 0)
    by true = refl
    by false = refl

pub part_of_none : (i w : ℕ) → part i 0 w ≡ 0
unfolding part
part_of_none i w = gives_has (λ (n : ℕ). n ≡ 0) (eqb i w) refl refl

part_most : (i n w : ℕ) → part i n w ≤ n
unfolding part
part_most i n w = gives_has (λ (m : ℕ). m ≤ n) (eqb i w) (omega arith) (omega arith)

pub entry : (counts : List ℕ) (i n w : ℕ) → i < length counts → get_or (added counts i n) w 0 ≡ get_or counts w 0 + part i n w
unfolding part
entry counts i n w h = by (eqb i w) refl
  where
    by : (t : Bool) → eqb i w ≡ t → get_or (added counts i n) w 0 ≡ get_or counts w 0 + (t gives n or 0)
    by true e =
        subst (λ (j : ℕ). get_or (added counts i n) j 0 ≡ get_or counts j 0 + n) (eqb-true i w e)
        (get_or-set_same counts i (get_or counts i 0 + n) 0 h)
    by false e =
        let other = get_or-set_other counts i w (get_or counts i 0 + n) 0 (λ q. eqb-false i w e (sym q)) in
        omega arith

-- a word that has no count changes none
entry_most : (counts : List ℕ) (i n w : ℕ) → get_or (added counts i n) w 0 ≤ get_or counts w 0 + n
entry_most counts i n w =
    ⊎_elim
    (λ (below : i < length counts). omega (arith, entry counts i n w below, part_most i n w))
    (λ past. rw (set_out counts i (get_or counts i 0 + n) past) (omega arith))
    (less_or_not i (length counts))

module _ {text counts : List ℕ} {place : ℕ} (f : Fits text counts place) (i n : ℕ) where
  pub room : i < 11 → n ≤ longest_text → (i < 11) × (get_or counts i 0 + n ≤ 2 * longest_text)
  room below h = (below, omega (arith, f.bounded i, f.within, f.short))

  pub fits_more : {after : List ℕ} → after ≡ added counts i n → place + n ≤ length text → Fits text after (place + n)
  fits_more e h =
      rw e
      (record {
        short = f.short;
        within = h;
        bounded = λ w. omega (arith, entry_most counts i n w, f.bounded w);
      })

-- so many more of all words together
pub takes : {text counts : List ℕ} {place all : ℕ} → Fits text counts place → place + all ≤ length text → Takes counts all
takes f within = record { bounded = λ w. omega (arith, f.bounded w, f.short) }

pub takes_more : {counts after : List ℕ} {some all : ℕ} → Takes counts all → some ≤ all → (i : ℕ) → after ≡ added counts i some →
    {left : ℕ} → left ≡ all - some → Takes after left
takes_more {counts} {after} {some} t few i is left_is =
    rw (is, left_is)
    (record {
      bounded = λ w. omega (arith, entry_most counts i some w, t.bounded w);
    })

pub takes_room : {counts : List ℕ} {all : ℕ} → Takes counts all → (i n : ℕ) → i < 11 → n ≤ all →
    (i < 11) × (get_or counts i 0 + n ≤ 2 * longest_text)
takes_room t i n below few = (below, omega (arith, t.bounded i))

pub tallied : (counts : List ℕ) (spaces c s o : ℕ) {one two three : List ℕ} {word : ℕ} → one ≡ added counts control_word c →
    word ≡ spaces → two ≡ added one word s → three ≡ added two char_word o → three ≡ tally counts spaces c s o
tallied counts spaces c s o is_one is_IsWord is-two is-three = rw (is-three, is-two, is_IsWord, is_one)

pub tally_long : (counts : List ℕ) (spaces c s o : ℕ) → length (tally counts spaces c s o) ≡ length counts
tally_long counts spaces c s o =
    let one : List ℕ = added counts control_word c in
    let two : List ℕ = added one spaces s in
    length-set two char_word (get_or two char_word 0 + o) ∙
    (length-set one spaces (get_or one spaces 0 + s) ∙ length-set counts control_word (get_or counts control_word 0 + c))

pub tally_is : (counts : List ℕ) → length counts ≡ 11 → (spaces c s o : ℕ) → spaces < 11 → (after : List ℕ) → length after ≡ 11 →
    ((w : ℕ) → get_or after w 0 ≡ get_or counts w 0 + part control_word c w + part spaces s w + part char_word o w) →
    after ≡ tally counts spaces c s o
tally_is counts words spaces c s o below after eleven entries =
    let one : List ℕ = added counts control_word c in
    let two : List ℕ = added one spaces s in
    let l : length one ≡ 11 = length-set counts control_word (get_or counts control_word 0 + c) ∙ words in
    let k : length two ≡ 11 = length-set one spaces (get_or one spaces 0 + s) ∙ l in
    ext_get_or 0 after (added two char_word o) (eleven ∙ sym (length-set two char_word (get_or two char_word 0 + o) ∙ k))
    (λ w in_list.
    let a = entry counts control_word c w (omega arith) in
    let b = entry one spaces s w (omega arith) in
    let d = entry two char_word o w (omega arith) in
    omega (arith, entries w))
