-- A block is there where both ranges are, and its bytes are those of the text.
use Prim.Native.Nat.{ℕ, zero, suc, ◌≤◌, ◌<◌, ◌+◌}
use mathlib.Core.Path.{◌≡◌, refl, ap, ◌∙◌}
use mathlib.Core.Bool.{Bool, false}
use mathlib.Core.List.{List}
use native.Mathlib.Omega.{arith}
use native.Mathlib.Nat.{zero-add}
use borrow.Author.Tests.{le-leb, lt-leb}
use lib.ListN.{length, get_or, take, drop}
use Rattle.std.proofs.Common.{rules}
use Rattle.std.proofs.lemmas.List.{get_or-take, get_or-drop}
use Rattle.std.proofs.lemmas.Slice.{between_to_end}
use Rattle.paper.specs.Choice.{◌gives◌or◌}
use Rattle.lane.specs.declared.Lane.{Lane}
use Rattle.lane.specs.Passing.{passes, pass_all, block_ahead}
use Rattle.lane.proofs.block_ahead.Goals as goal

too_few : (x : Lane) (text : List ℕ) (place : ℕ) → length text < place + 16 → false ≡ block_ahead x text place
unfolding block_ahead
too_few x text place h = rw (lt-leb (place + 16) (length text) h)

same_bytes : (x : Lane) (block text : List ℕ) (place n : ℕ) → ((k : ℕ) → k < n → get_or block (0 + k) 0 ≡ get_or text (place + k) 0) →
    pass_all x block 0 n ≡ pass_all x text place n
same_bytes x block text place zero each = refl
same_bytes x block text place (suc n) each =
    ap (λ (t : Bool). t gives passes x (get_or block (0 + n) 0) or false)
    (same_bytes x block text place n (λ k h. each k (omega arith))) ∙
    ap (λ (b : ℕ). pass_all x text place n gives passes x b or false) (each n (omega arith))

enough : (x : Lane) (block text : List ℕ) (place : ℕ) → place + 16 ≤ length text → block ≡ take 16 (drop place text) → length block ≡ 16 →
    pass_all x block 0 (length block) ≡ block_ahead x text place
unfolding block_ahead
enough x block text place room is long = rw (le-leb (place + 16) (length text) room, long)
    (same_bytes x block text place 16 (λ k h.
    ap (λ (l : List ℕ). get_or l (0 + k) 0) is ∙ ap (λ (n : ℕ). get_or (take 16 (drop place text)) n 0) (zero-add k) ∙
    get_or-take 16 (drop place text) k 0 h ∙ get_or-drop place text k 0))

pub returns-in_default : goal.returns-in_default
returns-in_default c = too_few _ _ _ (omega (arith, c.in_default.ensures.lookup))

pub returns-in_default-get : goal.returns-in_default-get
returns-in_default-get c = too_few _ _ _ (omega (arith, c.in-Some.ensures.lookup, c.in_default-get.ensures.lookup))

pub returns : goal.returns
returns c =
    let a = c.args in
    let ahead : c.in-Some.ahead.now ≡ drop a.place a.text.now = search (rules, between_to_end) in
    let block : c.in-Some-get.block.now ≡ take 16 c.in-Some.ahead.now = search rules in
    c.block_passes.ensures ∙
    enough a.lane c.in-Some-get.block.now a.text.now a.place
    (omega (arith, c.in-Some.ensures.lookup, c.in-Some-get.ensures.lookup)) (block ∙ ap (take 16) ahead)
    (omega (arith, c.in-Some.ensures.lookup, c.in-Some-get.ensures.lookup))
