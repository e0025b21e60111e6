-- The part of a buffer in which an opening fits has become the opening.
use Prim.Native.Nat.{ℕ, suc, ◌+◌, ◌<◌, ◌≤◌}
use mathlib.Core.Path.{◌≡◌, refl, sym, ap, ◌∙◌}
use mathlib.Core.List.{List, [], ◌∷◌, ◌++◌}
use borrow.Author.Tests.{le-leb, lt-leb}
use borrow.Rule.Slice.PartMut.{put_mid}
use lib.ListN.{length, drop, take, set}
use lib.Seq.{sets, take_all, length-sets}
use native.Mathlib.Nat.{add-zero, add-suc, suc-add}
use native.Mathlib.Omega.{arith}
use Rattle.std.proofs.lemmas.Slice.{put_mid-paste}
use Rattle.std.proofs.lemmas.List.Edits.{sets-eq}
use Rattle.paper.specs.Starting.{opening_start, opening_end, opening}
use Rattle.paper.specs.declared.Form.{Form}
use Rattle.openings.specs.InBuffers.{with_opening}

module _ (m : Form) (buffer : List ℕ) (place : ℕ) where
  pub no_room : length buffer < place + length (opening m) → buffer ≡ with_opening m buffer place
  unfolding with_opening
  no_room h = rw (lt-leb (place + length (opening m)) (length buffer) h)

  put_part : (k : ℕ) (xs ys zs : List ℕ) (at : ℕ) → at + length zs ≤ length xs → k ≡ length zs → ys ≡ zs → put_mid at k xs ys ≡ sets xs at zs
  put_part k xs ys zs at room is same =
      put_mid-paste at k xs ys zs (length zs) same (sym is) refl ∙
      ap (λ (l : List ℕ). take at xs ++ l ++ drop (at + length zs) xs) (take_all (length zs) zs (omega arith)) ∙
      sym (sets-eq zs xs at room)

  -- the start and then the end
  put_then : (at : ℕ) (xs bs cs : List ℕ) → sets (sets xs at bs) (at + length bs) cs ≡ sets xs at (bs ++ cs)
  put_then at xs [] cs = rw add-zero
  put_then at xs (b ∷ bs) cs = rw (add-suc, ← suc-add) (put_then (suc at) (set xs at b) bs cs)

  pub put_both : (j k middle : ℕ) (bs cs : List ℕ) → place + length (opening m) ≤ length buffer →
      j ≡ length opening_start → k ≡ length (opening_end m) → middle ≡ place + length opening_start → bs ≡ opening_start → cs ≡ opening_end m →
      put_mid middle k (put_mid place j buffer bs) cs ≡ with_opening m buffer place
  unfolding with_opening
  put_both j k middle bs cs room first next at start end =
      rw (le-leb (place + length (opening m)) (length buffer) room, at, put_part j buffer bs opening_start place (omega arith) first start)
      (put_part k (sets buffer place opening_start) cs (opening_end m) (place + length opening_start)
      (omega (arith, length-sets buffer place opening_start)) next end ∙
      put_then place buffer opening_start (opening_end m))
