-- Bytes stored where those before them end make a longer output over the same buffer.
use Rattle.std.proofs.Common.{◌≡◌, ℕ, ◌+◌, ◌≤◌, List, ◌++◌, length, arith, length-append, length-drop, drop-drop}
use lib.Seq.{sets, sets-eq, take-append_seam, drop-append-add}
use Rattle.paper.specs.LentBuffers.{over}

pub length_over : (w d : List ℕ) → length w ≤ length d → length (over w d) ≡ length d
length_over w d h = simp (length-append, length-drop) (omega arith)

stores : (w d bs : List ℕ) → length w + length bs ≤ length (over w d) → sets (over w d) (length w) bs ≡ over (w ++ bs) d
stores w d bs h = rw (sets-eq bs _ _ h, take-append_seam, drop-append-add, drop-drop, length-append)

pub over_more : (w d bs : List ℕ) (k : ℕ) → length w ≡ k → k + length bs ≤ length d → sets (over w d) k bs ≡ over (w ++ bs) d
over_more w d bs k e h =
    let f : length w ≤ length d = omega arith in
    rw (← e) (stores w d bs (omega (arith, length_over w d f)))
