-- A text over the front of a buffer, and a text that is put into the part after it: together a longer text over the buffer.
use mathlib.Core.Path.{◌≡◌, ◌∙◌}
use mathlib.Core.List.{List, ◌++◌, append-nil, append_assoc}
use Prim.Native.Nat.{ℕ, ◌-◌, ◌≤◌}
use native.Mathlib.Omega.{arith}
use borrow.Rule.Slice.PartMut.{put_mid, mid_of}
use lib.ListN.{length, drop, length-append, length-drop, drop_of_length-le, take-append-drop}
use lib.Seq.{drop-drop, take_all, take-append_seam, drop-append_seam}
use Rattle.paper.specs.LentBuffers.{over}

-- the part of a slice from an index on, and the slice with another list there
abbrev pub part_from : ℕ → List ℕ → List ℕ
part_from at buffer = mid_of at (length buffer - at) buffer

abbrev pub with_part : ℕ → List ℕ → List ℕ → List ℕ
with_part at buffer part = put_mid at (length buffer - at) buffer part

pub part_is : (at : ℕ) (buffer : List ℕ) → part_from at buffer ≡ drop at buffer
part_is at buffer = take_all (length buffer - at) (drop at buffer) (simp length-drop (omega arith))

pub part_back : (at : ℕ) (buffer : List ℕ) → with_part at buffer (part_from at buffer) ≡ buffer
part_back at buffer = rw (take-append-drop (length buffer - at) (drop at buffer), take-append-drop at buffer)

module _ (text before : List ℕ) where
  abbrev left : List ℕ
  left = drop (length text) before

  size_left : length (over text before) - length text ≡ length left
  size_left = simp length-append (omega arith)

  part_left : part_from (length text) (over text before) ≡ left
  part_left = part_is (length text) (over text before) ∙ drop-append_seam text left

  over_more : (more : List ℕ) → with_part (length text) (over text before) (over more left) ≡ over (text ++ more) before
  over_more more =
      rw (
        take-append_seam,
        drop-append_seam,
        size_left,
        drop_of_length-le left {i = length left} (omega arith),
        append-nil,
        drop-drop,
        length-append,
        append_assoc,
      )

pub put_more : (text more before : List ℕ) {now part : List ℕ} {written : ℕ} → now ≡ over text before → length text ≡ written →
    part ≡ over more (part_from written now) → with_part written now part ≡ over (text ++ more) before
put_more text more before h s e = rw (e, h, ← s, part_left text before) (over_more text before more)

pub room_left : (text before : List ℕ) {now : List ℕ} {written : ℕ} → now ≡ over text before → length text ≡ written →
    length (part_from written now) ≡ length before - written
room_left text before h s = rw (h, ← s, part_left text before) (length-drop (length text) before)

pub room_taken : (text before : List ℕ) {now : List ℕ} {written : ℕ} → now ≡ over text before → length text ≡ written → written ≤ length now
room_taken text before h s = rw (h, ← s) (simp length-append (omega arith))
