-- At the end all sixteen bytes are copied, and they are stored one after another.
use Prim.Native.Nat.{ℕ, ◌+◌, ◌-◌, ◌≤◌, ◌<◌}
use mathlib.Core.Path.{◌≡◌, sym, ap, ◌∙◌}
use mathlib.Core.List.{List, ◌++◌, map, append-nil}
use native.Mathlib.Omega.{arith}
use lib.ListN.{length, take, drop, set, get_or, length-append}
use Rattle.std.proofs.lemmas.List.{get_or_default, take_all, drop_all, length-map, length-take-le, length-drop}
use Rattle.std.proofs.lemmas.List.Edits.{map_over_more}
use Rattle.converter.specs.Runs.{copied_by, copied_bytes}
use Rattle.items.proofs.PiecesPut.{put_sets}
use Rattle.converter.proofs.run.copy_block.Goals as goal

pub loop-byte-preserved : goal.loop-byte-preserved
loop-byte-preserved c =
    let l = c.loop-byte in
    let f : ℕ → ℕ = copied_by c.args.way in
    let first : List ℕ = c.copy_from_slice.new.self in
    let inside : l.byte-index < length first = omega (arith, c.copy_from_slice.ensures.len) in
    let so_long : l.byte-index < length l.byte-items =
    omega (
      arith,
      ap length l.invariant,
      length-append (map f (take l.byte-index first)) (drop l.byte-index first),
      length-drop l.byte-index first,
      inside,
    ) in
    ap (set l.byte-items l.byte-index) c.copied.ensures ∙
    map_over_more f first l.byte-items l.byte-index (get_or l.byte-items l.byte-index 0) inside l.invariant
    (get_or_default l.byte-items l.byte-index 0 (get_or l.byte-items l.byte-index 0) so_long)

pub returns : goal.returns
returns c =
    let a = c.args in
    let l = c.loop-byte in
    let f : ℕ → ℕ = copied_by a.way in
    let first : List ℕ = c.copy_from_slice.new.self in
    let past : length first ≤ l.byte-index = omega (arith, c.copy_from_slice.ensures.len) in
    let all : l.byte-items ≡ map f first =
    l.invariant ∙
    ap (λ (k : List ℕ). map f k ++ drop l.byte-index first) (take_all l.byte-index first past) ∙
    ap (λ (k : List ℕ). map f first ++ k) (drop_all l.byte-index first past) ∙
    append-nil (map f first) in
    let so_many : 16 ≡ a.place + 16 - a.place = omega arith in
    put_sets a.buffer.now a.at _ (copied_bytes a.way a.text.now a.place 16) _
    (c.copy_from_slice-2.ensures.after ∙ all ∙ ap (map f) c.copy_from_slice.ensures.after ∙
    ap (λ (n : ℕ). map f (take n (drop a.place a.text.now))) (sym so_many))
    (omega (
      arith,
      length-map (take 16 (drop a.place a.text.now)) f,
      length-take-le 16 (drop a.place a.text.now) (omega (arith, length-drop a.place a.text.now)),
    ))
    (omega arith)
