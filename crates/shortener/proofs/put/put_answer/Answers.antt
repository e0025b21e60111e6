-- The bytes are led by what was chosen.
use Prim.Native.Nat.{ℕ, ◌+◌}
use mathlib.Core.Path.{◌≡◌, sym, ap, ◌∙◌}
use mathlib.Core.List.{List, ◌++◌}
use native.Mathlib.Omega.{arith}
use lib.ListN.{length}
use lib.Seq.{sets}
use Rattle.escapes.specs.declared.effect.Effect.{Effect}
use Rattle.items.specs.Pieces.{bytes_in}
use Rattle.items.specs.declared.piece.Piece.{Piece}
use Rattle.items.proofs.BytesInANumber.{length_of_bytes}
use Rattle.items.proofs.PiecesPut.{piece_put}
use Rattle.paper.specs.declared.Element.{Element}
use Rattle.shortest.specs.ShortestText.{shift_from}
use Rattle.shortener.specs.Under.{under}
use Rattle.shortener.proofs.put.put_answer.Goals as goal

-- from what was chosen to what is written
led_by_lem : (shown element chosen : Element) (x : Effect) (own : List ℕ) (inner outer : Piece) → element ≡ chosen →
    bytes_in inner ≡ under element x own → bytes_in outer ≡ shift_from shown element ++ bytes_in inner →
    bytes_in outer ≡ shift_from shown chosen ++ under chosen x own
led_by_lem shown element chosen x own inner outer is by led =
    led ∙ ap (λ (l : List ℕ). shift_from shown element ++ l) by ∙ ap (λ (e : Element). shift_from shown e ++ under e x own) is

pub slice_bounds-put-end : goal.slice_bounds-put-end
slice_bounds-put-end c =
    let led = c.led-bytes in
    let chosen = c.choice-element.ensures in
    let under = c.bytes_under.ensures.0 in
    let all = led_by_lem _ _ _ c.args.unit.effect (bytes_in c.args.unit.piece) _ led.result chosen under led.ensures.0 in
    omega (arith, c.requires.piece_in_bounds, ap length all, length_of_bytes led.result)

pub returns : goal.returns
returns c =
    let led = c.led-bytes in
    let chosen = c.choice-element.ensures in
    let under = c.bytes_under.ensures.0 in
    let all = led_by_lem _ _ _ c.args.unit.effect (bytes_in c.args.unit.piece) _ led.result chosen under led.ensures.0 in
    let long = sym (length_of_bytes led.result) ∙ ap length all in
    let w = c.args.written in
    let b : List ℕ = c.args.buffer.now in record {
      value = λ i. record { place = c.args.next; unit = w.unit + 1; at = w.at + long i; shown = chosen i };
      buffer_after = piece_put b w.at led.result _ c.put.ensures (omega (arith, c.requires.piece_in_bounds, long)) ∙ ap (sets b w.at) all;
    }
