-- Its place in byte order and its number of bytes, both of what is written.
use Prim.Native.Nat.{ℕ}
use mathlib.Core.Path.{sym, ap, ◌∙◌}
use mathlib.Core.List.{List}
use native.Mathlib.Omega.{arith}
use lib.ListN.{length}
use Rattle.shortest.specs.ShortestText.{rank}
use Rattle.items.specs.Pieces.{bytes_in}
use Rattle.items.specs.declared.piece.Piece.{Piece}
use Rattle.items.proofs.BytesInANumber.{length_of_bytes}
use Rattle.shortener.specs.declared.code.Place.{Place}
use Rattle.shortener.specs.declared.code.Code.{Code}
use Rattle.shortener.specs.Codes.{place_of_rank}
use Rattle.shortener.proofs.under.code_alike.Goals as goal

pub returns : goal.returns
returns c =
    let written : Piece = c.alike-written.result in (
      ap (λ (p : Place). Code.Alike p written.count) (c.place_of.ensures ∙ ap place_of_rank c.rank_of.ensures) ∙
          ap (λ (n : ℕ). Code.Alike (place_of_rank (rank (bytes_in written))) n) (sym (length_of_bytes written)) ∙
          ap (λ (l : List ℕ). Code.Alike (place_of_rank (rank l)) (length l)) c.alike-written.ensures.0,
      omega (arith, c.alike-written.ensures.1.few),
    )
