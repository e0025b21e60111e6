-- A pass goes on by the piece that is written for an item, and for a letter, which leaves the state as it is.
use Prim.Native.Nat.{ℕ, ◌+◌, ◌%◌, ◌<◌, ◌≤◌}
use mathlib.Core.Path.{◌≡◌, sym, ap, subst}
use mathlib.Core.Bool.{true}
use mathlib.Core.List.{List, [], ◌∷◌}
use native.Mathlib.Omega.{arith}
use lib.ListN.{length, get_or}
use lib.Seq.{sets}
use Rattle.paper.specs.CodeTable.{bit8}
use Rattle.paper.specs.Results.{refused_word}
use Rattle.paper.specs.declared.Form.{Form}
use Rattle.escapes.specs.Effects.{word_number}
use Rattle.items.specs.Pieces.{bytes_in}
use Rattle.items.specs.States.{element_of, changed}
use Rattle.items.specs.Items.{Item, character_of, item_at}
use Rattle.items.specs.Letters.{is_letter}
use Rattle.items.proofs.BytesInANumber.{length_of_bytes}
use Rattle.items.proofs.ItemsOfBytes.{letter_is, letter_item}
use Rattle.items.proofs.StatesKept.{plain_same}
use Rattle.converter.specs.Passing.{Passes}
use Rattle.converter.specs.Writing.{Wrote, wrote_of, character_in, writes}
use Rattle.converter.specs.declared.written.Written.{Written}
use Rattle.converter.proofs.PassByItems.{item_is_small, item_goes_on}
use Rattle.converter.proofs.RunsGoOn.{same_passes}
use Rattle.escapes.specs.Effects.{as_word}
use Rattle.paper.specs.Results.{char_word}

module _ {m to : Form} {text lent cells : List ℕ} {shown at place : ℕ} {buffer : List ℕ}
    (p : Passes m to text lent cells shown at place buffer) (inside : place < length text) where
  module _ (i : Item) (is : item_at m cells text place ≡ i) (goes : word_number i.effect.word < refused_word) (w : Written)
      (wrote : wrote_of w ≡ writes to shown cells i.effect i.bytes) where
    pub piece_is_small : w.piece.count ≤ 5
    piece_is_small =
        omega (arith, length_of_bytes w.piece, ap (λ (x : Wrote). length x.bytes) wrote, item_is_small p inside i is goes)

    pub piece_goes_on : (after : List ℕ) → length after ≡ length buffer →
        (at + w.piece.count ≤ length lent → after ≡ sets buffer at (bytes_in w.piece)) →
        Passes m to text lent (changed i.effect cells) w.shown.0 (at + w.piece.count) i.place after
    piece_goes_on after as_long =
        subst (λ (n : ℕ). (at + n ≤ length lent → after ≡ sets buffer at (bytes_in w.piece)) →
        Passes m to text lent (changed i.effect cells) w.shown.0 (at + n) i.place after) (length_of_bytes w.piece)
        (subst (λ (x : Wrote). (at + length x.bytes ≤ length lent → after ≡ sets buffer at x.bytes) →
        Passes m to text lent (changed i.effect cells) x.shown (at + length x.bytes) i.place after) (sym wrote)
        (item_goes_on p inside i is goes after as_long))

  -- a letter
  module _ (letter : is_letter m cells (get_or text place 0) ≡ true) (w : Written)
      (wrote : wrote_of w ≡ character_in to shown (element_of cells (get_or text place 0)) (get_or text place 0 % bit8 ∷ [])) where
    abbrev character : Item
    character = character_of (element_of cells (get_or text place 0)) (get_or text place 0 % bit8 ∷ []) (place + 1)

    wrote_it : wrote_of w ≡ writes to shown cells character.effect character.bytes
    unfolding writes
    wrote_it = wrote

    pub letter_is_small : w.piece.count ≤ 5
    letter_is_small = piece_is_small character (letter_item m cells text place inside letter) (omega arith) w wrote_it

    pub letter_goes_on : (after : List ℕ) → length after ≡ length buffer →
        (at + w.piece.count ≤ length lent → after ≡ sets buffer at (bytes_in w.piece)) →
        Passes m to text lent cells w.shown.0 (at + w.piece.count) (place + 1) after
    letter_goes_on after as_long stored =
        same_passes (plain_same p.stands (letter_is m cells _ letter).ground (as_word char_word) (element_of cells (get_or text place 0)))
        (piece_goes_on character (letter_item m cells text place inside letter) (omega arith) w wrote_it after as_long stored)
