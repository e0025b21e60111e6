-- A letter is the item that the law of letters says; all else is read.
use Prim.Native.Nat.{ℕ, ◌+◌}
use mathlib.Core.Path.{◌≡◌, sym, ap, ◌∙◌}
use mathlib.Core.List.{List}
use Rattle.escapes.specs.Effects.{plain}
use Rattle.escapes.specs.declared.effect.Effect.{Effect}
use Rattle.items.specs.Items.{Item}
use Rattle.items.proofs.ItemsOfBytes.{letter_item}
use Rattle.shortener.proofs.input.Input.next_item.Goals as goal
use Rattle.escapes.specs.Effects.{as_word}
use Rattle.paper.specs.Results.{char_word}

made : (x y : Effect) (bytes own : List ℕ) (place : ℕ) → x ≡ y → bytes ≡ own →
    ◌≡◌ {A = Item} (record { effect = x; bytes = bytes; place = place }) (record { effect = y; bytes = own; place = place })
made x y bytes own place does has i = record { effect = does i; bytes = has i; place = place }

pub returns-then-is_letter : goal.returns-then-is_letter
returns-then-is_letter c =
    let does = c.plain.ensures ∙ ap (plain (as_word char_word)) c.element_of.ensures in
    made _ _ _ _ (c.args.place + 1) does c.one.ensures.1 ∙ sym (letter_item _ _ _ _ c.requires (sym c.is_letter.ensures ∙ c.if-is_letter.true))
