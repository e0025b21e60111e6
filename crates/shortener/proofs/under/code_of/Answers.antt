-- A character has its element and its number of bytes.
use Prim.Native.Nat.{ℕ}
use mathlib.Core.Path.{◌≡◌, sym, ap, ◌∙◌}
use mathlib.Core.List.{List}
use native.Mathlib.Omega.{arith}
use borrow.Author.Rules.{rules}
use Rattle.paper.specs.Results.{char_word}
use Rattle.paper.specs.declared.Element.{Element}
use Rattle.escapes.specs.declared.effect.Effect.{Effect}
use Rattle.escapes.specs.Effects.{word_number}
use Rattle.items.specs.Pieces.{bytes_in}
use Rattle.items.specs.declared.piece.Piece.{Piece}
use Rattle.items.proofs.BytesInANumber.{length_of_bytes}
use Rattle.shortener.specs.declared.code.Code.{Code}
use Rattle.shortener.specs.ByElements.{element_of}
use Rattle.shortener.specs.Under.{code_by, Fit}
use Rattle.shortener.proofs.under.code_of.Goals as goal

character : (cells : List ℕ) (x : Effect) (p : Piece) (own : Element) → word_number x.word ≡ char_word → own ≡ element_of x.value →
    Code.Character own p.count ≡ code_by cells x (bytes_in p)
unfolding code_by
character cells x p own is by =
    ap (λ (e : Element). Code.Character e p.count) by ∙
    ap (λ (n : ℕ). Code.Character (element_of x.value) n) (sym (length_of_bytes p)) ∙ rw is

pub returns-in-CHAR : goal.returns-in-CHAR
returns-in-CHAR c =
    let u = c.args.unit in
    let fit : Fit u.effect u.piece = search rules in
    (character c.args.state.now u.effect u.piece _ (search rules) c.element_of.ensures, omega (arith, fit.small.few))
