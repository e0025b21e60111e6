-- No rule of the paper: for the contracts of private functions.
-- The bytes of an item in 7-bit form by what GL shows, and its code, from what the item says.
use Rattle.std.specs.Prelude.{ℕ, ◌+◌, ◌-◌, ◌≤◌, ◌<◌, ◌≡◌, Bool, true, false, List, [], ◌∷◌, ltb, eqb, length, get_or}
use Rattle.paper.specs.Choice.{◌gives◌or◌, one_of}
use Rattle.paper.specs.CodeTable.{bit8, esc}
use Rattle.paper.specs.Sequences.{function_of_ss2, function_of_ss3, final_of_function}
use Rattle.paper.specs.Results.{element_number, nothing_yet_word, char_word, space_word, delete_word, control_word, shift_word}
use Rattle.paper.specs.declared.Kind.{Kind}
use Rattle.paper.specs.declared.Element.{Element}
use Rattle.paper.specs.declared.Element.TheVariants.{G0, G1, G2, G3}
use Rattle.charsets.specs.Sizes.{kind_of}
use Rattle.escapes.specs.declared.effect.Effect.{Effect}
use Rattle.escapes.specs.Effects.{word_number}
use Rattle.items.specs.Pieces.{Small}
use Rattle.items.specs.States.{size_in}
use Rattle.items.specs.declared.piece.Piece.{Piece}
use Rattle.shortest.specs.ShortestText.{is_shown, rank}
use Rattle.shortener.specs.ByElements.{by_element, element_of}
use Rattle.shortener.specs.Codes.{place_of_rank}
use Rattle.shortener.specs.declared.by_element.ByElement.{ByElement}
use Rattle.shortener.specs.declared.code.Code.{Code}

-- a control by its byte in 8-bit form: a C1 function is ESC Fe, and Fe stands four columns before that byte
unfoldable pub control_in_seven : List ℕ → List ℕ
control_in_seven bytes = ltb (get_or bytes 0 0) bit8 gives bytes or esc ∷ (get_or bytes 0 0 - final_of_function) ∷ []

unfoldable pub alike : ℕ → List ℕ → List ℕ
alike word bytes = eqb word control_word gives control_in_seven bytes or bytes

-- a character of an element while GL shows another: by a single shift, where there is one
abbrev pub alone_under : Element → List ℕ → List ℕ
alone_under G0 bytes = bytes
alone_under G1 bytes = bytes
alone_under G2 bytes = esc ∷ (final_of_function + function_of_ss2) ∷ bytes
alone_under G3 bytes = esc ∷ (final_of_function + function_of_ss3) ∷ bytes

abbrev pub character_under : Element → Element → List ℕ → List ℕ
character_under shown own bytes = is_shown shown own gives bytes or alone_under own bytes

unfoldable pub under : Element → Effect → List ℕ → List ℕ
under shown x bytes =
    eqb (word_number x.word) char_word gives character_under shown (element_of x.value) bytes or alike (word_number x.word) bytes

abbrev pub alike_code_of : ℕ → List ℕ → Code
alike_code_of word bytes = Code.Alike (place_of_rank (rank (alike word bytes))) (length (alike word bytes))

abbrev pub kinds_in : List ℕ → ByElement Kind
kinds_in cells = by_element (λ e. kind_of (size_in cells (element_number e)))

unfoldable pub code_by : List ℕ → Effect → List ℕ → Code
code_by cells x bytes =
    eqb (word_number x.word) char_word gives Code.Character (element_of x.value) (length bytes) or
    eqb (word_number x.word) space_word gives Code.SpaceOrDelete (kinds_in cells) or
    eqb (word_number x.word) delete_word gives Code.SpaceOrDelete (kinds_in cells) or
    alike_code_of (word_number x.word) bytes

-- a shift is no unit
unfoldable pub is_unit : ℕ → Bool
is_unit word = one_of (nothing_yet_word ∷ shift_word ∷ []) word gives false or true

-- what an item's piece has: a byte, four at the most, a character three and a control one
pub record Fit (x : Effect) (p : Piece) : Type 0 where
  pub small : Small p
  pub some : 1 ≤ p.count
  pub of_character : word_number x.word ≡ char_word → p.count ≤ 3
  pub of_control : word_number x.word ≡ control_word → p.count ≡ 1

-- five bytes at the most, so that there is room for a shift in front
pub record Room (p : Piece) : Type 0 where
  pub few : p.count ≤ 5
  pub low : p.bytes < 0x1000000000000
