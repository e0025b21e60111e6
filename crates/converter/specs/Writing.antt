-- No rule of the paper: for the contracts of private functions.
-- What is written for an item in a form, where GL shows an element in the output: its bytes, and what GL shows then. Elements have the
-- paper's numbers.
use Rattle.std.specs.Prelude.{ℕ, ◌-◌, ◌≡◌, List, [], ◌∷◌, ◌++◌, map, ltb, eqb, get_or}
use Rattle.paper.specs.Choice.{◌gives◌or◌}
use Rattle.paper.specs.CodeTable.{bit8, so, si, esc}
use Rattle.paper.specs.Results.{element_number, char_word, space_word, delete_word, control_word}
use Rattle.paper.specs.Sequences.{function_of_ss2, function_of_ss3, final_of_function}
use Rattle.paper.specs.WrittenForms.{function_bytes, byte_from}
use Rattle.paper.specs.declared.Form.{Form}
use Rattle.paper.specs.declared.Kind.{Kind}
use Rattle.paper.specs.declared.Element.{Element}
use Rattle.paper.specs.declared.GraphicArea.{GraphicArea}
use Rattle.charsets.specs.Sizes.{kind_of}
use Rattle.escapes.specs.declared.effect.Effect.{Effect}
use Rattle.escapes.specs.Effects.{word_number}
use Rattle.items.specs.Pieces.{bytes_in, Small}
use Rattle.items.specs.States.{size_in}
use Rattle.items.specs.declared.piece.Piece.{Piece}
use Rattle.converter.specs.declared.written.Written.{Written}

pub record Wrote : Type 0 where
  pub bytes : List ℕ
  pub shown : ℕ

abbrev pub wrote_of : Written → Wrote
wrote_of w = record { bytes = bytes_in w.piece; shown = w.shown.0 }

-- these bytes, and what GL showed
abbrev pub alone : List ℕ → ℕ → Wrote
alone bytes shown = record { bytes = bytes; shown = shown }

-- SI or SO first where GL shows another element
unfoldable pub shifted_to : ℕ → ℕ → ℕ → List ℕ → Wrote
shifted_to element shift shown bytes = eqb shown element gives alone bytes element or alone (shift ∷ bytes) element

-- a character with these position bytes; of G2 and G3 a single shift first
unfoldable pub in_seven : ℕ → ℕ → List ℕ → Wrote
in_seven shown e bytes =
    eqb e (element_number Element.G0) gives shifted_to (element_number Element.G0) si shown bytes or
    eqb e (element_number Element.G1) gives shifted_to (element_number Element.G1) so shown bytes or
    eqb e (element_number Element.G2) gives alone (function_bytes Form.Seven function_of_ss2 ++ bytes) shown or
    alone (function_bytes Form.Seven function_of_ss3 ++ bytes) shown

unfoldable pub in_eight : ℕ → ℕ → List ℕ → Wrote
in_eight shown e bytes =
    eqb e (element_number Element.G0) gives alone bytes shown or
    eqb e (element_number Element.G1) gives alone (map (byte_from GraphicArea.GR) bytes) shown or
    eqb e (element_number Element.G2) gives alone (function_bytes Form.Eight function_of_ss2 ++ bytes) shown or
    alone (function_bytes Form.Eight function_of_ss3 ++ bytes) shown

abbrev pub character_in : Form → ℕ → ℕ → List ℕ → Wrote
character_in Form.Seven shown e bytes = in_seven shown e bytes
character_in Form.Eight shown e bytes = in_eight shown e bytes

-- SPACE or DELETE: in 7-bit form SI first where GL shows a 96-type set
abbrev pub under_kind : Kind → ℕ → List ℕ → Wrote
under_kind Kind.Of94 shown bytes = alone bytes shown
under_kind Kind.Of96 shown bytes = alone (si ∷ bytes) (element_number Element.G0)

abbrev pub space_in : Form → ℕ → List ℕ → List ℕ → Wrote
space_in Form.Seven shown cells bytes = under_kind (kind_of (size_in cells shown)) shown bytes
space_in Form.Eight shown cells bytes = alone bytes shown

-- a control by its byte in 8-bit form: in 7-bit form a C1 function is ESC Fe, and Fe stands four columns before that byte
unfoldable pub control_in : Form → ℕ → List ℕ → Wrote
control_in Form.Seven shown bytes =
    ltb (get_or bytes 0 0) bit8 gives alone bytes shown or alone (esc ∷ (get_or bytes 0 0 - final_of_function) ∷ []) shown
control_in Form.Eight shown bytes = alone bytes shown

unfoldable pub writes : Form → ℕ → List ℕ → Effect → List ℕ → Wrote
writes to shown cells x bytes =
    eqb (word_number x.word) char_word gives character_in to shown x.value bytes or
    eqb (word_number x.word) space_word gives space_in to shown cells bytes or
    eqb (word_number x.word) delete_word gives space_in to shown cells bytes or
    eqb (word_number x.word) control_word gives control_in to shown bytes or
    alone bytes shown

-- what an item's piece has, by its word
pub record Writable (x : Effect) (p : Piece) : Type 0 where
  pub small : Small p
  pub of_control : word_number x.word ≡ control_word → p.count ≡ 1
