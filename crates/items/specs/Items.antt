-- No rule of the paper: for contracts of this layer.
-- An item of a text from its place on, by the paper's definitions for a byte.
use Rattle.std.specs.Prelude.{ℕ, ◌+◌, ◌-◌, ◌%◌, Bool, true, false, List, [], ◌∷◌, length, drop, nat_eq, nat_le, nat_lt, slice_index, Option, Some, None}
use Rattle.paper.specs.Choice.{◌gives◌or◌}
use Rattle.paper.specs.CodeTable.{area_of, form_has, bit8, so, si, esc}
use Rattle.paper.specs.Starting.{opening}
use Rattle.paper.specs.Searching.{begins_with}
use Rattle.paper.specs.Results.{element_number, control_size, control_word, shift_word, refused_word}
use Rattle.paper.specs.Sequences.{sequence_byte, meaning_of, c1_function, intermediate_of, several, is_short, intermediate_of_controls}
use Rattle.paper.specs.Characters.{position_in, byte_in}
use Rattle.paper.specs.WrittenForms.{sequence_bytes}
use Rattle.paper.specs.Refusals.{number_of}
use Rattle.paper.specs.declared.Area.{Area}
use Rattle.paper.specs.declared.Form.{Form}
use Rattle.paper.specs.declared.ControlElement.{ControlElement}
use Rattle.paper.specs.declared.Kind.{Kind}
use Rattle.paper.specs.declared.Count.{Count}
use Rattle.paper.specs.declared.Element.{Element}
use Rattle.paper.specs.declared.SetByte.{SetByte}
use Rattle.paper.specs.declared.SequenceByte.{SequenceByte}
use Rattle.paper.specs.declared.Intermediates.{Intermediates}
use Rattle.paper.specs.declared.GraphicArea.{GraphicArea}
use Rattle.paper.specs.declared.Refusal.{Refusal}
use Rattle.charsets.specs.Sizes.{kind_of, count_of}
use Rattle.escapes.specs.Effects.{word_number, plain, shows_in_gl, effect_of}
use Rattle.escapes.specs.declared.effect.Word.{Word}
use Rattle.escapes.specs.declared.effect.Effect.{Effect}
use Rattle.items.specs.Pieces.{bytes_in}
use Rattle.items.specs.States.{single_in, size_in, element_of}
use Rattle.items.specs.declared.item.Item as declared
use Rattle.escapes.specs.Effects.{opening_word, past_word, as_word}
use Rattle.paper.specs.Results.{char_word, space_word, delete_word}

-- what it does, its bytes, and the place after it. Of a character the value is its element and the bytes are its position bytes; an opening
-- has none; the bytes of all else are what it is written as in 8-bit form
pub record Item : Type 0 where
  pub effect : Effect
  pub bytes : List ℕ
  pub place : ℕ

abbrev pub item_of : declared.Item → Item
item_of i = record { effect = i.effect; bytes = bytes_in i.piece; place = i.place }

abbrev pub character_of : ℕ → List ℕ → ℕ → Item
character_of element bytes place = record { effect = plain (as_word char_word) element; bytes = bytes; place = place }

-- a shift, an opening, what is past the end of a text, and a refusal, which has its number and its place
abbrev pub without_bytes : Effect → ℕ → Item
without_bytes x place = record { effect = x; bytes = []; place = place }

abbrev pub refused : Refusal → ℕ → Item
refused n place = without_bytes (plain (as_word refused_word) (number_of n)) place

-- an opening is an item of its own, taken whole: the place after it
abbrev pub opening_item : ℕ → Item
opening_item place = without_bytes (plain (as_word opening_word) 0) place

abbrev pub past_the_end : ℕ → Item
past_the_end place = without_bytes (plain (as_word past_word) 0) place

-- ---- sequences

-- a byte that is neither intermediate nor final; what the form does not have is refused first
unfoldable pub not_of_sequence : Form → ℕ → ℕ → Item
not_of_sequence m b place = form_has m b gives refused Refusal.NotOfSequence place or refused Refusal.ByteOfEightBits place

abbrev pub by_sequence_byte : SequenceByte → Form → ℕ → ℕ → Item → Item → Item
by_sequence_byte SequenceByte.Intermediate m b place on end = on
by_sequence_byte SequenceByte.Final m b place on end = end
by_sequence_byte SequenceByte.Neither m b place on end = not_of_sequence m b place

-- the byte at a place inside a sequence: it goes on, it ends, or it is refused
unfoldable pub inside_at : Form → List ℕ → ℕ → Item → Item → Item
inside_at m text place on end =
    nat_le (length text) place gives refused Refusal.EndsInside place or
    by_sequence_byte (sequence_byte (slice_index text place)) m (slice_index text place) place on end

-- of a shift nothing is written, of a C1 function its byte
unfoldable pub bytes_meant : Effect → List ℕ → List ℕ
bytes_meant x bytes =
    nat_eq (word_number x.word) shift_word gives [] or
    nat_eq (word_number x.word) control_word gives (bit8 + x.value % control_size) ∷ [] or
    bytes

-- a sequence or a C1 function that does this and has these bytes; the place of its last byte, and the next
unfoldable pub meant_at : Effect → List ℕ → ℕ → ℕ → Item
meant_at x bytes place next =
    nat_eq (word_number x.word) refused_word gives refused Refusal.WithoutMeaning place or
    record { effect = x; bytes = bytes_meant x bytes; place = next }

-- what is written for a set of several bytes, by its intermediate: into G0 the short sequence where there is one
unfoldable pub several_bytes_of : ℕ → ℕ → List ℕ
several_bytes_of i f =
    nat_eq i (intermediate_of Kind.Of94 Element.G0) gives
    (is_short f gives sequence_bytes (Intermediates.One several) f or sequence_bytes (Intermediates.Two several i) f) or
    sequence_bytes (Intermediates.Two several i) f

-- a sequence is written as it was read, but for the one of several bytes that has a short form
abbrev pub bytes_read : Intermediates → ℕ → List ℕ
bytes_read Intermediates.None f = sequence_bytes Intermediates.None f
bytes_read (Intermediates.One i) f = sequence_bytes (Intermediates.One i) f
bytes_read (Intermediates.Two i j) f = several_bytes_of j f

-- the final at a place, after these intermediates
abbrev pub final_at : Form → Intermediates → List ℕ → ℕ → Item
final_at m i text place =
    meant_at (effect_of (meaning_of m i (slice_index text place))) (bytes_read i (slice_index text place)) place (place + 1)

abbrev pub after_two : Form → ℕ → ℕ → List ℕ → ℕ → Item
after_two m i j text place =
    inside_at m text place (refused Refusal.ThirdIntermediate place) (final_at m (Intermediates.Two i j) text place)

abbrev pub after_one : Form → ℕ → List ℕ → ℕ → Item
after_one m i text place =
    inside_at m text place (after_two m i (slice_index text place) text (place + 1)) (final_at m (Intermediates.One i) text place)

abbrev pub after_escape : Form → List ℕ → ℕ → Item
after_escape m text place =
    inside_at m text place (after_one m (slice_index text place) text (place + 1)) (final_at m Intermediates.None text place)

-- SO or SI: GL shows the element
abbrev pub shifts : ℕ → ℕ → Item
shifts element next = without_bytes (shows_in_gl element) next

-- a byte of C0 or C1 that is not ESC: a byte of C1 is what ESC and its final are
unfoldable pub control_at : ℕ → ℕ → ℕ → Item
control_at b place next =
    nat_le bit8 b gives meant_at (effect_of (c1_function (b - bit8))) [] place next or
    nat_eq b so gives shifts (element_number Element.G1) next or
    nat_eq b si gives shifts (element_number Element.G0) next or
    record { effect = plain (as_word control_word) b; bytes = b ∷ []; place = next }

-- ---- characters

-- why a later byte of a character is refused, if it is
abbrev pub refusal_of_byte : SetByte → Option Refusal
refusal_of_byte SetByte.OfSpace = Some Refusal.NotOfSet
refusal_of_byte SetByte.OfDelete = Some Refusal.NotOfSet
refusal_of_byte SetByte.OfSet = None
refusal_of_byte SetByte.Outside = Some Refusal.AnotherArea

-- the byte at a place inside a character
unfoldable pub later_at : Form → GraphicArea → Kind → List ℕ → ℕ → Option Refusal
later_at m a k text place =
    nat_le (length text) place gives Some Refusal.EndsInside or
    form_has m (slice_index text place) gives refusal_of_byte (byte_in a k (slice_index text place)) or
    Some Refusal.ByteOfEightBits

abbrev pub taken_or : Option Refusal → ℕ → Item → Item
taken_or None place item = item
taken_or (Some n) place item = refused n place

abbrev pub of_two : Form → GraphicArea → Kind → ℕ → ℕ → List ℕ → ℕ → Item
of_two m a k e p text place =
    taken_or (later_at m a k text place) place (character_of e (p ∷ position_in a (slice_index text place) ∷ []) (place + 1))

abbrev pub third_of_three : Form → GraphicArea → Kind → ℕ → ℕ → ℕ → List ℕ → ℕ → Item
third_of_three m a k e p q text place =
    taken_or (later_at m a k text place) place (character_of e (p ∷ q ∷ position_in a (slice_index text place) ∷ []) (place + 1))

abbrev pub of_three : Form → GraphicArea → Kind → ℕ → ℕ → List ℕ → ℕ → Item
of_three m a k e p text place =
    taken_or (later_at m a k text place) place (third_of_three m a k e p (position_in a (slice_index text place)) text (place + 1))

abbrev pub by_count : Count → Form → GraphicArea → Kind → ℕ → ℕ → List ℕ → ℕ → Item
by_count Count.One m a k e p text place = character_of e (p ∷ []) (place + 1)
by_count Count.Two m a k e p text place = of_two m a k e p text (place + 1)
by_count Count.Three m a k e p text place = of_three m a k e p text (place + 1)

-- from the first byte on, of a set of this size
abbrev pub character_at : Form → ℕ → ℕ → GraphicArea → ℕ → List ℕ → ℕ → Item
character_at m e x a b text place = by_count (count_of x) m a (kind_of x) e (position_in a b) text place

-- after a single shift from GL alone; none is 0
unfoldable pub graphic_area : ℕ → ℕ → GraphicArea
graphic_area t b = nat_eq t 0 gives (nat_lt b bit8 gives GraphicArea.GL or GraphicArea.GR) or GraphicArea.GL

-- the element that a single shift takes, or that the area shows
unfoldable pub element_in : List ℕ → ℕ → ℕ → ℕ
element_in cells t b = nat_eq t 0 gives element_of cells b or t

-- 2/0 and 7/15 under 94 type: on the ground in GL they are SPACE and DELETE, elsewhere they are refused
unfoldable pub not_of_set_at : ℕ → ℕ → Word → ℕ → ℕ → Item
not_of_set_at t b word place next =
    nat_eq t 0 gives
    (nat_lt b bit8 gives record { effect = plain word 0; bytes = b ∷ []; place = next } or refused Refusal.NotOfSet place) or
    refused Refusal.NotOfSet place

abbrev pub by_set_byte : SetByte → Form → ℕ → GraphicArea → ℕ → ℕ → ℕ → List ℕ → ℕ → Item
by_set_byte SetByte.OfSpace m t a e x b text place = not_of_set_at t b (as_word space_word) place (place + 1)
by_set_byte SetByte.OfDelete m t a e x b text place = not_of_set_at t b (as_word delete_word) place (place + 1)
by_set_byte SetByte.OfSet m t a e x b text place = character_at m e x a b text place
by_set_byte SetByte.Outside m t a e x b text place = refused Refusal.AnotherArea place

-- a byte that is no control, of this element in this area
abbrev pub graphic_in : Form → List ℕ → ℕ → GraphicArea → ℕ → ℕ → List ℕ → ℕ → Item
graphic_in m cells t a e b text place = by_set_byte (byte_in a (kind_of (size_in cells e)) b) m t a e (size_in cells e) b text place

abbrev pub graphic_at : Form → List ℕ → ℕ → ℕ → List ℕ → ℕ → Item
graphic_at m cells t b text place = graphic_in m cells t (graphic_area t b) (element_in cells t b) b text place

-- ---- an item

abbrev pub is_control : Area → Bool
is_control Area.C0 = true
is_control Area.GL = false
is_control Area.C1 = true
is_control Area.GR = false

-- a control on the ground: ESC begins a sequence
unfoldable pub control_or_sequence : Form → ℕ → List ℕ → ℕ → Item
control_or_sequence m b text place = nat_eq b esc gives after_escape m text (place + 1) or control_at b place (place + 1)

-- by the element that a single shift takes; none is 0. After a single shift a control is a byte of another area
unfoldable pub item_of_byte : Form → List ℕ → ℕ → ℕ → List ℕ → ℕ → Item
item_of_byte m cells t b text place =
    form_has m b gives
    (nat_eq t 0 gives
    (is_control (area_of b) gives control_or_sequence m b text place or graphic_at m cells t b text place) or
    graphic_at m cells t b text place) or
    refused Refusal.ByteOfEightBits place

-- the opening of the form stands at a place, and no single shift before it
unfoldable pub opens_at : Form → List ℕ → List ℕ → ℕ → Bool
opens_at m cells text place = nat_eq (single_in cells) 0 gives begins_with (drop place text) (opening m) or false

unfoldable pub item_at : Form → List ℕ → List ℕ → ℕ → Item
item_at m cells text place =
    nat_le (length text) place gives past_the_end place or
    opens_at m cells text place gives opening_item (place + length (opening m)) or
    item_of_byte m cells (single_in cells) (slice_index text place) text place

-- ---- an opening, met inside its first sequence

-- the rest of an opening stands at a place after ESC, or else there is another item
abbrev pub opened_or : Form → List ℕ → ℕ → Item → Item
opened_or m text place else =
    begins_with (drop place text) (drop 1 (opening m)) gives opening_item (place - 1 + length (opening m)) or else

-- the same after ESC and an intermediate
unfoldable pub is_opening : Form → ℕ → List ℕ → ℕ → Bool
is_opening m i text place =
    nat_eq i (intermediate_of_controls ControlElement.C0) gives begins_with (drop place text) (drop 2 (opening m)) or false

abbrev pub after_one_or : Form → ℕ → List ℕ → ℕ → Item
after_one_or m i text place =
    is_opening m i text place gives opening_item (place - 2 + length (opening m)) or after_one m i text place
