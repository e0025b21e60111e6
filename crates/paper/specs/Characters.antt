-- Characters and shifts: what a byte does to a reader that is in step, outside a sequence.
use Rattle.std.specs.Prelude.{ℕ, ◌%◌, ltb, leb, eqb}
use Rattle.paper.specs.Choice.{◌gives◌or◌}
use Rattle.paper.specs.Words.{ControlElement, Element, G2, G3, Kind, Set, SetByte, OfSpace, OfDelete, OfSet}
use Rattle.paper.specs.Words.{Outside, Intermediates, Shift, LS0, LS1, LS2, LS3, LS1R, LS2R, LS3R, SS2, SS3}
use Rattle.paper.specs.Words.{GraphicArea, PositionBytes, Within, Standing, Reader, Refusal, Answer, Answered}
use Rattle.paper.specs.CodeTable.{bit8, so, si, esc}
use Rattle.paper.specs.Sets.{bytes_of, set_byte}
use Rattle.paper.specs.Sequences.{gl_after, gr_after}
use Rattle.paper.specs.Searching.{matched_with, one_more}

-- a reader that stands elsewhere
abbrev pub standing_at : Standing → Reader → Reader
standing_at s r = record { form = r.form; sets = r.sets; gl = r.gl; gr = r.gr; gone = r.gone; standing = s }

-- a complete answer leaves the reader on the ground
abbrev pub says : Answer → Reader → Answered
says a r = record { answer = a; reader = standing_at (Standing.InStep Within.Ground) r }

-- nothing yet
abbrev pub waits : Within → Reader → Answered
waits w r = record { answer = Answer.NothingYet; reader = standing_at (Standing.InStep w) r }

-- after a refusal the reader is lost; the search begins with the refused byte
abbrev pub lost_with : ℕ → Reader → Reader
lost_with b r = standing_at (Standing.Lost (matched_with r.form 0 b) (one_more 0)) r

abbrev pub refuses : Refusal → ℕ → Reader → Answered
refuses n b r = record { answer = Answer.Refused n; reader = lost_with b r }

-- SS2 or SS3 takes one whole character of G2 or G3
abbrev pub after_shift : Shift → Within
after_shift LS0 = Within.Ground
after_shift LS1 = Within.Ground
after_shift LS2 = Within.Ground
after_shift LS3 = Within.Ground
after_shift LS1R = Within.Ground
after_shift LS2R = Within.Ground
after_shift LS3R = Within.Ground
after_shift SS2 = Within.SingleShift G2
after_shift SS3 = Within.SingleShift G3

abbrev pub shifted : Shift → Reader → Reader
shifted h r = record {
  form = r.form;
  sets = r.sets;
  gl = gl_after r.gl h;
  gr = gr_after r.gr h;
  gone = r.gone;
  standing = Standing.InStep (after_shift h);
}

abbrev pub shifts : Shift → Reader → Answered
shifts h r = record { answer = Answer.Shift h; reader = shifted h r }

-- SI and SO; they and ESC keep their places in every C0 set (H)
unfoldable pub c0_byte : ℕ → Reader → Answered
c0_byte b r =
    eqb b esc gives waits (Within.Sequence Intermediates.None) r or
    eqb b so gives shifts LS1 r or
    eqb b si gives shifts LS0 r or
    says (Answer.Control ControlElement.C0 r.sets.c0 b) r

-- the 7-bit position byte: bit 8 is taken off in GR
abbrev pub position_in : GraphicArea → ℕ → ℕ
position_in GraphicArea.GL b = b
position_in GraphicArea.GR b = b % bit8

-- what a byte is to a set whose characters come from this area; a byte of another area is outside
unfoldable pub byte_in : GraphicArea → Kind → ℕ → SetByte
byte_in GraphicArea.GL k b = set_byte k b
byte_in GraphicArea.GR k b = leb bit8 b gives set_byte k (position_in GraphicArea.GR b) or Outside

-- how many position bytes there are so far, and with one more; no set has four to a character
abbrev pub bytes_so_far : PositionBytes → ℕ
bytes_so_far (PositionBytes.One a) = 1
bytes_so_far (PositionBytes.Two a b) = 2
bytes_so_far (PositionBytes.Three a b c) = 3

abbrev pub with_byte : PositionBytes → ℕ → PositionBytes
with_byte (PositionBytes.One a) b = PositionBytes.Two a b
with_byte (PositionBytes.Two a b) c = PositionBytes.Three a b c
with_byte (PositionBytes.Three a b c) d = PositionBytes.Three a b c

-- a character is element, set, and its position bytes, as many as the set has to a character
unfoldable pub character : Element → Set → GraphicArea → PositionBytes → Reader → Answered
character e x a p r =
    ltb (bytes_so_far p) (bytes_of x.count) gives waits (Within.Character e a p) r or
    says (Answer.Char e x p) r

-- a byte after a single shift, inside a character or in GR: under 94 type 2/0 and 7/15 are refused, and 10/0 and 15/15
abbrev pub of_character : SetByte → Element → Set → GraphicArea → PositionBytes → ℕ → Reader → Answered
of_character OfSpace e x a p b r = refuses Refusal.NotOfSet b r
of_character OfDelete e x a p b r = refuses Refusal.NotOfSet b r
of_character OfSet e x a p b r = character e x a p r
of_character Outside e x a p b r = refuses Refusal.AnotherArea b r

-- in GL, on the ground, they are SPACE and DELETE; no byte of GL is outside
abbrev pub first_in_gl : SetByte → Element → Set → ℕ → Reader → Answered
first_in_gl OfSpace e x b r = says Answer.Space r
first_in_gl OfDelete e x b r = says Answer.Delete r
first_in_gl OfSet e x b r = character e x GraphicArea.GL (PositionBytes.One b) r
first_in_gl Outside e x b r = refuses Refusal.AnotherArea b r

-- a character's first byte, and a later one, of the set that the element has
abbrev pub first_byte : Element → Set → GraphicArea → ℕ → Reader → Answered
first_byte e x a b r = of_character (byte_in a x.kind b) e x a (PositionBytes.One (position_in a b)) b r

abbrev pub later_byte : Element → Set → GraphicArea → PositionBytes → ℕ → Reader → Answered
later_byte e x a p b r = of_character (byte_in a x.kind b) e x a (with_byte p (position_in a b)) b r

-- a byte of GL: the set that GL shows
abbrev pub gl_byte : Element → Set → ℕ → Reader → Answered
gl_byte e x b r = first_in_gl (byte_in GraphicArea.GL x.kind b) e x b r

-- a byte of GR
abbrev pub gr_byte : Element → Set → ℕ → Reader → Answered
gr_byte e x b r = first_byte e x GraphicArea.GR b r

-- after a single shift: from GL bytes only (H)
abbrev pub single_byte : Element → Set → ℕ → Reader → Answered
single_byte e x b r = first_byte e x GraphicArea.GL b r
