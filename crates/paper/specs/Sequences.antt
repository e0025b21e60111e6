-- Escape sequences: ESC (1/11), up to two intermediates (column 2), one final (3/0 to 7/14).
use Rattle.std.specs.Prelude.{ℕ, ◌-◌, Bool, leb, eqb}
use Rattle.paper.specs.Choice.{◌gives◌or◌, between}
use Rattle.paper.specs.Words.{Form, Seven, Eight, ControlElement, Element, G0, G1, G2, G3, Kind, Of94, Of96, Count}
use Rattle.paper.specs.Words.{Sets, SequenceByte, Intermediate, Final, Neither, Intermediates, Shift, LS0, LS1}
use Rattle.paper.specs.Words.{LS2, LS3, LS1R, LS2R, LS3R, SS2, SS3, Meaning, NoMeaning, Function, Shifts}
use Rattle.paper.specs.Words.{Refusal, Answer}
use Rattle.paper.specs.Sets.{designated, designated_controls}

abbrev pub is_intermediate : ℕ → Bool
is_intermediate b = between 0x20 0x2F b

abbrev pub first_final : ℕ
first_final = 0x30

abbrev pub last_final : ℕ
last_final = 0x7E

abbrev pub is_final : ℕ → Bool
is_final b = between first_final last_final b

-- which byte continues a sequence, ends it, or may not stand in it
unfoldable pub sequence_byte : ℕ → SequenceByte
sequence_byte b =
    is_intermediate b gives Intermediate or
    is_final b gives Final or
    Neither

-- the C1 function 0 to 31; function 14 is SS2 and 15 SS3
abbrev pub function_of_ss2 : ℕ
function_of_ss2 = 14

abbrev pub function_of_ss3 : ℕ
function_of_ss3 = 15

abbrev pub last_function : ℕ
last_function = 31

unfoldable pub c1_function : ℕ → Meaning
c1_function n =
    eqb n function_of_ss2 gives Shifts SS2 or
    eqb n function_of_ss3 gives Shifts SS3 or
    leb n last_function gives Function n or
    NoMeaning

-- a shift into GR, which has no meaning in 7-bit form (H)
abbrev pub right_shift : Form → Shift → Meaning
right_shift Seven h = NoMeaning
right_shift Eight h = Shifts h

-- 6/14, 6/15: LS2, LS3
abbrev pub final_of_ls2 : ℕ
final_of_ls2 = 0x6E

abbrev pub final_of_ls3 : ℕ
final_of_ls3 = 0x6F

-- F 6/0 to 7/14: LS2, LS3, LS1R, LS2R, LS3R; the rest is other
unfoldable pub shift_or_other : Form → ℕ → Meaning
shift_or_other m f =
    eqb f final_of_ls2 gives Shifts LS2 or
    eqb f final_of_ls3 gives Shifts LS3 or
    eqb f 0x7E gives right_shift m LS1R or
    eqb f 0x7D gives right_shift m LS2R or
    eqb f 0x7C gives right_shift m LS3R or
    Meaning.Other

-- the final of the C1 function 0
abbrev pub final_of_function : ℕ
final_of_function = 0x40

-- ESC F
unfoldable pub meaning_of_none : Form → ℕ → Meaning
meaning_of_none m f =
    between first_final 0x3F f gives Meaning.Other or
    between final_of_function 0x5F f gives c1_function (f - final_of_function) or
    between 0x60 last_final f gives shift_or_other m f or
    NoMeaning

-- 2/8 to 2/11: a 94 set into G0 to G3; 2/13 to 2/15: a 96 set into G1 to G3. The place of a 96 set into G0, 2/12, is not read:
-- G0 is never of 96 type
abbrev pub intermediate_of : Kind → Element → ℕ
intermediate_of Of94 G0 = 0x28
intermediate_of Of94 G1 = 0x29
intermediate_of Of94 G2 = 0x2A
intermediate_of Of94 G3 = 0x2B
intermediate_of Of96 G0 = 0x2C
intermediate_of Of96 G1 = 0x2D
intermediate_of Of96 G2 = 0x2E
intermediate_of Of96 G3 = 0x2F

unfoldable pub designation : ℕ → Count → Meaning
designation i n =
    eqb i (intermediate_of Of94 G0) gives Meaning.Designate G0 Of94 n or
    eqb i (intermediate_of Of94 G1) gives Meaning.Designate G1 Of94 n or
    eqb i (intermediate_of Of94 G2) gives Meaning.Designate G2 Of94 n or
    eqb i (intermediate_of Of94 G3) gives Meaning.Designate G3 Of94 n or
    eqb i (intermediate_of Of96 G1) gives Meaning.Designate G1 Of96 n or
    eqb i (intermediate_of Of96 G2) gives Meaning.Designate G2 Of96 n or
    eqb i (intermediate_of Of96 G3) gives Meaning.Designate G3 Of96 n or
    NoMeaning

-- the intermediate that leads to sets of several bytes
abbrev pub several : ℕ
several = 0x24

-- ESC 2/4 F, F 4/0 to 4/2: a 94 set of 2 bytes into G0
abbrev pub is_short : ℕ → Bool
is_short f = between 0x40 0x42 f

unfoldable pub short_designation : ℕ → Meaning
short_designation f = is_short f gives Meaning.Designate G0 Of94 Count.Two or NoMeaning

-- 2/1, 2/2: designate C0, C1
abbrev pub intermediate_of_controls : ControlElement → ℕ
intermediate_of_controls ControlElement.C0 = 0x21
intermediate_of_controls ControlElement.C1 = 0x22

-- ESC I F, F any final
unfoldable pub by_intermediate : ℕ → ℕ → Meaning
by_intermediate i f =
    eqb i 0x20 gives Meaning.Other or
    eqb i 0x23 gives Meaning.Other or
    eqb i 0x26 gives Meaning.Other or
    eqb i (intermediate_of_controls ControlElement.C0) gives Meaning.DesignateControls ControlElement.C0 or
    eqb i (intermediate_of_controls ControlElement.C1) gives Meaning.DesignateControls ControlElement.C1 or
    eqb i several gives short_designation f or
    designation i Count.One

unfoldable pub meaning_of_one : ℕ → ℕ → Meaning
meaning_of_one i f = is_final f gives by_intermediate i f or NoMeaning

-- one of the seven, F: 2 bytes for F in columns 4 and 5, 3 for column 6; with F in column 3 or 7 no meaning (H)
unfoldable pub several_bytes : ℕ → ℕ → Meaning
several_bytes j f =
    between 0x40 0x5F f gives designation j Count.Two or
    between 0x60 0x6F f gives designation j Count.Three or
    NoMeaning

-- ESC I I F
unfoldable pub meaning_of_two : ℕ → ℕ → ℕ → Meaning
meaning_of_two i j f = eqb i several gives several_bytes j f or NoMeaning

-- the table; every other sequence has no meaning
abbrev pub meaning_of : Form → Intermediates → ℕ → Meaning
meaning_of m Intermediates.None f = meaning_of_none m f
meaning_of m (Intermediates.One i) f = meaning_of_one i f
meaning_of m (Intermediates.Two i j) f = meaning_of_two i j f

-- what the final answers: other with its bytes, the C1 function with C1's set, no meaning refused
abbrev pub sequence_answer : Sets → Meaning → Intermediates → ℕ → Answer
sequence_answer t NoMeaning s f = Answer.Refused Refusal.WithoutMeaning
sequence_answer t Meaning.Other s f = Answer.Other s f
sequence_answer t (Function n) s f = Answer.Control ControlElement.C1 t.c1 n
sequence_answer t (Shifts h) s f = Answer.Shift h
sequence_answer t (Meaning.DesignateControls w) s f = Answer.DesignateControls w f
sequence_answer t (Meaning.Designate e k n) s f = Answer.Designate e (record { kind = k; count = n; last = f })

-- a designation takes effect at its final byte; nothing else changes the sets
abbrev pub sets_after : Sets → Meaning → ℕ → Sets
sets_after t NoMeaning f = t
sets_after t Meaning.Other f = t
sets_after t (Function n) f = t
sets_after t (Shifts h) f = t
sets_after t (Meaning.DesignateControls w) f = designated_controls t w f
sets_after t (Meaning.Designate e k n) f = designated t e (record { kind = k; count = n; last = f })

-- LS0 to LS3: G0 to G3 into GL; LS1R to LS3R: G1 to G3 into GR
abbrev pub gl_after : Element → Shift → Element
gl_after e LS0 = G0
gl_after e LS1 = G1
gl_after e LS2 = G2
gl_after e LS3 = G3
gl_after e LS1R = e
gl_after e LS2R = e
gl_after e LS3R = e
gl_after e SS2 = e
gl_after e SS3 = e

abbrev pub gr_after : Element → Shift → Element
gr_after e LS0 = e
gr_after e LS1 = e
gr_after e LS2 = e
gr_after e LS3 = e
gr_after e LS1R = G1
gr_after e LS2R = G2
gr_after e LS3R = G3
gr_after e SS2 = e
gr_after e SS3 = e
