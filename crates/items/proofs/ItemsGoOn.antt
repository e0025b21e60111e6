-- An item is right, whatever it is: by where the reader stands and by the byte's area.
use Rattle.std.proofs.Common.{◌≡◌, ℕ, ◌+◌, ◌-◌, ◌<◌, ◌≤◌, Bool, true, false, eqb, ◌⊎◌, List, [], length, get_or, drop, sym, refl}
use Rattle.std.proofs.Common.{ap, ◌∙◌, subst, inl, inr, arith, le-ltb, lt-ltb, ne_eqb, eqb-true, le-leb}
use borrow.Author.Tests.{lt-leb}
use Rattle.paper.specs.Choice.{◌gives◌or◌, between}
use Rattle.paper.specs.CodeTable.{area_of, form_has, bit8, so, si, esc}
use Rattle.paper.specs.Starting.{opening}
use Rattle.paper.specs.Searching.{begins_with}
use Rattle.paper.specs.Sets.{space, delete, set_in, set_byte}
use Rattle.paper.specs.Sequences.{c1_function}
use Rattle.paper.specs.Characters.{waits, shifts, says, position_in, byte_in, c0_byte, of_character, first_in_gl}
use Rattle.paper.specs.Answering.{ground_at}
use Rattle.paper.specs.Results.{element_number}
use Rattle.paper.specs.declared.Area.{Area}
use Rattle.paper.specs.declared.Form.{Form}
use Rattle.paper.specs.declared.Kind.{Kind}
use Rattle.paper.specs.declared.Kind.TheVariants.{Of94, Of96}
use Rattle.paper.specs.declared.ControlElement.{ControlElement}
use Rattle.paper.specs.declared.Element.{Element}
use Rattle.paper.specs.declared.Sets.{Sets}
use Rattle.paper.specs.declared.SetByte.{SetByte}
use Rattle.paper.specs.declared.GraphicArea.{GraphicArea}
use Rattle.paper.specs.declared.Intermediates.{Intermediates}
use Rattle.paper.specs.declared.PositionBytes.{PositionBytes}
use Rattle.paper.specs.declared.Shift.{Shift}
use Rattle.paper.specs.declared.Within.{Within}
use Rattle.paper.specs.declared.Standing.{Standing}
use Rattle.paper.specs.declared.Reader.{Reader}
use Rattle.paper.specs.declared.Refusal.{Refusal}
use Rattle.paper.specs.declared.Answer.{Answer}
use Rattle.paper.proofs.AnswersWithoutTheRecord.{answer_of}
use Rattle.paper.proofs.Choices.{impossible, gives_by}
use Rattle.paper.proofs.OpeningsTakenWhole.{Elsewhere}
use Rattle.escapes.specs.declared.effect.Word.{Word}
use Rattle.items.specs.States.{single_in, size_in, element_of, Single, none, one, single_number, within_of, cells_of, Stands}
use Rattle.items.specs.Items.{Item, refused, control_at, graphic_area, element_in, not_of_set_at, by_set_byte, graphic_in}
use Rattle.items.specs.Items.{graphic_at, is_control}
use Rattle.items.specs.Items.{control_or_sequence, item_of_byte, opens_at, item_at}
use Rattle.items.proofs.AreasOfBytes.{c0_bound, gl_bound, c1_bound, gr_bound}
use Rattle.items.proofs.ItemsByBytes.{WaitsOn, Good, Opens}
use Rattle.items.proofs.ItemsByBytes.{here, cells, IsGood, At, in_form_here, not_in_form, waits_on, says_well, stops_at}
use Rattle.items.proofs.SequencesAsWritten.{of_function}
use Rattle.items.proofs.SequencesGoOn.{shift_right, means_right, after_escape_lem}
use Rattle.items.proofs.CharactersGoOn.{kind_in, whole_right}
use Rattle.escapes.specs.Effects.{as_word}
use Rattle.paper.specs.Results.{space_word, delete_word, control_word}

-- ---- SPACE and DELETE are one byte each

abbrev Is : ℕ → SetByte → Type 0
Is b SetByte.OfSpace = b ≡ space
Is b SetByte.OfDelete = b ≡ delete
Is b SetByte.OfSet = Unit {0}
Is b SetByte.Outside = Unit {0}

set_byte_is : (k : Kind) (b : ℕ) → Is b (set_byte k b)
unfolding set_byte
set_byte_is Of94 b =
    gives_by (Is b) (between space delete b)
    (λ within. gives_by (Is b) (eqb b space) (λ e. eqb-true b space e)
    (λ other. gives_by (Is b) (eqb b delete) (λ e. eqb-true b delete e) (λ e. tt)))
    (λ outside. tt)
set_byte_is Of96 b = gives_by (Is b) (between space delete b) (λ within. tt) (λ outside. tt)

byte_in_gl_is : (k : Kind) (b : ℕ) → Is b (byte_in GraphicArea.GL k b)
unfolding byte_in
byte_in_gl_is k b = set_byte_is k b

-- ---- the rows of `c0_byte`

c0_escape : (b : ℕ) (r : Reader) → eqb b esc ≡ true → c0_byte b r ≡ waits (Within.Sequence Intermediates.None) r
unfolding c0_byte
c0_escape b r e = rw e

c0_so : (b : ℕ) (r : Reader) → eqb b esc ≡ false → eqb b so ≡ true → c0_byte b r ≡ shifts Shift.LS1 r
unfolding c0_byte
c0_so b r e f = rw (e, f)

c0_si : (b : ℕ) (r : Reader) → eqb b esc ≡ false → eqb b so ≡ false → eqb b si ≡ true → c0_byte b r ≡ shifts Shift.LS0 r
unfolding c0_byte
c0_si b r e f g = rw (e, f, g)

c0_else : (b : ℕ) (r : Reader) → eqb b esc ≡ false → eqb b so ≡ false → eqb b si ≡ false →
    c0_byte b r ≡ says (Answer.Control ControlElement.C0 r.sets.c0 b) r
unfolding c0_byte
c0_else b r e f g = rw (e, f, g)

-- a single shift takes an element
taken_is_some : (e : Element) → eqb (element_number e) 0 ≡ false
taken_is_some Element.G0 = refl
taken_is_some Element.G1 = refl
taken_is_some Element.G2 = refl
taken_is_some Element.G3 = refl

module _ (m : Form) (text : List ℕ) (P : Reader → ℕ → Type 0) (on : WaitsOn text P) (t : Sets) (gl gr : Element) (single : Single)
    (left place : ℕ) where
  abbrev reader : Within → Reader
  reader w = here m text P on t gl gr single left place w

  abbrev ground : Reader
  ground = reader Within.Ground

  abbrev Right : Item → Type 0
  Right i = IsGood m text P on t gl gr single left place i

  abbrev known : List ℕ
  known = cells m text P on t gl gr single left place

  abbrev b : ℕ
  b = get_or text place 0

  abbrev Came : Within → Type 0
  Came w = At m text P on t gl gr single left place w place

  module _ (inside : place < length text) where
    -- the size tells the kind
    by_kind : (u : ℕ) (a : GraphicArea) (e : Element) →
        Right (by_set_byte (byte_in a (set_in t e).kind b) m u a (element_number e) (size_in known (element_number e)) b text place) →
        Right (graphic_in m known u a (element_number e) b text place)
    by_kind u a e right =
        let v : ℕ = element_number e in
        subst (λ (k : Kind). Right (by_set_byte (byte_in a k b) m u a v (size_in known v) b text place)) (sym (kind_in ground single left e)) right

    -- ---- a control on the ground

    module _ (p : Came Within.Ground) (has : form_has m b ≡ true) where
      reads_in : (a : Area) → area_of b ≡ a → answer_of ground b ≡ ground_at a b ground
      reads_in a e =
          in_form_here m text P on t gl gr single left place Within.Ground b has ∙ ap (λ (a : Area). ground_at a b ground) e

      of_c0 : area_of b ≡ Area.C0 → Right (control_or_sequence m b text place)
      unfolding control_or_sequence control_at
      of_c0 area =
          let is : answer_of ground b ≡ c0_byte b ground = reads_in Area.C0 area in
          let low : b < bit8 = c0_bound b area in
          gives_by Right (eqb b esc)
          (λ e. after_escape_lem m text P on t gl gr single left place (place + 1)
          (waits_on m text P on t gl gr single left place p inside (Within.Sequence Intermediates.None) (is ∙ c0_escape b ground e) tt))
          (λ no_esc. rw (lt-leb bit8 b low)
          (gives_by Right (eqb b so)
          (λ e. shift_right m text P on t gl gr single left place Within.Ground place p inside Shift.LS1 (is ∙ c0_so b ground no_esc e))
          (λ no_so. gives_by Right (eqb b si)
          (λ e. shift_right m text P on t gl gr single left place Within.Ground place p inside Shift.LS0 (is ∙ c0_si b ground no_esc no_so e))
          (λ no_si. says_well m text P on t gl gr single left place p inside (Answer.Control ControlElement.C0 t.c0 b) (as_word control_word) b refl
          (λ n e. impossible (cc)) (refl, low) (is ∙ c0_else b ground no_esc no_so no_si)))))

      of_c1 : area_of b ≡ Area.C1 → Right (control_or_sequence m b text place)
      unfolding control_or_sequence control_at
      of_c1 area =
          let high : bit8 ≤ b = c1_bound b area in
          rw (ne_eqb b esc (λ e. omega (arith, high)), le-leb bit8 b high)
          (means_right m text P on t gl gr single left place Within.Ground place p inside (c1_function (b - bit8)) Intermediates.None []
          (of_function m Intermediates.None b [] (b - bit8)) (reads_in Area.C1 area))

      -- ---- a byte of GL on the ground

      in_gl : b < bit8 → (k : SetByte) → Is b k → answer_of ground b ≡ first_in_gl k gl (set_in t gl) b ground →
          Right (by_set_byte k m 0 GraphicArea.GL (element_number gl) (size_in known (element_number gl)) b text place)
      unfolding not_of_set_at
      in_gl low SetByte.OfSpace e is =
          rw (lt-ltb b bit8 low, e)
          (says_well m text P on t gl gr single left place p inside Answer.Space (as_word space_word) 0 refl (λ n f. impossible (cc)) tt is)
      in_gl low SetByte.OfDelete e is =
          rw (lt-ltb b bit8 low, e)
          (says_well m text P on t gl gr single left place p inside Answer.Delete (as_word delete_word) 0 refl (λ n f. impossible (cc)) tt is)
      in_gl low SetByte.OfSet e is = whole_right m text P on t gl gr single left place p inside gl GraphicArea.GL b is
      in_gl low SetByte.Outside e is = stops_at m text P on t gl gr single left place Refusal.AnotherArea p inside is

    -- ---- a byte of GR on the ground, or after a single shift: both are read as a character's first byte

    first_right : {w : Within} → Came w → (u : ℕ) (a : GraphicArea) (e : Element) →
        ((word : Word) → not_of_set_at u b word place (place + 1) ≡ refused Refusal.NotOfSet place) → (k : SetByte) →
        answer_of (reader w) b ≡ of_character k e (set_in t e) a (PositionBytes.One (position_in a b)) b (reader w) →
        Right (by_set_byte k m u a (element_number e) (size_in known (element_number e)) b text place)
    first_right p u a e not-of-set SetByte.OfSpace is =
        subst Right (sym (not-of-set (as_word space_word))) (stops_at m text P on t gl gr single left place Refusal.NotOfSet p inside is)
    first_right p u a e not-of-set SetByte.OfDelete is =
        subst Right (sym (not-of-set (as_word delete_word))) (stops_at m text P on t gl gr single left place Refusal.NotOfSet p inside is)
    first_right p u a e not-of-set SetByte.OfSet is = whole_right m text P on t gl gr single left place p inside e a b is
    first_right p u a e not-of-set SetByte.Outside is =
        stops_at m text P on t gl gr single left place Refusal.AnotherArea p inside is

    -- ---- by the byte's area

    graphic_in_gl : Came Within.Ground → form_has m b ≡ true → area_of b ≡ Area.GL → Right (graphic_at m known 0 b text place)
    unfolding graphic_area element_in element_of
    graphic_in_gl p has area =
        let low : b < bit8 = gl_bound b area in
        rw (lt-ltb b bit8 low)
        (by_kind 0 GraphicArea.GL gl
        (in_gl p has low (byte_in GraphicArea.GL (set_in t gl).kind b) (byte_in_gl_is (set_in t gl).kind b) (reads_in p has Area.GL area)))

    graphic_in_gr : Came Within.Ground → form_has m b ≡ true → area_of b ≡ Area.GR → Right (graphic_at m known 0 b text place)
    unfolding graphic_area element_in element_of not_of_set_at
    graphic_in_gr p has area =
        let high : bit8 ≤ b = gr_bound b area in
        rw (le-ltb b bit8 high)
        (by_kind 0 GraphicArea.GR gr
        (first_right p 0 GraphicArea.GR gr (λ word. rw (le-ltb b bit8 high)) (byte_in GraphicArea.GR (set_in t gr).kind b)
        (reads_in p has Area.GR area)))

    by_area : Came Within.Ground → form_has m b ≡ true → (a : Area) → area_of b ≡ a →
        Right (is_control a gives control_or_sequence m b text place or graphic_at m known 0 b text place)
    by_area p has Area.C0 area = of_c0 p has area
    by_area p has Area.GL area = graphic_in_gl p has area
    by_area p has Area.C1 area = of_c1 p has area
    by_area p has Area.GR area = graphic_in_gr p has area

    after_single : (e : Element) → Came (Within.SingleShift e) → form_has m b ≡ true →
        Right (graphic_at m known (element_number e) b text place)
    unfolding graphic_area element_in not_of_set_at
    after_single e p has =
        rw (taken_is_some e)
        (by_kind (element_number e) GraphicArea.GL e
        (first_right p (element_number e) GraphicArea.GL e (λ word. rw (taken_is_some e)) (byte_in GraphicArea.GL (set_in t e).kind b)
        (in_form_here m text P on t gl gr single left place (Within.SingleShift e) b has)))

    -- ---- by where the reader stands

    by_single : (u : Single) → Came (within_of u) → Right (item_of_byte m known (single_number u) b text place)
    unfolding item_of_byte
    by_single none p =
        gives_by Right (form_has m b) (λ has. by_area p has (area_of b) refl)
        (λ lacks. stops_at m text P on t gl gr single left place Refusal.ByteOfEightBits p inside
        (not_in_form m text P on t gl gr single left place Within.Ground b lacks))
    by_single (one e) p =
        rw (taken_is_some e)
        (gives_by Right (form_has m b) (λ has. after_single e p has)
        (λ lacks. stops_at m text P on t gl gr single left place Refusal.ByteOfEightBits p inside
        (not_in_form m text P on t gl gr single left place (Within.SingleShift e) b lacks)))

    -- where it is no opening
    item_right : opens_at m known text place ≡ false → Came (within_of single) → Right (item_at m known text place)
    unfolding item_at
    item_right other p = rw (lt-leb (length text) place inside, other) (by_single single p)

-- no opening is read at a place: none stands there, or the reader is elsewhere than on the ground
abbrev pub ReadsOn : Form → List ℕ → Reader → ℕ → Type 0
ReadsOn m text r place = Elsewhere r.standing ⊎ (begins_with (drop place text) (opening m) ≡ false)

-- which of the two it is
data Whether (m : Form) (text known : List ℕ) (r : Reader) (place : ℕ) : Type 0 where
  opening_here : r.standing ≡ Standing.InStep Within.Ground → begins_with (drop place text) (opening m) ≡ true →
      opens_at m known text place ≡ true → Whether m text known r place
  none_here : ReadsOn m text r place → opens_at m known text place ≡ false → Whether m text known r place

whether : (m : Form) (text known : List ℕ) (r : Reader) (place : ℕ) → Stands known r → Whether m text known r place
unfolding opens_at
whether m text known r place s = by s.single s.has s.stands
  where
    by : (u : Single) → known ≡ cells_of r u s.left → r.standing ≡ Standing.InStep (within_of u) → Whether m text known r place
    by none has stands = tell (begins_with (drop place text) (opening m)) refl
      where
        single_is : single_in known ≡ 0
        single_is = ap single_in has

        tell : (t : Bool) → begins_with (drop place text) (opening m) ≡ t → Whether m text known r place
        tell true e = opening_here stands e (rw (single_is, e))
        tell false e = none_here (inr e) (rw (single_is, e))
    by (one e) has stands =
        let single_is : single_in known ≡ element_number e = ap single_in has in
        none_here (inl (subst Elsewhere (sym stands) tt)) (rw (single_is, taken_is_some e))

pub items_go_on : (m : Form) (text : List ℕ) (P : Reader → ℕ → Type 0) → WaitsOn text P →
    (r : Reader) (known : List ℕ) (place : ℕ) → (ReadsOn m text r place → P r place) → Stands known r → r.form ≡ m →
    place < length text →
    let i = item_at m known text place in Opens m text r place i ⊎ Good text P place r.sets known i
unfolding item_at
items_go_on m text P on r known place holds s form inside = by (whether m text known r place s)
  where
    right : ReadsOn m text r place → opens_at m known text place ≡ false → Good text P place r.sets known (item_at m known text place)
    right reads other =
        let came : P (here m text P on r.sets r.gl r.gr s.single s.left place (within_of s.single)) place =
        subst (λ (x : Reader). P x place)
        (λ i. record { form = form i; sets = r.sets; gl = r.gl; gr = r.gr; gone = s.nothing_gone i; standing = s.stands i })
        (holds reads) in
        subst (λ (c : List ℕ). opens_at m c text place ≡ false → Good text P place r.sets c (item_at m c text place)) (sym s.has)
        (λ none. item_right m text P on r.sets r.gl r.gr s.single s.left place inside none
        (record { holds = came; from = omega arith; within = omega arith })) other

    by : Whether m text known r place →
        let i = item_at m known text place in Opens m text r place i ⊎ Good text P place r.sets known i
    by (opening_here ground begins opens) =
        inl (record { ground = ground; begins = begins; is = rw (lt-leb (length text) place inside, opens) })
    by (none_here reads other) = inr (right reads other)
