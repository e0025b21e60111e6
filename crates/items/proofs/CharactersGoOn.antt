-- A character that is read whole: its bytes but the last are answered with nothing yet, and the last with the character.
use Rattle.std.proofs.Common.{◌≡◌, ℕ, ◌+◌, ◌<◌, Bool, true, false, ltb, leb, List, length, get_or, Option}
use Rattle.std.proofs.Common.{sym, refl, ap, ◌∙◌, subst, leb-false, leb-true}
use Rattle.paper.specs.Choice.{◌gives◌or◌}
use Rattle.paper.specs.CodeTable.{form_has}
use Rattle.paper.specs.Sets.{bytes_of, set_in}
use Rattle.paper.specs.Characters.{says, waits, position_in, byte_in, bytes_so_far, with_byte, character, of_character}
use Rattle.paper.specs.Results.{element_number, position_values}
use Rattle.paper.specs.declared.Form.{Form}
use Rattle.paper.specs.declared.Kind.{Kind}
use Rattle.paper.specs.declared.Count.{Count}
use Rattle.paper.specs.declared.Element.{Element}
use Rattle.paper.specs.declared.Set.{Set}
use Rattle.paper.specs.declared.Sets.{Sets}
use Rattle.paper.specs.declared.SetByte.{SetByte}
use Rattle.paper.specs.declared.GraphicArea.{GraphicArea}
use Rattle.paper.specs.declared.PositionBytes.{PositionBytes}
use Rattle.paper.specs.declared.Within.{Within}
use Rattle.paper.specs.declared.Reader.{Reader}
use Rattle.paper.specs.declared.Refusal.{Refusal}
use Rattle.paper.specs.declared.Answer.{Answer}
use Rattle.paper.proofs.AnswersWithoutTheRecord.{answer_of}
use Rattle.paper.proofs.Choices.{impossible, gives_by}
use Rattle.charsets.specs.Sizes.{size_of_set, kind_of, count_of}
use Rattle.charsets.proofs.SizesKept.{kind_kept, count_kept}
use Rattle.items.specs.States.{size_in, Single, cells_of}
use Rattle.items.specs.Items.{Item, character_of, refusal_of_byte, later_at, taken_or, of_three, third_of_three, by_count, character_at}
use Rattle.items.proofs.ItemsByBytes.{WaitsOn, here, cells, IsGood, At, in_form_here, not_in_form, waits_on, says_well, stops_at}
use Rattle.items.proofs.ItemsByBytes.{ends_inside}
use Rattle.escapes.specs.Effects.{as_word}
use Rattle.paper.specs.Results.{char_word}

-- ---- sizes

size_in_lem : (r : Reader) (single : Single) (left : ℕ) (e : Element) →
    size_in (cells_of r single left) (element_number e) ≡ size_of_set (set_in r.sets e)
size_in_lem r single left Element.G0 = refl
size_in_lem r single left Element.G1 = refl
size_in_lem r single left Element.G2 = refl
size_in_lem r single left Element.G3 = refl

pub kind_in : (r : Reader) (single : Single) (left : ℕ) (e : Element) →
    kind_of (size_in (cells_of r single left) (element_number e)) ≡ (set_in r.sets e).kind
kind_in r single left e =
    ap kind_of (size_in_lem r single left e) ∙ kind_kept (set_in r.sets e).kind (set_in r.sets e).count

count_in : (r : Reader) (single : Single) (left : ℕ) (e : Element) →
    count_of (size_in (cells_of r single left) (element_number e)) ≡ (set_in r.sets e).count
count_in r single left e =
    ap count_of (size_in_lem r single left e) ∙ count_kept (set_in r.sets e).kind (set_in r.sets e).count

module _ (m : Form) (text : List ℕ) (P : Reader → ℕ → Type 0) (on : WaitsOn text P) (t : Sets) (gl gr : Element) (single : Single)
    (left start : ℕ) where
  abbrev reader : Within → Reader
  reader w = here m text P on t gl gr single left start w

  abbrev Came : Within → ℕ → Type 0
  Came w place = At m text P on t gl gr single left start w place

  abbrev Right : Item → Type 0
  Right i = IsGood m text P on t gl gr single left start i

  abbrev known : List ℕ
  known = cells m text P on t gl gr single left start

  abbrev set : Element → Set
  set e = set_in t e

  abbrev inside_of : Element → GraphicArea → PositionBytes → Within
  inside_of e a ps = Within.Character e a ps

  -- ---- a byte inside a character

  -- it is a position of the set, or it is refused
  by_set_byte_lem : (e : Element) (a : GraphicArea) (ps : PositionBytes) (place : ℕ) (i : Item) → Came (inside_of e a ps) place →
      place < length text → (k : SetByte) →
      answer_of (reader (inside_of e a ps)) (get_or text place 0) ≡
      of_character k e (set e) a (with_byte ps (position_in a (get_or text place 0))) (get_or text place 0) (reader (inside_of e a ps)) →
      (answer_of (reader (inside_of e a ps)) (get_or text place 0) ≡
      character e (set e) a (with_byte ps (position_in a (get_or text place 0))) (reader (inside_of e a ps)) → Right i) →
      Right (taken_or (refusal_of_byte k) place i)
  by_set_byte_lem e a ps place i p below SetByte.OfSpace is right = stops_at m text P on t gl gr single left start Refusal.NotOfSet p below is
  by_set_byte_lem e a ps place i p below SetByte.OfDelete is right = stops_at m text P on t gl gr single left start Refusal.NotOfSet p below is
  by_set_byte_lem e a ps place i p below SetByte.OfSet is right = right is
  by_set_byte_lem e a ps place i p below SetByte.Outside is right =
      stops_at m text P on t gl gr single left start Refusal.AnotherArea p below is

  later_right : (e : Element) (a : GraphicArea) (ps : PositionBytes) (place : ℕ) (i : Item) → Came (inside_of e a ps) place →
      (place < length text → answer_of (reader (inside_of e a ps)) (get_or text place 0) ≡
      character e (set e) a (with_byte ps (position_in a (get_or text place 0))) (reader (inside_of e a ps)) → Right i) →
      Right (taken_or (later_at m a (set e).kind text place) place i)
  unfolding later_at
  later_right e a ps place i p right =
      let Q : Option Refusal → Type 0 = λ (n : Option Refusal). Right (taken_or n place i) in
      let b : ℕ = get_or text place 0 in
      let w : Within = inside_of e a ps in
      gives_by Q (leb (length text) place)
      (λ past. ends_inside m text P on t gl gr single left start p (leb-true (length text) place past) refl)
      (λ not_past. let below : place < length text = leb-false (length text) place not_past in
      gives_by Q (form_has m b)
      (λ has. by_set_byte_lem e a ps place i p below (byte_in a (set e).kind b)
      (in_form_here m text P on t gl gr single left start w b has) (right below))
      (λ lacks. stops_at m text P on t gl gr single left start Refusal.ByteOfEightBits p below
      (not_in_form m text P on t gl gr single left start w b lacks)))

  -- ---- by the count of the set

  -- a character's bytes so far are all, or not yet
  all_bytes_lem : {w : Within} {place : ℕ} → Came w place → place < length text → (e : Element) (a : GraphicArea) (ps : PositionBytes) →
      answer_of (reader w) (get_or text place 0) ≡ character e (set e) a ps (reader w) →
      ltb (bytes_so_far ps) (bytes_of (set e).count) ≡ false → Right (character_of (element_number e) (position_values ps) (place + 1))
  unfolding character
  all_bytes_lem {w} p below e a ps is whole =
      says_well m text P on t gl gr single left start p below (Answer.Char e (set e) ps) (as_word char_word) (element_number e) refl
      (λ n f. impossible (cc)) refl (is ∙ ap (λ (t : Bool). t gives waits (inside_of e a ps) (reader w) or says (Answer.Char e (set e) ps) (reader w)) whole)

  not_yet : {w : Within} {place : ℕ} → Came w place → place < length text → (e : Element) (a : GraphicArea) (ps : PositionBytes) →
      answer_of (reader w) (get_or text place 0) ≡ character e (set e) a ps (reader w) →
      ltb (bytes_so_far ps) (bytes_of (set e).count) ≡ true → Came (inside_of e a ps) (place + 1)
  unfolding character
  not_yet {w} p below e a ps is more =
      waits_on m text P on t gl gr single left start p below (inside_of e a ps)
      (is ∙ ap (λ (t : Bool). t gives waits (inside_of e a ps) (reader w) or says (Answer.Char e (set e) ps) (reader w)) more) tt

  three_right : (e : Element) (a : GraphicArea) (first place : ℕ) → (set e).count ≡ Count.Three →
      Came (inside_of e a (PositionBytes.One first)) place →
      Right (of_three m a (set e).kind (element_number e) first text place)
  three_right e a first place three p =
      let q : ℕ = position_in a (get_or text place 0) in
      later_right e a (PositionBytes.One first) place (third_of_three m a (set e).kind (element_number e) first q text (place + 1)) p
      (λ below is.
      let on : Came (inside_of e a (PositionBytes.Two first q)) (place + 1) =
      not_yet p below e a (PositionBytes.Two first q) is (ap (λ (n : Count). ltb 2 (bytes_of n)) three) in
      later_right e a (PositionBytes.Two first q) (place + 1) _ on
      (λ below is. all_bytes_lem on below e a (PositionBytes.Three first q (position_in a (get_or text (place + 1) 0))) is
      (ap (λ (n : Count). ltb 3 (bytes_of n)) three)))

  by_count_lem : {w : Within} {place : ℕ} → Came w place → place < length text → (e : Element) (a : GraphicArea) (first : ℕ) →
      answer_of (reader w) (get_or text place 0) ≡ character e (set e) a (PositionBytes.One first) (reader w) →
      (n : Count) → (set e).count ≡ n → Right (by_count n m a (set e).kind (element_number e) first text place)
  by_count_lem p below e a first is Count.One one =
      all_bytes_lem p below e a (PositionBytes.One first) is (ap (λ (n : Count). ltb 1 (bytes_of n)) one)
  by_count_lem {w} {place} p below e a first is Count.Two two =
      let on : Came (inside_of e a (PositionBytes.One first)) (place + 1) =
      not_yet p below e a (PositionBytes.One first) is (ap (λ (n : Count). ltb 1 (bytes_of n)) two) in
      later_right e a (PositionBytes.One first) (place + 1) _ on
      (λ below is. all_bytes_lem on below e a (PositionBytes.Two first (position_in a (get_or text (place + 1) 0))) is
      (ap (λ (n : Count). ltb 2 (bytes_of n)) two))
  by_count_lem {w} {place} p below e a first is Count.Three three =
      three_right e a first (place + 1) three
      (not_yet p below e a (PositionBytes.One first) is (ap (λ (n : Count). ltb 1 (bytes_of n)) three))

  -- a character from its first byte on
  pub whole_right : {w : Within} {place : ℕ} → Came w place → place < length text → (e : Element) (a : GraphicArea) (b : ℕ) →
      answer_of (reader w) (get_or text place 0) ≡ character e (set e) a (PositionBytes.One (position_in a b)) (reader w) →
      Right (character_at m (element_number e) (size_in known (element_number e)) a b text place)
  whole_right {w} {place} p below e a b is =
      let v : ℕ = element_number e in
      subst (λ (n : Count). Right (by_count n m a (kind_of (size_in known v)) v (position_in a b) text place))
      (sym (count_in (reader Within.Ground) single left e))
      (subst (λ (k : Kind). Right (by_count (set e).count m a k v (position_in a b) text place))
      (sym (kind_in (reader Within.Ground) single left e))
      (by_count_lem p below e a (position_in a b) is (set e).count refl))
