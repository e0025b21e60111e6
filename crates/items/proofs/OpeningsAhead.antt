-- Whether the rest of an opening stands at a place, told byte by byte: past the end of a text nothing of it does, and elsewhere the next
-- byte must be its own.
use Rattle.std.proofs.Common.{◌≡◌, ℕ, suc, ◌+◌, ◌-◌, ◌<◌, ◌≤◌, Bool, true, false, eqb, List, [], ◌∷◌, length, get_or, drop, refl}
use Rattle.std.proofs.Common.{ap, ◌∙◌, add-one, arith, length-append, length-drop, drop_of_length-le, drop-cons, ne_eqb}
use Rattle.paper.specs.Choice.{◌gives◌or◌}
use Rattle.paper.specs.Starting.{opening}
use Rattle.paper.specs.Searching.{begins_with}
use Rattle.paper.specs.declared.Form.{Form}
use Rattle.paper.specs.declared.Form.TheVariants.{Seven, Eight}
use Rattle.paper.proofs.Choices.{impossible}
use Rattle.paper.proofs.ListsThatEnd.{begins_rest, begins_byte}
use Rattle.items.specs.Items.{Item, opened_or, is_opening, after_one, after_one_or}

abbrev pub ahead : Form → List ℕ → ℕ → ℕ → Bool
ahead m text place n = begins_with (drop place text) (drop n (opening m))

few : (m : Form) → 2 < length (opening m)
few Seven = omega arith
few Eight = omega arith

module _ (m : Form) (text : List ℕ) (place n : ℕ) (part : n < length (opening m)) where
  abbrev rest : List ℕ
  rest = drop n (opening m)

  abbrev next : ℕ
  next = get_or (opening m) n 0

  pub ahead_past : length text ≤ place → ahead m text place n ≡ false
  ahead_past past =
      ap (λ (l : List ℕ). begins_with l rest) (drop_of_length-le text past) ∙
      ap (begins_with []) (drop-cons (opening m) n 0 part)

  pub ahead_byte : place < length text → ahead m text place n ≡ (eqb (get_or text place 0) next gives ahead m text (suc place) (suc n) or false)
  ahead_byte inside =
      ap (λ (l : List ℕ). begins_with l rest) (drop-cons text place 0 inside) ∙
      ap (begins_with (get_or text place 0 ∷ drop (suc place) text)) (drop-cons (opening m) n 0 part) ∙
      begins_byte (get_or text place 0) (drop (suc place) text) next (drop (suc n) (opening m))

  pub ahead_not : place < length text → (get_or text place 0 ≡ next → ⊥) → ahead m text place n ≡ false
  ahead_not inside other =
      ahead_byte inside ∙ ap (λ (t : Bool). t gives ahead m text (suc place) (suc n) or false) (ne_eqb (get_or text place 0) next other)

-- an item where the rest of an opening is not ahead
pub not_opened : (m : Form) (text : List ℕ) (place : ℕ) (i : Item) → ahead m text place 1 ≡ false → i ≡ opened_or m text place i
not_opened m text place i e = rw e

pub another_byte : (m : Form) (text : List ℕ) (place : ℕ) (i : Item) → place < length text → (get_or text place 0 ≡ 0x21 → ⊥) →
    i ≡ opened_or m text place i
another_byte m text place i inside other = not_opened m text place i (ahead_not m text place 1 (omega (arith, few m)) inside other)

pub not_opened_after : (m : Form) (i : ℕ) (text : List ℕ) (place : ℕ) → is_opening m i text place ≡ false →
    after_one m i text place ≡ after_one_or m i text place
not_opened_after m i text place e = rw e

module _ (m : Form) (i : ℕ) (text : List ℕ) (place : ℕ) where
  not_a_rest : ahead m text place 2 ≡ false → is_opening m i text place ≡ false
  unfolding is_opening
  not_a_rest e = by (eqb i 0x21)
    where
      by : (t : Bool) → (t gives ahead m text place 2 or false) ≡ false
      by true = e
      by false = refl

  pub past_opening : length text ≤ place → is_opening m i text place ≡ false
  past_opening past = not_a_rest (ahead_past m text place 2 (few m) past)

  pub other_final : place < length text → (get_or text place 0 ≡ 0x40 → ⊥) → is_opening m i text place ≡ false
  other_final inside other = not_a_rest (ahead_not m text place 2 (few m) inside other)

-- after ESC: past the end, and by an intermediate
module _ (m : Form) (text : List ℕ) (place : ℕ) where
  pub past_second : length text ≤ place → ahead m text place 1 ≡ false
  past_second past = ahead_past m text place 1 (omega (arith, few m)) past

  pub after_second : 1 ≤ place → place < length text → (i : Item) → i ≡ after_one m (get_or text place 0) text (place + 1) →
      after_one_or m (get_or text place 0) text (place + 1) ≡ opened_or m text place i
  unfolding is_opening
  after_second some inside i is =
      let there : place + 1 - 2 ≡ place - 1 = omega arith in
      rw (ahead_byte m text place 1 (omega (arith, few m)) inside, is, there, ← (add-one place))

-- an opening that is read lies within the text
pub opening_within : (m : Form) (i : ℕ) (text : List ℕ) (place : ℕ) → 2 ≤ place →
    is_opening m i text place ≡ true → place - 2 + length (opening m) ≤ length text
unfolding is_opening
opening_within m i text place some e =
    let begins : ahead m text place 2 ≡ true = by (eqb i 0x21) e in
    let rest : List ℕ = drop 2 (opening m) in
    let is = begins_rest (drop place text) rest begins in
    omega (
      arith,
      ap length is,
      length-append rest (drop (length rest) (drop place text)),
      length-drop place text,
      length-drop 2 (opening m),
      few m,
    )
  where
    by : (t : Bool) → (t gives ahead m text place 2 or false) ≡ true → ahead m text place 2 ≡ true
    by true h = h
    by false h = impossible (cc)
