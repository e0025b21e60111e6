-- A pass goes on over bytes that are copied one after another, by the law of an item for each.
use Prim.Native.Nat.{ℕ, zero, suc, ◌+◌, ◌≤◌, ◌<◌}
use mathlib.Core.Path.{◌≡◌, refl, sym, ap, ◌∙◌, subst}
use mathlib.Core.Bool.{true}
use mathlib.Core.List.{List, [], ◌∷◌, ◌++◌}
use native.Mathlib.Nat.{add-zero, add-suc, suc-add}
use native.Mathlib.Numerals.{add-one}
use native.Mathlib.Omega.{arith}
use lib.ListN.{length, length-append, get_or, set, take, drop}
use lib.Seq.{sets, length-sets}
use Rattle.std.proofs.lemmas.List.{length-map, length-take-le, length-drop, get_or-drop, map_more}
use Rattle.paper.specs.Conversions.{output}
use Rattle.paper.specs.Results.{refused_word}
use Rattle.paper.specs.declared.Form.{Form}
use Rattle.escapes.specs.Effects.{plain}
use Rattle.escapes.specs.Effects.{word_number}
use Rattle.escapes.specs.declared.effect.Word.{Word}
use Rattle.items.specs.States.{single_in, changed}
use Rattle.items.specs.Items.{item_at}
use Rattle.items.proofs.StatesKept.{Same, same_stands, plain_same}
use Rattle.lane.specs.Passing.{passes}
use Rattle.converter.specs.Passing.{rest_from, Passes}
use Rattle.converter.specs.Writing.{Wrote, alone, writes}
use Rattle.converter.specs.Runs.{copied_by, copied_bytes, Copies}
use Rattle.converter.specs.declared.run.Way.{Way}
use Rattle.converter.proofs.PassByItems.{item_goes_on}

-- ---- bytes stored after others

pub sets_more : (l : List ℕ) (i : ℕ) (bytes more : List ℕ) → sets l i (bytes ++ more) ≡ sets (sets l i bytes) (i + length bytes) more
sets_more l i [] more = ap (λ (n : ℕ). sets l n more) (sym (add-zero i))
sets_more l i (b ∷ bytes) more =
    sets_more (set l i b) (suc i) bytes more ∙
    ap (λ (n : ℕ). sets (sets (set l i b) (suc i) bytes) n more) (suc-add i (length bytes) ∙ sym (add-suc i (length bytes)))

copied_length : (way : Way) (text : List ℕ) (place n : ℕ) → place + n ≤ length text → length (copied_bytes way text place n) ≡ n
copied_length way text place n inside =
    length-map (take n (drop place text)) (copied_by way) ∙ length-take-le n (drop place text) (omega (arith, length-drop place text))

-- one byte more
copied_more : (way : Way) (text buffer : List ℕ) (place at n : ℕ) → place + n < length text →
    set (sets buffer at (copied_bytes way text place n)) (at + n) (copied_by way (get_or text (place + n) 0)) ≡
    sets buffer at (copied_bytes way text place (suc n))
copied_more way text buffer place at n inside =
    let bytes = copied_bytes way text place n in
    let copy = copied_by way (get_or text (place + n) 0) in
    let more : copied_bytes way text place (suc n) ≡ bytes ++ (copy ∷ []) =
    ap (λ (k : ℕ). copied_bytes way text place k) (sym (add-one n)) ∙
    map_more (copied_by way) (drop place text) n 0 (omega (arith, length-drop place text)) ∙
    ap (λ (b : ℕ). bytes ++ (copied_by way b ∷ [])) (get_or-drop place text n 0) in
    ap (λ (k : ℕ). set (sets buffer at bytes) (at + k) copy) (sym (copied_length way text place n (omega arith))) ∙
    sym (sets_more buffer at bytes (copy ∷ [])) ∙
    ap (sets buffer at) (sym more)

-- ---- a pass goes on

module _ {m to : Form} {text lent : List ℕ} {shown at place : ℕ} {buffer : List ℕ} where
  -- whatever stands in the cell that nothing reads
  pub same_passes : {c d : List ℕ} → Same c d → Passes m to text lent c shown at place buffer →
      Passes m to text lent d shown at place buffer
  same_passes same p = record {
    reader = p.reader;
    gl = p.gl;
    shown_is = p.shown_is;
    of_two = p.of_two;
    stands = same_stands same p.stands;
    passing = p.passing;
  }

  -- a buffer without room for what was written so far has none for the output
  stays : {cells : List ℕ} → Passes m to text lent cells shown at place buffer → (after : List ℕ) → length after ≡ length buffer →
      (at ≤ length lent → after ≡ buffer) → Passes m to text lent cells shown at place after
  stays p after long stored =
      let q = p.passing in
      let rest = rest_from to p.reader p.gl place text in
      let most : at ≤ length (output m to text) = omega (arith, q.counted, ap length q.whole, length-append q.so_far rest) in
      record {
        reader = p.reader;
        gl = p.gl;
        shown_is = p.shown_is;
        of_two = p.of_two;
        stands = p.stands;
        passing = record {
          within = q.within;
          in_step = q.in_step;
          form = q.form;
          shows = q.shows;
          refused = q.refused;
          so_far = q.so_far;
          whole = q.whole;
          counted = q.counted;
          as_long = long ∙ q.as_long;
          wrote = λ h. stored (omega arith) ∙ q.wrote h;
        };
      }

-- an item that changes nothing, for which these bytes are written
pub plain_goes_on : {m to : Form} {text lent cells : List ℕ} {shown at place : ℕ} {buffer : List ℕ} →
    Passes m to text lent cells shown at place buffer → place < length text → single_in cells ≡ 0 → (word : Word) (value : ℕ) (bytes : List ℕ) →
    word_number word < refused_word → item_at m cells text place ≡ record { effect = plain word value; bytes = bytes; place = place + 1 } →
    (out : List ℕ) (then : ℕ) → writes to shown cells (plain word value) bytes ≡ alone out then →
    (after : List ℕ) → length after ≡ length buffer → (at + length out ≤ length lent → after ≡ sets buffer at out) →
    Passes m to text lent cells then (at + length out) (place + 1) after
plain_goes_on {m} {to} {text} {lent} {cells} {shown} {at} {place} {buffer} p inside ground word value bytes goes reads out then wrote after
    long stored =
    same_passes (plain_same p.stands ground word value)
    (subst (λ (w : Wrote). (at + length w.bytes ≤ length lent → after ≡ sets buffer at w.bytes) →
    Passes m to text lent (changed (plain word value) cells) w.shown (at + length w.bytes) (place + 1) after) wrote
    (item_goes_on p inside (record { effect = plain word value; bytes = bytes; place = place + 1 }) reads goes after long) stored)

module _ {m to : Form} {text lent cells : List ℕ} {shown : ℕ} {way : Way} (copies : Copies m to cells shown text way)
    (ground : single_in cells ≡ 0) where
  pub byte_goes_on : {at place : ℕ} {buffer : List ℕ} → place < length text → passes way.lane (get_or text place 0) ≡ true →
      Passes m to text lent cells shown at place buffer → (after : List ℕ) → length after ≡ length buffer →
      (at + 1 ≤ length lent → after ≡ set buffer at (copied_by way (get_or text place 0))) →
      Passes m to text lent cells shown (at + 1) (place + 1) after
  byte_goes_on {at} {place} inside passed p after long stored =
      let c = copies place inside passed in
      plain_goes_on p inside ground c.word c.value c.bytes c.below c.reads (copied_by way (get_or text place 0) ∷ []) shown
      c.wrote after long stored

  pub block_goes_on : (n : ℕ) {at place : ℕ} {buffer : List ℕ} → place + n ≤ length text →
      ((k : ℕ) → k < n → passes way.lane (get_or text (place + k) 0) ≡ true) →
      Passes m to text lent cells shown at place buffer → (after : List ℕ) → length after ≡ length buffer →
      (at + n ≤ length lent → after ≡ sets buffer at (copied_bytes way text place n)) →
      Passes m to text lent cells shown (at + n) (place + n) after
  block_goes_on zero {at} {place} inside passed p after long stored =
      subst (λ (n : ℕ). Passes m to text lent cells shown (at + 0) n after) (sym (add-zero place))
      (subst (λ (n : ℕ). Passes m to text lent cells shown n place after) (sym (add-zero at))
      (stays p after long (λ h. stored (omega arith))))
  block_goes_on (suc n) {at} {place} {buffer} inside passed p after long stored =
      let bytes = copied_bytes way text place n in
      let q : place + suc n ≡ place + n + 1 = omega arith in
      let r : at + suc n ≡ at + n + 1 = omega arith in
      let before : Passes m to text lent cells shown (at + n) (place + n) (sets buffer at bytes) =
      block_goes_on n (omega arith) (λ k h. passed k (omega arith)) p (sets buffer at bytes)
      (length-sets buffer at bytes) (λ h. refl) in
      subst (λ (k : ℕ). Passes m to text lent cells shown k (place + suc n) after) (sym r)
      (subst (λ (k : ℕ). Passes m to text lent cells shown (at + n + 1) k after) (sym q)
      (byte_goes_on (omega arith) (passed n (omega arith)) before after (long ∙ sym (length-sets buffer at bytes))
      (λ h. stored (omega arith) ∙ sym (copied_more way text buffer place at n (omega arith)))))
