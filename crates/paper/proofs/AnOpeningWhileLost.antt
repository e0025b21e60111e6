-- While no opening is complete a lost reader stays lost, and with the last byte of an unbroken one it is the starting reader: byte
-- by byte, by what one byte more does to it, since no opening is complete inside another.
use Prim.Native.Nat.{ℕ, suc, ◌-◌, ◌<◌}
use mathlib.Core.Path.{◌≡◌, refl, sym, ap, ◌∙◌, subst}
use mathlib.Core.Bool.{true, false}
use mathlib.Core.List.{List, [], ◌∷◌, ◌++◌, append_assoc, append-nil}
use native.Mathlib.Omega.{arith}
use lib.ListN.{take, length, get_or}
use lib.Seq.{take-take, length-take-le}
use Rattle.paper.specs.Words.{Form, Seven, Eight, Reader, Answered}
use Rattle.paper.specs.Starting.{started, opening}
use Rattle.paper.specs.Searching.{ends_with, matched_with, one_more}
use Rattle.paper.specs.Answering.{answer_to}
use Rattle.paper.specs.Texts.{reader_after}
use Rattle.paper.proofs.AByteMoreWhileLost.{Kept, lost, found, not_found, still_kept}
use Rattle.paper.proofs.ListsThatEnd.{tail_ends}
use Rattle.paper.proofs.OpeningsAmongBytes.{not_complete_inside}
use Rattle.paper.proofs.TextsThatGoOn.{reader_on}

-- with none of these bytes, after those seen, is an opening complete
abbrev pub NoneComplete : Form → List ℕ → List ℕ → Type 0
NoneComplete m seen bs = (j : ℕ) → j < length bs → ends_with (seen ++ take (suc j) bs) (opening m) ≡ false

-- a reader that got lost as r and has seen these bytes since, the refused one first
pub record LostSince (r : Reader) (seen : List ℕ) (now : Reader) : Type 0 where
  pub matched : ℕ
  pub skipped : ℕ
  pub is : now ≡ lost r matched skipped
  pub kept : Kept r.form seen matched skipped

module _ (r : Reader) where
  one_more_seen : (b : ℕ) (bs seen : List ℕ) (k n : ℕ) → Kept r.form seen k n → ends_with (seen ++ (b ∷ [])) (opening r.form) ≡ false →
      LostSince r ((seen ++ (b ∷ [])) ++ bs) (reader_after (lost r (matched_with r.form k b) (one_more n)) bs) →
      LostSince r (seen ++ b ∷ bs) (reader_after (lost r k n) (b ∷ bs))
  one_more_seen b bs seen k n kept not_here rest = record {
    matched = rest.matched;
    skipped = rest.skipped;
    is = ap (λ (a : Answered). reader_after a.reader bs) (not_found r seen k n b kept not_here) ∙ rest.is;
    kept = subst (λ (l : List ℕ). Kept r.form l rest.matched rest.skipped) (append_assoc seen (b ∷ []) bs) rest.kept;
  }

  pub stays_lost : (bs seen : List ℕ) (k n : ℕ) → Kept r.form seen k n → NoneComplete r.form seen bs →
      LostSince r (seen ++ bs) (reader_after (lost r k n) bs)
  stays_lost [] seen k n kept none = record {
    matched = k;
    skipped = n;
    is = refl;
    kept = subst (λ (l : List ℕ). Kept r.form l k n) (sym (append-nil seen)) kept;
  }
  stays_lost (b ∷ bs) seen k n kept none =
      let not_here : ends_with (seen ++ (b ∷ [])) (opening r.form) ≡ false = none 0 (omega arith) in
      one_more_seen b bs seen k n kept not_here
      (stays_lost bs (seen ++ (b ∷ [])) (matched_with r.form k b) (one_more n) (still_kept r seen k n b kept)
      (λ j h. rw (append_assoc seen (b ∷ []) (take (suc j) bs)) (none (suc j) (omega arith))))

-- ---- the opening

-- all of it but its last byte, and that byte
abbrev last_at : Form → ℕ
last_at m = length (opening m) - 1

in_two : (m : Form) → opening m ≡ take (last_at m) (opening m) ++ (get_or (opening m) (last_at m) 0 ∷ [])
in_two Seven = refl
in_two Eight = refl

module _ (r : Reader) (seen : List ℕ) (k n : ℕ) (kept : Kept r.form seen k n) where
  abbrev front : List ℕ
  front = take (last_at r.form) (opening r.form)

  none_inside : NoneComplete r.form seen front
  none_inside j h =
      let long : length front ≡ last_at r.form = length-take-le (last_at r.form) (opening r.form) (omega arith) in
      rw (take-take (suc j) (last_at r.form) (opening r.form) (omega arith))
      (not_complete_inside r.form seen (suc j) (omega arith) (omega arith))

  lost_until_then : LostSince r (seen ++ front) (reader_after (lost r k n) front)
  lost_until_then = stays_lost r front seen k n kept none_inside

  pub found_at_its_end : reader_after (lost r k n) (opening r.form) ≡ started r.form
  found_at_its_end =
      let last : ℕ = get_or (opening r.form) (last_at r.form) 0 in
      let h : LostSince r (seen ++ front) (reader_after (lost r k n) front) = lost_until_then in
      let whole : ends_with ((seen ++ front) ++ (last ∷ [])) (opening r.form) ≡ true =
      tail_ends ((seen ++ front) ++ (last ∷ [])) (opening r.form) (record {
        front = seen;
        is = append_assoc seen front (last ∷ []) ∙ ap (λ (l : List ℕ). seen ++ l) (sym (in_two r.form));
      }) in
      ap (λ (l : List ℕ). reader_after (lost r k n) l) (in_two r.form) ∙
      (reader_on front (last ∷ []) (lost r k n) ∙
      (ap (λ (x : Reader). (answer_to x last).reader) h.is ∙
      ap (λ (a : Answered). a.reader) (found r (seen ++ front) h.matched h.skipped last h.kept whole)))
