-- A reader that refused a byte is lost as long as no opening stands in the bytes from it on: with none of them is an opening complete.
-- So what it answers to the next byte depends on whether an opening stands in them and that one; if so they end with it, since none stood
-- in them without it.
use Prim.Native.Nat.{ℕ, suc}
use mathlib.Core.Path.{◌≡◌, refl, sym, ap, ◌∙◌}
use mathlib.Core.Logic.{◌⊎◌, inl, inr}
use mathlib.Core.Bool.{Bool, true, false}
use mathlib.Core.List.{List, [], ◌∷◌, ◌++◌, append_assoc, append-nil}
use native.Mathlib.Omega.{arith}
use lib.ListN.{take, drop, length, get_or, take-append-drop}
use lib.Seq.{take-suc, take-length}
use Rattle.paper.specs.Words.{Form, Reader, Refusal, Answer, Answered}
use Rattle.paper.specs.Starting.{opening}
use Rattle.paper.specs.Searching.{ends_with, matched_with, skipped_bytes, one_more}
use Rattle.paper.specs.Answering.{answer_to}
use Rattle.paper.specs.Texts.{reader_after, OpeningIn, NoOpeningIn}
use Rattle.paper.proofs.AByteMoreWhileLost.{found, not_found, kept_first}
use Rattle.paper.proofs.AnOpeningWhileLost.{NoneComplete, LostSince, stays_lost}
use Rattle.paper.proofs.Choices.{impossible}
use Rattle.paper.proofs.LawfulAnswers.{refused_lost}
use Rattle.paper.proofs.ListsThatEnd.{Tail, ends_tail, tail_ends, no_tail, last_byte}

-- ---- an opening in bytes, and bytes that end with one

stands_in : (m : Form) (bs rest : List ℕ) → Tail bs (opening m) → OpeningIn m (bs ++ rest)
stands_in m bs rest t = record { before = t.front; after = rest; is = ap (λ (l : List ℕ). l ++ rest) t.is }

none_complete : (m : Form) (seen bs : List ℕ) → NoOpeningIn m (seen ++ bs) → NoneComplete m seen bs
none_complete m seen bs none j h = no_tail (seen ++ take (suc j) bs) (opening m) (λ t.
    none (rw (← (take-append-drop (suc j) bs), ← (append_assoc seen (take (suc j) bs) (drop (suc j) bs)))
    (stands_in m (seen ++ take (suc j) bs) (drop (suc j) bs) t)))

none_at_the_end : (m : Form) (all : List ℕ) → NoOpeningIn m all → ends_with all (opening m) ≡ false
none_at_the_end m all none = no_tail all (opening m) (λ t. none (rw (← (append-nil all)) (stands_in m all [] t)))

-- an opening that one byte more completes
ends_now : (m : Form) (seen : List ℕ) (c : ℕ) → NoOpeningIn m seen → OpeningIn m (seen ++ (c ∷ [])) →
    ends_with (seen ++ (c ∷ [])) (opening m) ≡ true
ends_now m seen c none o = by o.after o.is
  where
    by : (after : List ℕ) → seen ++ (c ∷ []) ≡ o.before ++ opening m ++ after → ends_with (seen ++ (c ∷ [])) (opening m) ≡ true
    by [] e = tail_ends (seen ++ (c ∷ [])) (opening m) (record { front = o.before; is = e ∙ append-nil (o.before ++ opening m) })
    by (a ∷ l) e =
        let front : List ℕ = take (length l) (a ∷ l) in
        let last : ℕ = get_or (a ∷ l) (length l) 0 in
        let parted : a ∷ l ≡ front ++ (last ∷ []) = sym (take-length (a ∷ l)) ∙ take-suc (a ∷ l) (length l) 0 (omega arith) in
        let parts = last_byte seen (o.before ++ opening m ++ front) c last
        (e ∙ (ap (λ (x : List ℕ). o.before ++ opening m ++ x) parted ∙
        sym (append_assoc (o.before ++ opening m) front (last ∷ [])))) in
        absurd (none (record { before = o.before; after = front; is = parts.0 }))

-- so one byte more completes an opening, or none stands there still
pub opening_or_none : (m : Form) (seen : List ℕ) (c : ℕ) → NoOpeningIn m seen →
    NoOpeningIn m (seen ++ (c ∷ [])) ⊎ OpeningIn m (seen ++ (c ∷ []))
opening_or_none m seen c none = by (ends_with (seen ++ (c ∷ [])) (opening m)) refl
  where
    by : (t : Bool) → ends_with (seen ++ (c ∷ [])) (opening m) ≡ t → NoOpeningIn m (seen ++ (c ∷ [])) ⊎ OpeningIn m (seen ++ (c ∷ []))
    by true e = inr (rw (← (append-nil (seen ++ (c ∷ []))))
        (stands_in m (seen ++ (c ∷ [])) [] (ends_tail (seen ++ (c ∷ [])) (opening m) e)))
    by false e = inl (λ o. let there : ends_with (seen ++ (c ∷ [])) (opening m) ≡ true = ends_now m seen c none o in impossible (cc))

-- ---- the reader

pub lost_since : (r : Reader) (b : ℕ) (n : Refusal) (more : List ℕ) → (answer_to r b).answer ≡ Answer.Refused n →
    NoOpeningIn r.form (b ∷ more) → LostSince r (b ∷ more) (reader_after r (b ∷ more))
lost_since r b n more e none =
    rw (refused_lost r b n e).1
    (stays_lost r more (b ∷ []) (matched_with r.form 0 b) (one_more 0) (kept_first r.form b)
    (none_complete r.form (b ∷ []) more none))

-- what a reader answers to the next byte that has seen these bytes since it refused the first of them
abbrev pub Silent : Form → List ℕ → ℕ → Reader → Type 0
Silent m since next now =
    let all = since ++ (next ∷ []) in
    NoOpeningIn m since →
    (NoOpeningIn m all → (answer_to now next).answer ≡ Answer.Skipped) ×
    (OpeningIn m all → (answer_to now next).answer ≡ Answer.InStep (skipped_bytes (length all)))

pub silent_since : (r : Reader) (b : ℕ) (n : Refusal) (more : List ℕ) (next : ℕ) → (answer_to r b).answer ≡ Answer.Refused n →
    Silent r.form (b ∷ more) next (reader_after r (b ∷ more))
silent_since r b n more next e none =
    let since : List ℕ = b ∷ more in
    let all : List ℕ = since ++ (next ∷ []) in
    let lost : LostSince r since (reader_after r since) = lost_since r b n more e none in
    let given : Reader → Answer = λ (x : Reader). (answer_to x next).answer in (
      λ still. ap given lost.is ∙
          ap (λ (a : Answered). a.answer)
          (not_found r since lost.matched lost.skipped next lost.kept (none_at_the_end r.form all still)),
      λ now. ap given lost.is ∙
          ap (λ (a : Answered). a.answer)
          (found r since lost.matched lost.skipped next lost.kept (ends_now r.form since next none now)),
    )
