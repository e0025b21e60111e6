-- What a reader in step has recorded of the bytes since the start, or since the latest instep: the longest beginning of the opening with
-- which they end, and nothing where that is all of it. One byte more keeps it so: after a complete opening nothing of it is left to
-- go on with, since no opening overlaps itself.
use Prim.Native.Nat.{ℕ}
use mathlib.Core.Path.{◌≡◌, refl, sym, ap, ◌∙◌, subst}
use mathlib.Core.Bool.{Bool, true, false}
use mathlib.Core.List.{List, [], ◌∷◌, ◌++◌, append_assoc, append-nil}
use native.Mathlib.Omega.{arith}
use borrow.Author.Tests.{eqb-true, eq-eqb}
use lib.ListN.{length}
use Rattle.paper.specs.Choice.{◌gives◌or◌}
use Rattle.paper.specs.Words.{Form, Seven, Eight, Reader}
use Rattle.paper.specs.Starting.{opening}
use Rattle.paper.specs.Searching.{matched_with}
use Rattle.paper.specs.Marks.{is_complete, gone_with, unless_complete}
use Rattle.paper.proofs.ListsThatEnd.{tail_ends, Longest}
use Rattle.paper.proofs.BeginningsByteByByte.{next_longest, complete, none_seen}
use Rattle.paper.proofs.BeginningsThatFallBack.{matched, without, falls_back}

pub record Noted (m : Form) (since : List ℕ) (k : ℕ) : Type 0 where
  pub long : ℕ
  pub longest : Longest (opening m) since (length (opening m)) long
  pub is : k ≡ unless_complete m long

-- no opening overlaps itself
nothing_without : (m : Form) → without (opening m) (length (opening m)) ≡ 0
nothing_without Seven = refl
nothing_without Eight = refl

module _ (m : Form) (since : List ℕ) (k b : ℕ) (now : Noted m since k) where
  abbrev o : List ℕ
  o = opening m

  pub matched_now : Longest o (since ++ (b ∷ [])) (length o) (matched_with m k b)
  unfolding matched_with
  matched_now = by (is_complete m now.long) refl
    where
      by : (t : Bool) → is_complete m now.long ≡ t → Longest o (since ++ (b ∷ [])) (length o) (matched o k b)
      by true e =
          let all : now.long ≡ length o = eqb-true now.long (length o) e in
          let none : k ≡ 0 = now.is ∙ ap (λ (t : Bool). t gives 0 or now.long) e in
          let back : matched o now.long b ≡ matched o k b =
          ap (λ (j : ℕ). matched o j b) all ∙ falls_back o (length o) (omega arith) (omega arith) b (λ less. absurd (omega arith)) ∙
          ap (λ (j : ℕ). matched o j b) (nothing_without m ∙ sym none) in
          subst (Longest o (since ++ (b ∷ [])) (length o)) back (next_longest o since now.long b now.longest)
      by false e =
          let same : now.long ≡ k = sym (now.is ∙ ap (λ (t : Bool). t gives 0 or now.long) e) in
          subst (λ (j : ℕ). Longest o (since ++ (b ∷ [])) (length o) (matched o j b)) same
          (next_longest o since now.long b now.longest)

  pub noted_on : Noted m (since ++ (b ∷ [])) (unless_complete m (matched_with m k b))
  noted_on = record { long = matched_with m k b; longest = matched_now; is = refl }

-- so what has gone by with a byte is the longest beginning with which the bytes end, this one counted
pub gone_now : (r : Reader) (since : List ℕ) (b : ℕ) → Noted r.form since r.gone →
    Longest (opening r.form) (since ++ (b ∷ [])) (length (opening r.form)) (gone_with r b)
gone_now r since b now = matched_now r.form since r.gone b now

none_is_none : (m : Form) → ◌≡◌ {A = ℕ} 0 (unless_complete m 0)
none_is_none Seven = refl
none_is_none Eight = refl

pub noted_none : (m : Form) → Noted m [] 0
noted_none m = record { long = 0; longest = none_seen (opening m); is = none_is_none m }

-- ---- along bytes that are all read in step

abbrev pub record_along : Form → ℕ → List ℕ → ℕ
record_along m k [] = k
record_along m k (b ∷ bs) = record_along m (unless_complete m (matched_with m k b)) bs

noted_along : (m : Form) (bs since : List ℕ) (k : ℕ) → Noted m since k → Noted m (since ++ bs) (record_along m k bs)
noted_along m [] since k now = rw (append-nil since) now
noted_along m (b ∷ bs) since k now =
    subst (λ (l : List ℕ). Noted m l (record_along m k (b ∷ bs))) (append_assoc since (b ∷ []) bs)
    (noted_along m bs (since ++ (b ∷ [])) (unless_complete m (matched_with m k b)) (noted_on m since k b now))

-- after an opening nothing of it has gone by
pub nothing_after : (m : Form) (since : List ℕ) (k : ℕ) → Noted m since k → record_along m k (opening m) ≡ 0
nothing_after m since k now =
    let o : List ℕ = opening m in
    let after = noted_along m o since k now in
    let all : after.long ≡ length o =
    complete o (since ++ o) after.long after.longest (tail_ends (since ++ o) o (record { front = since; is = refl })) in
    after.is ∙ ap (λ (t : Bool). t gives 0 or after.long) (eq-eqb after.long (length o) all)
