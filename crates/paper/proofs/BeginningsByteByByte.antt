-- The longest beginning of a list with which bytes end, one byte on: a beginning with which they end now was, less its last byte, such an
-- end before, and so lies within the longest. That is the whole list exactly when they end with it.
use Prim.Native.Nat.{ℕ, zero, suc, ◌<◌, ◌≤◌}
use mathlib.Core.Path.{◌≡◌, refl, sym, ap, ◌∙◌}
use mathlib.Core.Logic.{⊎_elim}
use mathlib.Core.Bool.{true, false}
use mathlib.Core.List.{List, [], ◌∷◌, ◌++◌, append_assoc}
use native.Mathlib.Omega.{arith}
use native.Mathlib.Nat.{eq-or-lt_of_le}
use lib.ListN.{take, length, get_or, length-append}
use lib.Seq.{take-suc, take_all, length-take-le}
use Rattle.paper.specs.Searching.{ends_with, longest}
use Rattle.paper.proofs.Choices.{impossible}
use Rattle.paper.proofs.ListsThatEnd.{Tail, ends_tail, tail_ends, last_byte, shorter, tail_with, tail_of, Longest}
use Rattle.paper.proofs.ListsThatEnd.{longest_is}

-- ---- the longest beginning, one byte on

module _ (o seen : List ℕ) (k b : ℕ) (now : Longest o seen (length o) k) where
  -- what was matched, and the byte
  abbrev came : List ℕ
  came = take k o ++ (b ∷ [])

  abbrev next : ℕ
  next = longest o came (length o)

  next_here : Tail (seen ++ (b ∷ [])) (take next o)
  next_here = tail_of (seen ++ (b ∷ [])) came (take next o) (tail_with seen (take k o) b now.here) (longest_is o came (length o)).here

  next_most : (j : ℕ) → j ≤ length o → Tail (seen ++ (b ∷ [])) (take j o) → j ≤ next
  next_most zero h t = omega arith
  next_most (suc j) h t =
      let d : ℕ = get_or o j 0 in
      let begins : take (suc j) o ≡ take j o ++ (d ∷ []) = take-suc o j 0 (omega arith) in
      let parts = last_byte seen (t.front ++ take j o) b d
      (t.is ∙ (ap (λ (x : List ℕ). t.front ++ x) begins ∙ sym (append_assoc t.front (take j o) (d ∷ [])))) in
      let less : j ≤ k = now.most j (omega arith) (record { front = t.front; is = parts.0 }) in
      let all : k ≤ length o = now.within in
      let long : length (take j o) ≡ j = length-take-le j o (omega arith) in
      let longer : length (take k o) ≡ k = length-take-le k o (omega arith) in
      let inside : Tail (take k o) (take j o) =
      shorter now.here.front t.front (take k o) (take j o) (sym now.here.is ∙ parts.0) (omega arith) in
      let both : Tail came (take (suc j) o) = rw (begins, ← parts.1) (tail_with (take k o) (take j o) b inside) in
      (longest_is o came (length o)).most (suc j) h both

  pub next_longest : Longest o (seen ++ (b ∷ [])) (length o) next
  next_longest = record { here = next_here; within = (longest_is o came (length o)).within; most = next_most }

-- ---- the whole opening

module _ (o seen : List ℕ) (k : ℕ) (now : Longest o seen (length o) k) where
  pub complete : ends_with seen o ≡ true → k ≡ length o
  complete e =
      let most : length o ≤ k = now.most (length o) (omega arith) (rw (take_all (length o) o (omega arith)) (ends_tail seen o e)) in
      omega (arith, now.within)

  pub not_yet : ends_with seen o ≡ false → k < length o
  not_yet e = ⊎_elim
      (λ all. let there : ends_with seen o ≡ true = tail_ends seen o (rw (take_all k o (omega arith)) at now.here) in impossible (cc))
      (λ less. less)
      (eq-or-lt_of_le now.within)

-- ---- it begins with nothing

pub none_seen : (o : List ℕ) → Longest o [] (length o) 0
none_seen o = record {
  here = record { front = []; is = refl };
  within = omega arith;
  most = λ j h t.
      let n : length (take j o) ≡ j = length-take-le j o h in
      omega (arith, length-append t.front (take j o), ap length t.is);
}
