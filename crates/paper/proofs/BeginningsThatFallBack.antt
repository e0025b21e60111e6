-- What is matched of a list where a byte does not go on with it: what would be if the first byte had not been there. All longer
-- beginnings need that first byte, and the list's own next byte alone goes on with the longest of them.
use Prim.Native.Nat.{ℕ, suc, ◌-◌, ◌<◌, ◌≤◌}
use mathlib.Core.Path.{◌≡◌, sym, ap, ◌∙◌, subst}
use mathlib.Core.Logic.{⊎_elim}
use mathlib.Core.List.{List, [], ◌∷◌, ◌++◌, append_assoc}
use native.Mathlib.Omega.{arith}
use native.Mathlib.Nat.{eq-or-lt_of_le}
use lib.ListN.{take, drop, length, get_or, length-append, length-drop, take-append-drop}
use lib.Seq.{take-suc, length-take-le, drop-append-le}
use Rattle.paper.specs.Searching.{longest}
use Rattle.paper.proofs.ListsThatEnd.{Tail, last_byte, shorter, tail_of, Longest, longest_is}
use Rattle.paper.proofs.BeginningsByteByByte.{next_longest}

-- the longest beginning is one
one_longest : (o w : List ℕ) (n j k : ℕ) → Longest o w n j → Longest o w n k → j ≡ k
one_longest o w n j k a b =
    let h : j ≤ k = b.most j a.within a.here in
    let g : k ≤ j = a.most k b.within b.here in
    omega arith

module _ (o : List ℕ) where
  -- what is matched with a byte, where so much was before it
  abbrev pub matched : ℕ → ℕ → ℕ
  matched k b = longest o (take k o ++ (b ∷ [])) (length o)

  -- what would be matched if the first byte had not been there
  abbrev pub without : ℕ → ℕ
  without k = longest o (drop 1 (take k o)) (length o)

  -- one byte more at most
  pub matched_at_most : (k b : ℕ) → k ≤ length o → matched k b ≤ suc k
  matched_at_most k b most =
      let l = longest_is o (take k o ++ (b ∷ [])) (length o) in
      let t = l.here in
      let n : length (take (matched k b) o) ≡ matched k b = length-take-le (matched k b) o l.within in
      omega (
        arith,
        length-append t.front (take (matched k b) o),
        ap length t.is,
        length-append (take k o) (b ∷ []),
        length-take-le k o most,
      )

  -- the list's own next byte goes on
  pub matched_on : (k : ℕ) → k < length o → matched k (get_or o k 0) ≡ suc k
  matched_on k less =
      let l = longest_is o (take k o ++ (get_or o k 0 ∷ [])) (length o) in
      let least : suc k ≤ matched k (get_or o k 0) = l.most (suc k) (omega arith) (record { front = []; is = sym (take-suc o k 0 less) }) in
      omega (arith, matched_at_most k (get_or o k 0) (omega arith))

  -- and where nothing was matched, its first byte alone is
  pub none_matched : (b : ℕ) → (b ≡ get_or o 0 0 → ⊥) → matched 0 b ≡ 0
  none_matched b other =
      let l = longest_is o (b ∷ []) (length o) in
      let t = l.here in
      let n : length (take (matched 0 b) o) ≡ matched 0 b = length-take-le (matched 0 b) o l.within in
      let few : matched 0 b ≤ 1 = omega (arith, length-append t.front (take (matched 0 b) o), ap length t.is) in
      ⊎_elim
      (λ (one : matched 0 b ≡ 1).
      let some : 0 < length o = omega (arith, l.within) in
      let first : take (matched 0 b) o ≡ get_or o 0 0 ∷ [] = ap (λ (i : ℕ). take i o) one ∙ take-suc o 0 0 some in
      let ends : b ∷ [] ≡ t.front ++ (get_or o 0 0 ∷ []) = t.is ∙ ap (λ (l : List ℕ). t.front ++ l) first in
      absurd (other (last_byte [] t.front b (get_or o 0 0) ends).1))
      (λ (none : matched 0 b < 1). omega arith)
      (eq-or-lt_of_le few)

  module _ (k : ℕ) (some : 1 ≤ k) (most : k ≤ length o) where
    abbrev gone : List ℕ
    gone = take k o

    long : length gone ≡ k
    long = length-take-le k o most

    long_without : length (drop 1 gone) ≡ k - 1
    long_without = length-drop 1 gone ∙ ap (λ (n : ℕ). n - 1) long

    pub less_without : without k < k
    less_without =
        let l = longest_is o (drop 1 gone) (length o) in
        let t = l.here in
        let n : length (take (without k) o) ≡ without k = length-take-le (without k) o l.within in
        omega (arith, length-append t.front (take (without k) o), ap length t.is, long_without)

    without_longest : (b : ℕ) → Longest o (drop 1 gone ++ (b ∷ [])) (length o) (matched (without k) b)
    without_longest b = next_longest o (drop 1 gone) (without k) b (longest_is o (drop 1 gone) (length o))

    -- and goes on without the first byte too
    pub without_on : k < length o → without (suc k) ≡ matched (without k) (get_or o k 0)
    without_on less =
        let b : ℕ = get_or o k 0 in
        let next : drop 1 (take (suc k) o) ≡ drop 1 gone ++ (b ∷ []) =
        ap (drop 1) (take-suc o k 0 less) ∙ drop-append-le 1 gone (b ∷ []) (omega (arith, long)) in
        one_longest o (drop 1 gone ++ (b ∷ [])) (length o) (without (suc k)) (matched (without k) b)
        (subst (λ (w : List ℕ). Longest o w (length o) (without (suc k))) next (longest_is o (drop 1 (take (suc k) o)) (length o))) (without_longest b)

    module _ (b : ℕ) (stops : k < length o → b ≡ get_or o k 0 → ⊥) where
      abbrev now : List ℕ
      now = gone ++ (b ∷ [])

      parts : now ≡ take 1 gone ++ (drop 1 gone ++ (b ∷ []))
      parts = ap (λ (l : List ℕ). l ++ (b ∷ [])) (sym (take-append-drop 1 gone)) ∙ append_assoc (take 1 gone) (drop 1 gone) (b ∷ [])

      -- no longer beginning than what has gone by
      no_longer : (j : ℕ) → j ≤ length o → Tail now (take j o) → j ≤ k
      no_longer j h t =
          let n : length (take j o) ≡ j = length-take-le j o h in
          let bound : j ≤ suc k =
          omega (arith, length-append t.front (take j o), ap length t.is, length-append gone (b ∷ []), long) in
          ⊎_elim
          (λ (all : j ≡ suc k).
          let d : ℕ = get_or o k 0 in
          let less : k < length o = omega arith in
          let whole : take j o ≡ gone ++ (d ∷ []) = ap (λ (i : ℕ). take i o) all ∙ take-suc o k 0 less in
          let ends : now ≡ (t.front ++ gone) ++ (d ∷ []) =
          t.is ∙ (ap (λ (l : List ℕ). t.front ++ l) whole ∙ sym (append_assoc t.front gone (d ∷ []))) in
          absurd (stops less (last_byte gone (t.front ++ gone) b d ends).1))
          (λ (less : j < suc k). omega arith)
          (eq-or-lt_of_le bound)

      inside : (j : ℕ) → j ≤ length o → Tail now (take j o) → Tail (drop 1 gone ++ (b ∷ [])) (take j o)
      inside j h t =
          let n : length (take j o) ≡ j = length-take-le j o h in
          shorter (take 1 gone) t.front (drop 1 gone ++ (b ∷ [])) (take j o) (sym parts ∙ t.is)
          (omega (arith, no_longer j h t, length-append (drop 1 gone) (b ∷ []), long_without))

      pub falls_back : matched k b ≡ matched (without k) b
      falls_back =
          let l = without_longest b in
          one_longest o now (length o) (matched k b) (matched (without k) b) (longest_is o now (length o)) (record {
            here = tail_of now (drop 1 gone ++ (b ∷ [])) (take (matched (without k) b) o) (record { front = take 1 gone; is = parts })
                l.here;
            within = l.within;
            most = λ j h t. l.most j h (inside j h t);
          })
