-- At each answer the text goes on as GL is, or after one locking shift, by cost and then by rank. What is chosen can be written; and cost is
-- length up to the next opening, from which on all ways are alike.
use Prim.Native.Nat.{ℕ, ◌+◌, ◌<◌, ◌≤◌}
use mathlib.Core.Path.{◌≡◌, refl, sym, ap, ◌∙◌, subst}
use mathlib.Core.Bool.{Bool, true, false}
use mathlib.Core.Logic.{◌⊎◌, inl, inr, ⊎_elim}
use mathlib.Core.List.{List, [], ◌++◌}
use native.Mathlib.Omega.{arith}
use native.Mathlib.Nat.{zero-add}
use borrow.Author.Tests.{ltb-true, ltb-false, eqb-true, eqb-false, le-ltb}
use lib.Dec.{ltb, eqb}
use lib.ListN.{length, length-append}
use Rattle.paper.specs.Choice.{◌gives◌or◌}
use Rattle.paper.specs.Starting.{starting_sets, opening}
use Rattle.paper.specs.WrittenForms.{sets_with}
use Rattle.paper.specs.declared.Form.{Form}
use Rattle.paper.specs.declared.Kind.TheVariants.{Of94}
use Rattle.paper.specs.declared.Element.{Element}
use Rattle.paper.specs.declared.Element.TheVariants.{G0, G1, G2, G3}
use Rattle.paper.specs.declared.Sets.{Sets}
use Rattle.paper.specs.declared.Answer.{Answer}
use Rattle.paper.proofs.Choices.{impossible, gives_by}
use Rattle.paper.proofs.WhatCanBeWritten.{Steps, ended, said, opened, AllCanBeWritten}
use Rattle.paper.proofs.WrittenAnswersReadBack.{keeps_g0}
use Rattle.shortest.specs.ShortestText.{is_shown, fits, bytes_under, far, shift_to, shift_from, rank, moving, cheapest, chosen}
use Rattle.shortest.specs.ShortestText.{least, cost_of, costs, shortest_from}
use Rattle.shortest.proofs.TheCheapestShift.{shift_length, cheapest_moves, one_shift_more}
use Rattle.shortest.proofs.BytesOfAnAnswer.{home, shown_itself, fits_at_home, short_at_home}

-- ---- the two ways

pub shown_is : (gl e : Element) → is_shown gl e ≡ true → gl ≡ e
shown_is G0 G0 h = refl
shown_is G1 G1 h = refl
shown_is G2 G2 h = refl
shown_is G3 G3 h = refl
shown_is _ _ h = impossible (cc)

module _ (c : Element → ℕ) (gl : Element) (bytes : List ℕ) where
  abbrev pub best : Element
  best = cheapest c

  abbrev pub Stays : Type 0
  Stays = (c gl < moving c best) ⊎ ((c gl ≡ moving c best) × (rank bytes < rank (shift_to best)))

  abbrev pub Moves : Type 0
  Moves = (moving c best < c gl) ⊎ ((moving c best ≡ c gl) × (rank (shift_to best) ≤ rank bytes))

  pub moves_cheaply : Moves → moving c best ≤ c gl
  moves_cheaply = ⊎_elim (λ less. omega arith) (λ same. omega (arith, same.0))

  pub stays_cheaply : Stays → c gl ≤ moving c best
  stays_cheaply = ⊎_elim (λ less. omega arith) (λ same. omega (arith, same.0))

  -- a shift to what GL shows costs more than to go on
  to_another : Moves → is_shown gl best ≡ false
  to_another h = by (is_shown gl best) refl
    where
      by : (t : Bool) → is_shown gl best ≡ t → t ≡ false
      by false e = refl
      by true e = absurd (omega (arith, moves_cheaply h, (shift_length best).0, ap c (shown_is gl best e)))

  pub by_the_choice : (P : Element → Type 0) → (Stays → P gl) → (Moves → P best) → P (chosen c gl bytes)
  by_the_choice P stay move =
      let Q : Bool → Type 0 = λ t. P (t gives gl or best) in
      gives_by Q (ltb (c gl) (moving c best)) (λ h. stay (inl (ltb-true (c gl) (moving c best) h)))
      (λ more. gives_by Q (eqb (c gl) (moving c best))
      (λ same. gives_by P (ltb (rank bytes) (rank (shift_to best)))
      (λ h. stay (inr (eqb-true (c gl) (moving c best) same, ltb-true (rank bytes) (rank (shift_to best)) h)))
      (λ h. move (inr (sym (eqb-true (c gl) (moving c best) same), ltb-false (rank bytes) (rank (shift_to best)) h))))
      (λ other. move (inl (omega (arith, ltb-false (c gl) (moving c best) more, eqb-false (c gl) (moving c best) other)))))

  least_stays : Stays → least c gl ≡ c gl
  least_stays h = rw (le-ltb (moving c best) (c gl) (stays_cheaply h))

  least_moves : Moves → least c gl ≡ moving c best
  least_moves h =
      gives_by (λ (n : ℕ). n ≡ moving c best) (ltb (moving c best) (c gl)) (λ x. refl)
      (λ x. omega (arith, ltb-false (moving c best) (c gl) x, moves_cheaply h))

-- ---- what is chosen can be written

pub near : (s : Steps) (t : Sets) (gl e : Element) → cost_of s t gl ≤ length (shift_to e) + cost_of s t e
unfolding cost_of
near ended t gl e = omega arith
near (said a s) t gl e = one_shift_more (costs a s t) gl e
near (opened s) t gl e = omega arith

module _ (a : Answer) (s : Steps) (t : Sets) (g0 : t.g0.kind ≡ Of94) where
  abbrev pub c : Element → ℕ
  c = costs a s t

  abbrev later : Element → ℕ
  later = cost_of s (sets_with t a)

  pub cost_where_it_fits : (e : Element) → fits t e a ≡ true → c e ≡ length (bytes_under e a) + later e
  cost_where_it_fits e h = rw h

  fits_where_cheap : (e : Element) → c e ≤ moving c (home a) → fits t e a ≡ true
  fits_where_cheap e cheap = by (fits t e a) refl
    where
      by : (b : Bool) → fits t e a ≡ b → b ≡ true
      by true h = refl
      by false h =
          let much : c e ≡ far + later e = rw h in
          absurd (omega (
            arith,
            cheap,
            much,
            cost_where_it_fits (home a) (fits_at_home a t g0),
            short_at_home a,
            (shift_length (home a)).1,
            near s (sets_with t a) (home a) e,
            (shift_length e).1,
          ))

  pub best_fits : fits t (cheapest c) a ≡ true
  best_fits = fits_where_cheap (cheapest c) (omega (arith, cheapest_moves c (home a)))

  pub stays_where_it_fits : (gl : Element) → Stays c gl (bytes_under gl a) → fits t gl a ≡ true
  stays_where_it_fits gl h = fits_where_cheap gl (omega (arith, stays_cheaply c gl (bytes_under gl a) h, cheapest_moves c (home a)))

  pub chosen_fits : (gl : Element) → fits t (chosen c gl (bytes_under gl a)) a ≡ true
  chosen_fits gl = by_the_choice c gl (bytes_under gl a) (λ (e : Element). fits t e a ≡ true) (stays_where_it_fits gl) (λ h. best_fits)

-- ---- the text, by the two ways

module _ (a : Answer) (s : Steps) (t : Sets) where
  abbrev pub onward : Element → List ℕ
  onward e = bytes_under e a ++ shortest_from s (sets_with t a) e

  abbrev rates : Element → ℕ
  rates = costs a s t

  pub by_the_way : (gl : Element) (P : List ℕ → Type 0) → (Stays rates gl (bytes_under gl a) → P (onward gl)) →
      (Moves rates gl (bytes_under gl a) → P (shift_to (cheapest rates) ++ onward (cheapest rates))) → P (shortest_from (said a s) t gl)
  unfolding shortest_from
  by_the_way gl P stay move =
      by_the_choice rates gl (bytes_under gl a) (λ (e : Element). P (shift_from gl e ++ onward e))
      (λ h. subst (λ (b : Bool). P ((b gives [] or shift_to gl) ++ onward gl)) (sym (shown_itself gl)) (stay h))
      (λ h. subst (λ (b : Bool). P ((b gives [] or shift_to (cheapest rates)) ++ onward (cheapest rates)))
      (sym (to_another rates gl (bytes_under gl a) h)) (move h))

-- from the next opening on all ways are alike
abbrev pub after : Steps → ℕ
after ended = 0
after (said a s) = after s
after (opened s) = length (opening Form.Seven ++ shortest_from s starting_sets G0)

-- cost is length up to there
abbrev pub Long : Steps → Sets → Type 0
Long s t = (gl : Element) → length (shortest_from s t gl) ≡ cost_of s t gl + after s

module _ (a : Answer) (s : Steps) (t : Sets) (g0 : t.g0.kind ≡ Of94) (long : Long s (sets_with t a)) where
  pub onward_length : (e : Element) → fits t e a ≡ true → length (onward a s t e) ≡ costs a s t e + after s
  onward_length e h =
      omega (
        arith,
        length-append (bytes_under e a) (shortest_from s (sets_with t a) e),
        long e,
        cost_where_it_fits a s t g0 e h,
      )

  pub shifted_length : (e : Element) → fits t e a ≡ true → length (shift_to e ++ onward a s t e) ≡ moving (costs a s t) e + after s
  shifted_length e h = omega (arith, length-append (shift_to e) (onward a s t e), onward_length e h)

  long_said : (gl : Element) → length (shortest_from (said a s) t gl) ≡ cost_of (said a s) t gl + after s
  unfolding cost_of
  long_said gl =
      let bytes : List ℕ = bytes_under gl a in
      let c : Element → ℕ = costs a s t in
      by_the_way a s t gl (λ (text : List ℕ). length text ≡ least c gl + after s)
      (λ h. onward_length gl (stays_where_it_fits a s t g0 gl h) ∙ ap (λ (n : ℕ). n + after s) (sym (least_stays c gl bytes h)))
      (λ h. shifted_length (cheapest c) (best_fits a s t g0) ∙ ap (λ (n : ℕ). n + after s) (sym (least_moves c gl bytes h)))

pub long_text : (s : Steps) (t : Sets) → t.g0.kind ≡ Of94 → AllCanBeWritten t s → Long s t
unfolding shortest_from cost_of
long_text ended t g0 h gl = refl
long_text (said a s) t g0 h gl = long_said a s t g0 (long_text s (sets_with t a) (keeps_g0 a t h.1 g0) h.2) gl
long_text (opened s) t g0 h gl = sym (zero-add (after (opened s)))
