-- A sequence that is other in one form is other in both: the forms part only over the shifts into GR, and none of these is other.
use Prim.Native.Nat.{ℕ}
use mathlib.Core.Path.{◌≡◌}
use mathlib.Core.Bool.{Bool, true, false}
use lib.Dec.{eqb}
use Rattle.paper.specs.Choice.{◌gives◌or◌, between}
use Rattle.paper.specs.Words.{Form, Seven, Eight, Intermediates, Shift, LS1R, LS2R, LS3R, Meaning}
use Rattle.paper.specs.Sequences.{first_final, last_final, final_of_function, right_shift, shift_or_other, meaning_of_none, meaning_of}
use Rattle.paper.proofs.Choices.{impossible}

-- where a choice is other, the same choice between other rows is, if each of its rows is
gives_other : (t : Bool) {a b c d : Meaning} → (a ≡ Meaning.Other → c ≡ Meaning.Other) → (b ≡ Meaning.Other → d ≡ Meaning.Other) →
    (t gives a or b) ≡ Meaning.Other → (t gives c or d) ≡ Meaning.Other
gives_other true f g = f
gives_other false f g = g

right_not_other : (m : Form) (h : Shift) {w : Meaning} → right_shift m h ≡ Meaning.Other → w ≡ Meaning.Other
right_not_other Seven h e = impossible (cc)
right_not_other Eight h e = impossible (cc)

module _ (m k : Form) (f : ℕ) where
  shift_or_other_lem : shift_or_other m f ≡ Meaning.Other → shift_or_other k f ≡ Meaning.Other
  unfolding shift_or_other
  shift_or_other_lem =
      gives_other (eqb f 0x6E) (λ e. e)
      (gives_other (eqb f 0x6F) (λ e. e)
      (gives_other (eqb f 0x7E) (right_not_other m LS1R)
      (gives_other (eqb f 0x7D) (right_not_other m LS2R) (gives_other (eqb f 0x7C) (right_not_other m LS3R) (λ e. e)))))

  other_of_none : meaning_of_none m f ≡ Meaning.Other → meaning_of_none k f ≡ Meaning.Other
  unfolding meaning_of_none
  other_of_none =
      gives_other (between first_final 0x3F f) (λ e. e)
      (gives_other (between final_of_function 0x5F f) (λ e. e) (gives_other (between 0x60 last_final f) shift_or_other_lem (λ e. e)))

pub other_in_any_form : (m k : Form) (s : Intermediates) (f : ℕ) → meaning_of m s f ≡ Meaning.Other → meaning_of k s f ≡ Meaning.Other
other_in_any_form m k Intermediates.None f e = other_of_none m k f e
other_in_any_form m k (Intermediates.One i) f e = e
other_in_any_form m k (Intermediates.Two i j) f e = e
