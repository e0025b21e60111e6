-- What a meaning does says what it means: by the word, then by the cell and the value.
use mathlib.Core.Path.{◌≡◌, refl}
use Rattle.paper.specs.declared.ControlElement.{ControlElement}
use Rattle.paper.specs.declared.Element.{Element}
use Rattle.paper.specs.declared.Shift.{Shift}
use Rattle.paper.specs.declared.Meaning.{Meaning}
use Rattle.charsets.proofs.SizesKept.{kind_kept, count_kept}
use Rattle.escapes.specs.Effects.{effect_of, shift_by, designation_by, meaning_by}

pub meaning_kept : (m : Meaning) → meaning_by (effect_of m) ≡ m
unfolding meaning_by designation_by shift_by
meaning_kept Meaning.NoMeaning = refl
meaning_kept Meaning.Other = refl
meaning_kept (Meaning.Function n) = refl
meaning_kept (Meaning.Shifts Shift.LS0) = refl
meaning_kept (Meaning.Shifts Shift.LS1) = refl
meaning_kept (Meaning.Shifts Shift.LS2) = refl
meaning_kept (Meaning.Shifts Shift.LS3) = refl
meaning_kept (Meaning.Shifts Shift.LS1R) = refl
meaning_kept (Meaning.Shifts Shift.LS2R) = refl
meaning_kept (Meaning.Shifts Shift.LS3R) = refl
meaning_kept (Meaning.Shifts Shift.SS2) = refl
meaning_kept (Meaning.Shifts Shift.SS3) = refl
meaning_kept (Meaning.DesignateControls ControlElement.C0) = refl
meaning_kept (Meaning.DesignateControls ControlElement.C1) = refl
meaning_kept (Meaning.Designate Element.G0 k n) = rw (kind_kept k n, count_kept k n)
meaning_kept (Meaning.Designate Element.G1 k n) = rw (kind_kept k n, count_kept k n)
meaning_kept (Meaning.Designate Element.G2 k n) = rw (kind_kept k n, count_kept k n)
meaning_kept (Meaning.Designate Element.G3 k n) = rw (kind_kept k n, count_kept k n)
