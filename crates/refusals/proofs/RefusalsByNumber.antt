-- A refusal is the one that has its number.
use mathlib.Core.Path.{◌≡◌, refl}
use Rattle.paper.specs.Refusals.{number_of}
use Rattle.paper.specs.declared.Refusal.{Refusal}
use Rattle.refusals.specs.ByNumber.{refusal_of}

pub refusal_kept : (n : Refusal) → refusal_of (number_of n) ≡ n
unfolding refusal_of
refusal_kept Refusal.ByteOfEightBits = refl
refusal_kept Refusal.NotOfSequence = refl
refusal_kept Refusal.ThirdIntermediate = refl
refusal_kept Refusal.WithoutMeaning = refl
refusal_kept Refusal.NotOfSet = refl
refusal_kept Refusal.AnotherArea = refl
refusal_kept Refusal.EndsInside = refl
refusal_kept Refusal.TooLong = refl
refusal_kept Refusal.BufferShort = refl
refusal_kept Refusal.NoNumber = refl
refusal_kept Refusal.NotMapped = refl
refusal_kept Refusal.InputTooLong = refl
refusal_kept Refusal.WorkBufferShort = refl
