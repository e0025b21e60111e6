-- No rule of the paper: for contracts of this layer.
-- The refusal that has a number; any other number gives the last.
use Rattle.std.specs.Prelude.{ℕ, eqb}
use Rattle.paper.specs.Choice.{◌gives◌or◌}
use Rattle.paper.specs.Refusals.{number_of}
use Rattle.paper.specs.declared.Refusal.{Refusal}

unfoldable pub refusal_of : ℕ → Refusal
refusal_of n =
    eqb n (number_of Refusal.ByteOfEightBits) gives Refusal.ByteOfEightBits or
    eqb n (number_of Refusal.NotOfSequence) gives Refusal.NotOfSequence or
    eqb n (number_of Refusal.ThirdIntermediate) gives Refusal.ThirdIntermediate or
    eqb n (number_of Refusal.WithoutMeaning) gives Refusal.WithoutMeaning or
    eqb n (number_of Refusal.NotOfSet) gives Refusal.NotOfSet or
    eqb n (number_of Refusal.AnotherArea) gives Refusal.AnotherArea or
    eqb n (number_of Refusal.EndsInside) gives Refusal.EndsInside or
    eqb n (number_of Refusal.TooLong) gives Refusal.TooLong or
    eqb n (number_of Refusal.BufferShort) gives Refusal.BufferShort or
    eqb n (number_of Refusal.NoNumber) gives Refusal.NoNumber or
    eqb n (number_of Refusal.NotMapped) gives Refusal.NotMapped or
    eqb n (number_of Refusal.InputTooLong) gives Refusal.InputTooLong or
    Refusal.WorkBufferShort
