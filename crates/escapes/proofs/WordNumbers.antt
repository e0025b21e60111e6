-- The test of two words is that of their numbers.
use Rattle.std.proofs.Common.{◌≡◌, true, false, nat_eq}
use borrow.Author.Tests.{eqb-true, eqb-false}
use Rattle.escapes.specs.declared.effect.Word.{Word}

pub is_word : (w v : Word) → nat_eq w.0 v.0 ≡ true → w.0 ≡ v.0
is_word w v e = eqb-true w.0 v.0 e

pub no_word : (w v : Word) → nat_eq w.0 v.0 ≡ false → w.0 ≡ v.0 → ⊥
no_word w v e = eqb-false w.0 v.0 e
