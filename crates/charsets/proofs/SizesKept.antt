-- The number of a size has its kind and its count; where it says one byte to a character, the count is one.
use Prim.Native.Nat.{ℕ}
use mathlib.Core.Path.{◌≡◌, refl}
use mathlib.Core.Bool.{true}
use Rattle.paper.specs.declared.Kind.{Kind}
use Rattle.paper.specs.declared.Count.{Count}
use Rattle.charsets.specs.Sizes.{size_number, kind_of, count_of, is_one}

pub kind_kept : (k : Kind) (n : Count) → kind_of (size_number k n) ≡ k
unfolding kind_of
kind_kept Kind.Of94 Count.One = refl
kind_kept Kind.Of94 Count.Two = refl
kind_kept Kind.Of94 Count.Three = refl
kind_kept Kind.Of96 Count.One = refl
kind_kept Kind.Of96 Count.Two = refl
kind_kept Kind.Of96 Count.Three = refl

pub count_kept : (k : Kind) (n : Count) → count_of (size_number k n) ≡ n
unfolding count_of
count_kept Kind.Of94 Count.One = refl
count_kept Kind.Of94 Count.Two = refl
count_kept Kind.Of94 Count.Three = refl
count_kept Kind.Of96 Count.One = refl
count_kept Kind.Of96 Count.Two = refl
count_kept Kind.Of96 Count.Three = refl

pub one_count : (x : ℕ) → is_one x ≡ true → count_of x ≡ Count.One
unfolding is_one count_of
one_count x one = rw one
