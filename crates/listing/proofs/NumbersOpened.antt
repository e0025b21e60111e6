-- A number is what std prints of it, and a line with its numbers opened is the paper's.
use mathlib.Core.Path.{◌≡◌, refl, ap, sym, ◌∙◌}
use mathlib.Core.List.{List, [], ◌∷◌, ◌++◌, append_assoc}
use Prim.Native.Nat.{ℕ, ◌+◌, ◌%◌, ◌^◌, ◌<◌}
use native.Mathlib.Omega.{arith}
use borrow.Author.Tests.{lt-ltb, le-ltb}
use Rattle.std.specs.Fmt.{decimal}
use Rattle.std.proofs.lemmas.Fmt.{AppendsLastDigit, decimal_from_appends, length-decimal-le}
use Rattle.paper.specs.declared.Answer.{Answer}
use Rattle.paper.specs.declared.EndWord.{EndWord}
use Rattle.paper.specs.Sets.{space}
use Rattle.paper.specs.Lister.{ascii, end_name, digit, decimal_within, line, line_end, line_of, end_line}
use Rattle.listing.specs.Numerals.{fields, parted, numeral, size_numeral, answer_fields, answer_line, last_line}

last_digit : (n : ℕ) → digit (n % 10) ≡ 48 + n % 10
last_digit n = let h : n % 10 < 10 = omega arith in rw (lt-ltb (n % 10) 10 h)

appends : AppendsLastDigit decimal_within
appends = record {
  one = λ k n h. rw (lt-ltb n 10 h);
  more = λ k n h. rw (le-ltb n 10 h, last_digit n);
}

pub numeral_lem : (n : ℕ) → n < 2 ^ 64 → decimal n ≡ numeral n
unfolding numeral
numeral_lem n h = sym (decimal_from_appends decimal_within appends 20 n h (length-decimal-le 20 n (omega arith) (omega arith) h))

-- each line
parted_line : (field : List ℕ) (more : List (List ℕ)) → parted field more ≡ line field more
parted_line field [] = refl
parted_line field (next ∷ more) =
    ap (λ (l : List ℕ). field ++ (space ∷ l)) (append_assoc next (fields more) (line_end ∷ []) ∙ parted_line next more)

pub opened : (at : ℕ) (a : Answer) → answer_line at a ≡ line_of at a
unfolding numeral size_numeral
opened at Answer.NothingYet = refl
opened at Answer.Skipped = refl
opened at a = parted_line (numeral at) (answer_fields a)

pub last_opened : (n : ℕ) (w : EndWord) → last_line n w ≡ end_line n w
unfolding numeral
last_opened n w = parted_line (ascii "end") (numeral n ∷ end_name w ∷ [])

-- fields put after each other, as one text
pub ruleset joined = (append_assoc)
