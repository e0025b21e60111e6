-- The bytes after the first two are those with which both openings begin, and then the end decides.
use Prim.Native.Nat.{ℕ}
use mathlib.Core.List.{List}
use mathlib.Core.Path.{◌≡◌, sym, ap, ◌∙◌}
use native.Mathlib.Omega.{arith}
use Rattle.std.proofs.Common.{rules}
use Rattle.std.specs.Str.{bytes_eq}
use Rattle.std.proofs.lemmas.Slice.{between_to_end}
use lib.ListN.{length, take, drop, length-append}
use Rattle.paper.specs.Starting.{opening_start, opening_end, opening}
use Rattle.paper.specs.Searching.{begins_with}
use Rattle.paper.specs.declared.Form.{Form}
use Rattle.openings.proofs.BlockThere.{too_few}
use Rattle.openings.proofs.RestThere.{first_differs, next_decides}
use Rattle.openings.proofs.rest_ahead.Goals as goal

pub returns-in_default-get : goal.returns-in_default-get
returns-in_default-get c =
    let at : c.in-Some.ahead.now ≡ drop c.args.place c.args.text.now = search (rules, between_to_end) in
    too_few _ (drop 2 (opening c.args.form))
    (omega (arith, ap length at, length-append (drop 2 opening_start) (opening_end c.args.form), c.in_default-get.ensures.lookup))

pub returns-then-not-is_start : goal.returns-then-not-is_start
returns-then-not-is_start c =
    let at : c.in-Some.ahead.now ≡ drop c.args.place c.args.text.now = search (rules, between_to_end) in
    let block : c.in-Some-get.block.now ≡ take 16 c.in-Some.ahead.now = search rules in
    first_differs _ (drop 2 opening_start) (opening_end c.args.form)
    (ap (λ (l : List ℕ). bytes_eq l (drop 2 opening_start)) (sym (block ∙ ap (take 16) at)) ∙
    sym c.is_start.ensures ∙ c.if-not-is_start.true)

pub returns-in-Seven : goal.returns-in-Seven
returns-in-Seven c =
    let at : c.in-Some.ahead.now ≡ drop c.args.place c.args.text.now = search (rules, between_to_end) in
    let block : c.in-Some-get.block.now ≡ take 16 c.in-Some.ahead.now = search rules in
    rw (between_to_end c.in-Some.ahead.now 16 (length c.in-Some.ahead.now) (omega arith), at) at c.starts_with.ensures.value ∙
    next_decides (drop c.args.place c.args.text.now) (drop 2 opening_start) (opening_end Form.Seven)
    (ap (λ (l : List ℕ). bytes_eq l (drop 2 opening_start)) (sym (block ∙ ap (take 16) at)) ∙
    sym c.is_start.ensures ∙ c.if-not-is_start.false) ∙
    ap (λ (m : Form). begins_with (drop c.args.place c.args.text.now) (drop 2 (opening m))) (sym c.in-Seven.is)

pub returns-in-Eight : goal.returns-in-Eight
returns-in-Eight c =
    let at : c.in-Some.ahead.now ≡ drop c.args.place c.args.text.now = search (rules, between_to_end) in
    let block : c.in-Some-get.block.now ≡ take 16 c.in-Some.ahead.now = search rules in
    rw (between_to_end c.in-Some.ahead.now 16 (length c.in-Some.ahead.now) (omega arith), at) at c.starts_with-in-Eight.ensures.value ∙
    next_decides (drop c.args.place c.args.text.now) (drop 2 opening_start) (opening_end Form.Eight)
    (ap (λ (l : List ℕ). bytes_eq l (drop 2 opening_start)) (sym (block ∙ ap (take 16) at)) ∙
    sym c.is_start.ensures ∙ c.if-not-is_start.false) ∙
    ap (λ (m : Form). begins_with (drop c.args.place c.args.text.now) (drop 2 (opening m))) (sym c.in-Eight.is)
