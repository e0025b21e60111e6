-- As many zeros as there is room for in the part.
use Rattle.std.proofs.Common.{◌≡◌, ℕ, ◌≤◌, List, ◌++◌, length, take, drop, replicate, ap, ◌∙◌, rules}
use lib.Seq.{length-take-le}
use Rattle.shortest.specs.Shortening.{work_length}
use Rattle.shortener.proofs.clear.Goals as goal

filled : (part work : List ℕ) → part ≡ replicate (length (take work_length work)) 0 → work_length ≤ length work →
    part ++ drop work_length work ≡ replicate work_length 0 ++ drop work_length work
filled part work is room =
    ap (λ (l : List ℕ). l ++ drop work_length work) (is ∙ ap (λ (n : ℕ). replicate n 0) (length-take-le work_length work room))

pub returns : goal.returns
returns c = filled _ c.args.work.now (c.fill.ensures.after (λ y e. search rules)) c.requires
