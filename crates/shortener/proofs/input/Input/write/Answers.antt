-- The passes one after the other: codes, choices, output, zeros.
use Prim.Native.Nat.{ℕ, ◌≤◌}
use mathlib.Core.List.{List}
use native.Mathlib.Omega.{arith}
use lib.ListN.{length}
use Rattle.shortest.specs.Shortening.{longest_input, work_length}
use Rattle.shortener.specs.Weighing.{all_codes}
use Rattle.shortener.proofs.OverTheWorkBuffer.{cleared}
use Rattle.shortener.proofs.input.Input.write.Goals as goal

room : (n k : ℕ) → n ≤ longest_input → work_length ≤ k → n ≤ k
room n k short enough = omega arith

pub returns : goal.returns
returns c =
    let text : List ℕ = c.args.self.text.now in
    let work : List ℕ = c.args.work.now in
    let weigh = c.weigh-count in
    let choose = c.choose in
    let pre = c.requires.accepted in
    let coded = weigh.ensures.work_after (room (length text) (length work) c.args.self.short pre.1) in record {
      buffer_after = c.put_units.ensures;
      work_after = cleared (all_codes c.args.self.form text) work _ _ weigh.result.count coded.1 coded.0 choose.ensures _
          (omega (arith, coded.2, c.args.self.short)) c.clear.ensures;
    }
