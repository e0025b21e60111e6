-- In each half of the code table the controls are the first 32 bytes.
use Rattle.std.proofs.Common.{◌≡◌, ◌%◌, ltb, arith, le-ltb, lt-ltb}
use Rattle.paper.specs.CodeTable.{bit8}
use Rattle.paper.specs.Sets.{space}
use Rattle.paper.specs.declared.Area.{Area}
use Rattle.items.specs.Items.{is_control}
use Rattle.items.proofs.AreasOfBytes.{area_by}
use Rattle.items.proofs.reading.is_control.Goals as goal

pub returns : goal.returns
returns c = let b = c.args.byte in
    area_by (λ (a : Area). ltb (b % bit8) space ≡ is_control a) b (λ h. lt-ltb (b % bit8) space (omega arith))
    (λ l h. le-ltb (b % bit8) space (omega arith)) (λ l h. lt-ltb (b % bit8) space (omega arith))
    (λ l. le-ltb (b % bit8) space (omega arith))
