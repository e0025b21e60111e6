-- What is written for an answer, with the locking shift before it, has at most five bytes.
use Prim.Native.Nat.{◌≤◌}
use native.Mathlib.Omega.{arith}
use lib.ListN.{length}
use Rattle.paper.specs.WrittenForms.{Writer, written_for}
use Rattle.paper.specs.declared.Form.{Form}
use Rattle.paper.specs.declared.PositionBytes.{PositionBytes}
use Rattle.paper.specs.declared.Intermediates.{Intermediates}
use Rattle.paper.specs.declared.Answer.{Answer}
use Rattle.paper.proofs.MostWritten.{most_written, most_written_lem}

five_at_most : (a : Answer) → most_written a ≤ 5
five_at_most Answer.NothingYet = omega arith
five_at_most (Answer.Char c x (PositionBytes.One p)) = omega arith
five_at_most (Answer.Char c x (PositionBytes.Two p q)) = omega arith
five_at_most (Answer.Char c x (PositionBytes.Three p q u)) = omega arith
five_at_most Answer.Space = omega arith
five_at_most Answer.Delete = omega arith
five_at_most (Answer.Control v f n) = omega arith
five_at_most (Answer.DesignateControls v f) = omega arith
five_at_most (Answer.Designate c x) = omega arith
five_at_most (Answer.Shift h) = omega arith
five_at_most (Answer.Other Intermediates.None f) = omega arith
five_at_most (Answer.Other (Intermediates.One i) f) = omega arith
five_at_most (Answer.Other (Intermediates.Two i j) f) = omega arith
five_at_most (Answer.Refused n) = omega arith
five_at_most Answer.Skipped = omega arith
five_at_most (Answer.InStep n) = omega arith

pub at_most_five : (to : Form) (w : Writer) (a : Answer) → length (written_for to w a) ≤ 5
at_most_five to w a = omega (arith, most_written_lem a to w, five_at_most a)
