-- What stands in the head of a case that a test program reads.
use Rattle.std.specs.Prelude.{ℕ, ◌+◌, ◌*◌, nat_eq, if◌then◌else◌}
use Rattle.paper.specs.declared.Form.{Form}

-- the byte 7 in the code table, or else any other
abbrev pub form_named : ℕ → Form
form_named b = if nat_eq b 55 then Form.Seven else Form.Eight

-- the digit that names a form, in the code table
abbrev pub digit_of : Form → ℕ
digit_of Form.Seven = 55
digit_of Form.Eight = 56

-- three bytes, the highest first
abbrev pub length_of : ℕ → ℕ → ℕ → ℕ
length_of first second third = first * 65536 + second * 256 + third
