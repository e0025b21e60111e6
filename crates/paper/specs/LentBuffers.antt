-- What a lent buffer holds afterwards: the output over its first bytes and the rest unchanged, so all unchanged where nothing
-- was written.
use Rattle.std.specs.Prelude.{ℕ, List, ◌++◌, length, drop}

abbrev pub over : List ℕ → List ℕ → List ℕ
over output buffer = output ++ drop (length output) buffer
