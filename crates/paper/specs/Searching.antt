-- What the search of a lost reader is made of: whether bytes end with others, and what a reader keeps of the bytes since the
-- refused one, which is how much of the opening they end with and how many they are. The search itself, as the paper says it,
-- is `searched` in Texts. A reader in step keeps how much of the opening has gone by in the same way (Marks).
use Rattle.std.specs.Prelude.{ℕ, zero, suc, ◌+◌, ◌-◌, Bool, true, false, List, [], ◌∷◌, ◌++◌, leb, ltb, eqb, take, drop, length}
use Rattle.paper.specs.Choice.{◌gives◌or◌}
use Rattle.paper.specs.Words.{Form}
use Rattle.paper.specs.Starting.{opening}

-- two lists of bytes are the same: what was compared before them, and then byte by byte
abbrev pub same_on : Bool → List ℕ → List ℕ → Bool
same_on before [] [] = before
same_on before [] (c ∷ cs) = false
same_on before (b ∷ bs) [] = false
same_on before (b ∷ bs) (c ∷ cs) = same_on (before gives eqb b c or false) bs cs

abbrev pub same : List ℕ → List ℕ → Bool
same bs cs = same_on true bs cs

-- these bytes begin with those
abbrev pub begins_with : List ℕ → List ℕ → Bool
begins_with bs start = same (take (length start) bs) start

-- these bytes end with those
abbrev pub ends_with : List ℕ → List ℕ → Bool
ends_with bs end = same (drop (length bs - length end) bs) end

-- the longest beginning, of at most n bytes, with which the bytes end
abbrev pub longest : List ℕ → List ℕ → ℕ → ℕ
longest whole bs zero = 0
longest whole bs (suc n) = ends_with bs (take (suc n) whole) gives suc n or longest whole bs n

-- how much of the opening stands at the end, one byte after so much of it stood there
unfoldable pub matched_with : Form → ℕ → ℕ → ℕ
matched_with m k b = longest (opening m) (take k (opening m) ++ (b ∷ [])) (length (opening m))

-- the number of bytes skipped, or 65,535 if more
abbrev pub most_skipped : ℕ
most_skipped = 65535

unfoldable pub skipped_bytes : ℕ → ℕ
skipped_bytes n = leb n most_skipped gives n or most_skipped

-- one byte more
unfoldable pub one_more : ℕ → ℕ
one_more n = ltb n most_skipped gives n + 1 or most_skipped
