-- Refusal numbers. Where each stands in a text is said by whoever gives it: the reader 1 to 6, a conversion 7 to 9, a survey 8, a
-- listing 8 and 9; a lookup gives 10 or 11 at place 0. 13 and 14 are the shortest text's (request #108), and 12 is free.
use Rattle.std.specs.Prelude.{ℕ}
use Rattle.paper.specs.Words.{Refusal, Refused}

abbrev pub number_of : Refusal → ℕ
number_of Refusal.ByteOfEightBits = 1
number_of Refusal.NotOfSequence = 2
number_of Refusal.ThirdIntermediate = 3
number_of Refusal.WithoutMeaning = 4
number_of Refusal.NotOfSet = 5
number_of Refusal.AnotherArea = 6
number_of Refusal.EndsInside = 7
number_of Refusal.TooLong = 8
number_of Refusal.BufferShort = 9
number_of Refusal.NoNumber = 10
number_of Refusal.NotMapped = 11
number_of Refusal.InputTooLong = 13
number_of Refusal.WorkBufferShort = 14

-- a refusal with its place
abbrev pub refusal_at : Refusal → ℕ → Refused
refusal_at r place = record { refusal = r; place = place }

-- the longest text that is converted, surveyed or listed
abbrev pub longest_text : ℕ
longest_text = 65536
