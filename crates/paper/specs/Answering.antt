-- Answer to one byte.
use Rattle.std.specs.Prelude.{ℕ, ◌-◌, eqb, length}
use Rattle.paper.specs.Choice.{◌gives◌or◌}
use Rattle.paper.specs.Words.{Area, SequenceByte, Intermediate, Final, Neither, Intermediates, Meaning, NoMeaning}
use Rattle.paper.specs.Words.{Function, Shifts, Within, Standing, Reader, Refusal, Answer, Answered, EndWord, Sets}
use Rattle.paper.specs.CodeTable.{area_of, form_has, bit8}
use Rattle.paper.specs.Sets.{set_in}
use Rattle.paper.specs.Starting.{started, opening}
use Rattle.paper.specs.Sequences.{sequence_byte, c1_function, meaning_of, sequence_answer, sets_after}
use Rattle.paper.specs.Searching.{matched_with, one_more}
use Rattle.paper.specs.Marks.{recording, record_after}
use Rattle.paper.specs.Characters.{standing_at, waits, lost_with, refuses, shifted, c0_byte, gl_byte, gr_byte}
use Rattle.paper.specs.Characters.{single_byte, later_byte}

-- a reader on the ground that has these sets
abbrev pub with_sets : Sets → Reader → Reader
with_sets t r = record { form = r.form; sets = t; gl = r.gl; gr = r.gr; gone = r.gone; standing = Standing.InStep Within.Ground }

-- the reader after a sequence or a C1 function: lost where there is no meaning, shifted, or on the ground with its sets
abbrev pub after_meaning : Meaning → ℕ → Reader → Reader
after_meaning NoMeaning f r = lost_with f r
after_meaning Meaning.Other f r = with_sets (sets_after r.sets Meaning.Other f) r
after_meaning (Function n) f r = with_sets (sets_after r.sets (Function n) f) r
after_meaning (Shifts h) f r = shifted h r
after_meaning (Meaning.DesignateControls w) f r = with_sets (sets_after r.sets (Meaning.DesignateControls w) f) r
after_meaning (Meaning.Designate e k n) f r = with_sets (sets_after r.sets (Meaning.Designate e k n) f) r

unfoldable pub means : Meaning → Intermediates → ℕ → Reader → Answered
means w s f r = record { answer = sequence_answer r.sets w s f; reader = after_meaning w f r }

-- 8/0 to 9/15: the C1 function 0 to 31; SS2 (8/14) and SS3 (8/15) keep their places in every C1 set (H)
abbrev pub c1_byte : ℕ → Reader → Answered
c1_byte b r = means (c1_function (b - bit8)) Intermediates.None b r

-- up to two intermediates
abbrev pub intermediate : Intermediates → ℕ → Reader → Answered
intermediate Intermediates.None b r = waits (Within.Sequence (Intermediates.One b)) r
intermediate (Intermediates.One i) b r = waits (Within.Sequence (Intermediates.Two i b)) r
intermediate (Intermediates.Two i j) b r = refuses Refusal.ThirdIntermediate b r

-- a byte inside a sequence: it goes on, it ends, or the byte is refused
abbrev pub sequence_at : SequenceByte → Intermediates → ℕ → Reader → Answered
sequence_at Intermediate s b r = intermediate s b r
sequence_at Final s b r = means (meaning_of r.form s b) s b r
sequence_at Neither s b r = refuses Refusal.NotOfSequence b r

-- a byte on the ground, by its area
abbrev pub ground_at : Area → ℕ → Reader → Answered
ground_at Area.C0 b r = c0_byte b r
ground_at Area.GL b r = gl_byte r.gl (set_in r.sets r.gl) b r
ground_at Area.C1 b r = c1_byte b r
ground_at Area.GR b r = gr_byte r.gr (set_in r.sets r.gr) b r

-- a byte of the form, by where the reader stands
abbrev pub answer_within : Within → ℕ → Reader → Answered
answer_within Within.Ground b r = ground_at (area_of b) b r
answer_within (Within.Sequence s) b r = sequence_at (sequence_byte b) s b r
answer_within (Within.SingleShift e) b r = single_byte e (set_in r.sets e) b r
answer_within (Within.Character e a p) b r = later_byte e (set_in r.sets e) a p b r

-- a byte of 128 or more in 7-bit form is refused before all others
unfoldable pub answer_in_step : Within → ℕ → Reader → Answered
answer_in_step w b r = form_has r.form b gives answer_within w b r or refuses Refusal.ByteOfEightBits b r

-- skipped, until the last byte of the opening, which answers instep; the state is then the starting state
abbrev pub answer_searching : ℕ → ℕ → Reader → Answered
answer_searching k n r =
    eqb k (length (opening r.form)) gives record { answer = Answer.InStep n; reader = started r.form } or
    record { answer = Answer.Skipped; reader = standing_at (Standing.Lost k n) r }

unfoldable pub answer_lost : ℕ → ℕ → ℕ → Reader → Answered
answer_lost k n b r = answer_searching (matched_with r.form k b) (one_more n) r

abbrev pub answer_standing : Standing → ℕ → Reader → Answered
answer_standing (Standing.InStep w) b r = answer_in_step w b r
answer_standing (Standing.Lost k n) b r = answer_lost k n b r

-- The answer, and the reader for the next byte. The record of the opening moves here and nowhere else: the cases above are given a
-- reader that has recorded nothing, and what is recorded after the byte is put in when they have answered
unfoldable pub answer_to : Reader → ℕ → Answered
answer_to r b =
    let a = answer_standing r.standing b (recording 0 r) in
    record { answer = a.answer; reader = recording (record_after r b a.reader.standing) a.reader }

-- at the end of a text the answer is whole, inside or lost
abbrev pub end_within : Within → EndWord
end_within Within.Ground = EndWord.Whole
end_within (Within.Sequence s) = EndWord.Inside
end_within (Within.SingleShift e) = EndWord.Inside
end_within (Within.Character e a p) = EndWord.Inside

abbrev pub end_standing : Standing → EndWord
end_standing (Standing.InStep w) = end_within w
end_standing (Standing.Lost k n) = EndWord.Lost

abbrev pub end_of_text : Reader → EndWord
end_of_text r = end_standing r.standing
