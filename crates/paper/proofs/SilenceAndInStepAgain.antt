-- Demand 3, as may be relied on: silence after a refusal, and in step again after an opening, each said once over both forms. What
-- the words mean stands in specs/Texts (answer_after, answers_of, end_word, reader_after, later, OpeningIn, NoOpeningIn), specs/Starting
-- (opening, started) and specs/Searching (skipped_bytes: the number, or 65,535 if more). The laws behind stand in files of their own.
use Prim.Native.Nat.{ℕ}
use mathlib.Core.Path.{◌≡◌, sym, ap, ◌∙◌, subst}
use mathlib.Core.Logic.{◌⊎◌, ⊎_map}
use mathlib.Core.List.{List, [], ◌∷◌, ◌++◌}
use lib.ListN.{length}
use Rattle.paper.specs.Words.{Form, Seven, G1, Reader, Refusal, Answer, EndWord}
use Rattle.paper.specs.Starting.{started, opening}
use Rattle.paper.specs.Searching.{skipped_bytes}
use Rattle.paper.specs.Answering.{end_of_text}
use Rattle.paper.specs.Texts.{reader_after, answers_from, answers_of, end_word, answer_after, later, since_in_step, OpeningIn}
use Rattle.paper.specs.Texts.{NoOpeningIn}
use Rattle.paper.proofs.LawfulAnswers.{form_after}
use Rattle.paper.proofs.LostSinceARefusal.{opening_or_none, lost_since, Silent, silent_since}
use Rattle.paper.proofs.OffsetsOfALaterText.{answers_of_a_later_text}
use Rattle.paper.proofs.OpeningMakesTheStart.{opening_makes_the_start}
use Rattle.paper.proofs.ReadersThatTextsLeadTo.{reached}
use Rattle.paper.proofs.TextsThatGoOn.{reader_on}

-- Silence. After any text a byte is refused, and no opening stands in the bytes since, the refused one included. Then the next byte is
-- skipped; or an opening is complete with it, and it answers instep with the number of bytes from the refused one to it, both
-- counted, 65,535 if more.
pub silence : (form : Form) (text : List ℕ) (refused : ℕ) (number : Refusal) →
    answer_after form text refused ≡ Answer.Refused number → (more : List ℕ) (next : ℕ) →
    let since = refused ∷ more in
    let all = since ++ (next ∷ []) in
    let answer = answer_after form (text ++ since) next in
    NoOpeningIn form since →
    (NoOpeningIn form all → answer ≡ Answer.Skipped) ×
    (OpeningIn form all → answer ≡ Answer.InStep (skipped_bytes (length all)))
silence form text refused number e more next =
    let since : List ℕ = refused ∷ more in
    let r : Reader = reader_after (started form) text in
    subst (λ (f : Form). Silent f since next (reader_after (started form) (text ++ since))) (form_after text (started form))
    (subst (λ (now : Reader). Silent r.form since next now) (sym (reader_on text since (started form)))
    (silent_since r refused number more next e))

-- So nothing else is handed out before an opening is complete: no character, no control, no designation.
pub nothing_handed_out : (form : Form) (text : List ℕ) (refused : ℕ) (number : Refusal) →
    answer_after form text refused ≡ Answer.Refused number → (more : List ℕ) (next : ℕ) →
    let since = refused ∷ more in
    let answer = answer_after form (text ++ since) next in
    NoOpeningIn form since →
    (answer ≡ Answer.Skipped) ⊎ (answer ≡ Answer.InStep (skipped_bytes (length (since ++ (next ∷ [])))))
nothing_handed_out form text refused number e more next none =
    let either = silence form text refused number e more next none in
    ⊎_map either.0 either.1 (opening_or_none form (refused ∷ more) next none)

-- And a text that ends before that ends lost.
pub lost_at_the_end : (form : Form) (text : List ℕ) (refused : ℕ) (number : Refusal) →
    answer_after form text refused ≡ Answer.Refused number → (more : List ℕ) → NoOpeningIn form (refused ∷ more) →
    end_word form (text ++ (refused ∷ more)) ≡ EndWord.Lost
lost_at_the_end form text refused number e more none =
    let r : Reader = reader_after (started form) text in
    let none_of_it : NoOpeningIn r.form (refused ∷ more) =
    subst (λ (f : Form). NoOpeningIn f (refused ∷ more)) (sym (form_after text (started form))) none in
    ap end_of_text (reader_on text (refused ∷ more) (started form) ∙ (lost_since r refused number more e none_of_it).is)

-- The reader after an opening is the starting reader, equal as a value, whatever came before.
pub as_just_started : (form : Form) (before : List ℕ) → reader_after (started form) (before ++ opening form) ≡ started form
as_just_started form before =
    let r : Reader = reader_after (started form) before in
    reader_on before (opening form) (started form) ∙
    subst (λ (f : Form). reader_after r (opening f) ≡ started f) (form_after before (started form))
    (opening_makes_the_start (since_in_step form before) r (reached form before))

-- It is so in 7-bit form too, where an opening does not touch GR: there GR shows G1 from the start on, after any text, since the
-- shifts into GR have no meaning.
pub gr_stays_in_seven_bits : (text : List ℕ) → (reader_after (started Seven) text).gr ≡ G1
gr_stays_in_seven_bits text = (reached Seven text).gr_shows_g1 (form_after text (started Seven))

-- In step again. Any bytes at all, then the opening of the form, unbroken, then any text: the text gets the answers that it gets alone,
-- from a reader just started, as many bytes later as came before it; and the end word is its own.
pub in_step_again : (form : Form) (before text : List ℕ) →
    let first = before ++ opening form in
    (answers_of form (first ++ text) ≡ answers_of form first ++ later (length first) (answers_of form text)) ×
    (end_word form (first ++ text) ≡ end_word form text)
in_step_again form before text =
    let first : List ℕ = before ++ opening form in
    let start = as_just_started form before in (
      answers_of_a_later_text form first text ∙
          ap (λ (r : Reader). answers_of form first ++ later (length first) (answers_from 0 r text)) start,
      ap end_of_text (reader_on first text (started form) ∙ ap (λ (r : Reader). reader_after r text) start),
    )
