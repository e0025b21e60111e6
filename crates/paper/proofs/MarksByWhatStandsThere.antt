-- A mark, said a second time: by what stands there. After any text the next byte is a mark exactly if the text does not end lost and the
-- bytes since the start, or since the latest instep, end with the opening at it. So an instep is none.
use Prim.Native.Nat.{ℕ, ◌<◌}
use mathlib.Core.Path.{◌≡◌, refl, ap, ◌∙◌, subst, sym}
use mathlib.Core.Bool.{Bool, true, false}
use mathlib.Core.List.{List, [], ◌∷◌, ◌++◌}
use native.Mathlib.Omega.{arith}
use borrow.Author.Tests.{eq-eqb, ne_eqb}
use lib.ListN.{length}
use Rattle.paper.specs.Choice.{◌gives◌or◌}
use Rattle.paper.specs.Words.{Form, Within, Standing, Reader, Answer, EndWord}
use Rattle.paper.specs.Starting.{started, opening}
use Rattle.paper.specs.Searching.{ends_with}
use Rattle.paper.specs.Marks.{recording, is_complete, gone_with, is_in_step, is_mark}
use Rattle.paper.specs.Answering.{answer_in_step, answer_standing, answer_to, end_within, end_standing, end_of_text}
use Rattle.paper.specs.Texts.{reader_after, end_word, answer_after, is_lost, since_in_step}
use Rattle.paper.proofs.LawfulAnswers.{Leaves, in_step_lawful, form_after}
use Rattle.paper.proofs.ListsThatEnd.{Longest}
use Rattle.paper.proofs.BeginningsByteByByte.{complete, not_yet}
use Rattle.paper.proofs.RecordsOfOpenings.{gone_now}
use Rattle.paper.proofs.ReadersThatTextsLeadTo.{KeptIn, Reached, reached}

-- the longest beginning is all of the opening exactly where the bytes end with it
complete_where : (m : Form) (w : List ℕ) (k : ℕ) → Longest (opening m) w (length (opening m)) k → is_complete m k ≡ ends_with w (opening m)
complete_where m w k l = by (ends_with w (opening m)) refl
  where
    by : (t : Bool) → ends_with w (opening m) ≡ t → is_complete m k ≡ t
    by true e = eq-eqb k (length (opening m)) (complete (opening m) w k l e)
    by false e =
        let less : k < length (opening m) = not_yet (opening m) w k l e in
        ne_eqb k (length (opening m)) (λ q. absurd (omega arith))

-- a byte that ends the opening, where the text before it does not end lost
abbrev pub stands_there : Form → EndWord → List ℕ → ℕ → Bool
stands_there m before since b = is_lost before gives false or ends_with (since ++ (b ∷ [])) (opening m)

-- a reader in step does not end lost
in_step_ends : (w : Within) (m : Form) (since : List ℕ) (b : ℕ) → stands_there m (end_within w) since b ≡ ends_with (since ++ (b ∷ [])) (opening m)
in_step_ends Within.Ground m since b = refl
in_step_ends (Within.Sequence s) m since b = refl
in_step_ends (Within.SingleShift e) m since b = refl
in_step_ends (Within.Character e a p) m since b = refl

by_the_record : (since : List ℕ) (r : Reader) (b : ℕ) → Reached since r → is_mark r b ≡ stands_there r.form (end_of_text r) since b
by_the_record since r b h = by r.standing h.keeps
  where
    by : (s : Standing) → KeptIn r.form since s r.gone →
        (is_in_step s gives is_complete r.form (gone_with r b) or false) ≡ stands_there r.form (end_standing s) since b
    by (Standing.InStep w) noted =
        complete_where r.form (since ++ (b ∷ [])) (gone_with r b) (gone_now r since b noted) ∙ sym (in_step_ends w r.form since b)
    by (Standing.Lost k n) search = refl

pub mark_where_an_opening_ends : (form : Form) (text : List ℕ) (next : ℕ) →
    let since = since_in_step form text in
    is_mark (reader_after (started form) text) next ≡ (is_lost (end_word form text) gives false or ends_with (since ++ (next ∷ [])) (opening form))
mark_where_an_opening_ends form text next =
    let reader : Reader = reader_after (started form) text in
    let since : List ℕ = since_in_step form text in
    by_the_record since reader next (reached form text) ∙
    ap (λ (m : Form). stands_there m (end_of_text reader) since next) (form_after text (started form))

-- a reader in step does not answer instep
pub instep_is_no_mark : (form : Form) (text : List ℕ) (next n : ℕ) → answer_after form text next ≡ Answer.InStep n →
    is_mark (reader_after (started form) text) next ≡ false
unfolding answer_to
instep_is_no_mark form text next n e = by reader.standing e
  where
    reader : Reader
    reader = reader_after (started form) text

    by : (s : Standing) → (answer_standing s next (recording 0 reader)).answer ≡ Answer.InStep n →
        (is_in_step s gives is_complete reader.form (gone_with reader next) or false) ≡ false
    by (Standing.InStep w) is =
        absurd (subst (λ (a : Answer). Leaves (recording 0 reader) next a (answer_in_step w next (recording 0 reader)).reader) is
        (in_step_lawful (recording 0 reader) next w).2)
    by (Standing.Lost k c) is = refl
