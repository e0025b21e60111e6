-- A text of 65,536 bytes is surveyed, listed and converted; one of 65,537 is refused with 8. By the test of its length.
use Prim.Native.Nat.{ℕ}
use mathlib.Core.Path.{◌≡◌}
use mathlib.Core.List.{List, []}
use lib.ListN.{length, drop}
use Rattle.paper.specs.Words.{Form, Reader, Refusal}
use Rattle.paper.specs.Starting.{started}
use Rattle.paper.specs.Surveying.{figures_of, survey_of}
use Rattle.paper.specs.Conversions.{refusal_in, output, into_room, conversion}
use Rattle.paper.specs.Lister.{ascii, lines_from, listing, fill_from, filled}
use Rattle.std.specs.Prelude.{Ok, Err}
use Rattle.paper.specs.Refusals.{refusal_at}

module _ (m : Form) (l : List ℕ) where
  pub surveyed_at_most :
      (length l ≡ 65536 → survey_of m l ≡ Ok (figures_of m l)) ×
      (length l ≡ 65537 → survey_of m l ≡ Err Refusal.TooLong)
  unfolding survey_of
  surveyed_at_most = ((λ e. rw e), (λ e. rw e))

  pub listed_at_most :
      (length l ≡ 65536 → listing m l ≡ lines_from 65536 0 (started m) l) ×
      (length l ≡ 65537 → listing m l ≡ ascii "0 refused 8\n")
  unfolding listing
  listed_at_most = ((λ e. rw e), (λ e. rw e))

module _ (room at : ℕ) (r : Reader) (l : List ℕ) where
  pub filled_at_most :
      (length l ≡ 65536 → filled room at r l ≡ fill_from 65536 0 room at r (drop at l)) ×
      (length l ≡ 65537 → filled room at r l ≡ record { answer = Err Refusal.TooLong; bytes = [] })
  unfolding filled
  filled_at_most = ((λ e. rw e), (λ e. rw e))

module _ (from to : Form) (l : List ℕ) (room : ℕ) where
  pub converted_at_most :
      (length l ≡ 65536 → conversion from to l room ≡ into_room (refusal_in from l) (length (output from to l)) room) ×
      (length l ≡ 65537 → conversion from to l room ≡ Err (refusal_at Refusal.TooLong 0))
  unfolding conversion
  converted_at_most = ((λ e. rw e), (λ e. rw e))
