-- A listing may be made in pieces: what a call writes fits its buffer, and followed by what is listed from where it says to go
-- on it is what is listed from where it began. By induction on the bytes that are left.
use Prim.Native.Nat.{ℕ, zero, suc, ◌+◌, ◌-◌, ◌<◌, ◌≤◌}
use mathlib.Core.Path.{◌≡◌, refl, sym, ap, ◌∙◌, subst}
use mathlib.Core.Bool.{Bool, true, false}
use mathlib.Core.List.{List, [], ◌∷◌, ◌++◌, append_assoc}
use native.Mathlib.Omega.{arith}
use borrow.Author.Tests.{le-leb, leb-true}
use lib.Dec.{leb}
use lib.ListN.{length, drop, length-append}
use lib.Seq.{drop-drop, drop_at}
use Rattle.paper.specs.Choice.{◌gives◌or◌}
use Rattle.paper.specs.Words.{Form, Reader, Refusal, Listed}
use Rattle.paper.specs.Starting.{started}
use Rattle.paper.specs.Refusals.{longest_text}
use Rattle.paper.specs.Answering.{answer_to, end_of_text}
use Rattle.paper.proofs.Choices.{impossible}
use Rattle.paper.specs.Lister.{line_of, end_line, lines_from, listing, Filled, stops, after, fill_from, filled}
use Rattle.std.specs.Prelude.{Result, Ok, Err}

-- the bytes that are left, parted where the next call goes on
pub record Parted (n at : ℕ) (r : Reader) (l bytes : List ℕ) (next : ℕ) (reader : Reader) : Type 0 where
  pub front : List ℕ
  pub rest : List ℕ
  pub parts : l ≡ front ++ rest
  pub place : next ≡ at + length front
  pub lines : bytes ++ lines_from n next reader rest ≡ lines_from n at r l
  pub moved : front ≡ [] → bytes ≡ []

-- what an answer says of the bytes that are written, where so many were written before and there was room for so many more
abbrev pub Tells : ℕ → ℕ → ℕ → ℕ → Reader → List ℕ → List ℕ → Result Listed Refusal → Type 0
Tells n written room at r l bytes (Ok (Listed.Done k)) =
    (k ≡ written + length bytes) × (length bytes ≤ room) × (bytes ≡ lines_from n at r l)
Tells n written room at r l bytes (Ok (Listed.More k next reader)) =
    (k ≡ written + length bytes) × (length bytes ≤ room) × Parted n at r l bytes next reader × (1 ≤ k)
Tells n written room at r l bytes (Err e) = (written ≡ 0) × (bytes ≡ []) × (e ≡ Refusal.BufferShort)

module _ (n room at : ℕ) (r : Reader) (l : List ℕ) where
  stopped : (written : ℕ) → Tells n written room at r l [] (stops written at r)
  stopped zero = (refl, refl, refl)
  stopped (suc k) = (
    omega arith,
    omega arith,
    record { front = []; rest = l; parts = refl; place = omega arith; lines = refl; moved = λ e. refl },
    omega arith,
  )

last_line_lem : (t : Bool) (n written room at : ℕ) (r : Reader) → leb (length (end_line n (end_of_text r))) room ≡ t →
    let f : Filled =
    t gives record { answer = Ok (Listed.Done (written + length (end_line n (end_of_text r)))); bytes = end_line n (end_of_text r) } or
    record { answer = stops written at r; bytes = [] } in
    Tells n written room at r [] f.bytes f.answer
last_line_lem true n written room at r e = (refl, leb-true (length (end_line n (end_of_text r))) room e, refl)
last_line_lem false n written room at r e = stopped n room at r [] written

nothing : (l : List ℕ) → length l ≡ 0 → l ≡ []
nothing [] e = refl
nothing (b ∷ l) e = absurd (omega arith)

-- a line more in front
one_line : (n written room at : ℕ) (r : Reader) (b : ℕ) (bs : List ℕ) (f : Filled) →
    length (line_of at (answer_to r b).answer) ≤ room →
    let line = line_of at (answer_to r b).answer in
    Tells n (written + length line) (room - length line) (suc at) (answer_to r b).reader bs f.bytes f.answer →
    Tells n written room at r (b ∷ bs) (line ++ f.bytes) f.answer
one_line n written room at r b bs f h t = by f.answer t
  where
    line : List ℕ
    line = line_of at (answer_to r b).answer

    by : (a : Result Listed Refusal) →
        Tells n (written + length line) (room - length line) (suc at) (answer_to r b).reader bs f.bytes a →
        Tells n written room at r (b ∷ bs) (line ++ f.bytes) a
    by (Ok (Listed.Done k)) t =
        let c = t.0 in let m = t.1 in let s = length-append line f.bytes in
        (omega arith, omega arith, ap (λ (x : List ℕ). line ++ x) t.2)
    by (Ok (Listed.More k next reader)) t =
        let c = t.0 in let m = t.1 in let s = length-append line f.bytes in let p = t.2 in (
          omega arith,
          omega arith,
          record {
            front = b ∷ p.front;
            rest = p.rest;
            parts = ap (λ (x : List ℕ). b ∷ x) p.parts;
            place = let q = p.place in omega arith;
            lines = append_assoc line f.bytes (lines_from n next reader p.rest) ∙ ap (λ (x : List ℕ). line ++ x) p.lines;
            moved = λ e. impossible (cc);
          },
          t.3,
        )
    by (Err e) t =
        let z = t.0 in let q : line ≡ [] = nothing line (omega arith) in
        (omega arith, (λ i. q i ++ t.1 i), t.2)

filling : (t : Bool) (n written room at : ℕ) (r : Reader) (b : ℕ) (bs : List ℕ) (f : Filled) →
    leb (length (line_of at (answer_to r b).answer)) room ≡ t →
    let line = line_of at (answer_to r b).answer in
    Tells n (written + length line) (room - length line) (suc at) (answer_to r b).reader bs f.bytes f.answer →
    let g : Filled = t gives after line f or record { answer = stops written at r; bytes = [] } in
    Tells n written room at r (b ∷ bs) g.bytes g.answer
filling true n written room at r b bs f e t =
    one_line n written room at r b bs f (leb-true (length (line_of at (answer_to r b).answer)) room e) t
filling false n written room at r b bs f e t = stopped n room at r (b ∷ bs) written

pub fill_tells : (l : List ℕ) (n written room at : ℕ) (r : Reader) →
    Tells n written room at r l (fill_from n written room at r l).bytes (fill_from n written room at r l).answer
fill_tells [] n written room at r = last_line_lem (leb (length (end_line n (end_of_text r))) room) n written room at r refl
fill_tells (b ∷ bs) n written room at r =
    let line = line_of at (answer_to r b).answer in
    filling (leb (length line) room) n written room at r b bs
    (fill_from n (written + length line) (room - length line) (suc at) (answer_to r b).reader bs) refl
    (fill_tells bs n (written + length line) (room - length line) (suc at) (answer_to r b).reader)

-- ---- a call

filled_is : (room at : ℕ) (r : Reader) (l : List ℕ) → length l ≤ longest_text →
    filled room at r l ≡ fill_from (length l) 0 room at r (drop at l)
unfolding filled
filled_is room at r l h = rw (le-leb (length l) longest_text h)

module _ (room at : ℕ) (r : Reader) (l : List ℕ) (h : length l ≤ longest_text) where
  abbrev call : Filled
  call = filled room at r l

  call_tells : Tells (length l) 0 room at r (drop at l) call.bytes call.answer
  call_tells =
      subst (λ (f : Filled). Tells (length l) 0 room at r (drop at l) f.bytes f.answer)
      (sym (filled_is room at r l h)) (fill_tells (drop at l) (length l) 0 room at r)

  told : (a : Result Listed Refusal) → call.answer ≡ a → Tells (length l) 0 room at r (drop at l) call.bytes a
  told a e = subst (Tells (length l) 0 room at r (drop at l) call.bytes) e call_tells

  -- it is done: its bytes are all that is listed from here on
  pub listing_done : (k : ℕ) → call.answer ≡ Ok (Listed.Done k) → call.bytes ≡ lines_from (length l) at r (drop at l)
  listing_done k e = (told (Ok (Listed.Done k)) e).2

  -- there is more: its bytes and what is listed from there on are what is listed from here on
  pub listing_in_pieces : (k next : ℕ) (reader : Reader) → call.answer ≡ Ok (Listed.More k next reader) →
      call.bytes ++ lines_from (length l) next reader (drop next l) ≡ lines_from (length l) at r (drop at l)
  listing_in_pieces k next reader e =
      let p = (told (Ok (Listed.More k next reader)) e).2 in
      let there : drop next l ≡ p.rest =
      ap (λ (i : ℕ). drop i l) p.place ∙
      (sym (drop-drop (length p.front) at l) ∙
      (ap (drop (length p.front)) p.parts ∙ drop_at p.front p.rest (length p.front) refl)) in
      ap (λ (x : List ℕ). call.bytes ++ lines_from (length l) next reader x) there ∙ p.lines

  -- and it goes on at a later byte
  pub listing_goes_on : (k next : ℕ) (reader : Reader) → call.answer ≡ Ok (Listed.More k next reader) → at < next
  listing_goes_on k next reader e = by (told (Ok (Listed.More k next reader)) e)
    where
      by : Tells (length l) 0 room at r (drop at l) call.bytes (Ok (Listed.More k next reader)) → at < next
      by t = front_of t.2.front refl
        where
          front_of : (f : List ℕ) → t.2.front ≡ f → at < next
          front_of [] q =
              let none = ap length (t.2.moved q) in let c = t.0 in let some = t.3 in
              absurd (omega arith)
          front_of (b ∷ bs) q = let p = t.2.place in let s = ap length q in omega arith

-- the whole of a text, from the start
pub listing_of_a_text : (room : ℕ) (m : Form) (l : List ℕ) (k : ℕ) → length l ≤ longest_text →
    (filled room 0 (started m) l).answer ≡ Ok (Listed.Done k) → (filled room 0 (started m) l).bytes ≡ listing m l
unfolding listing
listing_of_a_text room m l k h e = listing_done room 0 (started m) l h k e ∙ sym (rw (le-leb (length l) longest_text h))

-- a call writes no more than its buffer has
module _ (room at : ℕ) (r : Reader) (l : List ℕ) where
  abbrev Fits : Result Listed Refusal → Type 0
  Fits (Ok (Listed.Done k)) = k ≤ room
  Fits (Ok (Listed.More k next reader)) = k ≤ room
  Fits (Err e) = Unit {0}

  tells_within : (bytes : List ℕ) (a : Result Listed Refusal) → Tells (length l) 0 room at r (drop at l) bytes a → Fits a
  tells_within bytes (Ok (Listed.Done k)) t = let c = t.0 in let m = t.1 in omega arith
  tells_within bytes (Ok (Listed.More k next reader)) t = let c = t.0 in let m = t.1 in omega arith
  tells_within bytes (Err e) t = tt

  pub call_within : Fits (filled room at r l).answer
  unfolding filled
  call_within =
      let f : Filled = fill_from (length l) 0 room at r (drop at l) in
      by (leb (length l) longest_text) (tells_within f.bytes f.answer (fill_tells (drop at l) (length l) 0 room at r))
    where
      by : (t : Bool) → Fits (fill_from (length l) 0 room at r (drop at l)).answer →
          Fits (◌gives◌or◌ {A = Filled} t (fill_from (length l) 0 room at r (drop at l))
          (record { answer = Err Refusal.TooLong; bytes = [] })).answer
      by true w = w
      by false w = tt
