-- What the item at a place is to a pass over an accepted text, by its word: an opening, a shift, or a unit whose code and bytes are those of the
-- answer that is the next step.
use Prim.Native.Nat.{ℕ, ◌<◌}
use mathlib.Core.Path.{◌≡◌, sym, ap, ◌∙◌, subst}
use mathlib.Core.Bool.{Bool, true, false}
use mathlib.Core.List.{List}
use lib.ListN.{length}
use Rattle.paper.specs.Choice.{◌gives◌or◌}
use Rattle.paper.specs.Sets.{set_in}
use Rattle.paper.specs.Starting.{starting_sets}
use Rattle.paper.specs.Results.{element_number, word_of}
use Rattle.paper.specs.WrittenForms.{left_out, sets_with}
use Rattle.paper.specs.declared.Form.{Form}
use Rattle.paper.specs.declared.Element.{Element}
use Rattle.paper.specs.declared.Sets.{Sets}
use Rattle.paper.specs.declared.Answer.{Answer}
use Rattle.paper.proofs.Choices.{impossible}
use Rattle.paper.proofs.WhatCanBeWritten.{CanBeWritten, Steps, said, opened, AllCanBeWritten}
use Rattle.charsets.specs.Sizes.{kind_of}
use Rattle.escapes.specs.Effects.{word_number}
use Rattle.items.specs.Pieces.{bytes_in, Small}
use Rattle.items.specs.States.{size_in, changed, starting_cells}
use Rattle.items.specs.Items.{item_of, item_at}
use Rattle.items.specs.declared.item.Item as declared
use Rattle.items.proofs.CharactersGoOn.{kind_in}
use Rattle.shortest.specs.ShortestText.{bytes_under}
use Rattle.shortener.specs.Codes.{code_of}
use Rattle.shortener.specs.Under.{under, code_by, is_unit, Fit}
use Rattle.shortener.specs.Going.{Going}
use Rattle.shortener.proofs.StepsByItems.{Tells, opens, passes, says, item_tells, no_opening_word}
use Rattle.shortener.proofs.ItemsAsAnswers.{code_said, bytes_said, fit_said}
use Rattle.escapes.specs.Effects.{opening_word}

module _ {m : Form} {text cells : List ℕ} {place : ℕ} {s : Steps} {t : Sets} (g : Going m text cells place s t) (inside : place < length text)
    (r : declared.Item) (is : item_of r ≡ item_at m cells text place) where
  tells : Tells m text cells place s t (item_of r)
  tells = subst (Tells m text cells place s t) (sym is) (item_tells g inside)

  -- an opening
  pub record OpensIt : Type 0 where
    pub onward : place < r.place
    pub then : Steps
    pub next : s ≡ opened then
    pub going : Going m text starting_cells r.place then starting_sets

  -- a shift
  pub record ShiftsIt : Type 0 where
    pub onward : place < r.place
    pub going : Going m text (changed r.effect cells) r.place s t

  -- an answer
  pub record SaysIt : Type 0 where
    pub onward : place < r.place
    pub answer : Answer
    pub then : Steps
    pub next : s ≡ said answer then
    pub stays : left_out answer ≡ false
    pub can : CanBeWritten t answer
    pub going : Going m text (changed r.effect cells) r.place then (sets_with t answer)
    pub code : code_by cells r.effect (bytes_in r.piece) ≡ code_of t answer
    pub bytes : (gl : Element) → under gl r.effect (bytes_in r.piece) ≡ bytes_under gl answer
    pub fit : Small r.piece → Fit r.effect r.piece

  kinds : (e : Element) → kind_of (size_in cells (element_number e)) ≡ (set_in t e).kind
  kinds e =
      ap (λ (c : List ℕ). kind_of (size_in c (element_number e))) g.stands.has ∙
      kind_in g.reader g.stands.single g.stands.left e ∙
      ap (λ (u : Sets). (set_in u e).kind) g.reading.sets_are

  pub opens_it : word_number r.effect.word ≡ opening_word → OpensIt
  opens_it word = by tells
    where
      by : Tells m text cells place s t (item_of r) → OpensIt
      by (opens onward w then next going) = record { onward = onward; then = then; next = next; going = going }
      by (passes onward x w out going) = absurd (no_opening_word x (sym w ∙ word))
      by (says onward x w are value stays then next going) = absurd (no_opening_word x (sym w ∙ word))

  unit_word : (x : Answer) (b : Bool) → left_out x ≡ b → word_number r.effect.word ≡ word_of x → is_unit (word_number r.effect.word) ≡ (b gives false or true)
  unfolding is_unit
  unit_word x b out w = rw w (ap (λ (b : Bool). b gives false or true) out)

  pub shifts_it : (word_number r.effect.word ≡ opening_word → ⊥) → is_unit (word_number r.effect.word) ≡ false → ShiftsIt
  shifts_it other none = by tells
    where
      by : Tells m text cells place s t (item_of r) → ShiftsIt
      by (opens onward w then next going) = absurd (other w)
      by (passes onward x w out going) = record { onward = onward; going = going }
      by (says onward x w are value stays then next going) = impossible (cc (unit_word x false stays w, none))

  pub says_it : (word_number r.effect.word ≡ opening_word → ⊥) → is_unit (word_number r.effect.word) ≡ true → SaysIt
  says_it other one = by tells
    where
      by : Tells m text cells place s t (item_of r) → SaysIt
      by (opens onward w then next going) = absurd (other w)
      by (passes onward x w out going) = impossible (cc (unit_word x true out w, one))
      by (says onward x w are value stays then next going) =
          let can : CanBeWritten t x = (subst (AllCanBeWritten t) next g.all).1 in
          record {
            onward = onward;
            answer = x;
            then = then;
            next = next;
            stays = stays;
            can = can;
            going = going;
            code = code_said cells t kinds r.effect (bytes_in r.piece) x stays can w are value;
            bytes = λ gl. bytes_said t r.effect (bytes_in r.piece) gl x stays can w are value;
            fit = fit_said t r.effect r.piece x stays can w are;
          }
