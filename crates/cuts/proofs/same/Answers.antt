-- Where the derived `==` says true of two answers, they are equal: it compares the variants and then all fields.
use denote.Enum.Bare.{same_true}
use Rattle.std.proofs.Common.{rules, arith, ◌≡◌, ℕ, ◌==◌, Bool, true, false, ◌&&◌, ap, ap₂, sym, ◌∙◌, refl}
use Rattle.std.proofs.lemmas.Bool.{eqb-true}
use Rattle.paper.specs.declared.Answer.{Answer}
use Rattle.paper.specs.declared.ControlElement.{ControlElement}
use Rattle.paper.specs.declared.Element.{Element}
use Rattle.paper.specs.declared.Kind.{Kind}
use Rattle.paper.specs.declared.Count.{Count}
use Rattle.paper.specs.declared.Set.{Set}
use Rattle.paper.specs.declared.Intermediates.{Intermediates}
use Rattle.paper.specs.declared.PositionBytes.{PositionBytes}
use Rattle.paper.specs.contracts.AnswerPartialEq.TheImpl as of_answers
use Rattle.paper.specs.contracts.SetPartialEq.TheImpl as of_sets
use Rattle.paper.specs.contracts.ElementPartialEq.TheImpl as of_elements
use Rattle.paper.specs.contracts.KindPartialEq.TheImpl as of_kinds
use Rattle.paper.specs.contracts.CountPartialEq.TheImpl as of_counts
use Rattle.paper.specs.contracts.IntermediatesPartialEq.TheImpl as of_intermediates
use Rattle.paper.specs.contracts.PositionBytesPartialEq.TheImpl as of_position_bytes
use Rattle.paper.specs.contracts.ControlElementPartialEq.TheImpl as of_controls
use Rattle.paper.specs.contracts.ControlElement as the_controls
use Rattle.paper.specs.contracts.Shift as the_shifts
use Rattle.paper.specs.contracts.Refusal as the_refusals
use Rattle.paper.specs.contracts.Element as the_elements
use Rattle.paper.specs.contracts.Kind as the_kinds
use Rattle.paper.specs.contracts.Count as the_counts
use Rattle.cuts.proofs.same.Goals as goal

first : (s t : Bool) → (s && t) ≡ true → s ≡ true
first true t h = refl
first false t h = cc

second : (s t : Bool) → (s && t) ≡ true → t ≡ true
second true t h = h
second false t h = cc

told_elements : (a b : Element) → of_elements.ghosts.eq a b ≡ true → a ≡ b
told_elements a b h = same_true the_elements.the_type (search rules) a b h

told_controls : (a b : ControlElement) → of_controls.ghosts.eq a b ≡ true → a ≡ b
told_controls a b h = same_true the_controls.the_type (search rules) a b h

told_kinds : (a b : Kind) → of_kinds.ghosts.eq a b ≡ true → a ≡ b
told_kinds a b h = same_true the_kinds.the_type (search rules) a b h

told_counts : (a b : Count) → of_counts.ghosts.eq a b ≡ true → a ≡ b
told_counts a b h = same_true the_counts.the_type (search rules) a b h

told_position_bytes : (a b : PositionBytes) → of_position_bytes.ghosts.eq a b ≡ true → a ≡ b
told_position_bytes (PositionBytes.One a) (PositionBytes.One b) h = grind arith
told_position_bytes (PositionBytes.Two a b) (PositionBytes.Two c d) h = grind arith
told_position_bytes (PositionBytes.Three a b e) (PositionBytes.Three c d f) h = grind arith
told_position_bytes a b h = cc

told_intermediates : (a b : Intermediates) → of_intermediates.ghosts.eq a b ≡ true → a ≡ b
told_intermediates Intermediates.None Intermediates.None h = refl
told_intermediates (Intermediates.One a) (Intermediates.One b) h = grind arith
told_intermediates (Intermediates.Two a b) (Intermediates.Two c d) h = grind arith
told_intermediates a b h = cc

same_parts : (a b : Set) → a.kind ≡ b.kind → a.count ≡ b.count → a.last ≡ b.last → a ≡ b
same_parts a b same_kind same_count same_last = λ i. record { kind = same_kind i; count = same_count i; last = same_last i }

told_sets : (a b : Set) → of_sets.ghosts.eq a b ≡ true → a ≡ b
told_sets a b h =
    let left = second (of_kinds.ghosts.eq a.kind b.kind) _ h in
    same_parts a b
    (told_kinds _ _ (first (of_kinds.ghosts.eq a.kind b.kind) _ h))
    (told_counts _ _ (first (of_counts.ghosts.eq a.count b.count) _ left))
    (eqb-true a.last b.last (second (of_counts.ghosts.eq a.count b.count) _ left))

apart : {A : Type 0} → false ≡ true → A
apart h = cc

same_char : (e f : Element) (x y : Set) (p q : PositionBytes) → e ≡ f → x ≡ y → p ≡ q → Answer.Char e x p ≡ Answer.Char f y q
same_char e f x y p q same_element same_set same_bytes = cc

same_control : (v w : ControlElement) (f g m n : ℕ) → v ≡ w → f ≡ g → m ≡ n → Answer.Control v f m ≡ Answer.Control w g n
same_control v w f g m n same_element same_last same_number = cc

told : (a b : Answer) → of_answers.ghosts.eq a b ≡ true → a ≡ b
told Answer.NothingYet Answer.NothingYet h = refl
told (Answer.Char e x p) (Answer.Char f y q) h =
    let left = second (of_elements.ghosts.eq e f) _ h in
    same_char _ _ _ _ _ _
    (told_elements e f (first (of_elements.ghosts.eq e f) _ h))
    (told_sets x y (first (of_sets.ghosts.eq x y) _ left))
    (told_position_bytes p q (second (of_sets.ghosts.eq x y) _ left))
told Answer.Space Answer.Space h = refl
told Answer.Delete Answer.Delete h = refl
told (Answer.Control v f m) (Answer.Control w g n) h =
    let left = second (of_controls.ghosts.eq v w) _ h in
    same_control _ _ _ _ _ _
    (told_controls v w (first (of_controls.ghosts.eq v w) _ h))
    (eqb-true f g (first (f == g) _ left))
    (eqb-true m n (second (f == g) _ left))
told (Answer.DesignateControls v f) (Answer.DesignateControls w g) h =
    ap₂ Answer.DesignateControls (told_controls v w (first (of_controls.ghosts.eq v w) _ h)) (eqb-true f g (second (of_controls.ghosts.eq v w) _ h))
told (Answer.Designate e x) (Answer.Designate f y) h =
    ap₂ Answer.Designate (told_elements e f (first (of_elements.ghosts.eq e f) _ h)) (told_sets x y (second (of_elements.ghosts.eq e f) _ h))
told (Answer.Shift g) (Answer.Shift i) h = ap (λ k. Answer.Shift k) (same_true the_shifts.the_type (search rules) g i h)
told (Answer.Other s f) (Answer.Other t g) h =
    ap₂ Answer.Other (told_intermediates s t (first (of_intermediates.ghosts.eq s t) _ h)) (eqb-true f g (second (of_intermediates.ghosts.eq s t) _ h))
told (Answer.Refused r) (Answer.Refused s) h = ap (λ k. Answer.Refused k) (same_true the_refusals.the_type (search rules) r s h)
told Answer.Skipped Answer.Skipped h = refl
told (Answer.InStep m) (Answer.InStep n) h = ap (λ k. Answer.InStep k) (eqb-true m n h)
told a b h = apart h

pub returns : goal.returns
returns c h = told c.args.one c.args.other (sym c.eq.ensures ∙ h)
