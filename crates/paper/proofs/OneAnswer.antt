-- A contract that is an equation with a definition leaves one answer only: two answers that both meet it are equal.
use mathlib.Core.Path.{◌≡◌, ◌∙◌, sym}

pub one_answer : {A : Type 0} (definition first second : A) → first ≡ definition → second ≡ definition → first ≡ second
one_answer definition first second p q = p ∙ sym q
