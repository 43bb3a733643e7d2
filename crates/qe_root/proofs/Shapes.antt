-- What holds of each thing at the atoms of a shape.
use Rattle.std.proofs.Common.{ℕ, inl, inr, Bool, true, false}
use Rattle.qe_poly.specs.Polynomial.{Polynomial}
use Rattle.qe_poly.specs.Occurs.{OccursInSome}
use Rattle.qe_form.specs.declared.signs.Signs.{Signs}
use Rattle.qe_form.specs.Same.{IsFree}
use Rattle.qe_root.specs.Shape.{Shape, atom, conjunction, disjunction, formula}
use Rattle.qe_root.specs.SignForm.{sign_shape}

abbrev pub EachOf : {X : Type 0} → (X → Type 0) → Shape X → Type 0
EachOf P (atom x signs) = P x
EachOf P (conjunction s t) = EachOf P s × EachOf P t
EachOf P (disjunction s t) = EachOf P s × EachOf P t

-- in the shape for a set of signs it holds of each where it holds of A, B, A*B, N and the opposites
module _ {X : Type 0} (P : X → Type 0) (opposite : X → X) (a b e n : X) (ha : P a) (hb : P b) (he : P e) (hn : P n) (ta : P (opposite a)) (tb : P (opposite b)) where
  by_sides : (minus zero plus : Bool) → EachOf P (sign_shape opposite (record { minus = minus; zero = zero; plus = plus }) a b e n)
  by_sides true true true = (he, hn)
  by_sides true false true = (he, hn)
  by_sides true true false = ((ha, hn), (hb, hn))
  by_sides true false false = ((ha, hn), (hb, (ha, hn)))
  by_sides false true true = ((ta, hn), (tb, hn))
  by_sides false false true = ((ta, hn), (tb, (ta, hn)))
  by_sides false true false = (he, hn)
  by_sides false false false = (he, hn)

  pub shape_each : (signs : Signs) → EachOf P (sign_shape opposite signs a b e n)
  shape_each signs = by_sides signs.minus signs.zero signs.plus

-- what follows from a variable of each follows from one of the formula
pub free_in_shape : {G : Type 0} (y : ℕ) (s : Shape Polynomial) → EachOf (λ p. OccursInSome y p → G) s → IsFree y (formula s) → G
free_in_shape y (atom p signs) h m = h m
free_in_shape y (conjunction s t) h m = elim m [ inl k ↦ free_in_shape y s h.0 k | inr k ↦ elim k [ inl l ↦ free_in_shape y t h.1 l | inr l ↦ absurd l ] ]
free_in_shape y (disjunction s t) h m = elim m [ inl k ↦ free_in_shape y s h.0 k | inr k ↦ elim k [ inl l ↦ free_in_shape y t h.1 l | inr l ↦ absurd l ] ]
