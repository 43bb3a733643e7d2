-- Truth under `ex` of variables: the formula is true at a point that differs in the numbers of these alone.
use Rattle.std.proofs.Common.{ℕ, ◌≡◌, ◌≢◌, ◌∙◌, sym, ap, refl, subst, ◌⊎◌, inl, inr, ◌↔◌, true, false, eqb, List, [], ◌∷◌, Some, if◌then◌else◌}
use Rattle.std.proofs.lemmas.Bool.{eq-eqb, eqb-true}
use Rattle.qe_tower.specs.Number.{Number}
use Rattle.qe_tower.specs.Point.{Point, IsPoint, look_up, or_zero, number_at}
use Rattle.qe_form.specs.Formula.{Formula, Ex}
use Rattle.qe_form.specs.Truth.{Is}
use Rattle.qe_form.specs.Same.{HasNoQuantifier}
use Rattle.qe_form.specs.Measures.{Has}
use Rattle.qe_form.proofs.Values.{number_at_valid}
use Rattle.qe_tree.specs.Variables.{remaining, under_ex, existential_closure}
use Rattle.qe_tree.specs.Sound.{IsIn}
use Rattle.qe_tree.proofs.Occurs.{in_or_not, is_left, left_in}
use Rattle.qe_tree.proofs.SameNumbers.{SameOn, moved}

-- the numbers of the two points differ at these variables alone
abbrev pub Off : List ℕ → Point → Point → Type 0
Off xs r p = SameOn (λ y. IsIn y xs → ⊥) r p

-- a point of numbers that differs from p at these variables alone, and at which the formula is true
pub record Reaches (xs : List ℕ) (f : Formula) (p : Point) : Type 0 where
  pub at : Point
  pub valid : IsPoint at
  pub off : Off xs at p
  pub is : Is f true at

-- one more entry does not count for another variable
other_entry : (x : ℕ) (v : Number) (p : Point) (y : ℕ) → (y ≢ x) → number_at ((x, v) ∷ p) y ≡ number_at p y
other_entry x v p y apart = elim (eqb x y) as (λ b. eqb x y ≡ b → or_zero (if b then Some v else look_up p y) ≡ number_at p y) [
  | true ↦ λ e. absurd (apart (sym (eqb-true x y e)))
  | false ↦ λ e. refl
] refl

-- an entry with the number that r gives the variable
own_entry : (x : ℕ) (r p : Point) (y : ℕ) → (number_at ((x, number_at r x) ∷ p) y ≡ number_at r y) ⊎ ((y ≢ x) × (number_at ((x, number_at r x) ∷ p) y ≡ number_at p y))
own_entry x r p y =
    elim (eqb x y) as (λ b. eqb x y ≡ b → (or_zero (if b then Some (number_at r x) else look_up p y) ≡ number_at r y) ⊎ ((y ≢ x) × (or_zero (if b then Some (number_at r x) else look_up p y) ≡ number_at p y))) [
      | true ↦ λ e. inl (ap (number_at r) (eqb-true x y e))
      | false ↦ λ e. inr ((λ same. absurd (let yes = eq-eqb x y (sym same) in cc)), refl)
    ] refl

-- p with the numbers that r gives the variables
abbrev pick : List ℕ → Point → Point → Point
pick [] r p = p
pick (x ∷ xs) r p = pick xs r ((x, number_at r x) ∷ p)

number_at-pick : (xs : List ℕ) (r p : Point) (y : ℕ) → IsIn y xs ⊎ (number_at r y ≡ number_at p y) → number_at r y ≡ number_at (pick xs r p) y
number_at-pick [] r p y h = elim h [ inl never ↦ absurd never | inr same ↦ same ]
number_at-pick (x ∷ xs) r p y h = number_at-pick xs r ((x, number_at r x) ∷ p) y (elim (own_entry x r p y) [
  | inl own ↦ inr (sym own)
  | inr apart ↦ elim h [
    | inl here ↦ elim here [ inl e ↦ absurd (apart.0 e) | inr later ↦ inl later ]
    | inr same ↦ inr (same ∙ sym apart.1)
  ]
])

from_pick : (xs : List ℕ) (f : Formula) (r p : Point) → IsPoint r → Is f true (pick xs r p) → Is (under_ex xs f) true p
from_pick [] f r p valid t = t
from_pick (x ∷ xs) f r p valid t = (number_at r x, number_at_valid r valid x, from_pick xs f r ((x, number_at r x) ∷ p) valid t)

pub under_ex_reaches : (xs : List ℕ) (f : Formula) (p : Point) → IsPoint p → Is (under_ex xs f) true p → Reaches xs f p
under_ex_reaches [] f p valid t = record { at = p; valid = valid; off = λ y no. refl; is = t }
under_ex_reaches (x ∷ xs) f p valid t =
    let rest = under_ex_reaches xs f ((x, t.0) ∷ p) (t.1, valid) t.2 in
    record {
      at = rest.at;
      valid = rest.valid;
      off = λ y no. rest.off y (λ later. no (inr later)) ∙ other_entry x t.0 p y (λ same. no (inl same));
      is = rest.is;
    }

-- it is enough that the points differ at these variables alone among those of the formula
pub reaches_under_ex : (xs : List ℕ) (f : Formula) → HasNoQuantifier f → (r p : Point) → IsPoint r → ((y : ℕ) → Has y f → IsIn y xs ⊎ (number_at r y ≡ number_at p y)) → Is f true r → Is (under_ex xs f) true p
reaches_under_ex xs f none r p valid same t = from_pick xs f r p valid (moved f none true r (pick xs r p) (λ y has. number_at-pick xs r p y (same y has)) t)

-- ---- a node

pub whole_reaches : (vars : List ℕ) (f : Formula) (p : Point) → IsPoint p → Is (existential_closure vars f) true p → Reaches vars f p
whole_reaches vars f p valid t =
    let w = under_ex_reaches (remaining vars f) f p valid t in record { at = w.at; valid = w.valid; off = λ y no. w.off y (λ left. no (left_in vars f y left).0); is = w.is }

pub reaches_whole : (vars : List ℕ) (f : Formula) → HasNoQuantifier f → (p : Point) → Reaches vars f p → Is (existential_closure vars f) true p
reaches_whole vars f none p w =
    reaches_under_ex (remaining vars f) f none w.at p w.valid (λ y has. elim (in_or_not y vars) [ inl h ↦ inl (is_left vars f y h has) | inr beyond ↦ inr (w.off y beyond) ]) w.is

-- the variables that do not occur do not matter
pub whole_is : (vars : List ℕ) (f : Formula) → HasNoQuantifier f → (p : Point) → IsPoint p → Is (under_ex vars f) true p ↔ Is (existential_closure vars f) true p
whole_is vars f none p valid = (
  (λ t. reaches_whole vars f none p (under_ex_reaches vars f p valid t)),
  (λ t. let w = whole_reaches vars f p valid t in
      reaches_under_ex vars f none w.at p w.valid (λ y has. elim (in_or_not y vars) [ inl h ↦ inl h | inr beyond ↦ inr (w.off y beyond) ]) w.is),
)

-- ---- one variable more

pub reaches_ex : (vars : List ℕ) (f : Formula) → HasNoQuantifier f → (x : ℕ) (p : Point) → (w : Reaches vars f p) → Is (Ex x f) true w.at
reaches_ex vars f none x p w = (number_at w.at x, number_at_valid w.at w.valid x, moved f none true w.at ((x, number_at w.at x) ∷ w.at) (λ y has. same y) w.is)
  where
    same : (y : ℕ) → number_at w.at y ≡ number_at ((x, number_at w.at x) ∷ w.at) y
    same y = elim (own_entry x w.at w.at y) [ inl own ↦ sym own | inr apart ↦ sym apart.1 ]

pub ex_reaches : (vars : List ℕ) (f : Formula) (x : ℕ) → IsIn x vars → (r p : Point) → IsPoint r → Off vars r p → Is (Ex x f) true r → Reaches vars f p
ex_reaches vars f x h r p valid off t =
    record {
      at = (x, t.0) ∷ r;
      valid = (t.1, valid);
      off = λ y no. other_entry x t.0 r y (λ same. no (subst (λ z. IsIn z vars) (sym same) h)) ∙ off y no;
      is = t.2;
    }
