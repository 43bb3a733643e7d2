-- The variables that occur in a formula, as the test tells them, and as they are free where there is no quantifier.
use Rattle.std.proofs.Common.{ℕ, ◌↔◌, ◌⊎◌, inl, inr, IsTrue}
use Rattle.qe_form.specs.Formula.{Formula, Formulas, True, False, Atom, And, Or, Not, Implies, Iff, Ex, All, no_more, more}
use Rattle.qe_form.specs.Same.{IsFree, IsFreeInSome, HasNoQuantifier, HaveNoQuantifier}
use Rattle.qe_form.specs.Measures.{Has, SomeHas, occurs, occurs_in_one}
use Rattle.qe_ring.proofs.Bools.{either_tells, never_tells}
use Rattle.qe_poly.proofs.Occurring.{occurs_in_some_is}

either : {A B C D : Type 0} → A ↔ C → B ↔ D → (A ⊎ B) ↔ (C ⊎ D)
either first second = (
  λ h. elim h [ inl x ↦ inl (first.0 x) | inr y ↦ inr (second.0 y) ],
  λ h. elim h [ inl x ↦ inl (first.1 x) | inr y ↦ inr (second.1 y) ],
)

mutual
  -- the test tells whether the formula has the variable
  pub occurs_is_has : (x : ℕ) (f : Formula) → IsTrue (occurs x f) ↔ Has x f
  occurs_is_has x True = never_tells
  occurs_is_has x False = never_tells
  occurs_is_has x (Atom a) = occurs_in_some_is x a.poly
  occurs_is_has x (And fs) = occurs_in_one_is x fs
  occurs_is_has x (Or fs) = occurs_in_one_is x fs
  occurs_is_has x (Not f) = occurs_is_has x f
  occurs_is_has x (Implies f g) = either_tells (occurs x f) (occurs x g) (occurs_is_has x f) (occurs_is_has x g)
  occurs_is_has x (Iff f g) = either_tells (occurs x f) (occurs x g) (occurs_is_has x f) (occurs_is_has x g)
  occurs_is_has x (Ex y f) = occurs_is_has x f
  occurs_is_has x (All y f) = occurs_is_has x f

  occurs_in_one_is : (x : ℕ) (fs : Formulas) → IsTrue (occurs_in_one x fs) ↔ SomeHas x fs
  occurs_in_one_is x no_more = never_tells
  occurs_in_one_is x (more f fs) = either_tells (occurs x f) (occurs_in_one x fs) (occurs_is_has x f) (occurs_in_one_is x fs)

mutual
  pub occurring_is_free : (x : ℕ) (f : Formula) → HasNoQuantifier f → Has x f ↔ IsFree x f
  occurring_is_free x True none = ((λ h. h), (λ h. h))
  occurring_is_free x False none = ((λ h. h), (λ h. h))
  occurring_is_free x (Atom a) none = ((λ h. h), (λ h. h))
  occurring_is_free x (And fs) none = occurring_each x fs none
  occurring_is_free x (Or fs) none = occurring_each x fs none
  occurring_is_free x (Not f) none = occurring_is_free x f none
  occurring_is_free x (Implies f g) none = either (occurring_is_free x f none.0) (occurring_is_free x g none.1)
  occurring_is_free x (Iff f g) none = either (occurring_is_free x f none.0) (occurring_is_free x g none.1)
  occurring_is_free x (Ex y f) none = absurd none
  occurring_is_free x (All y f) none = absurd none

  pub occurring_each : (x : ℕ) (fs : Formulas) → HaveNoQuantifier fs → SomeHas x fs ↔ IsFreeInSome x fs
  occurring_each x no_more none = ((λ h. h), (λ h. h))
  occurring_each x (more f fs) none = either (occurring_is_free x f none.0) (occurring_each x fs none.1)
