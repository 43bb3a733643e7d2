-- Steps of a calculation in a ring, with the elements left to be found.
use Rattle.std.proofs.Common.{◌≡◌, subst, [], ◌∷◌, refl}
use Rattle.qe_ring.specs.Ring.{Operations, IsRing}
use Rattle.qe_ring.specs.Expression.{var, nought, ◌⊕◌, ◌⊗◌}
use Rattle.qe_ring.proofs.Solver.{solve}

pub record Steps {C : Type 0} (o : Operations C) (E : C → C → Type 0) : Type 0 where
  pub rev : {a b : C} → E a b → E b a
  pub add₂ : {a b c d : C} → E a b → E c d → E (o.add a c) (o.add b d)
  pub mul₂ : {a b c d : C} → E a b → E c d → E (o.mul a c) (o.mul b d)
  pub same_of_eq : {a b : C} → a ≡ b → E a b
  pub nil-add : (a : C) → E (o.add o.zero a) a
  pub nil-mul : (a : C) → E (o.mul o.zero a) o.zero
  pub past : (a b c : C) → E (o.add a (o.add b c)) (o.add b (o.add a c))
  pub past_mul : (a b c : C) → E (o.mul a (o.mul b c)) (o.mul b (o.mul a c))

-- in every ring
pub steps : {C : Type 0} (o : Operations C) (E : C → C → Type 0) → IsRing o E → Steps o E
steps o E R = record {
  rev = λ {a} {b} p. R.back a b p;
  add₂ = λ {a} {b} {c} {d} p q. R.add-same a b c d p q;
  mul₂ = λ {a} {b} {c} {d} p q. R.mul-same a b c d p q;
  same_of_eq = λ {a} {b} p. subst (λ z. E a z) p (R.same a);
  nil-add = λ a. solve o E R (a ∷ []) (nought ⊕ var 0) (var 0) refl;
  nil-mul = λ a. solve o E R (a ∷ []) (nought ⊗ var 0) nought refl;
  past = λ a b c. solve o E R (a ∷ b ∷ c ∷ []) (var 0 ⊕ (var 1 ⊕ var 2)) (var 1 ⊕ (var 0 ⊕ var 2)) refl;
  past_mul = λ a b c. solve o E R (a ∷ b ∷ c ∷ []) (var 0 ⊗ (var 1 ⊗ var 2)) (var 1 ⊗ (var 0 ⊗ var 2)) refl;
}
