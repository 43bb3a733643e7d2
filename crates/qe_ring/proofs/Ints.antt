-- The whole numbers are an ordered ring.
use Rattle.std.proofs.Common.{◌≡◌, ℕ, zero, suc, ◌+◌, ◌*◌, ◌<◌, T, ℤ, pos, negsuc, ◌+ℤ◌, ◌*ℤ◌, neg_ℤ, refl, sym, ap, ap₂, ◌∙◌, arith, zero-mul, mul-zero}
use Rattle.std.proofs.Math.IntN.{+ℤ_assoc, +ℤ_comm, +ℤ_idr, +ℤ_invr, *ℤ_comm}
use borrow.Author.Differences.{up, down, same_in, product_is, sum_is_lem}
use Rattle.qe_ring.specs.Ring.{IsRing}
use Rattle.qe_ring.specs.Sign.{Plus, int_sign, opposite, ◌·◌, adds}
use Rattle.qe_ring.specs.Ordered.{IsOrdered, int_operations}

up-mul : (a b : ℤ) → up (a *ℤ b) ≡ up a * up b + down a * down b
up-mul a b = (product_is a b).0

down-mul : (a b : ℤ) → down (a *ℤ b) ≡ up a * down b + down a * up b
down-mul a b = (product_is a b).1

mul_assoc_z : (a b c : ℤ) → (a *ℤ b) *ℤ c ≡ a *ℤ (b *ℤ c)
mul_assoc_z a b c = same_in ((a *ℤ b) *ℤ c) (a *ℤ (b *ℤ c)) (simp (up-mul, down-mul) (omega arith))

mul-add_z : (a b c : ℤ) → a *ℤ (b +ℤ c) ≡ a *ℤ b +ℤ a *ℤ c
mul-add_z a b c = same_in (a *ℤ (b +ℤ c)) (a *ℤ b +ℤ a *ℤ c)
    (simp (up-mul, down-mul) (parts (up a) (down a) (up b) (down b) (up c) (down c) (up (b +ℤ c)) (down (b +ℤ c)) (up (a *ℤ b)) (down (a *ℤ b))
    (up (a *ℤ c)) (down (a *ℤ c)) (up (a *ℤ b +ℤ a *ℤ c)) (down (a *ℤ b +ℤ a *ℤ c))
    (sum_is_lem b c) (up-mul a b) (down-mul a b) (up-mul a c) (down-mul a c) (sum_is_lem (a *ℤ b) (a *ℤ c))))
  where
    parts : (ua da ub db uc dc us ds ux dx uy dy ut dt : ℕ) → us + db + dc ≡ ds + ub + uc → ux ≡ ua * ub + da * db → dx ≡ ua * db + da * ub → uy
        ≡ ua * uc + da * dc → dy ≡ ua * dc + da * uc
        → ut + dx + dy ≡ dt + ux + uy → (ua * us + da * ds) + dt ≡ ut + (ua * ds + da * us)
    parts ua da ub db uc dc us ds ux dx uy dy ut dt e h₁ h₂ h₃ h₄ h₅ = omega (arith, ap (λ z. ua * z) e, ap (λ z. da * z) e)

mul-one_z : (a : ℤ) → a *ℤ pos 1 ≡ a
mul-one_z a = same_in (a *ℤ pos 1) a (simp (up-mul, down-mul) (omega arith))

pub int_ring : IsRing int_operations (λ a b. a ≡ b)
int_ring = record {
  same = λ a. refl;
  back = λ a b p. sym p;
  then = λ a b c p q. p ∙ q;
  add-same = λ a b c d p q. ap₂ ◌+ℤ◌ p q;
  neg-same = λ a b p. ap neg_ℤ p;
  mul-same = λ a b c d p q. ap₂ ◌*ℤ◌ p q;
  add-assoc = λ a b c. +ℤ_assoc a b c;
  add-comm = λ a b. +ℤ_comm a b;
  add-zero = λ a. +ℤ_idr a;
  add-neg = λ a. +ℤ_invr a;
  mul-assoc = mul_assoc_z;
  mul-comm = λ a b. *ℤ_comm a b;
  mul-one = mul-one_z;
  mul-add = mul-add_z;
}

sign-neg_z : (a : ℤ) → int_sign (neg_ℤ a) ≡ opposite (int_sign a)
sign-neg_z (pos zero) = refl
sign-neg_z (pos (suc n)) = refl
sign-neg_z (negsuc n) = refl

-- what is positive has the sign plus
pub plus_of_positive : (n : ℕ) → 0 < n → int_sign (pos n) ≡ Plus
plus_of_positive zero h = absurd (omega arith)
plus_of_positive (suc n) h = refl

sign-mul_z : (a b : ℤ) → int_sign (a *ℤ b) ≡ int_sign a · int_sign b
sign-mul_z (pos zero) (pos b) = ap (λ z. int_sign (pos z)) (zero-mul b)
sign-mul_z (pos (suc a)) (pos zero) = ap (λ z. int_sign (pos z)) (mul-zero (suc a))
sign-mul_z (pos (suc a)) (pos (suc b)) = plus_of_positive (suc a * suc b) (omega arith)
sign-mul_z (pos zero) (negsuc b) = ap (λ z. int_sign (neg_ℤ (pos z))) (zero-mul (suc b))
sign-mul_z (pos (suc a)) (negsuc b) = sign-neg_z (pos (suc a * suc b)) ∙ ap opposite (plus_of_positive (suc a * suc b) (omega arith))
sign-mul_z (negsuc a) (pos zero) = ap (λ z. int_sign (neg_ℤ (pos z))) (mul-zero (suc a))
sign-mul_z (negsuc a) (pos (suc b)) = sign-neg_z (pos (suc a * suc b)) ∙ ap opposite (plus_of_positive (suc a * suc b) (omega arith))
sign-mul_z (negsuc a) (negsuc b) = plus_of_positive (suc a * suc b) (omega arith)

adds_z : (a b u : ℤ) → up u + down a + down b ≡ down u + up a + up b → T (adds (int_sign a) (int_sign b) (int_sign u))
adds_z (pos zero) (pos zero) (pos zero) e = tt
adds_z (pos zero) (pos zero) (pos (suc u)) e = absurd (omega arith)
adds_z (pos zero) (pos zero) (negsuc u) e = absurd (omega arith)
adds_z (pos zero) (pos (suc b)) (pos zero) e = absurd (omega arith)
adds_z (pos zero) (pos (suc b)) (pos (suc u)) e = tt
adds_z (pos zero) (pos (suc b)) (negsuc u) e = absurd (omega arith)
adds_z (pos zero) (negsuc b) (pos zero) e = absurd (omega arith)
adds_z (pos zero) (negsuc b) (pos (suc u)) e = absurd (omega arith)
adds_z (pos zero) (negsuc b) (negsuc u) e = tt
adds_z (pos (suc a)) (pos zero) (pos zero) e = absurd (omega arith)
adds_z (pos (suc a)) (pos zero) (pos (suc u)) e = tt
adds_z (pos (suc a)) (pos zero) (negsuc u) e = absurd (omega arith)
adds_z (pos (suc a)) (pos (suc b)) (pos zero) e = absurd (omega arith)
adds_z (pos (suc a)) (pos (suc b)) (pos (suc u)) e = tt
adds_z (pos (suc a)) (pos (suc b)) (negsuc u) e = absurd (omega arith)
adds_z (pos (suc a)) (negsuc b) u e = tt
adds_z (negsuc a) (pos zero) (pos zero) e = absurd (omega arith)
adds_z (negsuc a) (pos zero) (pos (suc u)) e = absurd (omega arith)
adds_z (negsuc a) (pos zero) (negsuc u) e = tt
adds_z (negsuc a) (pos (suc b)) u e = tt
adds_z (negsuc a) (negsuc b) (pos zero) e = absurd (omega arith)
adds_z (negsuc a) (negsuc b) (pos (suc u)) e = absurd (omega arith)
adds_z (negsuc a) (negsuc b) (negsuc u) e = tt

sign-add_z : (a b : ℤ) → T (adds (int_sign a) (int_sign b) (int_sign (a +ℤ b)))
sign-add_z a b = adds_z a b (a +ℤ b) (sum_is_lem a b)

-- the whole numbers are an ordered ring, up to equality itself
pub int_ordered : IsOrdered int_operations int_sign (λ a b. a ≡ b)
int_ordered = record {
  ring = int_ring;
  sign-same = λ a b p. ap int_sign p;
  sign-one = refl;
  sign-neg = sign-neg_z;
  sign-mul = sign-mul_z;
  sign-add = sign-add_z;
}
