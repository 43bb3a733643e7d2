-- The value of a term is within all limits.
use Rattle.std.proofs.Common.{ℕ, zero, suc, ◌-◌, ◌^◌, ◌≡◌, ◌<◌, ◌≤◌, refl, subst, min, pos, Bool, true, false, Option, Some, None, Ok, arith}
use Rattle.qe_coef.specs.declared.Op.TheVariants.{Add, Sub}
use Rattle.qe_token.specs.declared.token.Name.{Name}
use Rattle.qe_poly.specs.declared.limit.PolyLimit.{PolyLimit}
use Rattle.qe_poly.specs.declared.monomial.Var.{Var}
use Rattle.qe_poly.specs.Limits.{sum_limit, product_limit}
use Rattle.qe_poly.specs.Polynomial.{Polynomial, constant, power_of, negative, sum, difference, product}
use Rattle.qe_syntax.specs.Tree.{TermTree, Number, Variable, Negative, Power, Sum, Product, Addends, no_addend, addend, Factors, no_factor, factor}
use Rattle.qe_read.specs.Value.{Value, proceed, at, signed_sum, multiplied, repeated, raised, power_value, as_name, literal, value, summed, factored}
use Rattle.qe_read.proofs.Valued.{next_ok}
use Rattle.qe_roundtrip.proofs.Legible.{IsStored}
use Rattle.qe_roundtrip.proofs.Stored.{stored_constant, stored_power, stored_negative, stored_sum, stored_difference, stored_product}
use Rattle.qe_syntax.proofs.Shape.{IsLowTerm, AreLowAddends, AreLowFactors}

ok : (p q : Polynomial) → IsStored p → ◌≡◌ {A = Value} (Ok p) (Ok q) → IsStored q
ok p q h e = let f : p ≡ q = cc in subst (λ r. IsStored r) f h

-- where there is a result, there is no limit
at_ok : (p : ℕ) (limit : Option PolyLimit) (exact q : Polynomial) → (limit ≡ None → IsStored exact) → at p limit exact ≡ Ok q → IsStored q
at_ok p None exact q h e = ok exact q (h refl) e
at_ok p (Some limit) exact q h e = absurd (cc)

pub of_added : (p : ℕ) (minus : Bool) (a b q : Polynomial) → IsStored a → IsStored b → signed_sum p minus a b ≡ Ok q → IsStored q
of_added p true a b q h k e = at_ok p (sum_limit Sub a b) (difference a b) q (stored_difference a b h k) e
of_added p false a b q h k e = at_ok p (sum_limit Add a b) (sum a b) q (stored_sum a b h k) e

of_multiplied : (p : ℕ) (a b q : Polynomial) → IsStored a → IsStored b → multiplied p a b ≡ Ok q → IsStored q
of_multiplied p a b q h k e = at_ok p (product_limit a b) (product a b) q (stored_product a b h k) e

of_repeated : (p : ℕ) (a : Polynomial) (n : ℕ) (b q : Polynomial) → IsStored a → IsStored b → repeated p a n b ≡ Ok q → IsStored q
of_repeated p a zero b q h k e = ok b q k e
of_repeated p a (suc n) b q h k e = let r = next_ok (multiplied p b a) (repeated p a n) q e in of_repeated p a n r.0 q h (of_multiplied p b a r.0 k h r.1) r.2

of_number : (n : ℕ) → IsStored (constant (pos (literal n)))
of_number n = stored_constant (pos (literal n)) (let e : min n (2 ^ 127 - 1) < 2 ^ 127 = omega arith in e)

of_raised : (p n : ℕ) (a q : Polynomial) → IsStored a → raised p n a ≡ Ok q → IsStored q
of_raised p zero a q h e = ok (constant (pos 1)) q (stored_constant (pos 1) (omega arith)) e
of_raised p (suc n) a q h e = of_repeated p a n a q h h e

module _ (var : Name → Var) where
  of_power_value : (o : Option Name) (base : Value) (p n : ℕ) (q : Polynomial) → n ≤ 65535 → ((a : Polynomial) → base ≡ Ok a → IsStored a) → power_value var o base p n ≡ Ok q → IsStored q
  of_power_value (Some x) base p n q h k e = ok (power_of (var x) n) q (stored_power (var x) n h) e
  of_power_value None base p n q h k e = let r = next_ok base (raised p n) q e in of_raised p n r.0 q (k r.0 r.1) r.2

  mutual
    pub stored_value : (t : TermTree) (q : Polynomial) → IsLowTerm t → value var t ≡ Ok q → IsStored q
    stored_value (Number n) q h e = ok (constant (pos (literal n))) q (of_number n) e
    stored_value (Variable x) q h e = ok (power_of (var x) 1) q (stored_power (var x) 1 (omega arith)) e
    stored_value (Negative t) q h e = let r = next_ok (value var t) (λ a. Ok (negative a)) q e in ok (negative r.0) q (stored_negative r.0 (stored_value t r.0 h r.1)) r.2
    stored_value (Power t p n) q h e = of_power_value (as_name t) (value var t) p n q h.1 (λ a f. stored_value t a h.0 f) e
    stored_value (Sum t us) q h e = let r = next_ok (value var t) (summed var us) q e in stored_summed us r.0 q (stored_value t r.0 h.0 r.1) h.1 r.2
    stored_value (Product t us) q h e = let r = next_ok (value var t) (factored var us) q e in stored_factored us r.0 q (stored_value t r.0 h.0 r.1) h.1 r.2

    stored_summed : (us : Addends) (a q : Polynomial) → IsStored a → AreLowAddends us → summed var us a ≡ Ok q → IsStored q
    stored_summed no_addend a q k h e = ok a q k e
    stored_summed (addend p minus t us) a q k h e =
        let r = next_ok (value var t) (λ b. proceed (signed_sum p minus a b) (summed var us)) q e in
        let s = next_ok (signed_sum p minus a r.0) (summed var us) q r.2 in
        stored_summed us s.0 q (of_added p minus a r.0 s.0 k (stored_value t r.0 h.0 r.1) s.1) h.1 s.2

    stored_factored : (us : Factors) (a q : Polynomial) → IsStored a → AreLowFactors us → factored var us a ≡ Ok q → IsStored q
    stored_factored no_factor a q k h e = ok a q k e
    stored_factored (factor p t us) a q k h e =
        let r = next_ok (value var t) (λ b. proceed (multiplied p a b) (factored var us)) q e in
        let s = next_ok (multiplied p a r.0) (factored var us) q r.2 in
        stored_factored us s.0 q (of_multiplied p a r.0 s.0 k (stored_value t r.0 h.0 r.1) s.1) h.1 s.2
