-- The variables of the polynomial of a term are those of its names.
use Rattle.std.proofs.Common.{ℕ, zero, suc, ◌≡◌, refl, subst, pos, Bool, true, false, List, Option, Some, None, Result, Ok, Err}
use Rattle.std.specs.List.{AllByRecursion}
use Rattle.qe_coef.specs.declared.Op.TheVariants.{Add, Sub}
use Rattle.qe_token.specs.declared.token.Name.{Name}
use Rattle.qe_poly.specs.declared.limit.PolyLimit.{PolyLimit}
use Rattle.qe_poly.specs.declared.monomial.Var.{Var}
use Rattle.qe_poly.specs.Limits.{sum_limit, product_limit}
use Rattle.qe_poly.specs.Polynomial.{Polynomial, constant, power_of, negative, sum, difference, product}
use Rattle.qe_syntax.specs.Tree.{TermTree, Number, Variable, Negative, Power, Sum, Product, Addends, no_addend, addend, Factors, no_factor, factor}
use Rattle.qe_read.specs.declared.value.Met.{Met}
use Rattle.qe_read.specs.Value.{Value, proceed, at, signed_sum, multiplied, repeated, raised, power_value, as_name, literal, value, summed, factored}
use Rattle.qe_read.proofs.Named.{all_in, all_in_addends, all_in_factors}
use Rattle.qe_read.proofs.Kept.{front, behind}
use Rattle.qe_read.proofs.Variables.{Have, of_negative, of_sum, of_difference, of_product, of_constant, of_power}

-- a result behind another has both
pub next_ok : {A B : Type 0} (v : Result A Met) (f : A → Result B Met) (b : B) → proceed v f ≡ Ok b → (a : A) × (v ≡ Ok a) × (f a ≡ Ok b)
next_ok (Ok a) f b h = (a, refl, h)
next_ok (Err met) f b h = absurd (cc)

at_ok : (p : ℕ) (limit : Option PolyLimit) (exact q : Polynomial) → at p limit exact ≡ Ok q → exact ≡ q
at_ok p None exact q h = cc
at_ok p (Some limit) exact q h = absurd (cc)

module _ (Q : ℕ → Type 0) (var : Name → Var) where
  pub of_added : (p : ℕ) (minus : Bool) (a b q : Polynomial) → Have Q a → Have Q b → signed_sum p minus a b ≡ Ok q → Have Q q
  of_added p true a b q h k e = subst (λ r. Have Q r) (at_ok p (sum_limit Sub a b) (difference a b) q e) (of_difference Q a b h k)
  of_added p false a b q h k e = subst (λ r. Have Q r) (at_ok p (sum_limit Add a b) (sum a b) q e) (of_sum Q a b h k)

  of_multiplied : (p : ℕ) (a b q : Polynomial) → Have Q a → Have Q b → multiplied p a b ≡ Ok q → Have Q q
  of_multiplied p a b q h k e = subst (λ r. Have Q r) (at_ok p (product_limit a b) (product a b) q e) (of_product Q a b h k)

  ok : (p q : Polynomial) → Have Q p → ◌≡◌ {A = Value} (Ok p) (Ok q) → Have Q q
  ok p q h e = let f : p ≡ q = cc in subst (λ r. Have Q r) f h

  of_repeated : (p : ℕ) (a : Polynomial) (n : ℕ) (b q : Polynomial) → Have Q a → Have Q b → repeated p a n b ≡ Ok q → Have Q q
  of_repeated p a zero b q h k e = ok b q k e
  of_repeated p a (suc n) b q h k e =
      let r = next_ok (multiplied p b a) (repeated p a n) q e in of_repeated p a n r.0 q h (of_multiplied p b a r.0 k h r.1) r.2

  of_raised : (p n : ℕ) (a q : Polynomial) → Have Q a → raised p n a ≡ Ok q → Have Q q
  of_raised p zero a q h e = ok (constant (pos 1)) q (of_constant Q (pos 1)) e
  of_raised p (suc n) a q h e = of_repeated p a n a q h h e

  of_power_value : (o : Option Name) (base : Value) (p n : ℕ) (q : Polynomial) → ((x : Name) → o ≡ Some x → Q (var x).0) → ((a : Polynomial) → base ≡ Ok a → Have Q a)
      → power_value var o base p n ≡ Ok q → Have Q q
  of_power_value (Some x) base p n q h k e = ok (power_of (var x) n) q (of_power Q (var x) n (h x refl)) e
  of_power_value None base p n q h k e = let r = next_ok base (raised p n) q e in of_raised p n r.0 q (k r.0 r.1) r.2

  abbrev All : List Name → Type 0
  All = AllByRecursion (λ x. Q (var x).0)

  named : (t : TermTree) (x : Name) → All (all_in t) → as_name t ≡ Some x → Q (var x).0
  named (Variable y) x h e = let f : y ≡ x = cc in subst (λ z. Q (var z).0) f h.0
  named (Number n) x h e = absurd (cc)
  named (Negative t) x h e = absurd (cc)
  named (Power t p n) x h e = absurd (cc)
  named (Sum t us) x h e = absurd (cc)
  named (Product t us) x h e = absurd (cc)

  mutual
    pub of_value : (t : TermTree) (q : Polynomial) → All (all_in t) → value var t ≡ Ok q → Have Q q
    of_value (Number n) q h e = ok (constant (pos (literal n))) q (of_constant Q (pos (literal n))) e
    of_value (Variable x) q h e = ok (power_of (var x) 1) q (of_power Q (var x) 1 h.0) e
    of_value (Negative t) q h e =
        let r = next_ok (value var t) (λ a. Ok (negative a)) q e in ok (negative r.0) q (of_negative Q r.0 (of_value t r.0 h r.1)) r.2
    of_value (Power t p n) q h e = of_power_value (as_name t) (value var t) p n q (λ x f. named t x h f) (λ a f. of_value t a h f) e
    of_value (Sum t us) q h e =
        let r = next_ok (value var t) (summed var us) q e in
        of_summed us r.0 q (of_value t r.0 (front (λ x. Q (var x).0) (all_in t) (all_in_addends us) h) r.1) (behind (λ x. Q (var x).0) (all_in t) (all_in_addends us) h) r.2
    of_value (Product t us) q h e =
        let r = next_ok (value var t) (factored var us) q e in
        of_factored us r.0 q (of_value t r.0 (front (λ x. Q (var x).0) (all_in t) (all_in_factors us) h) r.1) (behind (λ x. Q (var x).0) (all_in t) (all_in_factors us) h) r.2

    of_summed : (us : Addends) (a q : Polynomial) → Have Q a → All (all_in_addends us) → summed var us a ≡ Ok q → Have Q q
    of_summed no_addend a q k h e = ok a q k e
    of_summed (addend p minus t us) a q k h e =
        let r = next_ok (value var t) (λ b. proceed (signed_sum p minus a b) (summed var us)) q e in
        let s = next_ok (signed_sum p minus a r.0) (summed var us) q r.2 in
        let b = of_value t r.0 (front (λ x. Q (var x).0) (all_in t) (all_in_addends us) h) r.1 in
        of_summed us s.0 q (of_added p minus a r.0 s.0 k b s.1) (behind (λ x. Q (var x).0) (all_in t) (all_in_addends us) h) s.2

    of_factored : (us : Factors) (a q : Polynomial) → Have Q a → All (all_in_factors us) → factored var us a ≡ Ok q → Have Q q
    of_factored no_factor a q k h e = ok a q k e
    of_factored (factor p t us) a q k h e =
        let r = next_ok (value var t) (λ b. proceed (multiplied p a b) (factored var us)) q e in
        let s = next_ok (multiplied p a r.0) (factored var us) q r.2 in
        let b = of_value t r.0 (front (λ x. Q (var x).0) (all_in t) (all_in_factors us) h) r.1 in
        of_factored us s.0 q (of_multiplied p a r.0 s.0 k b s.1) (behind (λ x. Q (var x).0) (all_in t) (all_in_factors us) h) s.2
