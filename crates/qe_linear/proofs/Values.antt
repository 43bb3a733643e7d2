-- The value of a small linear polynomial at the root of another: no limit is met, and it is linear again.
use Rattle.std.proofs.Common.{ℕ, ◌+◌, ◌*◌, ◌≡◌, ◌≤◌, refl, sym, ap, subst, ◌∙◌, true, false, cond, eqb, [], ◌∷◌, None, arith}
use Rattle.qe_halt.specs.Outcome.{first}
use Rattle.qe_poly.specs.Monomial.{Monomial}
use Rattle.qe_poly.specs.Polynomial.{Polynomial, sum, product}
use Rattle.qe_poly.specs.Coefficients.{coefficient_in, exponent_of, without}
use Rattle.qe_poly.proofs.Sorted.{Each}
use Rattle.qe_root.specs.declared.point.RootPoint.{RootPoint}
use Rattle.qe_root.specs.Value.{triple, plain_part, root_part, plain_part_limit, root_part_limit, plain_part_of, root_part_of, value_limit}
use Rattle.qe_linear.proofs.Small.{most, IsLinear, IsSmall, nothing_small, part_small, sum_small, sum_fits}
use Rattle.qe_linear.proofs.Products.{IsConstant, zero_is, number_is, shape_of, number_times, times_number, numbers_times, number_small}

-- ---- the parts of a linear polynomial

low_exponent : (x : ℕ) (m : Monomial) → IsLinear m → eqb (exponent_of x m) 2 ≡ false
low_exponent x [] h = refl
low_exponent x (a ∷ []) h = elim (eqb a.var.0 x) as (λ b. eqb (cond b a.exponent 0) 2 ≡ false) [ true ↦ ap (λ n. eqb n 2) h.0 | false ↦ refl ]
low_exponent x (a ∷ b ∷ m) h = absurd h

pub no_square : (x : ℕ) (p : Polynomial) → Each (λ t. IsLinear t.0) p → coefficient_in x 2 p ≡ []
no_square x [] h = refl
no_square x (t ∷ ts) h = ap (λ b. cond b ((without x t.0, t.1) ∷ coefficient_in x 2 ts) (coefficient_in x 2 ts)) (low_exponent x t.0 h.0) ∙ no_square x ts h.1

free_of : (x : ℕ) (m : Monomial) → IsLinear m → eqb (exponent_of x m) 1 ≡ true → without x m ≡ []
free_of x [] h e = refl
free_of x (a ∷ []) h e = elim (eqb a.var.0 x) as (λ b. eqb (cond b a.exponent 0) 1 ≡ true → cond b [] (a ∷ []) ≡ []) [ true ↦ λ e. refl | false ↦ λ e. absurd (cc) ] e
free_of x (a ∷ b ∷ m) h e = absurd h

slope_free : (x : ℕ) (p : Polynomial) → Each (λ t. IsLinear t.0) p → Each (λ t. t.0 ≡ []) (coefficient_in x 1 p)
slope_free x [] h = tt
slope_free x (t ∷ ts) h =
    let rest = slope_free x ts h.1 in
    elim (eqb (exponent_of x t.0) 1) as (λ b. eqb (exponent_of x t.0) 1 ≡ b → Each (λ t. t.0 ≡ []) (cond b ((without x t.0, t.1) ∷ coefficient_in x 1 ts) (coefficient_in x 1 ts))) [
      | true ↦ λ e. (free_of x t.0 h.0 e, rest)
      | false ↦ λ e. rest
    ] refl

-- the coefficient of x is a number
pub slope_number : (s x : ℕ) (p : Polynomial) → IsSmall s p → IsConstant s (coefficient_in x 1 p)
slope_number s x p h = let part = part_small s x 1 p h in shape_of s (coefficient_in x 1 p) part.canonical (slope_free x p h.linear) part.small

-- ---- roots

-- p/s, with a linear p and a number s
pub record IsLinearRoot (s : ℕ) (k : RootPoint) : Type 0 where
  pub p : IsSmall s k.p
  pub q : k.q ≡ []
  pub r : k.r ≡ []
  pub s_is : IsConstant s k.s

-- a bound for the value, where the polynomial and the root have the bound s
abbrev pub next : ℕ → ℕ
next s = (0 + s * s * s) + s * (s * s)

no_root_part : (beta p d : Polynomial) (s : ℕ) → IsConstant s beta → (root_part [] beta (record { p = p; q = []; r = []; s = d }) ≡ []) × (root_part_limit [] beta (record { p = p; q = []; r = []; s = d }) ≡ None)
no_root_part [] p d s zero_is = (refl, refl)
no_root_part (_ ∷ []) p d s (number_is c some le) = (refl, refl)
no_root_part (_ ∷ (_ ∷ _)) p d s shape = elim shape [ ]

module _ (s : ℕ) (beta gamma p d : Polynomial) (hb : IsConstant s beta) (hg : IsSmall s gamma) (hp : IsSmall s p) (hd : IsConstant s d) where
  abbrev at : RootPoint
  at = record { p = p; q = []; r = []; s = d }

  first_term : IsSmall (0 + s * s * s) (sum [] (triple beta p d))
  first_term = sum_small 0 (s * s * s) [] (triple beta p d) (nothing_small 0) (times_number s (s * s) (product beta p) d (number_times s s beta p hb hp).small hd).small

  second_term : IsSmall (s * (s * s)) (product gamma (product d d))
  second_term = (times_number (s * s) s gamma (product d d) hg (numbers_times s s d d hd hd)).small

  value_small : IsSmall (next s) (plain_part [] beta gamma at)
  value_small = sum_small (0 + s * s * s) (s * (s * s)) (sum [] (triple beta p d)) (product gamma (product d d)) first_term second_term

  value_fits : s * s ≤ most → next s ≤ most → plain_part_limit [] beta gamma at ≡ None
  value_fits low high =
      let one = (number_times s s beta p hb hp).fits low in
      let two = (times_number s (s * s) (product beta p) d (number_times s s beta p hb hp).small hd).fits (omega (arith, high)) in
      let three = (number_times s s d d hd (number_small s d hd)).fits low in
      let four = (times_number (s * s) s gamma (product d d) hg (numbers_times s s d d hd hd)).fits (omega (arith, high)) in
      let five = sum_fits 0 (s * s * s) [] (triple beta p d) (nothing_small 0) (times_number s (s * s) (product beta p) d (number_times s s beta p hb hp).small hd).small (omega (arith, high)) in
      let six = sum_fits (0 + s * s * s) (s * (s * s)) (sum [] (triple beta p d)) (product gamma (product d d)) first_term second_term high in
      λ i. first (None ∷ first (one i ∷ two i ∷ []) ∷ three i ∷ four i ∷ five i ∷ six i ∷ [])

-- ---- the value

pub record IsSmallValue (s x : ℕ) (f : Polynomial) (k : RootPoint) : Type 0 where
  pub fits : value_limit f x k ≡ None
  pub small : IsSmall (next s) (plain_part_of f x k)
  pub no_root : root_part_of f x k ≡ []

pub value_at : (s x : ℕ) (f : Polynomial) (k : RootPoint) → s * s ≤ most → next s ≤ most → IsSmall s f → IsLinearRoot s k → IsSmallValue s x f k
value_at s x f k low high h root =
    let same : record { p = k.p; q = []; r = []; s = k.s } ≡ k = λ i. record { p = k.p; q = sym root.q i; r = sym root.r i; s = k.s } in
    let flat : [] ≡ coefficient_in x 2 f = sym (no_square x f h.linear) in
    let slope = slope_number s x f h in
    let rest = part_small s x 0 f h in
    let beta = coefficient_in x 1 f in
    let gamma = coefficient_in x 0 f in
    let none = no_root_part beta k.p k.s s slope in
    record {
      fits = subst (λ k. value_limit f x k ≡ None) same
          (subst (λ alpha. first (plain_part_limit alpha beta gamma (record { p = k.p; q = []; r = []; s = k.s }) ∷ root_part_limit alpha beta (record { p = k.p; q = []; r = []; s = k.s }) ∷ []) ≡ None) flat
          (λ i. first (value_fits s beta gamma k.p k.s slope rest root.p root.s_is low high i ∷ none.1 i ∷ [])));
      small = subst (λ k. IsSmall (next s) (plain_part_of f x k)) same
          (subst (λ alpha. IsSmall (next s) (plain_part alpha beta gamma (record { p = k.p; q = []; r = []; s = k.s }))) flat
          (value_small s beta gamma k.p k.s slope rest root.p root.s_is));
      no_root = subst (λ k. root_part_of f x k ≡ []) same
          (subst (λ alpha. root_part alpha beta (record { p = k.p; q = []; r = []; s = k.s }) ≡ []) flat none.0);
    }
