-- Equality of monomials and of polynomials as tests, and what they feed a hasher.
use Rattle.std.specs.Prelude.{List, [], ◌∷◌, ◌++◌, Bool, true, ◌≡◌, eqb, refl}
use Rattle.std.proofs.Common.{ap}
use Rattle.std.proofs.lemmas.Bool.{eqb-true}
use Rattle.std.proofs.lemmas.Bool.Decides.{Decides-int_eq}
use Rattle.std.specs.Hash as fed
use Rattle.std.specs.Ordering.{on, eq_of_both, int_eq}
use Rattle.std.specs.Cmp.{IsEquivalence, on_equiv, and_equiv}
use Rattle.std.proofs.lemmas.Cmp.{lists_equiv, nat_eq_equiv, int_eq_equiv}
use Rattle.qe_ring.proofs.Bools.{no_way, both_hold}
use Rattle.qe_poly.specs.declared.monomial.Power.{Power}
use Rattle.qe_poly.specs.Monomial.{Monomial}
use Rattle.qe_poly.specs.Polynomial.{Term, Polynomial}
use lib.Pointwise.{pointwise}

-- ---- the tests

-- the same variable with the same exponent
abbrev pub power_eq : Power → Power → Bool
power_eq = eq_of_both (on (λ a. a.var.0) eqb) (on (λ a. a.exponent) eqb)

-- the same powers in the same order
abbrev pub monomial_eq : Monomial → Monomial → Bool
monomial_eq = pointwise power_eq

-- the same monomial with the same coefficient
abbrev pub term_eq : Term → Term → Bool
term_eq = eq_of_both (on (λ t. t.0) monomial_eq) (on (λ t. t.1) int_eq)

-- the same terms in the same order
abbrev pub poly_eq : Polynomial → Polynomial → Bool
poly_eq = pointwise term_eq

pub monomial_eq_equiv : IsEquivalence monomial_eq
monomial_eq_equiv = lists_equiv (and_equiv (on_equiv (λ a. a.var.0) nat_eq_equiv) (on_equiv (λ a. a.exponent) nat_eq_equiv))

pub poly_eq_equiv : IsEquivalence poly_eq
poly_eq_equiv = lists_equiv (and_equiv (on_equiv (λ t. t.0) monomial_eq_equiv) (on_equiv (λ t. t.1) int_eq_equiv))

-- ---- they tell equality

-- lists that a test finds equal item by item are equal, where it tells equal items
pointwise_tells : {X : Type 0} (test : X → X → Bool) → ((x y : X) → test x y ≡ true → x ≡ y) → (xs ys : List X) → pointwise test xs ys ≡ true → xs ≡ ys
pointwise_tells test tells [] [] holds = refl
pointwise_tells test tells [] (y ∷ ys) holds = no_way holds
pointwise_tells test tells (x ∷ xs) [] holds = no_way holds
pointwise_tells test tells (x ∷ xs) (y ∷ ys) holds =
    let parts = both_hold (test x y) (pointwise test xs ys) holds in λ i. tells x y parts.0 i ∷ pointwise_tells test tells xs ys parts.1 i

power_tells : (a b : Power) → power_eq a b ≡ true → a ≡ b
power_tells a b holds =
    let parts = both_hold (eqb a.var.0 b.var.0) (eqb a.exponent b.exponent) holds in
    λ i. record { var = record { 0 = eqb-true a.var.0 b.var.0 parts.0 i }; exponent = eqb-true a.exponent b.exponent parts.1 i }

pub monomial_tells : (m n : Monomial) → monomial_eq m n ≡ true → m ≡ n
monomial_tells = pointwise_tells power_eq power_tells

term_tells : (t u : Term) → term_eq t u ≡ true → t ≡ u
term_tells t u holds =
    let parts = both_hold (monomial_eq t.0 u.0) (int_eq t.1 u.1) holds in
    λ i. (monomial_tells t.0 u.0 parts.0 i, (Decides-int_eq t.1 u.1).0 parts.1 i)

pub poly_tells : (p q : Polynomial) → poly_eq p q ≡ true → p ≡ q
poly_tells = pointwise_tells term_eq term_tells

-- ---- what they feed a hasher

-- the number of powers, and then each variable with its exponent
abbrev pub monomial_fed : Monomial → fed.HashWrites
monomial_fed m = fed.slice (λ a. fed.u32 a.var.0 ++ fed.u16 a.exponent) m

-- the number of terms, and then each monomial with its coefficient
abbrev pub poly_fed : Polynomial → fed.HashWrites
poly_fed p = fed.slice (λ t. monomial_fed t.0 ++ fed.i128 t.1) p

pub monomial_fed_alike : (m n : Monomial) → monomial_eq m n ≡ true → monomial_fed m ≡ monomial_fed n
monomial_fed_alike m n holds = ap monomial_fed (monomial_tells m n holds)

pub poly_fed_alike : (p q : Polynomial) → poly_eq p q ≡ true → poly_fed p ≡ poly_fed q
poly_fed_alike p q holds = ap poly_fed (poly_tells p q holds)
