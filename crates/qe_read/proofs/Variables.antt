-- Where all variables of polynomials pass a test, so do those of their sums, differences and products.
use Rattle.std.proofs.Common.{ℕ, ◌+◌, ℤ, pos, List, [], ◌∷◌, ◌++◌, map, Bool, true, false, cond, eqb, Option, Some, None, inl, inr, subst}
use Rattle.std.specs.Ordering.{nat_cmp, int_eq}
use Rattle.std.specs.List.{AllByRecursion}
use Rattle.std.specs.FinMap.Entries.{by_order}
use Rattle.std.specs.declared.cmp.Ordering.{Ordering}
use Rattle.std.specs.declared.cmp.Ordering.TheVariants.{Less, Equal, Greater}
use Rattle.qe_poly.specs.declared.monomial.Var.{Var}
use Rattle.qe_poly.specs.declared.monomial.Power.{Power}
use Rattle.qe_poly.specs.Monomial.{Monomial, times, times_power, in_turn}
use Rattle.qe_poly.specs.Polynomial.{Term, Polynomial, constant, power_of, negative, sum, difference, product, collected, gathered, enter, with_first, Group, total, nonzero, pairs, pair_product, products}
use Rattle.qe_poly.specs.Occurs.{OccursIn, OccursInSome}

module _ (Q : ℕ → Type 0) where
  -- all variables of a monomial, and of monomials with something beside them
  abbrev pub Has : Monomial → Type 0
  Has m = AllByRecursion (λ a. Q a.var.0) m

  abbrev pub Have : {V : Type 0} → List (Monomial × V) → Type 0
  Have ts = AllByRecursion (λ t. Has t.0) ts

  ordered : {A : Type 0} (P : A → Type 0) (o : Ordering) (a b c : A) → P a → P b → P c → P (by_order o a b c)
  ordered P Less a b c p q r = p
  ordered P Equal a b c p q r = q
  ordered P Greater a b c p q r = r

  times_one : (a : Power) (rest : Monomial → Monomial) → Q a.var.0 → ((n : Monomial) → Has n → Has (rest n)) → (n : Monomial) → Has n → Has (times_power a rest n)
  times_one a rest q h [] p = (q, h [] tt)
  times_one a rest q h (b ∷ n) p =
      ordered Has (nat_cmp a.var.0 b.var.0) (a ∷ rest (b ∷ n)) (record { var = a.var; exponent = a.exponent + b.exponent } ∷ rest n) (b ∷ times_power a rest n)
      (q, h (b ∷ n) p) (q, h n p.1) (p.0, times_one a rest q h n p.1)

  of_times : (m n : Monomial) → Has m → Has n → Has (times m n)
  of_times [] n p q = q
  of_times (a ∷ m) n p q = times_one a (times m) p.0 (λ k r. of_times m k p.1 r) n q

  entered : {V : Type 0} (more : Option V → ℤ → V) (t : Term) (gs : List (Monomial × V)) → Has t.0 → Have gs → Have (enter more t gs)
  entered more t [] p q = (p, tt)
  entered {V} more t (g ∷ gs) p q =
      ordered (Have {V = V}) (in_turn t.0 g.0) ((t.0, more None t.1) ∷ g ∷ gs) ((g.0, more (Some g.1) t.1) ∷ gs) (g ∷ enter more t gs)
      (p, (q.0, q.1)) (q.0, q.1) (q.0, entered more t gs p q.1)

  of_gathered : (ts : List Term) → Have ts → Have (gathered ts)
  of_gathered [] p = tt
  of_gathered (t ∷ ts) p = entered with_first t (gathered ts) p.0 (of_gathered ts p.1)

  of_totals : (gs : List Group) → Have gs → Have (map (λ g. (g.0, total g.1)) gs)
  of_totals [] p = tt
  of_totals (g ∷ gs) p = (p.0, of_totals gs p.1)

  unless_zero : (b : Bool) (m : Monomial) (c : ℤ) (p : Polynomial) → Has m → Have p → Have (cond b p ((m, c) ∷ p))
  unless_zero true m c p h k = k
  unless_zero false m c p h k = (h, k)

  of_nonzero : (ts : List Term) → Have ts → Have (nonzero ts)
  of_nonzero [] p = tt
  of_nonzero (t ∷ ts) p = unless_zero (int_eq t.1 (pos 0)) t.0 t.1 (nonzero ts) p.0 (of_nonzero ts p.1)

  of_collected : (ts : List Term) → Have ts → Have (collected ts)
  of_collected ts p = of_nonzero (map (λ g. (g.0, total g.1)) (gathered ts)) (of_totals (gathered ts) (of_gathered ts p))

  append : {V : Type 0} (xs ys : List (Monomial × V)) → Have xs → Have ys → Have (xs ++ ys)
  append [] ys p q = q
  append (x ∷ xs) ys p q = (p.0, append xs ys p.1 q)

  pub of_negative : (p : Polynomial) → Have p → Have (negative p)
  of_negative [] h = tt
  of_negative (t ∷ ts) h = (h.0, of_negative ts h.1)

  pub of_sum : (p q : Polynomial) → Have p → Have q → Have (sum p q)
  of_sum p q h k = of_collected (p ++ q) (append p q h k)

  pub of_difference : (p q : Polynomial) → Have p → Have q → Have (difference p q)
  of_difference p q h k = of_sum p (negative q) h (of_negative q k)

  row : (t : Term) (us : Polynomial) → Has t.0 → Have us → Have (map pair_product (map (λ u. (t, u)) us))
  row t [] h k = tt
  row t (u ∷ us) h k = (of_times t.0 u.0 h k.0, row t us h k.1)

  rows : (ps qs : List (Term × Term)) → Have (map pair_product ps) → Have (map pair_product qs) → Have (map pair_product (ps ++ qs))
  rows [] qs h k = k
  rows (p ∷ ps) qs h k = (h.0, rows ps qs h.1 k)

  of_products : (p q : Polynomial) → Have p → Have q → Have (products p q)
  of_products [] q h k = tt
  of_products (t ∷ ts) q h k = rows (map (λ u. (t, u)) q) (pairs ts q) (row t q h.0 k) (of_products ts q h.1 k)

  pub of_product : (p q : Polynomial) → Have p → Have q → Have (product p q)
  of_product p q h k = of_collected (products p q) (of_products p q h k)

  pub of_constant : (c : ℤ) → Have (constant c)
  of_constant c = unless_zero (int_eq c (pos 0)) [] c [] tt tt

  one_power : (b : Bool) (x : Var) (n : ℕ) → Q x.0 → Has (cond b [] (record { var = x; exponent = n } ∷ []))
  one_power true x n q = tt
  one_power false x n q = (q, tt)

  pub of_power : (x : Var) (n : ℕ) → Q x.0 → Have (power_of x n)
  of_power x n q = (one_power (eqb n 0) x n q, tt)

  in_monomial : (x : ℕ) (m : Monomial) → Has m → OccursIn x m → Q x
  in_monomial x [] h o = absurd o
  in_monomial x (a ∷ m) h (inl e) = subst Q e h.0
  in_monomial x (a ∷ m) h (inr o) = in_monomial x m h.1 o

  pub in_polynomial : (x : ℕ) (p : Polynomial) → Have p → OccursInSome x p → Q x
  in_polynomial x [] h o = absurd o
  in_polynomial x (t ∷ ts) h (inl o) = in_monomial x t.0 h.0 o
  in_polynomial x (t ∷ ts) h (inr o) = in_polynomial x ts h.1 o
