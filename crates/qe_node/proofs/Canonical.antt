-- The polynomials of a candidate's guard and point, and of the formula at the point, are canonical where those of the formula are.
use Rattle.std.proofs.Common.{ℕ, zero, suc, pos, negsuc, subst, Bool, true, false, cond, eqb, Option}
use Rattle.qe_coef.specs.declared.Op.TheVariants.{Add}
use Rattle.qe_poly.specs.Polynomial.{Polynomial, IsPolynomial, negative, sum, product}
use Rattle.qe_poly.specs.Coefficients.{degree_in, coefficient_in, derivative}
use Rattle.qe_poly.specs.Value.{scaled}
use Rattle.qe_poly.proofs.MergedSums.{IsPolynomial-results, results-sum, IsPolynomial-negative, IsPolynomial-difference}
use Rattle.qe_poly.proofs.Products.{IsPolynomial-product}
use Rattle.qe_poly.proofs.Parts.{IsPolynomial-coefficient_in}
use Rattle.qe_poly.proofs.Multiples.{IsPolynomial-scaled}
use Rattle.qe_poly.proofs.Derivatives.{IsPolynomial-derivative}
use Rattle.qe_poly.proofs.Constants.{IsPolynomial-constant}
use Rattle.qe_form.specs.declared.form.Atom as atom
use Rattle.qe_form.specs.declared.signs.Signs.{Signs}
use Rattle.qe_form.specs.Making.{constant}
use Rattle.qe_form.specs.Signs.{equal, not_equal, strict, is_even}
use Rattle.qe_form.specs.Formula.{Formula, Formulas, True, False, Atom, And, Or, Not, Implies, Iff, Ex, All, no_more, more}
use Rattle.qe_form.specs.Plain.{ArePlainWith}
use Rattle.qe_root.specs.declared.point.RootPoint.{RootPoint}
use Rattle.qe_root.specs.declared.point.Point.{Point}
use Rattle.qe_root.specs.declared.point.Point.TheVariants.{Root, RootPlus, MinusInf}
use Rattle.qe_poly.specs.Numbers.{is_zero, is_negative}
use Rattle.qe_root.specs.Value.{triple, square, plain_part, root_part, plain_part_of, root_part_of}
use Rattle.qe_root.specs.Shape.{Shape, conjunction, disjunction, formula}
use Rattle.qe_root.specs.Shape as shape
use Rattle.qe_root.proofs.Shapes.{EachOf, shape_each}
use Rattle.qe_root.specs.SignForm.{sign_shape, norm, sign_formula}
use Rattle.qe_points.specs.declared.candidate.Which.{Which}
use Rattle.qe_points.specs.declared.candidate.Which.TheVariants.{Linear, Upper, Lower}
use Rattle.qe_points.specs.declared.candidate.Candidate.{Candidate}
use Rattle.qe_points.specs.declared.candidate.Candidate.TheVariants as candidate
use Rattle.qe_points.specs.Guard.{guard, point_of, discriminant, turned, root_of_kind, at_or_above}
use Rattle.qe_points.specs.Guarded.{own}
use Rattle.qe_subst.specs.Substituted as spec
use Rattle.qe_tree.specs.Sound.{IsFine}

-- ---- polynomials

IsPolynomial-sum : (p q : Polynomial) → IsPolynomial p → IsPolynomial q → IsPolynomial (sum p q)
IsPolynomial-sum p q left right = subst IsPolynomial (results-sum p q left right) (IsPolynomial-results Add p q left right)

IsPolynomial-triple : (p q r : Polynomial) → IsPolynomial p → IsPolynomial q → IsPolynomial r → IsPolynomial (triple p q r)
IsPolynomial-triple p q r hp hq hr = IsPolynomial-product (product p q) r (IsPolynomial-product p q hp hq) hr

-- the polynomials of a root are canonical
pub record IsRoot (k : RootPoint) : Type 0 where
  pub p : IsPolynomial k.p
  pub q : IsPolynomial k.q
  pub r : IsPolynomial k.r
  pub s : IsPolynomial k.s

-- those of a point
abbrev pub IsTestPoint : Point → Type 0
IsTestPoint (Root k) = IsRoot k
IsTestPoint (RootPlus k) = IsRoot k
IsTestPoint MinusInf = Unit {0}

module _ (k : RootPoint) (h : IsRoot k) where
  IsPolynomial-square : IsPolynomial (square k)
  IsPolynomial-square = IsPolynomial-sum (product k.p k.p) (triple k.q k.q k.r) (IsPolynomial-product k.p k.p h.p h.p) (IsPolynomial-triple k.q k.q k.r h.q h.q h.r)

  module _ (alpha beta gamma : Polynomial) (ha : IsPolynomial alpha) (hb : IsPolynomial beta) (hc : IsPolynomial gamma) where
    IsPolynomial-plain_part : IsPolynomial (plain_part alpha beta gamma k)
    IsPolynomial-plain_part =
        IsPolynomial-sum (sum (product alpha (square k)) (triple beta k.p k.s)) (product gamma (product k.s k.s))
        (IsPolynomial-sum (product alpha (square k)) (triple beta k.p k.s) (IsPolynomial-product alpha (square k) ha IsPolynomial-square) (IsPolynomial-triple beta k.p k.s hb h.p h.s))
        (IsPolynomial-product gamma (product k.s k.s) hc (IsPolynomial-product k.s k.s h.s h.s))

    IsPolynomial-root_part : IsPolynomial (root_part alpha beta k)
    IsPolynomial-root_part =
        IsPolynomial-sum (scaled (pos 2) (triple alpha k.p k.q)) (triple beta k.q k.s) (IsPolynomial-scaled (pos 2) (triple alpha k.p k.q) (IsPolynomial-triple alpha k.p k.q ha h.p h.q)) (IsPolynomial-triple beta k.q k.s hb h.q h.s)

-- ---- shapes of formulas

formula_fine : (f : Shape Polynomial) → EachOf IsPolynomial f → IsFine (formula f)
formula_fine (shape.atom a signs) h = h
formula_fine (conjunction f g) h = (formula_fine f h.0, (formula_fine g h.1, tt))
formula_fine (disjunction f g) h = (formula_fine f h.0, (formula_fine g h.1, tt))

norm_fine : (a b r : Polynomial) → IsPolynomial a → IsPolynomial b → IsPolynomial r → IsPolynomial (norm a b r)
norm_fine a b r ha hb hr = IsPolynomial-difference (product a a) (triple b b r) (IsPolynomial-product a a ha ha) (IsPolynomial-triple b b r hb hb hr)

sign_formula_fine : (a b r : Polynomial) (signs : Signs) → IsPolynomial a → IsPolynomial b → IsPolynomial r → IsFine (sign_formula a b r signs)
sign_formula_fine a b r signs ha hb hr = by_zero (is_zero b)
  where
    by_zero : (t : Bool) → IsFine (cond t (formula (shape.atom a signs)) (formula (sign_shape negative signs a b (product a b) (norm a b r))))
    by_zero true = ha
    by_zero false =
        formula_fine (sign_shape negative signs a b (product a b) (norm a b r))
        (shape_each IsPolynomial negative a b (product a b) (norm a b r) ha hb (IsPolynomial-product a b ha hb) (norm_fine a b r ha hb hr) (IsPolynomial-negative a ha) (IsPolynomial-negative b hb) signs)

-- ---- a formula at a point

constant_fine : (b : Bool) → IsFine (constant b)
constant_fine true = tt
constant_fine false = tt

fine_if : (b : Bool) (f g : Formula) → IsFine f → IsFine g → IsFine (cond b f g)
fine_if true f g hf hg = hf
fine_if false f g hf hg = hg

module _ (x : ℕ) where
  coefficient : (k : ℕ) (f : Polynomial) → IsPolynomial f → IsPolynomial (coefficient_in x k f)
  coefficient k f h = IsPolynomial-coefficient_in x k f h

  module _ (own : Option Polynomial) (k : RootPoint) (root : IsRoot k) where
    at_root_fine : (f : Polynomial) (signs : Signs) → IsPolynomial f → IsFine (spec.at_root x own k f signs)
    at_root_fine f signs h =
        fine_if (spec.is_own own f) (constant signs.zero) (sign_formula (plain_part_of f x k) (root_part_of f x k) k.r signs) (constant_fine signs.zero)
        (sign_formula_fine (plain_part_of f x k) (root_part_of f x k) k.r signs
        (IsPolynomial-plain_part k root (coefficient_in x 2 f) (coefficient_in x 1 f) (coefficient_in x 0 f) (coefficient 2 f h) (coefficient 1 f h) (coefficient 0 f h))
        (IsPolynomial-root_part k root (coefficient_in x 2 f) (coefficient_in x 1 f) (coefficient_in x 0 f) (coefficient 2 f h) (coefficient 1 f h) (coefficient 0 f h)) root.r)

    near_fine : (n : ℕ) (f : Polynomial) (signs : Signs) → IsPolynomial f → IsFine (spec.near x own k n f signs)
    near_fine zero f signs h = h
    near_fine (suc n) f signs h =
        (at_root_fine f (strict signs) h, ((at_root_fine f equal h, (near_fine n (derivative x f) signs (IsPolynomial-derivative x f h), tt)), tt))

  each_coefficient_fine : (n : ℕ) (f : Polynomial) (signs : Signs) → IsPolynomial f → ArePlainWith (λ a. IsPolynomial a.poly) (spec.each_coefficient x n f signs)
  each_coefficient_fine zero f signs h = (coefficient zero f h, tt)
  each_coefficient_fine (suc n) f signs h = (coefficient (suc n) f h, each_coefficient_fine n f signs h)

  everywhere_fine : (f : Polynomial) (signs : Signs) → IsPolynomial f → IsFine (spec.everywhere x f signs)
  everywhere_fine f signs h =
      fine_if signs.zero (And (spec.each_coefficient x (degree_in x f) f signs)) (Or (spec.each_coefficient x (degree_in x f) f signs)) (each_coefficient_fine (degree_in x f) f signs h) (each_coefficient_fine (degree_in x f) f signs h)

  below_fine : (f : Polynomial) (signs : Signs) → IsPolynomial f → IsFine (cond (eqb (degree_in x f) 1) (spec.line_below x f signs) (spec.quadratic_below x f signs))
  below_fine f signs h =
      let c0 = coefficient 0 f h in
      let c1 = coefficient 1 f h in
      let c2 = coefficient 2 f h in
      fine_if (eqb (degree_in x f) 1) (spec.line_below x f signs) (spec.quadratic_below x f signs)
      (c1, ((c1, (c0, tt)), tt))
      (c2, ((c2, (c1, tt)), ((c2, (c1, (c0, tt))), tt)))

  at_point_fine : (point : Point) (own : Option Polynomial) → IsTestPoint point → (f : Polynomial) (signs : Signs) → IsPolynomial f → IsFine (spec.at_point x point own f signs)
  at_point_fine (Root k) own root f signs h = at_root_fine own k root f signs h
  at_point_fine (RootPlus k) own root f signs h =
      fine_if (is_even signs) (spec.everywhere x f signs) (spec.near x own k (degree_in x f) f signs) (everywhere_fine f signs h) (near_fine own k root (degree_in x f) f signs h)
  at_point_fine MinusInf own root f signs h = fine_if (is_even signs) (spec.everywhere x f signs) (cond (eqb (degree_in x f) 1) (spec.line_below x f signs) (spec.quadratic_below x f signs)) (everywhere_fine f signs h) (below_fine f signs h)

  module _ (point : Point) (own : Option Polynomial) (test : IsTestPoint point) where
    for_atom_fine : (a : atom.Atom) → IsPolynomial a.poly → IsFine (spec.for_atom x point own a)
    for_atom_fine a h = fine_if (eqb (degree_in x a.poly) 0) (Atom a) (spec.at_point x point own a.poly a.signs) h (at_point_fine point own test a.poly a.signs h)

    mutual
      pub substituted_fine : (f : Formula) → IsFine f → IsFine (spec.substituted x point own f)
      substituted_fine True h = tt
      substituted_fine False h = tt
      substituted_fine (Atom a) h = for_atom_fine a h
      substituted_fine (And fs) h = each_substituted_fine fs h
      substituted_fine (Or fs) h = each_substituted_fine fs h
      substituted_fine (Not f) h = absurd h
      substituted_fine (Implies f g) h = absurd h
      substituted_fine (Iff f g) h = absurd h
      substituted_fine (Ex y f) h = absurd h
      substituted_fine (All y f) h = absurd h

      each_substituted_fine : (fs : Formulas) → ArePlainWith (λ a. IsPolynomial a.poly) fs → ArePlainWith (λ a. IsPolynomial a.poly) (spec.substituted_each x point own fs)
      each_substituted_fine no_more h = tt
      each_substituted_fine (more f fs) h = (substituted_fine f h.0, each_substituted_fine fs h.1)

-- ---- a candidate

-- the candidate's polynomial is canonical
abbrev pub IsOverPolynomial : Candidate → Type 0
IsOverPolynomial (candidate.Root f n which plus) = IsPolynomial f
IsOverPolynomial candidate.MinusInf = Unit {0}

module _ (x : ℕ) (f : Polynomial) (h : IsPolynomial f) where
  discriminant_fine : IsPolynomial (discriminant x f)
  discriminant_fine =
      IsPolynomial-difference (product (coefficient_in x 1 f) (coefficient_in x 1 f)) (scaled (pos 4) (product (coefficient_in x 2 f) (coefficient_in x 0 f)))
      (IsPolynomial-product (coefficient_in x 1 f) (coefficient_in x 1 f) (coefficient x 1 f h) (coefficient x 1 f h))
      (IsPolynomial-scaled (pos 4) (product (coefficient_in x 2 f) (coefficient_in x 0 f)) (IsPolynomial-product (coefficient_in x 2 f) (coefficient_in x 0 f) (coefficient x 2 f h) (coefficient x 0 f h)))

  root_fine : (which : Which) → IsRoot (root_of_kind x f which)
  root_fine Linear = record { p = IsPolynomial-negative (coefficient_in x 0 f) (coefficient x 0 f h); q = tt; r = tt; s = coefficient x 1 f h }
  root_fine Upper = record {
    p = IsPolynomial-negative (coefficient_in x 1 f) (coefficient x 1 f h);
    q = IsPolynomial-constant (pos 1);
    r = discriminant_fine;
    s = IsPolynomial-scaled (pos 2) (coefficient_in x 2 f) (coefficient x 2 f h);
  }
  root_fine Lower = record {
    p = IsPolynomial-negative (coefficient_in x 1 f) (coefficient x 1 f h);
    q = IsPolynomial-constant (negsuc 0);
    r = discriminant_fine;
    s = IsPolynomial-scaled (pos 2) (coefficient_in x 2 f) (coefficient x 2 f h);
  }

  guard_fine : (which : Which) (n : ℕ) (plus : Bool) → IsFine (guard x (candidate.Root f n which plus))
  guard_fine Linear n plus = by_degree (eqb (degree_in x f) 2)
    where
      by_degree : (b : Bool) → IsFine (cond b (And (more (Atom (record { poly = coefficient_in x 2 f; signs = equal })) (more (Atom (record { poly = coefficient_in x 1 f; signs = not_equal })) no_more))) (Atom (record { poly = coefficient_in x 1 f; signs = not_equal })))
      by_degree true = (coefficient x 2 f h, (coefficient x 1 f h, tt))
      by_degree false = coefficient x 1 f h
  guard_fine Upper n plus = (coefficient x 2 f h, (discriminant_fine, tt))
  guard_fine Lower n plus = (coefficient x 2 f h, (discriminant_fine, tt))

turned_fine : (k : RootPoint) → IsRoot k → IsRoot (turned k)
turned_fine k h = by_sign (is_negative k.s)
  where
    by_sign : (b : Bool) → IsRoot (cond b (record { p = negative k.p; q = negative k.q; r = k.r; s = negative k.s }) k)
    by_sign true = record { p = IsPolynomial-negative k.p h.p; q = IsPolynomial-negative k.q h.q; r = h.r; s = IsPolynomial-negative k.s h.s }
    by_sign false = h

at_root_test : (plus : Bool) (k : RootPoint) → IsRoot k → IsTestPoint (at_or_above plus k)
at_root_test true k h = h
at_root_test false k h = h

pub point_fine : (x : ℕ) (c : Candidate) → IsOverPolynomial c → IsTestPoint (point_of x c)
point_fine x (candidate.Root f n which plus) h = at_root_test plus (turned (root_of_kind x f which)) (turned_fine (root_of_kind x f which) (root_fine x f h which))
point_fine x candidate.MinusInf h = tt

pub guard_of_fine : (x : ℕ) (c : Candidate) → IsOverPolynomial c → IsFine (guard x c)
guard_of_fine x (candidate.Root f n which plus) h = guard_fine x f h which n plus
guard_of_fine x candidate.MinusInf h = tt
