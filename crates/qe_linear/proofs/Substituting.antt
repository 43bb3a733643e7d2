-- A formula over small linear polynomials at the root of one of them, or below all numbers: no limit is met, and its atoms are ready to be simplified.
use Rattle.std.proofs.Common.{ℕ, zero, suc, ◌+◌, ◌*◌, ◌≡◌, ◌≤◌, refl, sym, ap, subst, ◌∙◌, ◌⊎◌, inl, inr, Bool, true, false, cond, eqb, ltb, List, [], ◌∷◌, Option, Some, None, arith}
use Rattle.std.proofs.lemmas.Bool.{le-ltb}
use Rattle.qe_halt.specs.Outcome.{first, or_else, limit_within}
use Rattle.qe_poly.specs.Monomial.{Monomial}
use Rattle.qe_poly.specs.Polynomial.{Polynomial}
use Rattle.qe_poly.specs.Coefficients.{coefficient_in, degree_in, exponent_of}
use Rattle.qe_poly.proofs.Sorted.{Each, Each-append}
use Rattle.qe_form.specs.declared.signs.Signs.{Signs}
use Rattle.qe_form.specs.declared.form.Atom as atom
use Rattle.qe_form.specs.Signs.{is_even}
use Rattle.qe_form.specs.Making.{constant}
use Rattle.qe_form.specs.Measures.{count, count_each}
use Rattle.qe_form.specs.Formula.{Formula, Formulas, True, False, Atom, And, Or, Not, Implies, Iff, Ex, All, no_more, more}
use Rattle.qe_form.specs.Plain.{IsPlainWith, ArePlainWith}
use Rattle.qe_root.specs.declared.point.RootPoint.{RootPoint}
use Rattle.qe_root.specs.declared.point.Point.{Point}
use Rattle.qe_root.specs.declared.point.Point.TheVariants.{Root, RootPlus, MinusInf}
use Rattle.qe_root.specs.declared.stop.SubstStop.TheVariants.{TooLarge}
use Rattle.qe_root.specs.declared.stop.Stage.TheVariants as stage
use Rattle.qe_root.specs.Atoms.{atoms, atoms_of}
use Rattle.qe_root.specs.Value.{plain_part_of, root_part_of}
use Rattle.qe_root.specs.SignForm.{sign_formula, sign_limit}
use Rattle.qe_subst.specs.declared.stop.Fault.{Fault}
use Rattle.qe_subst.specs.Fault.{in_stage}
use Rattle.qe_subst.specs.Substituted as spec
use Rattle.qe_subst.specs.Stop.{at_atom, next_atom, limit_at, first_stop, stop}
use Rattle.qe_linear.proofs.Small.{most, IsLinear, IsSmall, smaller, part_small}
use Rattle.qe_linear.proofs.Products.{IsConstant, zero_is, number_is}
use Rattle.qe_linear.proofs.Values.{IsLinearRoot, next, no_square, slope_number, value_at}
use Rattle.qe_linear.proofs.Simplifying.{IsGood, IsReady}

-- ---- degrees

low_power : (x : ℕ) (m : Monomial) → IsLinear m → exponent_of x m ≤ 1
low_power x [] h = omega arith
low_power x (a ∷ []) h = elim (eqb a.var.0 x) as (λ b. cond b a.exponent 0 ≤ 1) [ true ↦ omega (arith, h.0) | false ↦ omega arith ]
low_power x (a ∷ b ∷ m) h = absurd h

pub low_degree : (x : ℕ) (p : Polynomial) → Each (λ t. IsLinear t.0) p → degree_in x p ≤ 1
low_degree x [] h = omega arith
low_degree x (t ∷ ts) h = let one = low_power x t.0 h.0 in let rest = low_degree x ts h.1 in omega (arith, one, rest)

-- ---- the atoms of a formula

module _ (P : atom.Atom → Type 0) where
  mutual
    pub each_atom : (f : Formula) → IsPlainWith P f → Each P (atoms f)
    each_atom True h = tt
    each_atom False h = tt
    each_atom (Atom a) h = (h, tt)
    each_atom (And fs) h = each_atom_of fs h
    each_atom (Or fs) h = each_atom_of fs h
    each_atom (Not f) h = absurd h
    each_atom (Implies f g) h = absurd h
    each_atom (Iff f g) h = absurd h
    each_atom (Ex y f) h = absurd h
    each_atom (All y f) h = absurd h

    each_atom_of : (fs : Formulas) → ArePlainWith P fs → Each P (atoms_of fs)
    each_atom_of no_more h = tt
    each_atom_of (more f fs) h = Each-append P (atoms f) (atoms_of fs) (each_atom f h.0) (each_atom_of fs h.1)

-- ---- points

-- the root of a linear polynomial, or what is below all numbers
abbrev pub IsLinearPoint : ℕ → Point → Type 0
IsLinearPoint s (Root k) = IsLinearRoot s k
IsLinearPoint s (RootPlus k) = ⊥
IsLinearPoint s MinusInf = Unit {0}

-- bounds under which no limit is met
pub record IsRoomy (s : ℕ) : Type 0 where
  pub low : s * s ≤ most
  pub high : next s ≤ most
  pub grows : s ≤ next s

module _ (s x : ℕ) (roomy : IsRoomy s) where
  abbrev Ready : Formula → Type 0
  Ready = IsPlainWith (IsReady (next s))

  part_ready : (k : ℕ) (f : Polynomial) → IsSmall s f → IsSmall (next s) (coefficient_in x k f)
  part_ready k f h = smaller s (next s) (coefficient_in x k f) roomy.grows (part_small s x k f h)

  wider : (p : Polynomial) → IsConstant s p → IsConstant (next s) p
  wider [] zero_is = zero_is
  wider (_ ∷ []) (number_is c some le) = let grows = roomy.grows in number_is c some (omega (arith, le, grows))
  wider (_ ∷ (_ ∷ _)) shape = elim shape [ ]

  slope_ready : (f : Polynomial) → IsSmall s f → IsConstant (next s) (coefficient_in x 1 f)
  slope_ready f h = wider (coefficient_in x 1 f) (slope_number s x f h)

  square_ready : (f : Polynomial) → IsSmall s f → IsConstant (next s) (coefficient_in x 2 f)
  square_ready f h = subst (IsConstant (next s)) (sym (no_square x f h.linear)) zero_is

  constant_ready : (b : Bool) → Ready (constant b)
  constant_ready true = tt
  constant_ready false = tt

  ready_if : (b : Bool) (f g : Formula) → Ready f → Ready g → Ready (cond b f g)
  ready_if true f g hf hg = hf
  ready_if false f g hf hg = hg

  -- ---- an atom at a point

  root_ready : (own : Option Polynomial) (k : RootPoint) → IsLinearRoot s k → (f : Polynomial) (signs : Signs) → IsSmall s f → signs.zero ≡ true → Ready (spec.at_root x own k f signs)
  root_ready own k root f signs h stands =
      let value = value_at s x f k roomy.low roomy.high h root in
      ready_if (spec.is_own own f) (constant signs.zero) (sign_formula (plain_part_of f x k) (root_part_of f x k) k.r signs) (constant_ready signs.zero)
      (subst (λ b. Ready (sign_formula (plain_part_of f x k) b k.r signs)) (sym value.no_root) (value.small, inl stands))

  each_ready : (n : ℕ) (f : Polynomial) (signs : Signs) → IsSmall s f → signs.zero ≡ true → ArePlainWith (IsReady (next s)) (spec.each_coefficient x n f signs)
  each_ready zero f signs h stands = ((part_ready zero f h, inl stands), tt)
  each_ready (suc n) f signs h stands = ((part_ready (suc n) f h, inl stands), each_ready n f signs h stands)

  below_ready : (f : Polynomial) (signs : Signs) → IsSmall s f → signs.zero ≡ true → Ready (spec.at_minus_infinity x f signs)
  below_ready f signs h stands =
      let all = each_ready (degree_in x f) f signs h stands in
      let c0 : IsSmall (next s) (coefficient_in x 0 f) × ((signs.zero ≡ true) ⊎ IsConstant (next s) (coefficient_in x 0 f)) = (part_ready 0 f h, inl stands) in
      let c1 : (b : Bool) → IsSmall (next s) (coefficient_in x 1 f) × ((b ≡ true) ⊎ IsConstant (next s) (coefficient_in x 1 f)) = λ b. (part_ready 1 f h, inr (slope_ready f h)) in
      let c2 : (b : Bool) → IsSmall (next s) (coefficient_in x 2 f) × ((b ≡ true) ⊎ IsConstant (next s) (coefficient_in x 2 f)) = λ b. (part_ready 2 f h, inr (square_ready f h)) in
      ready_if (is_even signs) (spec.everywhere x f signs) (cond (eqb (degree_in x f) 1) (spec.line_below x f signs) (spec.quadratic_below x f signs))
      (ready_if signs.zero (And (spec.each_coefficient x (degree_in x f) f signs)) (Or (spec.each_coefficient x (degree_in x f) f signs)) all all)
      (ready_if (eqb (degree_in x f) 1) (spec.line_below x f signs) (spec.quadratic_below x f signs)
      (c1 false, ((c1 true, (c0, tt)), tt))
      (c2 false, ((c2 true, (c1 false, tt)), ((c2 true, (c1 true, (c0, tt))), tt))))

  point_ready : (point : Point) (own : Option Polynomial) → IsLinearPoint s point → (f : Polynomial) (signs : Signs) → IsSmall s f → signs.zero ≡ true → Ready (spec.at_point x point own f signs)
  point_ready (Root k) own linear f signs h stands = root_ready own k linear f signs h stands
  point_ready (RootPlus k) own linear f signs h stands = absurd linear
  point_ready MinusInf own linear f signs h stands = below_ready f signs h stands

  -- ---- how many atoms there are

  count_if : (b : Bool) (f g : Formula) (n : ℕ) → count f ≤ n → count g ≤ n → count (cond b f g) ≤ n
  count_if true f g n hf hg = hf
  count_if false f g n hf hg = hg

  count_constant : (b : Bool) → count (constant b) ≤ 6
  count_constant true = omega arith
  count_constant false = omega arith

  count_coefficients : (n : ℕ) (f : Polynomial) (signs : Signs) → count_each (spec.each_coefficient x n f signs) ≤ 1 + n
  count_coefficients zero f signs = omega arith
  count_coefficients (suc n) f signs = let rest = count_coefficients n f signs in omega (arith, rest)

  count_point : (point : Point) (own : Option Polynomial) → IsLinearPoint s point → (f : Polynomial) (signs : Signs) → IsSmall s f → count (spec.at_point x point own f signs) ≤ 6
  count_point (Root k) own linear f signs h =
      let value = value_at s x f k roomy.low roomy.high h linear in
      count_if (spec.is_own own f) (constant signs.zero) (sign_formula (plain_part_of f x k) (root_part_of f x k) k.r signs) 6 (count_constant signs.zero)
      (subst (λ b. count (sign_formula (plain_part_of f x k) b k.r signs) ≤ 6) (sym value.no_root) (omega arith))
  count_point (RootPlus k) own linear f signs h = absurd linear
  count_point MinusInf own linear f signs h =
      let few = low_degree x f h.linear in
      let all = count_coefficients (degree_in x f) f signs in
      count_if (is_even signs) (spec.everywhere x f signs) (cond (eqb (degree_in x f) 1) (spec.line_below x f signs) (spec.quadratic_below x f signs)) 6
      (count_if signs.zero (And (spec.each_coefficient x (degree_in x f) f signs)) (Or (spec.each_coefficient x (degree_in x f) f signs)) 6 (omega (arith, few, all)) (omega (arith, few, all)))
      (count_if (eqb (degree_in x f) 1) (spec.line_below x f signs) (spec.quadratic_below x f signs) 6 (omega arith) (omega arith))

  -- ---- limits

  either_none : (b : Bool) → ◌≡◌ {A = Option Fault} (cond b None None) None
  either_none true = refl
  either_none false = refl

  point_fits : (point : Point) (own : Option Polynomial) → IsLinearPoint s point → (f : Polynomial) (signs : Signs) → IsSmall s f → spec.at_point_fault x point own f signs ≡ None
  point_fits (Root k) own linear f signs h =
      let value = value_at s x f k roomy.low roomy.high h linear in
      let sign_fits : sign_limit (plain_part_of f x k) (root_part_of f x k) k.r signs ≡ None = ap (λ b. sign_limit (plain_part_of f x k) b k.r signs) value.no_root in
      (λ i. cond (spec.is_own own f) None (first (in_stage stage.Root (value.fits i) ∷ in_stage stage.Sign (sign_fits i) ∷ []))) ∙ either_none (spec.is_own own f)
  point_fits (RootPlus k) own linear f signs h = absurd linear
  point_fits MinusInf own linear f signs h = refl

  -- ---- the whole formula

  module _ (point : Point) (own : Option Polynomial) (linear : IsLinearPoint s point) where
    atom_ready : (a : atom.Atom) → IsGood s a → Ready (spec.for_atom x point own a)
    atom_ready a h = ready_if (eqb (degree_in x a.poly) 0) (Atom a) (spec.at_point x point own a.poly a.signs) (smaller s (next s) a.poly roomy.grows h.0, inl h.1) (point_ready point own linear a.poly a.signs h.0 h.1)

    atom_count : (a : atom.Atom) → IsGood s a → count (spec.for_atom x point own a) ≤ 6
    atom_count a h = count_if (eqb (degree_in x a.poly) 0) (Atom a) (spec.at_point x point own a.poly a.signs) 6 (omega arith) (count_point point own linear a.poly a.signs h.0)

    atom_fits : (n : ℕ) (a : atom.Atom) → IsGood s a → limit_at x point own n a ≡ None
    atom_fits n a h = ap (limit_within (at_atom n)) ((λ i. cond (eqb (degree_in x a.poly) 0) None (point_fits point own linear a.poly a.signs h.0 i)) ∙ either_none (eqb (degree_in x a.poly) 0))

    mutual
      pub formula_ready : (f : Formula) → IsPlainWith (IsGood s) f → Ready (spec.substituted x point own f)
      formula_ready True h = tt
      formula_ready False h = tt
      formula_ready (Atom a) h = atom_ready a h
      formula_ready (And fs) h = formulas_ready fs h
      formula_ready (Or fs) h = formulas_ready fs h
      formula_ready (Not f) h = absurd h
      formula_ready (Implies f g) h = absurd h
      formula_ready (Iff f g) h = absurd h
      formula_ready (Ex y f) h = absurd h
      formula_ready (All y f) h = absurd h

      formulas_ready : (fs : Formulas) → ArePlainWith (IsGood s) fs → ArePlainWith (IsReady (next s)) (spec.substituted_each x point own fs)
      formulas_ready no_more h = tt
      formulas_ready (more f fs) h = (formula_ready f h.0, formulas_ready fs h.1)

    mutual
      pub formula_count : (f : Formula) → IsPlainWith (IsGood s) f → count (spec.substituted x point own f) ≤ 6 * count f
      formula_count True h = omega arith
      formula_count False h = omega arith
      formula_count (Atom a) h = let few = atom_count a h in omega (arith, few)
      formula_count (And fs) h = formulas_count fs h
      formula_count (Or fs) h = formulas_count fs h
      formula_count (Not f) h = absurd h
      formula_count (Implies f g) h = absurd h
      formula_count (Iff f g) h = absurd h
      formula_count (Ex y f) h = absurd h
      formula_count (All y f) h = absurd h

      formulas_count : (fs : Formulas) → ArePlainWith (IsGood s) fs → count_each (spec.substituted_each x point own fs) ≤ 6 * count_each fs
      formulas_count no_more h = omega arith
      formulas_count (more f fs) h = let one = formula_count f h.0 in let rest = formulas_count fs h.1 in omega (arith, one, rest)

    first_fits : (n : ℕ) (list : List atom.Atom) → Each (IsGood s) list → first_stop x point own n list ≡ None
    first_fits n [] h = refl
    first_fits n (a ∷ rest) h = ap (λ o. or_else o (first_stop x point own (next_atom n) rest)) (atom_fits n a h.0) ∙ first_fits (next_atom n) rest h.1

    pub no_stop : (f : Formula) → IsPlainWith (IsGood s) f → 6 * count f ≤ 65536 → stop x point own f ≡ None
    no_stop f h few =
        let size : ltb 65536 (count (spec.substituted x point own f)) ≡ false = le-ltb 65536 (count (spec.substituted x point own f)) (omega (arith, few, formula_count f h)) in
        (λ i. or_else (first_fits 0 (atoms f) (each_atom (IsGood s) f h) i) (cond (size i) (Some TooLarge) None))
