-- Formulas with And and Or over polynomials of degree two at most in one variable, as that variable goes along the line of the numbers.
use Rattle.std.proofs.Common.{ℕ, ◌≡◌, ◌∙◌, ◌≤◌, inl, inr, refl, sym, ap, subst, Bool, true, false, T}
use Rattle.qe_tower.specs.Number.{ValidNumber}
use Rattle.qe_tower.specs.Point.{Point, IsPoint}
use Rattle.qe_tower.proofs.ValidNumbers.{valid_operations, valid_sign}
use Rattle.qe_line.specs.Place.{Place, below}
use Rattle.qe_line.specs.Quadratic.{quadratic, IsRoot}
use Rattle.qe_line.specs.Numbers.{numbers}
use Rattle.qe_line.proofs.Reach.{root_place, Reach, reach_here, reach_then, reach_both}
use Rattle.qe_line.proofs.Atoms.{reach_atom}
use Rattle.qe_poly.specs.Polynomial.{Polynomial, IsPolynomial}
use Rattle.qe_poly.specs.Coefficients.{degree_in}
use Rattle.qe_form.specs.declared.form.Atom as atom
use Rattle.qe_form.specs.Formula.{Formula, Formulas, True, False, Atom, And, Or, Not, Implies, Iff, Ex, All, no_more, more}
use Rattle.qe_form.specs.Truth.{has_sign, Is, EachIs, SomeIs}
use Rattle.qe_form.specs.Plain.{IsPlain, ArePlainWith}
use Rattle.qe_root.specs.Atoms.{atoms, atoms_of}
use Rattle.qe_root.proofs.OnLine.{at_number, coefficient, sign_with}
use Rattle.qe_points.proofs.Members.{IsIn, in_left, in_right}

-- two ways to say that a test holds
true_of : (b : Bool) → T b → b ≡ true
true_of true h = refl
true_of false h = absurd h

of_true : (b : Bool) → b ≡ true → T b
of_true b h = subst (λ c. T c) (sym h) tt

module _ (x : ℕ) (p : Point) (valid : IsPoint p) where
  -- v is a root of the polynomial in x that has these coefficients at the point
  abbrev pub IsRootOf : Polynomial → ValidNumber → Type 0
  IsRootOf q v = IsRoot valid_operations valid_sign (coefficient x p valid 2 q) (coefficient x p valid 1 q) (coefficient x p valid 0 q) v

  -- ---- how far down from a number a formula is true

  module _ (K : Place ValidNumber → Type 0) (low : K below) (v : ValidNumber) where
    -- where the formula is true at v, it is true down to a place of which K holds
    abbrev pub Reaches : Formula → Type 0
    Reaches f = Is f true (at_number x p valid v) → Reach valid_operations valid_sign K v (λ u. Is f true (at_number x p valid u))

    -- an atom reaches, where K holds at the roots of its polynomial if zero is allowed, and else just above them
    pub atom_reaches : (a : atom.Atom) → IsPolynomial a.poly → degree_in x a.poly ≤ 2 → ((r : ValidNumber) → IsRootOf a.poly r → K (root_place a.signs.zero r)) → Reaches (Atom a)
    atom_reaches a canonical small roots t = reach_then numbers
        (reach_atom numbers low (coefficient x p valid 2 a.poly) (coefficient x p valid 1 a.poly) (coefficient x p valid 0 a.poly) (has_sign a.signs) roots v
        (of_true (has_sign a.signs (valid_sign (value_at v))) (sym (ap (has_sign a.signs) (sign_with x p valid a.poly canonical small v)) ∙ t)))
        (λ u e. ap (has_sign a.signs) (sign_with x p valid a.poly canonical small u) ∙ true_of (has_sign a.signs (valid_sign (value_at u))) e)
      where
        value_at : ValidNumber → ValidNumber
        value_at u = quadratic valid_operations (coefficient x p valid 2 a.poly) (coefficient x p valid 1 a.poly) (coefficient x p valid 0 a.poly) u

    mutual
      -- a formula reaches where its atoms do
      pub formula_reaches : (f : Formula) → IsPlain f → ((a : atom.Atom) → IsIn a (atoms f) → Reaches (Atom a)) → Reaches f
      formula_reaches True plain h t = reach_here numbers low (λ u. t)
      formula_reaches False plain h t = absurd (cc)
      formula_reaches (Atom a) plain h t = h a (inl refl) t
      formula_reaches (And fs) plain h t = each_reaches fs plain h t
      formula_reaches (Or fs) plain h t = some_reaches fs plain h t
      formula_reaches (Not f) plain h t = absurd plain
      formula_reaches (Implies f g) plain h t = absurd plain
      formula_reaches (Iff f g) plain h t = absurd plain
      formula_reaches (Ex y f) plain h t = absurd plain
      formula_reaches (All y f) plain h t = absurd plain

      each_reaches : (fs : Formulas) → ArePlainWith (λ a. Unit {0}) fs → ((a : atom.Atom) → IsIn a (atoms_of fs) → Reaches (Atom a))
          → EachIs fs true (at_number x p valid v) → Reach valid_operations valid_sign K v (λ u. EachIs fs true (at_number x p valid u))
      each_reaches no_more plain h t = reach_here numbers low (λ u. tt)
      each_reaches (more f fs) plain h t = reach_both numbers
          (formula_reaches f plain.0 (λ a i. h a (in_left a (atoms f) (atoms_of fs) i)) t.0)
          (each_reaches fs plain.1 (λ a i. h a (in_right a (atoms f) (atoms_of fs) i)) t.1)

      some_reaches : (fs : Formulas) → ArePlainWith (λ a. Unit {0}) fs → ((a : atom.Atom) → IsIn a (atoms_of fs) → Reaches (Atom a))
          → SomeIs fs true (at_number x p valid v) → Reach valid_operations valid_sign K v (λ u. SomeIs fs true (at_number x p valid u))
      some_reaches no_more plain h t = absurd t
      some_reaches (more f fs) plain h t = elim t [
        | inl k ↦ reach_then numbers (formula_reaches f plain.0 (λ a i. h a (in_left a (atoms f) (atoms_of fs) i)) k) (λ u e. inl e)
        | inr k ↦ reach_then numbers (some_reaches fs plain.1 (λ a i. h a (in_right a (atoms f) (atoms_of fs) i)) k) (λ u e. inr e)
      ]
