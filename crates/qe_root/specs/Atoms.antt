-- The atoms of a plain formula, numbered from 0 from left to right.
use Rattle.std.specs.Prelude.{List, [], ◌∷◌, ◌++◌}
use Rattle.qe_form.specs.declared.form.Atom as atom
use Rattle.qe_poly.specs.Polynomial.{IsPolynomial}
use Rattle.qe_form.specs.Formula.{Formula, Formulas, Atom, And, Or, no_more, more}
use Rattle.qe_form.specs.Plain.{IsPlainWith, ArePlainWith}

abbrev mutual
  pub atoms : Formula → List atom.Atom
  atoms (Atom a) = a ∷ []
  atoms (And fs) = atoms_of fs
  atoms (Or fs) = atoms_of fs
  atoms f = []

  pub atoms_of : Formulas → List atom.Atom
  atoms_of no_more = []
  atoms_of (more f fs) = atoms f ++ atoms_of fs

-- a plain formula whose polynomials are canonical, as those of the code are
abbrev pub HasCanonicalAtoms : Formula → Type 0
HasCanonicalAtoms f = IsPlainWith (λ a. IsPolynomial a.poly) f

abbrev pub HaveCanonicalAtoms : Formulas → Type 0
HaveCanonicalAtoms fs = ArePlainWith (λ a. IsPolynomial a.poly) fs
