-- What simplified formulas are like.
use Rattle.std.specs.Prelude.{ℤ, false, ◌≡◌, ◌≢◌}
use Rattle.qe_poly.specs.Polynomial.{Polynomial, IsPolynomial, constant}
use Rattle.qe_poly.specs.Primitive.{primitive, leads_negative}
use Rattle.qe_form.specs.declared.form.Atom as atom
use Rattle.qe_form.specs.Signs.{IsProper}
use Rattle.qe_form.specs.Formula.{Formula, Formulas, True, False, Atom, And, Or, Not, Implies, Iff, Ex, All, no_more, more}
use Rattle.qe_form.specs.Plain.{IsPlainWith}
use Rattle.qe_simp.specs.Simplified.{simplified}

-- a canonical polynomial that is no number and its own primitive polynomial, with a positive
-- leading coefficient
pub record IsPrimitive (p : Polynomial) : Type 0 where
  pub canonical : IsPolynomial p
  pub no_number : (c : ℤ) → p ≢ constant c
  pub itself : primitive p ≡ p
  pub positive : leads_negative p ≡ false

-- an atom as simplifying leaves it: on a primitive polynomial, with some sign but not every sign
pub record IsSimple (a : atom.Atom) : Type 0 where
  pub primitive : IsPrimitive a.poly
  pub proper : IsProper a.signs

-- a plain formula of such atoms that simplifying does not change
pub record IsSimplified (f : Formula) : Type 0 where
  pub simple : IsPlainWith IsSimple f
  pub unchanged : simplified f ≡ f

-- P holds of each atom that simplifying looks at: of those that stand in And and Or alone
abbrev mutual
  pub EachAtom : (atom.Atom → Type 0) → Formula → Type 0
  EachAtom P True = Unit {0}
  EachAtom P False = Unit {0}
  EachAtom P (Atom a) = P a
  EachAtom P (And fs) = EachAtomOf P fs
  EachAtom P (Or fs) = EachAtomOf P fs
  EachAtom P (Not f) = Unit {0}
  EachAtom P (Implies f g) = Unit {0}
  EachAtom P (Iff f g) = Unit {0}
  EachAtom P (Ex x f) = Unit {0}
  EachAtom P (All x f) = Unit {0}

  pub EachAtomOf : (atom.Atom → Type 0) → Formulas → Type 0
  EachAtomOf P no_more = Unit {0}
  EachAtomOf P (more f fs) = EachAtom P f × EachAtomOf P fs

-- the polynomial of the atom is canonical, as that of every atom of the code is
abbrev pub IsCanonicalAtom : atom.Atom → Type 0
IsCanonicalAtom a = IsPolynomial a.poly
