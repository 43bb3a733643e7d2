-- Plain formulas: constants, atoms, And and Or alone. The method works on these.
use Rattle.qe_form.specs.declared.form.Atom as atom
use Rattle.qe_form.specs.Signs.{IsProper}
use Rattle.qe_form.specs.Formula.{Formula, Formulas, True, False, Atom, And, Or, Not, Implies, Iff, Ex, All, no_more, more}

-- the formula is plain, and P holds of each of its atoms
abbrev mutual
  pub IsPlainWith : (atom.Atom → Type 0) → Formula → Type 0
  IsPlainWith P True = Unit {0}
  IsPlainWith P False = Unit {0}
  IsPlainWith P (Atom a) = P a
  IsPlainWith P (And fs) = ArePlainWith P fs
  IsPlainWith P (Or fs) = ArePlainWith P fs
  IsPlainWith P (Not f) = ⊥
  IsPlainWith P (Implies f g) = ⊥
  IsPlainWith P (Iff f g) = ⊥
  IsPlainWith P (Ex x f) = ⊥
  IsPlainWith P (All x f) = ⊥

  pub ArePlainWith : (atom.Atom → Type 0) → Formulas → Type 0
  ArePlainWith P no_more = Unit {0}
  ArePlainWith P (more f fs) = IsPlainWith P f × ArePlainWith P fs

-- the formula is plain
abbrev pub IsPlain : Formula → Type 0
IsPlain f = IsPlainWith (λ a. Unit {0}) f

-- the formula is plain, and no atom allows no sign or every sign
abbrev pub IsPlainAndProper : Formula → Type 0
IsPlainAndProper f = IsPlainWith (λ a. IsProper a.signs) f
