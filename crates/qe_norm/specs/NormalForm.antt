-- The normal form: implications and equivalences are opened, and negations move to the atoms.
use Rattle.qe_form.specs.Formula.{Formula, Formulas, True, False, Atom, And, Or, Not, Implies, Iff, Ex, All, no_more, more}
use Rattle.qe_norm.specs.declared.polarity.Polarity.{Polarity}
use Rattle.qe_norm.specs.declared.polarity.Polarity.TheVariants.{Positive, Negative}
use Rattle.qe_norm.specs.Polarity.{flipped, truth_under, conjunction, pair, existential, signs_under}

-- The normal form of f, or of its negation where the polarity is negative.
abbrev mutual
  pub normal_form : Polarity → Formula → Formula
  normal_form b True = truth_under b
  normal_form b False = truth_under (flipped b)
  normal_form b (Atom a) = Atom (record { poly = a.poly; signs = signs_under b a.signs })
  normal_form b (And fs) = conjunction b (normal_forms b fs)
  normal_form b (Or fs) = conjunction (flipped b) (normal_forms b fs)
  normal_form b (Not f) = normal_form (flipped b) f
  normal_form b (Implies f g) = pair (flipped b) (normal_form (flipped b) f) (normal_form b g)
  normal_form b (Iff f g) =
      pair Negative (pair Positive (normal_form Positive f) (normal_form b g))
      (pair Positive (normal_form Negative f) (normal_form (flipped b) g))
  normal_form b (Ex x f) = existential b x (normal_form b f)
  normal_form b (All x f) = existential (flipped b) x (normal_form b f)

  pub normal_forms : Polarity → Formulas → Formulas
  normal_forms b no_more = no_more
  normal_forms b (more f fs) = more (normal_form b f) (normal_forms b fs)
