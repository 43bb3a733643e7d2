-- A formula is taken as it stands, or negated: the positive and the negative polarity. Each
-- definition gives what becomes of a constant, a connective, a quantifier or a set of signs; at the
-- negative polarity it is the dual.
use Rattle.std.specs.Prelude.{ℕ}
use Rattle.qe_form.specs.declared.signs.Signs.{Signs}
use Rattle.qe_form.specs.Signs.{complement}
use Rattle.qe_form.specs.Formula.{Formula, Formulas, True, False, And, Or, no_more, more}
use Rattle.qe_form.specs.Formula as formula
use Rattle.qe_norm.specs.declared.blocks.Kind.{Kind}
use Rattle.qe_norm.specs.declared.blocks.Kind.TheVariants.{Ex, All}
use Rattle.qe_norm.specs.declared.polarity.Polarity.{Polarity}
use Rattle.qe_norm.specs.declared.polarity.Polarity.TheVariants.{Positive, Negative}

-- the polarity under a negation
abbrev pub flipped : Polarity → Polarity
flipped Positive = Negative
flipped Negative = Positive

abbrev pub truth_under : Polarity → Formula
truth_under Positive = True
truth_under Negative = False

abbrev pub conjunction : Polarity → Formulas → Formula
conjunction Positive fs = And fs
conjunction Negative fs = Or fs

abbrev pub pair : Polarity → Formula → Formula → Formula
pair b f g = conjunction b (more f (more g no_more))

abbrev pub existential : Polarity → ℕ → Formula → Formula
existential Positive x f = formula.Ex x f
existential Negative x f = formula.All x f

-- which quantifier that is
abbrev pub kind_under : Polarity → Kind
kind_under Positive = Ex
kind_under Negative = All

abbrev pub signs_under : Polarity → Signs → Signs
signs_under Positive s = s
signs_under Negative s = complement s
