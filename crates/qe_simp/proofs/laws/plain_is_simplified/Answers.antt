use Rattle.qe_simp.specs.Shape.{IsCanonicalAtom}
use Rattle.qe_simp.proofs.Shapes.{plain_atoms, plain_weaker, simplified_is, simplified_is_plain, simplified_is_proper, simplified_no_quantifier}
use Rattle.qe_simp.proofs.laws.plain_is_simplified.Goals as goal

pub returns : goal.returns
returns c = record {
  made = λ f h. simplified_is f (plain_weaker IsCanonicalAtom (λ a. Unit {0}) (λ a i. tt) f h) (plain_atoms IsCanonicalAtom f h);
  plain = simplified_is_plain;
  proper = simplified_is_proper;
  no_quantifier = simplified_no_quantifier;
}
