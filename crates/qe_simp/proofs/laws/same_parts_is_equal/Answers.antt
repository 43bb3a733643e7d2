use Rattle.qe_simp.specs.declared.connective.Connective.TheVariants.{Conjunction, Disjunction}
use Rattle.qe_simp.proofs.Alikes.{same_members}
use Rattle.qe_simp.proofs.laws.same_parts_is_equal.Goals as goal

pub returns : goal.returns
returns c = record { in_and = same_members Conjunction; in_or = same_members Disjunction }
