use Rattle.std.proofs.Common.{◌∙◌, sym, ap, option_copied}
use Rattle.qe_subst.specs.Substituted.{is_own}
use Rattle.qe_subst.proofs.root.TestRoot.is_own.Goals as goal

pub returns-in-Some : goal.returns-in-Some
returns-in-Some c = c.eq.ensures ∙ ap (λ o. is_own (option_copied o) c.args.poly.now) (sym c.in-Some.is)
