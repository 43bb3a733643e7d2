use Rattle.std.proofs.Common.{ap, ◌∙◌}
use Rattle.std.specs.Cmp.{tied_itself}
use Rattle.qe_form.specs.Order.{formula_cmp}
use Rattle.qe_form.specs.OrderLaws.{formula_total, formula_same}
use Rattle.qe_form.proofs.laws.order_is_total.Goals as goal

pub returns : goal.returns
returns c = record { total = formula_total; tells = λ f g. (formula_same f g, λ same. ap (λ h. formula_cmp h g) same ∙ tied_itself formula_total g) }
