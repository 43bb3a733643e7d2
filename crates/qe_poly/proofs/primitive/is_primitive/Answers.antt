use Rattle.std.proofs.Common.{◌≡◌, ◌∙◌, sym, map, false}
use Rattle.qe_poly.specs.Primitive.{leads_negative}
use Rattle.qe_poly.specs.Rows.{shown}
use Rattle.qe_poly.proofs.Divisors.{primitive_itself}
use Rattle.qe_poly.proofs.primitive.is_primitive.Goals as goal

pub returns-then-not-leads_negative : goal.returns-then-not-leads_negative
returns-then-not-leads_negative c =
    let leads : leads_negative (map shown c.args.terms.now) ≡ false = cc in
    λ yes. primitive_itself (map shown c.args.terms.now) c.requires c.content.result c.content.ensures.content leads (sym c.is_one.ensures ∙ yes)
