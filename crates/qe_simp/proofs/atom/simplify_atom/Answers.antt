use Rattle.std.proofs.Common.{◌∙◌, ap, cond}
use Rattle.qe_form.specs.Signs.{mirror}
use Rattle.qe_simp.proofs.Atoms.{primitive_is}
use Rattle.qe_simp.proofs.atom.simplify_atom.Goals as goal

pub returns-clause-exact : goal.returns-clause-exact
returns-clause-exact c =
    c.atom.ensures
    ∙ primitive_is c.args.atom c.in_ok-poly.poly c.mirrored_if.result c.bits.result c.bits-2.result c.bits.ensures c.if-bits-eq0.false c.bits-2.ensures c.if-bits-eq-ALL_SIGNS.false
    c.in_default.ensures.other c.in_ok-poly.ensures.exact.0 (c.mirrored_if.ensures ∙ ap (λ b. cond b (mirror c.args.atom.signs) c.args.atom.signs) c.in_ok-poly.ensures.exact.1)
