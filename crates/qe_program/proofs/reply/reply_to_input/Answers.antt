use Rattle.qe_form.specs.Tree.{tree}
use Rattle.qe_norm.proofs.Wholes.{free_occurs}
use Rattle.qe_program.proofs.Replied.{prenex_replied}
use Rattle.qe_program.proofs.reply.reply_to_input.Goals as goal

pub returns-in-Ok : goal.returns-in-Ok
returns-in-Ok c =
    let e = c.in-Ok.ensures in
    prenex_replied c.args.limit (tree c.args.input.form) c.args.input.names c.in-Ok.prenex c.reply_to_prenex.result (λ x free. c.requires.numbered.below x (free_occurs (tree c.args.input.form) x free)) e.exact.0 e.exact.1 e.keeps e.holds e.same c.reply_to_prenex.ensures
