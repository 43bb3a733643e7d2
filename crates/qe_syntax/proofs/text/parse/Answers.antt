use Rattle.qe_syntax.proofs.First.{read_as}
use Rattle.qe_syntax.proofs.text.parse.Goals as goal

pub returns-clause-only : goal.returns-clause-only
returns-clause-only c = read_as c.args.tokens.now c.args.end c.parse_first.result c.parse_first.ensures
