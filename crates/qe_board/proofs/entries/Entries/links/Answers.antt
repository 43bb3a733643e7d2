use Rattle.std.proofs.Common.{◌∙◌}
use Rattle.qe_board.proofs.Listed.{links_by}
use Rattle.qe_board.proofs.entries.Entries.links.Goals as goal

pub returns : goal.returns
returns g c = c.links.ensures ∙ links_by c.args.entry c.args.self.now _ c.progress_of.ensures
