use Rattle.std.proofs.Common.{◌∙◌}
use Rattle.qe_board.specs.Recorded.{is_leaf}
use Rattle.qe_board.proofs.Listed.{test_by}
use Rattle.qe_board.proofs.entries.Entries.is_leaf.Goals as goal

pub returns : goal.returns
returns g c = c.is_leaf.ensures ∙ test_by is_leaf c.args.entry c.args.self.now _ c.progress_of.ensures
