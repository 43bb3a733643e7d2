use Rattle.std.proofs.Common.{◌∙◌}
use Rattle.qe_board.specs.Recorded.{has_failed}
use Rattle.qe_board.proofs.Listed.{test_by}
use Rattle.qe_board.proofs.entries.Entries.has_failed.Goals as goal

pub returns : goal.returns
returns g c = c.has_failed.ensures ∙ test_by has_failed c.args.entry c.args.self.now _ c.progress_of.ensures
