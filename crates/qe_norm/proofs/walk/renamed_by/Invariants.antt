use Rattle.std.proofs.Common.{◌≡◌, drop}
use Rattle.qe_norm.specs.Numbering.{renamed_by}
use Rattle.qe_norm.proofs.walk.renamed_by.Given as goal

abbrev pub invariant-loop-renaming : goal.invariant-loop-renaming
invariant-loop-renaming l = renamed_by (drop l.renaming-index l.renamings) l.made ≡ renamed_by l.renamings l.poly
