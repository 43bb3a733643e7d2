use Rattle.std.proofs.Common.{ap, ◌∙◌}
use Rattle.qe_gen.specs.Generated.{exists}
use Rattle.qe_gen.proofs.Numbering.{well_numbered}
use Rattle.qe_gen.proofs.generator.make.Goals as goal

pub returns-clause-well_numbered : goal.returns-clause-well_numbered
returns-clause-well_numbered c =
    well_numbered _ _ _ (c.in_ok-form.ensures ∙ ap exists c.in_ok-body.ensures) c.in_ok-names.ensures
