use Rattle.std.proofs.Common.{◌∙◌, ap}
use Rattle.qe_simp.specs.Simplified.{decided, merged_parts}
use Rattle.qe_simp.proofs.Sorting.{sorted_is}
use Rattle.qe_simp.proofs.formula.join_parts.Goals as goal

pub returns : goal.returns
returns c =
    c.decide.ensures
    ∙ ap (decided c.args.connective) (c.in_ok-merge.ensures ∙ ap (merged_parts c.args.connective) (sorted_is c.args.parts.items c.sort.new.self.items c.in_ok-sort.ensures.permutation c.in_ok-sort.ensures.sorted))
