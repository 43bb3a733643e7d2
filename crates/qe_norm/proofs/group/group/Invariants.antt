use Rattle.std.proofs.Common.{◌≡◌, drop}
use Rattle.qe_norm.specs.Blocks.{grouped_after, grouped}
use Rattle.qe_norm.proofs.group.group.Given as goal

abbrev pub invariant-loop-quantifier : goal.invariant-loop-quantifier
invariant-loop-quantifier l = grouped_after l.blocks.items (drop l.quantifier-index l.quantifiers) ≡ grouped l.quantifiers
