-- What becomes of a candidate in the code.
use Rattle.std.specs.Prelude.{◌<◌, ◌≤◌, ◌^◌}
use Rattle.qe_form.specs.Formula.{Formula}
use Rattle.qe_form.specs.Tree.{tree}
use Rattle.qe_form.specs.Measures.{count}
use Rattle.qe_form.specs.Plain.{IsPlainAndProper}
use Rattle.qe_points.specs.declared.guard.GuardedPoint.{GuardedPoint}
use Rattle.qe_node.specs.declared.trial.Trial as code
use Rattle.qe_node.specs.declared.trial.Trial.TheVariants.{Failed, Skipped, Given}
use Rattle.qe_node.specs.Successors.{Tried, fails, skipped, gives}

abbrev pub trial_of : code.Trial → Tried
trial_of (Failed s) = fails s
trial_of Skipped = skipped
trial_of (Given f) = gives (tree f)

-- what the formula of a node has to be
pub record MayStand (f : Formula) : Type 0 where
  pub proper : IsPlainAndProper f
  pub small : count f < 2 ^ 50

-- the formula that is given may stand at a node
abbrev pub GivesFit : code.Trial → Type 0
GivesFit (Failed s) = Unit {0}
GivesFit Skipped = Unit {0}
GivesFit (Given f) = MayStand (tree f)

-- the guard is plain, and has no more than two atoms
pub record HasFitGuard (found : GuardedPoint) : Type 0 where
  pub proper : IsPlainAndProper (tree found.guard)
  pub small : count (tree found.guard) ≤ 2
