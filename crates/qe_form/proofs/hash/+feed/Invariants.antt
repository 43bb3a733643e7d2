use Rattle.std.proofs.Common.{◌≡◌, drop}
use Rattle.std.specs.List.{fold}
use Rattle.qe_form.specs.Fed.{formulas_fed}
use Rattle.qe_form.specs.Tree.{trees}
use Rattle.qe_form.proofs.hash.+feed.Given as goal

abbrev pub invariant-feed_all-loop-form : goal.invariant-feed_all-loop-form
invariant-feed_all-loop-form g l = fold g.H.Hasher.write l.state (formulas_fed (trees (drop l.form-index l.form-items))) ≡ fold g.H.Hasher.write l.initial.state (formulas_fed (trees l.forms))
