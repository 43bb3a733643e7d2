use Rattle.std.proofs.Common.{◌≡◌, ◌++◌, drop, map}
use Rattle.qe_form.specs.Tree.{trees}
use Rattle.qe_root.specs.Atoms.{atoms_of}
use Rattle.qe_points.proofs.candidate_list.+gather.Given as goal

abbrev pub invariant-gather_each-loop-part : goal.invariant-gather_each-loop-part
invariant-gather_each-loop-part l =
    map (λ a. a.now) l.atoms.items ++ atoms_of (trees (drop l.part-index l.part-items)) ≡ map (λ a. a.now) l.initial.atoms.items ++ atoms_of (trees l.parts)
