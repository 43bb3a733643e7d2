use Rattle.std.proofs.Common.{◌≡◌, map}
use Rattle.std.specs.List.{flat_map}
use Rattle.qe_form.specs.Tree.{tree, trees}
use Rattle.qe_simp.specs.Shape.{EachAtomOf, IsCanonicalAtom}
use Rattle.qe_simp.specs.Simplified.{parts_in, simplified_each}
use Rattle.qe_simp.proofs.formula.+simplify.Given as goal

abbrev pub invariant-gather-loop-form : goal.invariant-gather-loop-form
invariant-gather-loop-form l = record {
  exact : map tree l.parts.items ≡ flat_map (parts_in l.connective) (simplified_each (trees l.yielded));
  canonical : EachAtomOf IsCanonicalAtom (trees l.yielded);
}
