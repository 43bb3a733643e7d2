use Rattle.std.proofs.Common.{◌≡◌, ◌≤◌, drop, option_copied}
use Rattle.qe_form.specs.Measures.{degree_of_some}
use Rattle.qe_form.specs.Plain.{ArePlainWith}
use Rattle.qe_form.specs.Signs.{IsProper}
use Rattle.qe_form.specs.Tree.{trees, followed}
use Rattle.qe_root.specs.Atoms.{atoms_of, HaveCanonicalAtoms}
use Rattle.qe_subst.specs.Stop.{number_after, first_stop}
use Rattle.qe_subst.specs.Substituted.{substituted_each}
use Rattle.qe_subst.proofs.formula.TestPoint.+substituted.Given as goal

abbrev pub invariant-each_substituted-loop-form : goal.invariant-each_substituted-loop-form
invariant-each_substituted-loop-form l = record {
  degree : degree_of_some l.self.x.0 (trees (drop l.form-index l.form-items)) ≤ 2;
  plain : ArePlainWith (λ a. IsProper a.signs) (trees (drop l.form-index l.form-items));
  limit : first_stop l.self.x.0 l.self.point.now (option_copied l.self.own) l.number (atoms_of (trees (drop l.form-index l.form-items)))
      ≡ first_stop l.self.x.0 l.self.point.now (option_copied l.self.own) l.initial.number (atoms_of (trees l.forms));
  number : number_after l.number (atoms_of (trees (drop l.form-index l.form-items))) ≡ number_after l.initial.number (atoms_of (trees l.forms));
  made : followed l.made (substituted_each l.self.x.0 l.self.point.now (option_copied l.self.own) (trees (drop l.form-index l.form-items)))
      ≡ substituted_each l.self.x.0 l.self.point.now (option_copied l.self.own) (trees l.forms);
  canonical : HaveCanonicalAtoms (trees (drop l.form-index l.form-items)) → HaveCanonicalAtoms (trees l.forms);
}
