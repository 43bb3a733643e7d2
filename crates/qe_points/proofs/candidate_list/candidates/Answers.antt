use Rattle.std.proofs.Common.{◌≡◌, ◌∙◌, ◌++◌, ap, map, List, Bor}
use Rattle.qe_form.specs.declared.form.Atom as atom
use Rattle.qe_form.specs.Tree.{tree}
use Rattle.qe_root.specs.Atoms.{atoms}
use Rattle.qe_points.specs.Candidates.{candidates}
use Rattle.qe_points.proofs.Gathering.{candidates_are}
use Rattle.qe_points.proofs.Enough.{each_is_of, made_canonical, made_complete}
use Rattle.qe_points.proofs.candidate_list.candidates.Goals as goal

-- all atoms are gathered
gathered : (c : goal.After-drop-atoms-2) → map (λ (a : Bor atom.Atom). a.now) c.deref.result.now ≡ atoms (tree c.args.form.now)
gathered c =
    ap (map (λ (a : Bor atom.Atom). a.now)) c.deref.ensures.value
    ∙ (c.in_ok-gather.ensures ∙ ap (λ (list : List (Bor atom.Atom)). map (λ (a : Bor atom.Atom). a.now) list ++ atoms (tree c.args.form.now)) c.new-atoms.ensures.items)

made : (c : goal.After-drop-atoms-2) → c.push.new.self.items ≡ candidates c.args.x.0 (tree c.args.form.now)
made c = candidates_are c.args.x.0 (tree c.args.form.now) _ _ _ _ _ _ _ (gathered c) c.in_ok-groups.ensures.zero c.in_ok-groups.ensures.other c.new-candidates.ensures.items
    c.in_ok-add_each.ensures c.in_ok-add_each-2.ensures c.in_ok-push.ensures.items

pub returns-clause-exact : goal.returns-clause-exact
returns-clause-exact c = made c

pub returns-clause-each : goal.returns-clause-each
returns-clause-each c = each_is_of c.args.x.0 (tree c.args.form.now) c.push.new.self.items (made c)

pub returns-clause-complete : goal.returns-clause-complete
returns-clause-complete c = made_complete (λ (a : Bor atom.Atom). a.now) (tree c.args.form.now) c.deref.result.now (gathered c) c.in_ok-groups.ensures.canonical c.args.x.0 c.push.new.self.items (made c)

pub returns-clause-canonical : goal.returns-clause-canonical
returns-clause-canonical c = made_canonical (λ (a : Bor atom.Atom). a.now) (tree c.args.form.now) c.deref.result.now (gathered c) c.in_ok-groups.ensures.canonical
