use Rattle.std.proofs.Common.{◌≡◌, arith, ap, subst, sym, length, []}
use Rattle.std.specs.List.{All}
use Rattle.std.specs.Str.{IsUtf8}
use Rattle.qe_syntax.specs.Code.{tree_of}
use Rattle.qe_read.specs.Names.{letters}
use Rattle.qe_read.specs.FreeNames.{free_names}
use Rattle.qe_read.specs.Formula.{bound_names}
use Rattle.qe_read.proofs.Spelled.{letters_utf8, found_all, bound_all}
use Rattle.qe_read.proofs.reader.read_tree.Goals as goal
use Rattle.qe_read.proofs.reader.read_tree.Goals.{After-deref-2}

pub formula-requires : goal.formula-requires
formula-requires c =
    let found = found_all c.args.bytes.now (tree_of c.args.formula.now) _ _ _ _ c.deref.ensures.value c.in_ok-push_free.ensures.names c.new-occurrences.ensures.items c.new.ensures.items in
    omega (arith, ap length found, ap length c.new-scope.ensures.bound, c.in_ok-free.ensures.few, c.requires.few)

bound : (c : After-deref-2) → c.deref-2.result.now ≡ bound_names (tree_of c.args.formula.now)
bound c = bound_all (tree_of c.args.formula.now) _ _ _ c.deref-2.ensures.value c.in_ok-form.ensures.bound c.new-scope.ensures.bound

found : (c : After-deref-2) → c.deref.result.now ≡ free_names c.args.bytes.now [] (tree_of c.args.formula.now)
found c = found_all c.args.bytes.now (tree_of c.args.formula.now) _ _ _ _ c.deref.ensures.value c.in_ok-push_free.ensures.names c.new-occurrences.ensures.items c.new.ensures.items

pub names_of-requires-clause-few : goal.names_of-requires-clause-few
names_of-requires-clause-few c = omega (arith, ap length (found c), ap length (bound c), c.in_ok-free.ensures.few, c.requires.few)

pub names_of-requires-clause-free : goal.names_of-requires-clause-free
names_of-requires-clause-free c =
    letters_utf8 c.args.bytes.now c.deref.result.now c.in_ok-free.free c.in_ok-free.ensures.letters
    (subst (λ ns. All (λ x. IsUtf8 (letters c.args.bytes.now x)) ns) (sym (found c)) c.requires.free)

pub names_of-requires-clause-bound : goal.names_of-requires-clause-bound
names_of-requires-clause-bound c = subst (λ ns. All (λ x. IsUtf8 (letters c.args.bytes.now x)) ns) (sym (bound c)) c.requires.bound
