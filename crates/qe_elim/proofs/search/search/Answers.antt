use Rattle.std.proofs.Common.{◌∙◌, ap, sym, subst, map, length, false}
use Rattle.std.specs.Option.{is_some}
use Rattle.qe_form.specs.Tree.{tree}
use Rattle.qe_simp.proofs.Shapes.{simplified_is_proper}
use Rattle.qe_node.specs.key.Code.{sight_key}
use Rattle.qe_elim.specs.Keys.{is_limit}
use Rattle.qe_elim.proofs.Soundness.{Good, sound}
use Rattle.qe_elim.specs.Found.{entries_of, AreThere, form_at}
use Rattle.qe_elim.proofs.Ended.{done, ends, ends_limit, within_limit, ends_true, unset, root_first, untrue, failed_at, failed_is, none_fails, all_there, leaves_are}
use Rattle.qe_elim.proofs.search.search.Goals as goal

pub root-requires-clause-proper : goal.root-requires-clause-proper
root-requires-clause-proper c = simplified_is_proper (tree c.args.form) c.requires.simplified

pub returns-then-is_some : goal.returns-then-is_some
returns-then-is_some c = ends_true Good sound (map (λ v. v.0) c.args.vars.now) (tree c.args.form) c.requires.simplified c.args.limit c.requires.some c.fill_alone.new.self (c.in_ok-fill_alone.ensures.root ∙ (ap (λ h. h.root) c.in_ok-board.ensures ∙ (λ i. sight_key (record { vars = c.in_ok-node.ensures.vars i; form = c.in_ok-node.ensures.form i })))) (c.in_ok-fill_alone.ensures.limit ∙ ap (λ h. h.limit) c.in_ok-board.ensures) c.in_ok-fill_alone.ensures.plain (ap is_some (sym c.true_leaf.ensures) ∙ (sym c.is_some.ensures ∙ c.if-is_some.true))

pub returns-then-is_limit : goal.returns-then-is_limit
returns-then-is_limit c = ends_limit Good sound (map (λ v. v.0) c.args.vars.now) (tree c.args.form) c.requires.simplified c.args.limit c.requires.some c.fill_alone.new.self (c.in_ok-fill_alone.ensures.root ∙ (ap (λ h. h.root) c.in_ok-board.ensures ∙ (λ i. sight_key (record { vars = c.in_ok-node.ensures.vars i; form = c.in_ok-node.ensures.form i })))) (c.in_ok-fill_alone.ensures.limit ∙ ap (λ h. h.limit) c.in_ok-board.ensures) c.in_ok-fill_alone.ensures.plain (ap is_limit (sym c.stopping.ensures) ∙ (sym c.is_limit.ensures ∙ c.if-is_limit.true))

pub first_leaves-requires-clause-done : goal.first_leaves-requires-clause-done
first_leaves-requires-clause-done c = done Good sound (map (λ v. v.0) c.args.vars.now) (tree c.args.form) c.requires.simplified c.args.limit c.requires.some c.fill_alone.new.self (c.in_ok-fill_alone.ensures.root ∙ (ap (λ h. h.root) c.in_ok-board.ensures ∙ (λ i. sight_key (record { vars = c.in_ok-node.ensures.vars i; form = c.in_ok-node.ensures.form i })))) (c.in_ok-fill_alone.ensures.limit ∙ ap (λ h. h.limit) c.in_ok-board.ensures) c.in_ok-fill_alone.ensures.plain

pub first_leaves-requires-clause-unset : goal.first_leaves-requires-clause-unset
first_leaves-requires-clause-unset c = unset Good sound (map (λ v. v.0) c.args.vars.now) (tree c.args.form) c.requires.simplified c.args.limit c.requires.some c.fill_alone.new.self (c.in_ok-fill_alone.ensures.root ∙ (ap (λ h. h.root) c.in_ok-board.ensures ∙ (λ i. sight_key (record { vars = c.in_ok-node.ensures.vars i; form = c.in_ok-node.ensures.form i })))) (c.in_ok-fill_alone.ensures.limit ∙ ap (λ h. h.limit) c.in_ok-board.ensures) c.in_ok-fill_alone.ensures.plain (ap is_some (sym c.true_leaf.ensures) ∙ (sym c.is_some.ensures ∙ c.if-is_some.false)) (ap is_limit (sym c.stopping.ensures) ∙ (sym c.is_limit.ensures ∙ c.if-is_limit.false))

pub fault_at-requires-clause-root : goal.fault_at-requires-clause-root
fault_at-requires-clause-root c = root_first Good sound (map (λ v. v.0) c.args.vars.now) (tree c.args.form) c.requires.simplified c.args.limit c.requires.some c.fill_alone.new.self (c.in_ok-fill_alone.ensures.root ∙ (ap (λ h. h.root) c.in_ok-board.ensures ∙ (λ i. sight_key (record { vars = c.in_ok-node.ensures.vars i; form = c.in_ok-node.ensures.form i })))) (c.in_ok-fill_alone.ensures.limit ∙ ap (λ h. h.limit) c.in_ok-board.ensures) c.in_ok-fill_alone.ensures.plain

pub fault_at-requires-clause-failed : goal.fault_at-requires-clause-failed
fault_at-requires-clause-failed c = failed_at Good sound (map (λ v. v.0) c.args.vars.now) (tree c.args.form) c.requires.simplified c.args.limit c.requires.some c.fill_alone.new.self (c.in_ok-fill_alone.ensures.root ∙ (ap (λ h. h.root) c.in_ok-board.ensures ∙ (λ i. sight_key (record { vars = c.in_ok-node.ensures.vars i; form = c.in_ok-node.ensures.form i })))) (c.in_ok-fill_alone.ensures.limit ∙ ap (λ h. h.limit) c.in_ok-board.ensures) c.in_ok-fill_alone.ensures.plain (ap is_some (sym c.true_leaf.ensures) ∙ (sym c.is_some.ensures ∙ c.if-is_some.false)) (ap is_limit (sym c.stopping.ensures) ∙ (sym c.is_limit.ensures ∙ c.if-is_limit.false)) c.in_ok-leaves.field-0.failed c.in-Some.place c.in-Some.is c.in_ok-leaves.ensures.failed

pub returns-in-Some : goal.returns-in-Some
returns-in-Some c = (
  untrue Good sound (map (λ v. v.0) c.args.vars.now) (tree c.args.form) c.requires.simplified c.args.limit c.requires.some c.fill_alone.new.self (c.in_ok-fill_alone.ensures.root ∙ (ap (λ h. h.root) c.in_ok-board.ensures ∙ (λ i. sight_key (record { vars = c.in_ok-node.ensures.vars i; form = c.in_ok-node.ensures.form i })))) (c.in_ok-fill_alone.ensures.limit ∙ ap (λ h. h.limit) c.in_ok-board.ensures) c.in_ok-fill_alone.ensures.plain (ap is_some (sym c.true_leaf.ensures) ∙ (sym c.is_some.ensures ∙ c.if-is_some.false)) (ap is_limit (sym c.stopping.ensures) ∙ (sym c.is_limit.ensures ∙ c.if-is_limit.false)),
  failed_is Good sound (map (λ v. v.0) c.args.vars.now) (tree c.args.form) c.requires.simplified c.args.limit c.requires.some c.fill_alone.new.self (c.in_ok-fill_alone.ensures.root ∙ (ap (λ h. h.root) c.in_ok-board.ensures ∙ (λ i. sight_key (record { vars = c.in_ok-node.ensures.vars i; form = c.in_ok-node.ensures.form i })))) (c.in_ok-fill_alone.ensures.limit ∙ ap (λ h. h.limit) c.in_ok-board.ensures) c.in_ok-fill_alone.ensures.plain (ap is_some (sym c.true_leaf.ensures) ∙ (sym c.is_some.ensures ∙ c.if-is_some.false)) (ap is_limit (sym c.stopping.ensures) ∙ (sym c.is_limit.ensures ∙ c.if-is_limit.false)) c.in_ok-leaves.field-0.failed c.in-Some.place c.in-Some.is c.in_ok-leaves.ensures.failed c.in_ok-fault_at-in-Some.field-0 c.in_ok-fault_at-in-Some.ensures,
  within_limit Good sound (map (λ v. v.0) c.args.vars.now) (tree c.args.form) c.requires.simplified c.args.limit c.requires.some c.fill_alone.new.self (c.in_ok-fill_alone.ensures.root ∙ (ap (λ h. h.root) c.in_ok-board.ensures ∙ (λ i. sight_key (record { vars = c.in_ok-node.ensures.vars i; form = c.in_ok-node.ensures.form i })))) (c.in_ok-fill_alone.ensures.limit ∙ ap (λ h. h.limit) c.in_ok-board.ensures) c.in_ok-fill_alone.ensures.plain (ap is_some (sym c.true_leaf.ensures) ∙ (sym c.is_some.ensures ∙ c.if-is_some.false)) (ap is_limit (sym c.stopping.ensures) ∙ (sym c.is_limit.ensures ∙ c.if-is_limit.false)),
  ends Good sound (map (λ v. v.0) c.args.vars.now) (tree c.args.form) c.requires.simplified c.args.limit c.requires.some c.fill_alone.new.self (c.in_ok-fill_alone.ensures.root ∙ (ap (λ h. h.root) c.in_ok-board.ensures ∙ (λ i. sight_key (record { vars = c.in_ok-node.ensures.vars i; form = c.in_ok-node.ensures.form i })))) (c.in_ok-fill_alone.ensures.limit ∙ ap (λ h. h.limit) c.in_ok-board.ensures) c.in_ok-fill_alone.ensures.plain false (ap is_limit (sym c.stopping.ensures) ∙ (sym c.is_limit.ensures ∙ c.if-is_limit.false)),
)

pub forms_at-requires : goal.forms_at-requires
forms_at-requires c =
    subst (AreThere (length (entries_of c.fill_alone.new.self))) (sym c.deref.ensures.value) (all_there Good sound (map (λ v. v.0) c.args.vars.now) (tree c.args.form) c.requires.simplified c.args.limit c.requires.some c.fill_alone.new.self (c.in_ok-fill_alone.ensures.root ∙ (ap (λ h. h.root) c.in_ok-board.ensures ∙ (λ i. sight_key (record { vars = c.in_ok-node.ensures.vars i; form = c.in_ok-node.ensures.form i })))) (c.in_ok-fill_alone.ensures.limit ∙ ap (λ h. h.limit) c.in_ok-board.ensures) c.in_ok-fill_alone.ensures.plain (ap is_some (sym c.true_leaf.ensures) ∙ (sym c.is_some.ensures ∙ c.if-is_some.false)) (ap is_limit (sym c.stopping.ensures) ∙ (sym c.is_limit.ensures ∙ c.if-is_limit.false)) c.in_ok-leaves.field-0.leaves.items c.in_ok-leaves.ensures.leaves)

pub returns : goal.returns
returns c = (
  untrue Good sound (map (λ v. v.0) c.args.vars.now) (tree c.args.form) c.requires.simplified c.args.limit c.requires.some c.fill_alone.new.self (c.in_ok-fill_alone.ensures.root ∙ (ap (λ h. h.root) c.in_ok-board.ensures ∙ (λ i. sight_key (record { vars = c.in_ok-node.ensures.vars i; form = c.in_ok-node.ensures.form i })))) (c.in_ok-fill_alone.ensures.limit ∙ ap (λ h. h.limit) c.in_ok-board.ensures) c.in_ok-fill_alone.ensures.plain (ap is_some (sym c.true_leaf.ensures) ∙ (sym c.is_some.ensures ∙ c.if-is_some.false)) (ap is_limit (sym c.stopping.ensures) ∙ (sym c.is_limit.ensures ∙ c.if-is_limit.false)),
  none_fails Good sound (map (λ v. v.0) c.args.vars.now) (tree c.args.form) c.requires.simplified c.args.limit c.requires.some c.fill_alone.new.self (c.in_ok-fill_alone.ensures.root ∙ (ap (λ h. h.root) c.in_ok-board.ensures ∙ (λ i. sight_key (record { vars = c.in_ok-node.ensures.vars i; form = c.in_ok-node.ensures.form i })))) (c.in_ok-fill_alone.ensures.limit ∙ ap (λ h. h.limit) c.in_ok-board.ensures) c.in_ok-fill_alone.ensures.plain (ap is_some (sym c.true_leaf.ensures) ∙ (sym c.is_some.ensures ∙ c.if-is_some.false)) (ap is_limit (sym c.stopping.ensures) ∙ (sym c.is_limit.ensures ∙ c.if-is_limit.false)) c.in_ok-leaves.field-0.failed c.in-None.is c.in_ok-leaves.ensures.failed,
  leaves_are Good sound (map (λ v. v.0) c.args.vars.now) (tree c.args.form) c.requires.simplified c.args.limit c.requires.some c.fill_alone.new.self (c.in_ok-fill_alone.ensures.root ∙ (ap (λ h. h.root) c.in_ok-board.ensures ∙ (λ i. sight_key (record { vars = c.in_ok-node.ensures.vars i; form = c.in_ok-node.ensures.form i })))) (c.in_ok-fill_alone.ensures.limit ∙ ap (λ h. h.limit) c.in_ok-board.ensures) c.in_ok-fill_alone.ensures.plain (ap is_some (sym c.true_leaf.ensures) ∙ (sym c.is_some.ensures ∙ c.if-is_some.false)) (ap is_limit (sym c.stopping.ensures) ∙ (sym c.is_limit.ensures ∙ c.if-is_limit.false)) c.in_ok-leaves.field-0.leaves.items c.in_ok-forms_at-in-None.field-0.items c.in_ok-leaves.ensures.leaves
      (c.in_ok-forms_at-in-None.ensures ∙ ap (map (λ p. form_at p.entry (entries_of c.fill_alone.new.self))) c.deref.ensures.value),
  within_limit Good sound (map (λ v. v.0) c.args.vars.now) (tree c.args.form) c.requires.simplified c.args.limit c.requires.some c.fill_alone.new.self (c.in_ok-fill_alone.ensures.root ∙ (ap (λ h. h.root) c.in_ok-board.ensures ∙ (λ i. sight_key (record { vars = c.in_ok-node.ensures.vars i; form = c.in_ok-node.ensures.form i })))) (c.in_ok-fill_alone.ensures.limit ∙ ap (λ h. h.limit) c.in_ok-board.ensures) c.in_ok-fill_alone.ensures.plain (ap is_some (sym c.true_leaf.ensures) ∙ (sym c.is_some.ensures ∙ c.if-is_some.false)) (ap is_limit (sym c.stopping.ensures) ∙ (sym c.is_limit.ensures ∙ c.if-is_limit.false)),
  ends Good sound (map (λ v. v.0) c.args.vars.now) (tree c.args.form) c.requires.simplified c.args.limit c.requires.some c.fill_alone.new.self (c.in_ok-fill_alone.ensures.root ∙ (ap (λ h. h.root) c.in_ok-board.ensures ∙ (λ i. sight_key (record { vars = c.in_ok-node.ensures.vars i; form = c.in_ok-node.ensures.form i })))) (c.in_ok-fill_alone.ensures.limit ∙ ap (λ h. h.limit) c.in_ok-board.ensures) c.in_ok-fill_alone.ensures.plain false (ap is_limit (sym c.stopping.ensures) ∙ (sym c.is_limit.ensures ∙ c.if-is_limit.false)),
)
