use Rattle.std.proofs.Common.{inl, refl}
use Rattle.qe_form.specs.Tree.{tree}
use Rattle.qe_program.proofs.Summarized.{told, never_fails, too_many}
use Rattle.qe_program.proofs.summary.summary_of.Goals as goal

pub returns-in-Ok : goal.returns-in-Ok
returns-in-Ok c = inl (refl, told c.args.limit c.args.number c.args.prenex.now c.requires.is (tree c.in-Ok.outcome.form) c.in-Ok.ensures.answer.0 c.in-Ok.ensures.answer.1 _ _ c.atom_count.ensures c.in_ok-summary_text-in-Ok.ensures)

pub unreachable-requires : goal.unreachable-requires
unreachable-requires c = never_fails c.args.limit c.args.number c.args.prenex.now c.requires.is c.in-Err-Node.field-0 _ _ _ c.in-Err-Node.field-0-is c.in-Err-Node.ensures.answer

pub returns-in-Err-NodeLimit : goal.returns-in-Err-NodeLimit
returns-in-Err-NodeLimit c = too_many c.args.limit c.args.number c.args.prenex.now c.requires.is c.in-Err-NodeLimit.field-0 _ _ c.in-Err-NodeLimit.field-0-is c.in-Err-NodeLimit.ensures.answer c.in-Err-NodeLimit.ensures.complete c.too_many_nodes.result c.too_many_nodes.ensures
