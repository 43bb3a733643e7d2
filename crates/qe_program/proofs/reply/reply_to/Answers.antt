use Rattle.qe_program.proofs.Replied.{formula_replied, fault_replied}
use Rattle.qe_program.proofs.reply.reply_to.Goals as goal

pub returns-in-Ok : goal.returns-in-Ok
returns-in-Ok c = formula_replied c.args.limit _ c.in-Ok.input _ c.in-Ok.ensures.answers c.in-Ok.ensures.only c.reply_to_input.ensures

pub returns-in-Err : goal.returns-in-Err
returns-in-Err c = fault_replied c.args.limit _ c.in-Err.fault _ c.in-Err.ensures.answers c.in-Err.ensures.only c.refusal.ensures
