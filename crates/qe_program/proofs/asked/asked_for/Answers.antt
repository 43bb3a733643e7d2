use Rattle.qe_program.proofs.Requested.{request_given, nothing_given}
use Rattle.qe_program.proofs.asked.asked_for.Goals as goal

pub returns-in-Ok : goal.returns-in-Ok
returns-in-Ok c = request_given _ c.in-Ok.job c.request_of.result c.request_of.ensures c.in-Ok.ensures.gives c.in-Ok.ensures.only c.in-Ok.ensures.nodes.0 c.in-Ok.ensures.number

pub returns-in-Err-Usage : goal.returns-in-Err-Usage
returns-in-Err-Usage c = nothing_given _ c.parse.result (cc) c.parse.ensures.only
