use Rattle.std.proofs.Common.{◌≡◌, ap, sym, arith, take, drop}
use Rattle.std.proofs.lemmas.Grind.{common_steps}
use Rattle.qe_base.proofs.Transfers.{copied_front}
use Rattle.qe_base.proofs.memory.MemSourceSource.read.Goals as goal

pub returns-clause-gives : goal.returns-clause-gives
returns-clause-gives c =
    let left_is : c.args.self.now.left ≡ drop c.self.inside.position c.self.inside.bytes.items = sym (ap (λ s. s.left) c.self.view_is) in
    let copied : c.copy_from_slice.new.self ≡ take c.min-count.result c.args.self.now.left = grind (arith, common_steps) in
    copied_front _ c.args.out.now _ _ _ _ left_is copied (grind (arith, common_steps))
