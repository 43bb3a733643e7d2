use Rattle.qe_root.proofs.RootLaws.{sign_at_root}
use Rattle.qe_root.proofs.laws.sign_at_root.Goals as goal

pub returns : goal.returns
returns c f x k a b signs g parts form at valid v h t = sign_at_root f x k a b signs g parts form at valid v h t
