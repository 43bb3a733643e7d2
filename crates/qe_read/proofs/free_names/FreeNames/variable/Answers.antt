use Rattle.std.proofs.Common.{Bor, List, ℕ}
use Rattle.qe_read.proofs.Ranks.{rank_searched}
use Rattle.qe_read.proofs.free_names.FreeNames.variable.Goals as goal

pub returns : goal.returns
returns c =
    rank_searched {X = Bor (List ℕ)} (λ w. w.now) c.args.letters.now c.deref.result.now c.self.inside.names.items c.args.self.now c.binary_search.result c.in-Ok.place
    c.deref.ensures.value c.self.view_is c.self.invariant.0 c.binary_search.ensures.bound c.binary_search.ensures.position c.in-Ok.is
