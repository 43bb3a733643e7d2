use Rattle.std.proofs.Common.{◌≡◌, ◌<◌, ◌^◌, ◌∙◌, ap, sym, subst, length, arith}
use Rattle.qe_board.proofs.Listed.{length_entries}
use Rattle.qe_board.proofs.entries.Entries.len.Goals as goal
use Rattle.qe_board.proofs.entries.Entries.len.Goals.{After-len}
use Rattle.qe_board.proofs.entries.Entries.len.Given.{Over}

same_length : (g : Over) (c : After-len g) → c.self.inside.progress.len ≡ length c.args.self.now
same_length g c = c.self.inside.progress.ok.0 ∙ (sym (length_entries g.N.Piece.key c.self.inside.pieces.keys c.self.inside.progress.items c.self.invariant.1) ∙ ap length c.self.view_is)

pub returns-clause-len : goal.returns-clause-len
returns-clause-len g c = c.len.ensures ∙ same_length g c

pub returns-clause-few : goal.returns-clause-few
returns-clause-few g c =
    let inside = c.self.inside.progress.ok.1 in let small = c.self.inside.progress.small in
    subst (λ n. n < 2 ^ 63) (same_length g c) (omega (arith, inside, small))
