use Rattle.std.proofs.Common.{◌<◌, ◌↔◌, ◌∙◌, sym, subst, length, ap}
use Rattle.std.specs.Prelude.{IsSome}
use Rattle.std.specs.Option.{option_map}
use Rattle.std.proofs.lemmas.Result.{IfOk-weaker}
use Rattle.qe_board.specs.History.{state_of}
use Rattle.qe_board.proofs.Histories.{state_shown}
use Rattle.qe_board.specs.Recorded.{spot_at, spots, LinksFall}
use Rattle.qe_board.proofs.Pathed.{kept_falls, kept_some, kept_there}
use Rattle.qe_board.proofs.board.Board.path_to.Goals as goal

pub find_path-requires-clause-some : goal.find_path-requires-clause-some
find_path-requires-clause-some g c = subst (λ es. 0 < length es) (sym c.entries.ensures) (kept_some g.N.Piece.meaning g.N.Piece.leaf g.N.Piece.truth g.N.Piece.height g.met.N.Piece.descends _ c.self.inside.roll _ c.self.invariant)

pub find_path-requires-clause-links : goal.find_path-requires-clause-links
find_path-requires-clause-links g c = subst (LinksFall g.N.Piece.height) (sym c.entries.ensures) (kept_falls g.N.Piece.meaning g.N.Piece.leaf g.N.Piece.truth g.N.Piece.height g.met.N.Piece.descends _ c.self.inside.roll _ c.self.invariant)

pub returns-clause-there : goal.returns-clause-there
returns-clause-there g c =
    let same = ap (λ s. s.entries) (state_shown g.N.Piece.meaning g.N.Piece.leaf g.N.Piece.truth c.self.inside.roll c.self.inside.limit _ c.self.inside.journal.items c.args.self.now c.self.invariant c.self.view_is) in
    IfOk-weaker c.find_path.result _ _
    (λ path is. subst (λ o. IsSome o ↔ (c.args.entry < length (state_of g.N.Piece.meaning g.N.Piece.leaf g.N.Piece.truth c.args.self.now).entries))
    (sym (is ∙ ap (λ es. option_map (λ s. s.path) (spot_at c.args.entry (spots g.N.Piece.height es))) (c.entries.ensures ∙ same)))
    (subst (λ es. IsSome (option_map (λ s. s.path) (spot_at c.args.entry (spots g.N.Piece.height es))) ↔ (c.args.entry < length es)) same
    (kept_there g.N.Piece.meaning g.N.Piece.leaf g.N.Piece.truth g.N.Piece.height g.met.N.Piece.descends _ c.self.inside.roll _ c.self.invariant c.args.entry))) c.find_path.ensures
