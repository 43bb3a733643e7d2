use Rattle.std.proofs.Common.{◌∙◌, subst, map, ◌++◌, ◌∷◌, []}
use Rattle.qe_board.specs.Shown.{link_of}
use Rattle.qe_board.specs.Visited.{spots_below, IsAhead}
use Rattle.qe_board.proofs.Finding.{finding_root, finding_met, finding_new, less_new}
use Rattle.qe_board.proofs.visits.first_places.Goals as goal

pub loop-visits-init : goal.loop-visits-init
loop-visits-init g c =
    finding_root g.N.Piece.height c.args.entries.now c.requires.links (map link_of c.links.result.now) c.links.ensures c.visit.new.self
    (c.in_ok-visit.ensures ∙ (λ i. record {
      done = (c.new-visits.ensures i).done ++ record { path = c.new.ensures i; entry = 0 } ∷ [];
      todo = spots_below (c.new.ensures i) (map link_of c.links.result.now) ++ (c.new-visits.ensures i).todo;
    }))

pub loop-visits-preserved-in-Met : goal.loop-visits-preserved-in-Met
loop-visits-preserved-in-Met g c =
    finding_met g.N.Piece.height c.args.entries.now c.loop-visits.visits c.next.new.self c.loop-visits.invariant (subst (IsAhead c.loop-visits.visits c.next.new.self) c.in-Met.is c.in_ok-next.ensures)

pub loop-visits-smaller : goal.loop-visits-smaller
loop-visits-smaller g c =
    less_new g.N.Piece.height c.args.entries.now c.loop-visits.visits c.next.new.self c.loop-visits.invariant c.in-New.place (subst (IsAhead c.loop-visits.visits c.next.new.self) c.in-New.is c.in_ok-next.ensures)
    (map link_of c.links-links.result.now) c.links-links.ensures c.visit-in-New.new.self c.in_ok-visit-in-New.ensures

pub loop-visits-preserved : goal.loop-visits-preserved
loop-visits-preserved g c =
    finding_new g.N.Piece.height c.args.entries.now c.loop-visits.visits c.next.new.self c.loop-visits.invariant c.in-New.place (subst (IsAhead c.loop-visits.visits c.next.new.self) c.in-New.is c.in_ok-next.ensures)
    (map link_of c.links-links.result.now) c.links-links.ensures c.visit-in-New.new.self c.in_ok-visit-in-New.ensures
