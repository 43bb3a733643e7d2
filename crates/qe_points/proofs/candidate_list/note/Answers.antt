use Rattle.std.proofs.Common.{◌∙◌, sym, ap}
use Rattle.qe_poly.specs.Equal.{poly_eq}
use Rattle.indexmap.proofs.CallerLemmas.{insert_entry-new}
use Rattle.indexmap.specs.IndexMap.{insert_entry}
use Rattle.qe_points.proofs.Listing.{with_found, with_new, none_found}
use Rattle.qe_points.proofs.candidate_list.note.Goals as goal

pub returns-in_ok-insert : goal.returns-in_ok-insert
returns-in_ok-insert c =
    c.in_ok-insert.ensures.entries ∙ (ap (λ p. insert_entry poly_eq c.args.found.now.entries p c.args.atom) c.in_ok-copy.ensures
    ∙ (insert_entry-new poly_eq c.args.found.now c.args.poly.now c.args.atom (none_found _ (sym c.contains_key.ensures ∙ c.if-not-contains_key.true))
    ∙ with_new c.args.found.now.entries (c.args.poly.now, c.args.atom) (sym c.contains_key.ensures ∙ c.if-not-contains_key.true)))

pub returns-else-not-contains_key : goal.returns-else-not-contains_key
returns-else-not-contains_key c = with_found c.args.found.now.entries (c.args.poly.now, c.args.atom) (sym c.contains_key.ensures ∙ c.if-not-contains_key.false)
