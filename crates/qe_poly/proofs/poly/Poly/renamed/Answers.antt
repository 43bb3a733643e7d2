use Rattle.std.proofs.Common.{◌∙◌, sym, ap, map}
use Rattle.qe_poly.specs.Rows.{shown}
use Rattle.qe_poly.specs.Renamed.{renamed}
use Rattle.qe_poly.specs.Occurs.{occurs_in_some}
use Rattle.qe_poly.proofs.RenamedTerms.{made, sorted_canonical, sorted_renamed}
use Rattle.qe_poly.proofs.poly.Poly.renamed.Goals as goal

pub invariant_of-result : goal.invariant_of-result
invariant_of-result c =
    sorted_canonical c.args.from c.args.to (map shown c.self.inside.terms.items) c.self.invariant
    (sym (c.occurs_in_some-else-not-occurs_in_some.ensures ∙ ap (λ ts. occurs_in_some c.args.to.0 (map shown ts)) c.deref-else-not-occurs_in_some.ensures.value) ∙ c.if-occurs_in_some.false) c.in_ok-terms.terms.items c.sort.new.self.items
    (c.in_ok-terms.ensures ∙ ap (λ ts. map (made c.args.from c.args.to) (map shown ts)) c.deref-2.ensures.value) c.sort.ensures.permutation c.in_ok-sort.ensures.sorted

pub returns : goal.returns
returns c =
    sorted_renamed c.args.from c.args.to (map shown c.self.inside.terms.items) c.self.invariant
    (sym (c.occurs_in_some-else-not-occurs_in_some.ensures ∙ ap (λ ts. occurs_in_some c.args.to.0 (map shown ts)) c.deref-else-not-occurs_in_some.ensures.value) ∙ c.if-occurs_in_some.false) c.in_ok-terms.terms.items c.sort.new.self.items
    (c.in_ok-terms.ensures ∙ ap (λ ts. map (made c.args.from c.args.to) (map shown ts)) c.deref-2.ensures.value) c.sort.ensures.permutation c.in_ok-sort.ensures.sorted
    (sym (c.occurs_in_some.ensures ∙ ap (λ ts. occurs_in_some c.args.from.0 (map shown ts)) c.deref.ensures.value) ∙ c.if-not-occurs_in_some.false)
    ∙ ap (renamed c.args.from c.args.to) c.self.view_is
