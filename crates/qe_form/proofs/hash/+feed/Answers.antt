use Rattle.std.proofs.Common.{◌≡◌, ◌∙◌, sym, ap, inl, inr, length, ℕ}
use Rattle.std.specs.List.{fold}
use Rattle.qe_form.specs.Fed.{formula_fed}
use Rattle.qe_form.specs.Order.{rank}
use Rattle.qe_form.specs.Tree.{tree, trees}
use Rattle.qe_form.proofs.FedTrees.{fed_list}
use Rattle.qe_form.proofs.Ranks.{and_rank, or_rank}
use Rattle.qe_form.proofs.Trees.{size_trees, tree_and, tree_or}
use Rattle.qe_form.proofs.hash.+feed.Goals as goal

pub feed-returns-in-And : goal.feed-returns-in-And
feed-returns-in-And g t c =
    let parts = trees c.in-And.parts in
    let fed = λ (k : ℕ) (is_kind : c.rank.result ≡ k). fed_list g.H.Hasher.write c.args.state.now c.write_u8.new.self c.write_usize.new.self c.feed_all.new.state c.rank.result k _ parts
    c.write_u8.ensures is_kind c.write_usize.ensures (ap length c.items.ensures ∙ size_trees c.in-And.parts) c.feed_all.ensures in
    elim c.in-And.is [
      | inl is ↦ fed 3 (c.rank.ensures ∙ (ap (λ f. rank (tree f)) is ∙ and_rank c.in-And.parts)) ∙ ap (λ f. fold g.H.Hasher.write c.args.state.now (formula_fed f)) (sym (ap tree is ∙ tree_and c.in-And.parts))
      | inr is ↦ fed 4 (c.rank.ensures ∙ (ap (λ f. rank (tree f)) is ∙ or_rank c.in-And.parts)) ∙ ap (λ f. fold g.H.Hasher.write c.args.state.now (formula_fed f)) (sym (ap tree is ∙ tree_or c.in-And.parts))
    ]
