use Rattle.std.proofs.Common.{◌∙◌, ◌<◌, sym, ap, length, arith}
use Rattle.qe_form.specs.Order.{rank, formulas_cmp}
use Rattle.qe_form.specs.Tree.{tree, trees}
use Rattle.qe_form.proofs.Ranks as ranks
use Rattle.qe_form.proofs.Ranks.{ends_first}
use Rattle.qe_form.proofs.+compare.Goals as goal
use Rattle.qe_form.proofs.+compare.Goals.{form::Form::compare-in_default-via-in-Atom+in_default, form::Form::compare-in_default-via-in-And+in_default, form::Form::compare-in_default-via-in-Or+in_default, form::Form::compare-in_default-via-in-Not+in_default, form::Form::compare-in_default-via-in-Implies+in_default, form::Form::compare-in_default-via-in-Iff+in_default, form::Form::compare-in_default-via-in-Ex+in_default, form::Form::compare-in_default-via-in-All+in_default, form::Form::compare-in_default-via-in_default}

pub form::Form::compare-returns-in_default : goal.form::Form::compare-returns-in_default
form::Form::compare-returns-in_default t c =
    let apart = ranks.by_ranks (tree c.args.self.now) (tree c.args.other.now) c.rank.result c.rank-in_default.result c.cmp-in_default.result c.cmp-in_default.ensures c.rank.ensures c.rank-in_default.ensures in
    elim c.in_default.branch [
      | form::Form::compare-in_default-via-in-Atom+in_default w ↦ apart (λ same. ranks.not_atom c.args.other.now w.in_default.not-Atom-1 (sym same ∙ (ap (λ f. rank (tree f)) w.in_default.is-0 ∙ ranks.atom_rank _)))
      | form::Form::compare-in_default-via-in-And+in_default w ↦ apart (λ same. ranks.not_and c.args.other.now w.in_default.not-And-1 (sym same ∙ (ap (λ f. rank (tree f)) w.in_default.is-0 ∙ ranks.and_rank _)))
      | form::Form::compare-in_default-via-in-Or+in_default w ↦ apart (λ same. ranks.not_or c.args.other.now w.in_default.not-Or-1 (sym same ∙ (ap (λ f. rank (tree f)) w.in_default.is-0 ∙ ranks.or_rank _)))
      | form::Form::compare-in_default-via-in-Not+in_default w ↦ apart (λ same. ranks.not_not c.args.other.now w.in_default.not-Not-1 (sym same ∙ (ap (λ f. rank (tree f)) w.in_default.is-0 ∙ ranks.not_rank _)))
      | form::Form::compare-in_default-via-in-Implies+in_default w ↦ apart (λ same. ranks.not_implies c.args.other.now w.in_default.not-Implies-1 (sym same ∙ (ap (λ f. rank (tree f)) w.in_default.is-0 ∙ ranks.implies_rank _ _)))
      | form::Form::compare-in_default-via-in-Iff+in_default w ↦ apart (λ same. ranks.not_iff c.args.other.now w.in_default.not-Iff-1 (sym same ∙ (ap (λ f. rank (tree f)) w.in_default.is-0 ∙ ranks.iff_rank _ _)))
      | form::Form::compare-in_default-via-in-Ex+in_default w ↦ apart (λ same. ranks.not_ex c.args.other.now w.in_default.not-Ex-1 (sym same ∙ (ap (λ f. rank (tree f)) w.in_default.is-0 ∙ ranks.ex_rank _ _)))
      | form::Form::compare-in_default-via-in-All+in_default w ↦ apart (λ same. ranks.not_all c.args.other.now w.in_default.not-All-1 (sym same ∙ (ap (λ f. rank (tree f)) w.in_default.is-0 ∙ ranks.all_rank _ _)))
      | form::Form::compare-in_default-via-in_default w ↦ ranks.by_constant (tree c.args.self.now) (tree c.args.other.now) c.rank.result c.rank-in_default.result c.cmp-in_default.result
          c.cmp-in_default.ensures c.rank.ensures c.rank-in_default.ensures (record {
            not_atom = ranks.not_atom c.args.self.now w.in_default.not-Atom-0;
            not_and = ranks.not_and c.args.self.now w.in_default.not-And-0;
            not_or = ranks.not_or c.args.self.now w.in_default.not-Or-0;
            not_not = ranks.not_not c.args.self.now w.in_default.not-Not-0;
            not_implies = ranks.not_implies c.args.self.now w.in_default.not-Implies-0;
            not_iff = ranks.not_iff c.args.self.now w.in_default.not-Iff-0;
            not_ex = ranks.not_ex c.args.self.now w.in_default.not-Ex-0;
            not_all = ranks.not_all c.args.self.now w.in_default.not-All-0;
          })
    ]

pub order::compare_all-returns-then-forms-others : goal.order::compare_all-returns-then-forms-others
order::compare_all-returns-then-forms-others t c =
    ends_first c.items-forms.result.now c.items-others.result.now c.loop-i.i (formulas_cmp (trees c.args.left.now) (trees c.args.right.now)) c.loop-i-test.false
    (let less : length c.items-forms.result.now < length c.items-others.result.now = c.if-forms-others.true in omega arith) c.loop-i.invariant.rest
