use Rattle.std.proofs.Common.{◌∙◌, sym, ap, ◌∷◌, [], ◌++◌}
use Rattle.qe_norm.specs.Blocks.{block_of}
use Rattle.qe_norm.proofs.Grouping.{added_same, added_other}
use Rattle.qe_norm.proofs.group.add.Goals as goal

pub returns-in_ok-push-in-Some-2 : goal.returns-in_ok-push-in-Some-2
returns-in_ok-push-in-Some-2 c =
    let rest = c.pop.new.self.items in
    added_same c.args.blocks.now.items rest c.push-then-is_same_kind.new.self.items c.block.inside.kind c.block.inside.vars c.push.new.self c.args.quantifier
    (c.in-Some.ensures.items ∙ ap (λ b. rest ++ b ∷ []) (sym c.block.view_is)) (sym c.is_same_kind.ensures ∙ c.if-is_same_kind.true)
    c.in_ok-push-in-Some.ensures.ok c.in_ok-push-in-Some-2.ensures.items

pub returns-in_ok-push-in-Some-4 : goal.returns-in_ok-push-in-Some-4
returns-in_ok-push-in-Some-4 c =
    let rest = c.pop.new.self.items in
    let opened = ap (λ b. rest ++ b ∷ []) (sym c.block.view_is) in
    added_other c.args.blocks.now.items rest c.push-else-is_same_kind.new.self.items c.push-else-is_same_kind-2.new.self.items (block_of c.block.inside.kind c.block.inside.vars)
    c.in_ok-alone-in-Some.field-0 c.args.quantifier (c.in-Some.ensures.items ∙ opened) (sym c.is_same_kind.ensures ∙ c.if-is_same_kind.false)
    (c.in_ok-push-in-Some-3.ensures.items ∙ opened) c.in_ok-alone-in-Some.ensures c.in_ok-push-in-Some-4.ensures.items
