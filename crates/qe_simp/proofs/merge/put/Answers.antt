use Rattle.std.proofs.Common.{◌≡◌, length, rules}
use Rattle.qe_simp.proofs.Merging.{after_none, after_one, after_two}
use Rattle.qe_simp.proofs.merge.put.Goals as goal

pub returns-in_default : goal.returns-in_default
returns-in_default c fs before =
    let none : length c.args.parts.now.items ≡ 0 = search rules in
    let nothing : length c.pop.new.self.items ≡ 0 = search rules in
    after_none c.args.connective c.args.parts.now.items c.pop.new.self.items c.push.new.self.items fs c.args.part before none nothing c.in_ok-push.ensures.items

pub returns-in_ok-push-in-One : goal.returns-in_ok-push-in-One
returns-in_ok-push-in-One c fs before =
    after_one c.args.connective c.args.parts.now.items c.pop.new.self.items fs c.in-Some.last c.args.part before c.in-Some.ensures.items
    c.in-One.one c.push-in-One.new.self.items c.in-One.ensures c.in_ok-push-in-One.ensures.items

pub returns-in_ok-push-in-Two-2 : goal.returns-in_ok-push-in-Two-2
returns-in_ok-push-in-Two-2 c fs before =
    after_two c.args.connective c.args.parts.now.items c.pop.new.self.items fs c.in-Some.last c.args.part before c.in-Some.ensures.items
    c.in-Two.first c.in-Two.second c.push-in-Two.new.self.items c.push-in-Two-2.new.self.items c.in-Two.ensures.0 c.in-Two.ensures.1 c.in-Two.ensures.2
    c.in_ok-push-in-Two.ensures.items c.in_ok-push-in-Two-2.ensures.items
