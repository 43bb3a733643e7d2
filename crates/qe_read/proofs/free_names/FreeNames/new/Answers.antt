use Rattle.std.proofs.Common.{Bor, List, ℕ, arith}
use Rattle.std.proofs.lemmas.List.Filters.{dedup_is}
use Rattle.qe_read.proofs.Distinct.{sorted_once, few, are_letters, length-mapped}
use Rattle.qe_read.proofs.free_names.FreeNames.new.Goals as goal

pub invariant_of-result : goal.invariant_of-result
invariant_of-result c = (
  sorted_once {X = Bor (List ℕ)} (λ w. w.now) c.sort_unstable.new.self.items c.dedup.new.self.items (dedup_is _ _ _ c.dedup.ensures.filtered) c.sort_unstable.ensures.sorted,
  let fewer = few {X = Bor (List ℕ)} (λ w. w.now) c.args.text.now c.args.names.now c.loop-name.name-index c.loop-name.spelled.items c.loop-name.invariant in
      omega (arith, c.dedup.new.self.ok.0, c.loop-name.spelled.ok.0, c.requires),
)

pub returns-clause-letters : goal.returns-clause-letters
returns-clause-letters c =
    are_letters {X = Bor (List ℕ)} (λ w. w.now) c.args.text.now c.args.names.now c.loop-name.name-index c.loop-name.spelled.items c.sort_unstable.new.self.items c.dedup.new.self.items
    c.loop-name-test.false c.loop-name.invariant c.sort_unstable.ensures.permutation c.sort_unstable.ensures.sorted (dedup_is _ _ _ c.dedup.ensures.filtered)

pub returns-clause-few : goal.returns-clause-few
returns-clause-few c =
    let fewer = few {X = Bor (List ℕ)} (λ w. w.now) c.args.text.now c.args.names.now c.loop-name.name-index c.loop-name.spelled.items c.loop-name.invariant in
    omega (arith, c.dedup.new.self.ok.0, c.loop-name.spelled.ok.0, length-mapped {X = Bor (List ℕ)} {Y = List ℕ} (λ w. w.now) c.dedup.new.self.items)
