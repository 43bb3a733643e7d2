use Rattle.std.proofs.Common.{ℕ, ◌+◌, ◌-◌, ◌/◌, ◌<◌, ◌≤◌, sym, length, arith}
use Rattle.qe_poly.proofs.Places.{place_tied, split_past}
use Rattle.qe_poly.proofs.tally.place.Goals as goal

halfway : (low high n : ℕ) → low < high → high ≤ n → low + (high - low) / 2 < high
halfway low high n some inside = omega arith

pub returns-in-Equal : goal.returns-in-Equal
returns-in-Equal c =
    let middle = c.loop-low.low + (c.loop-low.high - c.loop-low.low) / 2 in
    let before : middle < c.loop-low.high = halfway c.loop-low.low c.loop-low.high (length c.args.groups.now) c.loop-low-test.true c.loop-low.invariant.inside in
    let below = c.loop-low.invariant.inside in
    let inside : middle < length c.args.groups.now = omega arith in
    place_tied c.args.monomial.now c.args.groups.now middle c.index-groups-middle.result c.requires inside c.index-groups-middle.is (sym c.in-Equal.ensures)

pub loop-low-preserved : goal.loop-low-preserved
loop-low-preserved c =
    let middle = c.loop-low.low + (c.loop-low.high - c.loop-low.low) / 2 in
    let before : middle < c.loop-low.high = halfway c.loop-low.low c.loop-low.high (length c.args.groups.now) c.loop-low-test.true c.loop-low.invariant.inside in
    let below = c.loop-low.invariant.inside in
    let inside : middle < length c.args.groups.now = omega arith in
    record {
      in_turn = omega arith;
      inside = c.loop-low.invariant.inside;
      split = split_past c.args.monomial.now c.args.groups.now middle c.index-groups-middle.result c.requires inside c.index-groups-middle.is (sym c.in-Greater.ensures);
      ahead = c.loop-low.invariant.ahead;
    }
