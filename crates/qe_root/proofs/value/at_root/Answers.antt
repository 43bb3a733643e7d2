use Rattle.std.proofs.Common.{◌≡◌, rules}
use Rattle.qe_root.specs.Value.{plain_part_of, root_part_of}
use Rattle.qe_root.proofs.RootValue.{parts_are}
use Rattle.qe_root.proofs.value.at_root.Goals as goal

pub returns-clause-truth : goal.returns-clause-truth
returns-clause-truth c =
    let plain : c.in_ok-plain.plain ≡ plain_part_of c.args.poly.now c.args.x.0 c.args.point.now = search rules in
    let root : c.in_ok-root.root ≡ root_part_of c.args.poly.now c.args.x.0 c.args.point.now = search rules in
    parts_are c.args.poly.now c.args.x.0 c.args.point.now c.in_ok-plain.plain c.in_ok-root.root c.coeffs_in.ensures.canonical c.requires plain root
