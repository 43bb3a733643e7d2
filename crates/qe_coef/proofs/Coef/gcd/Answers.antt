use Rattle.std.proofs.Common.{◌≡◌, ◌<◌, ◌^◌, ◌∙◌, sym, ap, subst, unsigned_abs, to_z, arith}
use Rattle.std.proofs.lemmas.Int.{to_z_pos}
use Rattle.std.proofs.lemmas.Nat.Gcd.{IsGcd-from_zero, IsGcd-from_mod}
use Rattle.std.specs.Int.{IsGcd, w128}
use Rattle.qe_coef.proofs.Quotient.{as_kept}
use Rattle.qe_coef.proofs.Coef.gcd.Goals as goal

pub loop-b-init : goal.loop-b-init
loop-b-init c =
    let a : c.unsigned_abs-a.result ≡ unsigned_abs c.self.inside.value = c.unsigned_abs-a.ensures.value ∙ ap unsigned_abs (as_kept c.self.inside.value c.self.invariant) in
    let b : c.unsigned_abs-b.result ≡ unsigned_abs c.other.inside.value = c.unsigned_abs-b.ensures.value ∙ ap unsigned_abs (as_kept c.other.inside.value c.other.invariant) in
    record {
      first = subst (λ x. x < 2 ^ 127) (sym a) c.self.invariant;
      second = subst (λ x. x < 2 ^ 127) (sym b) c.other.invariant;
      same = λ g h. subst (λ x. IsGcd x (unsigned_abs c.args.other) g) (a ∙ ap unsigned_abs c.self.view_is) (subst (λ y. IsGcd c.unsigned_abs-a.result y g) (b ∙ ap unsigned_abs c.other.view_is) h);
    }

pub loop-b-preserved : goal.loop-b-preserved
loop-b-preserved c = record {
  first = c.loop-b.invariant.second;
  second = omega arith;
  same = λ g h. c.loop-b.invariant.same g (IsGcd-from_mod c.loop-b.a c.loop-b.b g h);
}

pub returns-clause-gcd : goal.returns-clause-gcd
returns-clause-gcd c =
    let e : unsigned_abs (to_z w128 c.loop-b.a) ≡ c.loop-b.a = ap unsigned_abs (to_z_pos w128 c.loop-b.a c.loop-b.invariant.first) in
    subst (λ x. IsGcd (unsigned_abs c.args.self) (unsigned_abs c.args.other) x) (sym e)
    (c.loop-b.invariant.same c.loop-b.a (IsGcd-from_zero c.loop-b.a c.loop-b.b c.loop-b-test.false))
