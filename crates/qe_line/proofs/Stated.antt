-- The laws as they are stated, from the lemmas.
use Rattle.std.proofs.Common.{◌≡◌, ◌↔◌, ◌&&◌, T, sym, subst}
use Rattle.qe_ring.proofs.Bools.{and_left, and_right}
use Rattle.qe_ring.specs.Ring.{Operations}
use Rattle.qe_ring.specs.Sign.{Sign, Zero, is}
use Rattle.qe_ring.proofs.Finite.{is-eq, to_is}
use Rattle.qe_line.specs.Field.{IsEuclideanField}
use Rattle.qe_line.specs.Place.{below, above}
use Rattle.qe_line.specs.Quadratic.{quadratic, sign_at}
use Rattle.qe_line.specs.Laws.{KeepsItsSign, SignAtRoot, SignAtQuotient, OneValue, RespectsEquality, SignJustAbove, SignFarBelow, Complete, CompleteByKind}
use Rattle.qe_line.proofs.AtRoot.{value_at_root, sign_at_value, zero_at_root}
use Rattle.qe_line.proofs.Between.{root_between}
use Rattle.qe_line.proofs.SignAt.{sign_is, by_derivative, zero_near}
use Rattle.qe_line.proofs.Values.{has_value, value_turned, by_distance}
use Rattle.qe_line.proofs.Quotient.{linear_sign_at_quotient, linear_root}
use Rattle.qe_line.proofs.Equal.{quadratic_same, value_same, root_same}
use Rattle.qe_line.proofs.Equal as equals
use Rattle.qe_line.proofs.Complete as completeness

-- three signs are zero where the test for all of them is true, and the other way
three_zero : (x a b c : Sign) → is x Zero ≡ is a Zero && (is b Zero && is c Zero) → (x ≡ Zero) ↔ ((a ≡ Zero) × ((b ≡ Zero) × (c ≡ Zero)))
three_zero x a b c e = (
  λ h. parts a b c (subst (λ z. T z) e (to_is x Zero h)),
  λ h. is-eq x Zero (subst (λ z. T z) (sym e) (whole a b c h.0 h.1.0 h.1.1)),
)
  where
    whole : (a b c : Sign) → a ≡ Zero → b ≡ Zero → c ≡ Zero → T (is a Zero && (is b Zero && is c Zero))
    whole a b c p q r = subst (λ z. T (is z Zero && (is b Zero && is c Zero))) (sym p)
        (subst (λ z. T (is z Zero && is c Zero)) (sym q) (to_is c Zero r))

    parts : (a b c : Sign) → T (is a Zero && (is b Zero && is c Zero)) → (a ≡ Zero) × ((b ≡ Zero) × (c ≡ Zero))
    parts a b c h = (
      is-eq a Zero (and_left (is a Zero) (is b Zero && is c Zero) h),
      (is-eq b Zero (and_left (is b Zero) (is c Zero) rest), is-eq c Zero (and_right (is b Zero) (is c Zero) rest)),
    )
      where
        rest : T (is b Zero && is c Zero)
        rest = and_right (is a Zero) (is b Zero && is c Zero) h

module _ {C : Type 0} {o : Operations C} {s : C → Sign} (F : IsEuclideanField o s) where
  pub keeps_its_sign : KeepsItsSign o s
  keeps_its_sign a b c x y h = root_between F a b c x y h

  pub sign_at_root : SignAtRoot o s
  sign_at_root = record {
    value = λ a b c p q r d v h. value_at_root F a b c p q r d v h;
    sign = λ a b c p q r d v h. sign_at_value F a b c p q r d v h;
    own = λ a b c v h. zero_at_root F a b c v h;
  }

  pub sign_at_quotient : SignAtQuotient o s
  sign_at_quotient = record {
    sign = λ a b c p d v ha hd h. linear_sign_at_quotient F a b c p d v ha hd h;
    root = λ a b c v ha. linear_root F a b c v ha;
  }

  pub one_value : OneValue o s
  one_value = record {
    exists = λ p q r d hd hr. has_value F p q r d hd hr;
    one = λ p q r d u v h k. equals.one_value F p q r d u v h k;
    turned = λ p q r d v h. value_turned F p q r d v h;
  }

  pub respects_equality : RespectsEquality o s
  respects_equality = record {
    sign = λ a b c x a' b' c' x' ha hb hc hx. quadratic_same F a b c x a' b' c' x' ha hb hc hx;
    value = λ p q r d v p' q' r' d' v' hp hq hr hd hv h. value_same F p q r d v p' q' r' d' v' hp hq hr hd hv h;
    root = λ a b c v a' b' c' v' ha hb hc hv h. root_same F a b c v a' b' c' v' ha hb hc hv h;
  }

  pub sign_just_above : SignJustAbove o s
  sign_just_above = record {
    sign = λ a b c v. by_distance F v (λ u. s (quadratic o a b c u) ≡ sign_at o s (above v) a b c) (sign_is F (above v) a b c);
    by-derivative = λ a b c v. by_derivative F a b c v;
    zero = λ a b c v. three_zero (sign_at o s (above v) a b c) (s a) (s b) (s c) (zero_near F a b c v);
  }

  pub sign_far_below : SignFarBelow o s
  sign_far_below a b c = (sign_is F below a b c).is

  pub complete : Complete o s
  complete fs test = completeness.complete F fs test

  pub complete_by_kind : CompleteByKind o s
  complete_by_kind ks = completeness.complete_by_kind F ks
