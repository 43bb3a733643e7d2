-- What the laws say of the operations and signs of an ordered field with square roots.
use Rattle.std.specs.Prelude.{◌≡◌, ◌⊎◌, ◌↔◌, Bool, IsTrue, List, pos}
use Rattle.qe_ring.specs.Ring.{Operations}
use Rattle.qe_ring.specs.Expression.{of_int}
use Rattle.qe_ring.specs.Sign.{Sign, Zero, IsNotMinus, IsNotZero, pick, ◌·◌}
use Rattle.qe_ring.specs.Ordered.{EqualBySign, AtMostBySign}
use Rattle.qe_line.specs.Place.{Place, below, above, Eventually, HoldsJustAbove, LessBySign}
use Rattle.qe_line.specs.Quadratic.{first_sign, quadratic, slope, plain_part, root_part, norm, IsRootValue, IsRoot, sign_at}
use Rattle.qe_line.specs.TestPoint.{Polynomial, Condition, signs_of, signs_at, IsTestPoint, MeetsAll, IsTestPointByKind}

module _ {C : Type 0} (o : Operations C) (s : C → Sign) where
  -- a polynomial has one sign at x and at y, or a root from x to y
  abbrev pub KeepsItsSign : Type 0
  KeepsItsSign = (a b c x y : C) → AtMostBySign o s x y
      → (s (quadratic o a b c x) ≡ s (quadratic o a b c y)) ⊎ ((r : C) × (IsRoot o s a b c r × (AtMostBySign o s x r × AtMostBySign o s r y)))

  -- At v = (p + q*w)/d with w*w = r: d^2 times the polynomial is A + B*w, its sign comes from those of A^2 - B^2*r, A, B and r;
  -- and at its own roots a polynomial is zero
  pub record SignAtRoot : Type 0 where
    pub value : (a b c p q r d v : C) → (root : IsRootValue o s p q r d v)
        → EqualBySign o s (o.mul (o.mul d d) (quadratic o a b c v)) (o.add (plain_part o a b c p q r d) (o.mul (root_part o a b c p q r d) root.root))
    pub sign : (a b c p q r d v : C) → IsRootValue o s p q r d v
        → s (quadratic o a b c v)
        ≡ pick (s (norm o (plain_part o a b c p q r d) (root_part o a b c p q r d) r)) (s (plain_part o a b c p q r d)) (s (root_part o a b c p q r d) · s r)
    pub own : (a b c v : C) → IsRoot o s a b c v → s (quadratic o a b c v) ≡ Zero

  -- At a quotient v = p/d a polynomial b*x + c has the sign of d times that of b*p + c*d. Its root is -c/b, if b is not zero, and else it has none
  pub record SignAtQuotient : Type 0 where
    pub sign : (a b c p d v : C) → s a ≡ Zero → IsNotZero (s d) → EqualBySign o s (o.mul d v) p
        → s (quadratic o a b c v) ≡ s d · s (o.add (o.mul b p) (o.mul c d))
    pub root : (a b c v : C) → s a ≡ Zero → IsRoot o s a b c v ↔ (IsNotZero (s b) × EqualBySign o s (o.mul b v) (o.neg c))

  -- (p + q*sqrt(r))/d has one value up to equality, which stays where p, q and d are turned round
  pub record OneValue : Type 0 where
    pub exists : (p q r d : C) → IsNotZero (s d) → IsNotMinus (s r) → (v : C) × IsRootValue o s p q r d v
    pub one : (p q r d u v : C) → IsRootValue o s p q r d u → IsRootValue o s p q r d v → EqualBySign o s u v
    pub turned : (p q r d v : C) → IsRootValue o s p q r d v → IsRootValue o s (o.neg p) (o.neg q) r (o.neg d) v

  -- equal coefficients and values give equal signs and the same roots
  pub record RespectsEquality : Type 0 where
    pub sign : (a b c x a' b' c' x' : C) → EqualBySign o s a a' → EqualBySign o s b b' → EqualBySign o s c c' → EqualBySign o s x x'
        → s (quadratic o a b c x) ≡ s (quadratic o a' b' c' x')
    pub value : (p q r d v p' q' r' d' v' : C)
        → EqualBySign o s p p' → EqualBySign o s q q' → EqualBySign o s r r' → EqualBySign o s d d' → EqualBySign o s v v'
        → IsRootValue o s p q r d v → IsRootValue o s p' q' r' d' v'
    pub root : (a b c v a' b' c' v' : C) → EqualBySign o s a a' → EqualBySign o s b b' → EqualBySign o s c c' → EqualBySign o s v v'
        → IsRoot o s a b c v → IsRoot o s a' b' c' v'

  -- just above v a polynomial has the sign that it has at v, or if that is zero the sign of the derivative there, and else that of a;
  -- so beyond its sign at v it has the sign of the derivative just above v; and it is zero there only if it is zero everywhere
  pub record SignJustAbove : Type 0 where
    pub sign : (a b c v : C)
        → HoldsJustAbove o s v (λ u. s (quadratic o a b c u) ≡ first_sign (s (quadratic o a b c v)) (first_sign (s (slope o a b v)) (s a)))
    pub by-derivative : (a b c v : C)
        → sign_at o s (above v) a b c ≡ first_sign (s (quadratic o a b c v)) (sign_at o s (above v) o.zero (o.mul (of_int o (pos 2)) a) b)
    pub zero : (a b c v : C) → (sign_at o s (above v) a b c ≡ Zero) ↔ ((s a ≡ Zero) × ((s b ≡ Zero) × (s c ≡ Zero)))

  -- below some bound a polynomial has the sign that its first coefficient has there which is not zero
  abbrev pub SignFarBelow : Type 0
  SignFarBelow = (a b c : C) → Eventually (LessBySign o s) below (λ u. s (quadratic o a b c u) ≡ sign_at o s below a b c)

  -- whatever is asked of the signs of finitely many polynomials: it holds at some value exactly where it holds at some test point
  abbrev pub Complete : Type 0
  Complete = (fs : List (Polynomial C)) (test : List Sign → Bool)
      → ((x : C) × IsTrue (test (signs_of o s fs x))) ↔ ((p : Place C) × (IsTestPoint o s fs p × IsTrue (test (signs_at o s fs p))))

  -- Where each polynomial has its own condition, a root is a test point only if zero is allowed there, and what is just above it only if not
  abbrev pub CompleteByKind : Type 0
  CompleteByKind = (ks : List (Condition C))
      → ((x : C) × MeetsAll o s ks x) ↔ ((p : Place C) × (IsTestPointByKind o s ks p × Eventually (LessBySign o s) p (MeetsAll o s ks)))
