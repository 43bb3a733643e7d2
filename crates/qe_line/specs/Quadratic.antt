-- Polynomials of degree two at most: a*x^2 + b*x + c, by a, b and c; their roots, and their signs at places.
use Rattle.std.specs.Prelude.{◌≡◌, pos}
use Rattle.qe_ring.specs.Ring.{Operations, difference}
use Rattle.qe_ring.specs.Expression.{of_int}
use Rattle.qe_ring.specs.Sign.{Sign, Minus, Zero, Plus, IsNotMinus, IsNotZero, opposite}
use Rattle.qe_ring.specs.Ordered.{EqualBySign}
use Rattle.qe_line.specs.Place.{Place, below, at, above}

-- the root of a polynomial of degree one, and of the two roots of degree two that with the square root added, and that with it taken away
pub data Kind : Type 0 where
  linear : Kind
  upper : Kind
  lower : Kind

-- the first of two signs that is not zero
abbrev pub first_sign : Sign → Sign → Sign
first_sign Minus t = Minus
first_sign Zero t = t
first_sign Plus t = Plus

module _ {C : Type 0} (o : Operations C) where
  -- a*x^2 + b*x + c
  abbrev pub quadratic : C → C → C → C → C
  quadratic a b c x = o.add (o.add (o.mul a (o.mul x x)) (o.mul b x)) c

  -- its derivative, 2*a*x + b
  abbrev pub slope : C → C → C → C
  slope a b x = o.add (o.mul (o.mul (of_int o (pos 2)) a) x) b

  -- b^2 - 4*a*c
  abbrev pub discriminant : C → C → C → C
  discriminant a b c = difference o (o.mul b b) (o.mul (of_int o (pos 4)) (o.mul a c))

  -- At x = (p + q*sqrt(r))/d the polynomial times d^2 is A + B*sqrt(r): this is A, a*(p^2 + q^2*r) + b*p*d + c*d^2
  abbrev pub plain_part : (a b c p q r d : C) → C
  plain_part a b c p q r d =
      o.add (o.add (o.mul a (o.add (o.mul p p) (o.mul (o.mul q q) r))) (o.mul (o.mul b p) d)) (o.mul c (o.mul d d))

  -- and this is B, 2*a*p*q + b*q*d
  abbrev pub root_part : (a b c p q r d : C) → C
  root_part a b c p q r d = o.add (o.mul (of_int o (pos 2)) (o.mul (o.mul a p) q)) (o.mul (o.mul b q) d)

  -- A^2 - B^2*r
  abbrev pub norm : C → C → C → C
  norm plain root r = difference o (o.mul plain plain) (o.mul (o.mul root root) r)

module _ {C : Type 0} (o : Operations C) (s : C → Sign) where
  -- v is (p + q*sqrt(r))/d, where d is not zero and r not negative
  pub record IsRootValue (p q r d v : C) : Type 0 where
    pub divisor : IsNotZero (s d)
    pub radicand : IsNotMinus (s r)
    pub root : C
    pub not-minus : IsNotMinus (s root)
    pub square : EqualBySign o s (o.mul root root) r
    pub value : EqualBySign o s (o.mul d v) (o.add p (o.mul q root))

  -- v is the root of that kind of the polynomial: -c/b where a is zero, or (-b +- sqrt(b^2 - 4*a*c))/(2*a)
  abbrev pub IsRootOfKind : Kind → C → C → C → C → Type 0
  IsRootOfKind linear a b c v = (s a ≡ Zero) × IsRootValue (o.neg c) o.zero o.zero b v
  IsRootOfKind upper a b c v = IsRootValue (o.neg b) o.one (discriminant o a b c) (o.mul (of_int o (pos 2)) a) v
  IsRootOfKind lower a b c v = IsRootValue (o.neg b) (o.neg o.one) (discriminant o a b c) (o.mul (of_int o (pos 2)) a) v

  -- v is a root of the polynomial, of some kind; so the polynomial that is zero everywhere has none
  abbrev pub IsRoot : C → C → C → C → Type 0
  IsRoot a b c v = (k : Kind) × IsRootOfKind k a b c v

  -- The sign of the polynomial at a place. Below a bound: of the first coefficient that is not zero, that of x turned round;
  -- just above a value: of the first that is not zero there among the polynomial, its derivative and the derivative's
  abbrev pub sign_at : Place C → C → C → C → Sign
  sign_at below a b c = first_sign (s a) (first_sign (opposite (s b)) (s c))
  sign_at (at v) a b c = s (quadratic o a b c v)
  sign_at (above v) a b c = first_sign (s (quadratic o a b c v)) (first_sign (s (slope o a b v)) (s a))
