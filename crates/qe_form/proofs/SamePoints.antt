-- Truth is the same at points that give equal numbers to the same variables.
use Rattle.std.proofs.Common.{ℕ, Bool, true, false, not, ◌≡◌, ◌∙◌, sym, ap, refl, inl, inr, eqb, ◌∷◌, Option, Some, None, if◌then◌else◌}
use Rattle.qe_ring.specs.Ring.{IsRing}
use Rattle.qe_tower.specs.Number.{Number, IsNumber, sign_of, Equal}
use Rattle.qe_tower.specs.Point.{Point, IsPoint, look_up, or_zero}
use Rattle.qe_tower.proofs.ValidNumbers.{valid_operations, ValidEqual, valid_ordered}
use Rattle.qe_poly.specs.Polynomial.{Polynomial}
use Rattle.qe_poly.proofs.Values.{value-same}
use Rattle.qe_form.specs.Formula.{Formula, Formulas, True, False, Atom, And, Or, Not, Implies, Iff, Ex, All, no_more, more}
use Rattle.qe_form.specs.Value.{value}
use Rattle.qe_form.specs.Truth.{has_sign, Is, EachIs, SomeIs}
use Rattle.qe_form.specs.Laws.{SameNumber, SameNumbers, EqualPoints}
use Rattle.qe_form.proofs.Values.{valid_whole, number_at_valid, valid_point, valid_value, value-number}

abbrev R : IsRing valid_operations ValidEqual
R = valid_ordered.ring

same_or_zero : (a b : Option Number) → SameNumber a b → Equal (or_zero a) (or_zero b)
same_or_zero None None same = refl
same_or_zero None (Some w) same = absurd same
same_or_zero (Some v) None same = absurd same
same_or_zero (Some v) (Some w) same = same

pub same_sign_of_value : (q : Polynomial) (p r : Point) → IsPoint p → IsPoint r → SameNumbers p r → sign_of (value q p) ≡ sign_of (value q r)
same_sign_of_value q p r valid_p valid_r same =
    sym (ap sign_of (value-number p valid_p q))
    ∙ (valid_ordered.sign-same (valid_value p valid_p q) (valid_value r valid_r q)
    (value-same valid_operations ValidEqual R (valid_point p valid_p) (valid_point r valid_r) (λ x. same_or_zero (look_up p x) (look_up r x) (same x)) valid_whole q)
    ∙ ap sign_of (value-number r valid_r q))

-- one more variable, with one number
pub same_with : (x : ℕ) (v : Number) → IsNumber v → (p r : Point) → SameNumbers p r → SameNumbers ((x, v) ∷ p) ((x, v) ∷ r)
same_with x v valid p r same y = elim (eqb x y) as (λ b. SameNumber (if b then Some v else look_up p y) (if b then Some v else look_up r y)) [ true ↦ R.same (v, valid) | false ↦ same y ]

mutual
  moved : (f : Formula) (b : Bool) (p r : Point) → IsPoint p → IsPoint r → SameNumbers p r → Is f b p → Is f b r
  moved True b p r valid_p valid_r same t = t
  moved False b p r valid_p valid_r same t = t
  moved (Atom a) b p r valid_p valid_r same t = sym (ap (has_sign a.signs) (same_sign_of_value a.poly p r valid_p valid_r same)) ∙ t
  moved (And fs) true p r valid_p valid_r same t = moved_each fs true p r valid_p valid_r same t
  moved (And fs) false p r valid_p valid_r same t = moved_some fs false p r valid_p valid_r same t
  moved (Or fs) true p r valid_p valid_r same t = moved_some fs true p r valid_p valid_r same t
  moved (Or fs) false p r valid_p valid_r same t = moved_each fs false p r valid_p valid_r same t
  moved (Not f) b p r valid_p valid_r same t = moved f (not b) p r valid_p valid_r same t
  moved (Implies f g) true p r valid_p valid_r same t =
      elim t [ inl x ↦ inl (moved f false p r valid_p valid_r same x) | inr y ↦ inr (moved g true p r valid_p valid_r same y) ]
  moved (Implies f g) false p r valid_p valid_r same t = (moved f true p r valid_p valid_r same t.0, moved g false p r valid_p valid_r same t.1)
  moved (Iff f g) true p r valid_p valid_r same t =
      elim t [
        | inl x ↦ inl (moved f true p r valid_p valid_r same x.0, moved g true p r valid_p valid_r same x.1)
        | inr y ↦ inr (moved f false p r valid_p valid_r same y.0, moved g false p r valid_p valid_r same y.1)
      ]
  moved (Iff f g) false p r valid_p valid_r same t =
      elim t [
        | inl x ↦ inl (moved f true p r valid_p valid_r same x.0, moved g false p r valid_p valid_r same x.1)
        | inr y ↦ inr (moved f false p r valid_p valid_r same y.0, moved g true p r valid_p valid_r same y.1)
      ]
  moved (Ex x f) true p r valid_p valid_r same t = (t.0, t.1, moved f true _ _ (t.1, valid_p) (t.1, valid_r) (same_with x t.0 t.1 p r same) t.2)
  moved (Ex x f) false p r valid_p valid_r same t = λ v k. moved f false _ _ (k, valid_p) (k, valid_r) (same_with x v k p r same) (t v k)
  moved (All x f) true p r valid_p valid_r same t = λ v k. moved f true _ _ (k, valid_p) (k, valid_r) (same_with x v k p r same) (t v k)
  moved (All x f) false p r valid_p valid_r same t = (t.0, t.1, moved f false _ _ (t.1, valid_p) (t.1, valid_r) (same_with x t.0 t.1 p r same) t.2)

  moved_each : (fs : Formulas) (b : Bool) (p r : Point) → IsPoint p → IsPoint r → SameNumbers p r → EachIs fs b p → EachIs fs b r
  moved_each no_more b p r valid_p valid_r same t = t
  moved_each (more f fs) b p r valid_p valid_r same t = (moved f b p r valid_p valid_r same t.0, moved_each fs b p r valid_p valid_r same t.1)

  moved_some : (fs : Formulas) (b : Bool) (p r : Point) → IsPoint p → IsPoint r → SameNumbers p r → SomeIs fs b p → SomeIs fs b r
  moved_some no_more b p r valid_p valid_r same t = t
  moved_some (more f fs) b p r valid_p valid_r same t = elim t [ inl x ↦ inl (moved f b p r valid_p valid_r same x) | inr y ↦ inr (moved_some fs b p r valid_p valid_r same y) ]

-- ---- and back

turned : (a b : Option Number) → IsNumber (or_zero a) → IsNumber (or_zero b) → SameNumber a b → SameNumber b a
turned None None valid_a valid_b same = same
turned None (Some w) valid_a valid_b same = absurd same
turned (Some v) None valid_a valid_b same = absurd same
turned (Some v) (Some w) valid_v valid_w same = R.back (v, valid_v) (w, valid_w) same

pub same_back : (p r : Point) → IsPoint p → IsPoint r → SameNumbers p r → SameNumbers r p
same_back p r valid_p valid_r same x = turned (look_up p x) (look_up r x) (number_at_valid p valid_p x) (number_at_valid r valid_r x) (same x)

pub equal_points : EqualPoints
equal_points f p r valid_p valid_r same b = ((λ t. moved f b p r valid_p valid_r same t), (λ t. moved f b r p valid_r valid_p (same_back p r valid_p valid_r same) t))
