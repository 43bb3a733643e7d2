-- A root has one value, and the sign of a polynomial there is that of A + B*w.
use Rattle.std.proofs.Common.{◌≡◌, ◌↔◌, ◌∙◌, sym, ap, subst, [], ◌∷◌}
use Rattle.qe_ring.specs.Ring.{Operations}
use Rattle.qe_ring.specs.Sign.{Sign, is_not_zero, IsNotMinus, IsNotZero, is, ◌·◌}
use Rattle.qe_ring.specs.Ordered.{EqualBySign}
use Rattle.qe_ring.proofs.Finite.{any, given, Claim, decide, is-eq, to_is}
use Rattle.qe_tower.specs.Number.{Number, sign_of, add, mul, ValidNumber}
use Rattle.qe_tower.specs.Point.{Point, IsPoint}
use Rattle.qe_tower.proofs.ValidNumbers.{valid_operations}
use Rattle.qe_line.specs.Field.{IsEuclideanField}
use Rattle.qe_line.specs.Numbers.{numbers}
use Rattle.qe_line.proofs.Equal.{one_value}
use Rattle.qe_line.proofs.Values.{has_value}
use Rattle.qe_poly.specs.Polynomial.{Polynomial}
use Rattle.qe_form.specs.Value.{value}
use Rattle.qe_form.specs.Truth.{has_sign, Is}
use Rattle.qe_root.specs.declared.point.RootPoint.{RootPoint}
use Rattle.qe_root.specs.Value.{IsValue}
use Rattle.qe_root.specs.Laws as law
use Rattle.qe_root.proofs.Values.{valid_value}
use Rattle.qe_root.proofs.RootValue.{IsValidRoot, to_value, of_value}

value_exists : (k : RootPoint) (at : Point) → IsPoint at → IsNotZero (sign_of (value k.s at)) → IsNotMinus (sign_of (value k.r at))
    → (v : Number) × IsValue k at v
value_exists k at valid divisor radicand = (found.0.0, to_value at valid k found.0 found.1)
  where
    val : Polynomial → ValidNumber
    val p = valid_value at valid p

    found : (v : ValidNumber) × IsValidRoot at valid k v
    found = has_value numbers (val k.p) (val k.q) (val k.r) (val k.s) divisor radicand

pub one_value_is : law.OneValue
one_value_is = record {
  exists = value_exists;
  one = λ k at valid u v h l. one_value numbers (valid_value at valid k.p) (valid_value at valid k.q) (valid_value at valid k.r) (valid_value at valid k.s)
      (u, h.number) (v, l.number) (of_value at valid k (u, h.number) h) (of_value at valid k (v, l.number) l);
}

-- a square that is not zero leaves a product its sign
abbrev Squared : Claim (any ∷ given ∷ any ∷ any ∷ given ∷ [])
Squared d = (is_not_zero d, λ _ f g. (is (d · d · f) g, λ _. is f g))

module _ {C : Type 0} {o : Operations C} {s : C → Sign} (F : IsEuclideanField o s) where
  open F use {ordered}

  past_square : (d f g : C) → IsNotZero (s d) → EqualBySign o s (o.mul (o.mul d d) f) g → s f ≡ s g
  past_square d f g divisor equal = is-eq (s f) (s g) (decide (any ∷ given ∷ any ∷ any ∷ given ∷ []) Squared tt (s d) divisor (s f) (s g)
      (to_is (s d · s d · s f) (s g)
      (ap (λ t. t · s f) (sym (ordered.sign-mul d d)) ∙ (sym (ordered.sign-mul (o.mul d d) f) ∙ ordered.sign-same (o.mul (o.mul d d) f) g equal))))

pub sign_at_root : law.SignAtRoot
sign_at_root f x k a b signs g parts form at valid v h t =
    subst (λ s. Is g t at ↔ (has_sign signs s ≡ t)) (sym same)
    (form at valid h.root.root (record { number = h.root-number; not-minus = h.root.not-minus; square = h.root.square }) t)
  where
    same : sign_of (value f ((x, v) ∷ at)) ≡ sign_of (add (value a at) (mul (value b at) h.root.root))
    same = past_square numbers (valid_value at valid k.s) (valid_value ((x, v) ∷ at) (h.number, valid) f)
        (valid_operations.add (valid_value at valid a) (valid_operations.mul (valid_value at valid b) (h.root.root, h.root-number)))
        h.root.divisor (parts at valid v h)
