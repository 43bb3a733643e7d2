-- The numbers are an ordered ring, up to the sign of their difference, with inverses and square roots.
use Rattle.std.proofs.Common.{ℤ, pos, negsuc, ◌≡◌, ℕ, zero, suc, T, List, [], ◌∷◌, refl, sym, ap₂, subst, ◌∙◌}
use Rattle.qe_ring.specs.Ring.{Operations, IsRing}
use Rattle.qe_ring.specs.Sign.{Sign, IsNotMinus, IsNotZero, ◌·◌, adds}
use Rattle.qe_ring.specs.Ordered.{IsOrdered, Inverse, Inverts, HasRoots}
use Rattle.qe_ring.specs.Expression.{Expression, var, nought, unit, constant, ◌⊕◌, ◌⊝◌, ⊖◌, ◌⊗◌, of_nat, of_int, entry, value, normal}
use Rattle.qe_ring.proofs.Hypotheses.{fact, pull}
use Rattle.qe_ring.proofs.Equal.{by_ring}
use Rattle.qe_tower.specs.Element.{Element, Tower, over, operations}
use Rattle.qe_tower.specs.Sign.{sign, IsTower, EqualOver}
use Rattle.qe_tower.specs.Number.{Number, IsNumber, ValidNumber, add, mul, neg, sign_of, whole_number, Equal}
use Rattle.qe_tower.specs.Laws.{number, InverseOf, RootOf}
use Rattle.qe_tower.proofs.Towers.{Alike, ordered}
use Rattle.qe_tower.proofs.Field.{root_squared, root_sign, inverse_over}
use Rattle.qe_tower.proofs.Joined.{ring_of, solve_over, equal_signs_over, raised, top_root, raised_map, joined}
use Rattle.qe_tower.proofs.Readings.{Reads, reads-sign, reads-add, reads-mul, reads-neg, reads-zero, reads-one, reads-equal, equal-reads, reads-self, Common, common}

-- sum, negative and product, with the proofs that they are numbers
abbrev pub valid_operations : Operations ValidNumber
valid_operations = record {
  zero = (whole_number (pos 0), tt);
  one = (whole_number (pos 1), tt);
  add = λ x y. (add x.0 y.0, (joined x.0.tower x.1 y.0.tower y.1).0);
  neg = λ x. (neg x.0, x.1);
  mul = λ x y. (mul x.0 y.0, (joined x.0.tower x.1 y.0.tower y.1).0);
}

abbrev pub valid_sign : ValidNumber → Sign
valid_sign x = sign_of x.0

abbrev pub ValidEqual : ValidNumber → ValidNumber → Type 0
ValidEqual x y = Equal x.0 y.0

module _ (x y z t : ValidNumber) where
  M : Common x.0 y.0 z.0 t.0
  M = common x.0 y.0 z.0 t.0 x.1 y.1 z.1 t.1

  abbrev W : Tower M.height
  W = M.tower

  abbrev numbers : List ValidNumber
  numbers = x ∷ y ∷ z ∷ t ∷ []

  abbrev elements : List (Element M.height)
  elements = M.a ∷ M.b ∷ M.c ∷ M.d ∷ []

  reads-var : (n : ℕ) → Reads W (entry valid_operations.zero numbers n).0 (entry (operations W).zero elements n)
  reads-var zero = M.x_is
  reads-var (suc zero) = M.y_is
  reads-var (suc (suc zero)) = M.z_is
  reads-var (suc (suc (suc zero))) = M.t_is
  reads-var (suc (suc (suc (suc n)))) = reads-zero W M.is-tower

  reads-nat : (n : ℕ) → Reads W (of_nat valid_operations n).0 (of_nat (operations W) n)
  reads-nat zero = reads-zero W M.is-tower
  reads-nat (suc n) = reads-add W M.is-tower (of_nat valid_operations n).0 valid_operations.one.0 (of_nat (operations W) n) (operations W).one
      (of_nat valid_operations n).1 tt (reads-nat n) (reads-one W M.is-tower)

  reads-int : (z : ℤ) → Reads W (of_int valid_operations z).0 (of_int (operations W) z)
  reads-int (pos n) = reads-nat n
  reads-int (negsuc n) = reads-neg W M.is-tower (of_nat valid_operations (suc n)).0 (of_nat (operations W) (suc n)) (reads-nat (suc n))

  reads-value : (e : Expression) → Reads W (value valid_operations numbers e).0 (value (operations W) elements e)
  reads-value (var n) = reads-var n
  reads-value nought = reads-zero W M.is-tower
  reads-value unit = reads-one W M.is-tower
  reads-value (constant z) = reads-int z
  reads-value (e ⊕ f) = reads-add W M.is-tower (value valid_operations numbers e).0 (value valid_operations numbers f).0 (value (operations W) elements e)
      (value (operations W) elements f) (value valid_operations numbers e).1 (value valid_operations numbers f).1 (reads-value e) (reads-value f)
  reads-value (⊖ e) = reads-neg W M.is-tower (value valid_operations numbers e).0 (value (operations W) elements e) (reads-value e)
  reads-value (e ⊗ f) = reads-mul W M.is-tower (value valid_operations numbers e).0 (value valid_operations numbers f).0 (value (operations W) elements e)
      (value (operations W) elements f) (value valid_operations numbers e).1 (value valid_operations numbers f).1 (reads-value e) (reads-value f)

  -- numbers are equal where the ring laws say so
  law_by : (e f : Expression) → normal (e ⊝ f) ≡ [] → ValidEqual (value valid_operations numbers e) (value valid_operations numbers f)
  law_by e f h = reads-equal W M.is-tower (value valid_operations numbers e).0 (value valid_operations numbers f).0 (value (operations W) elements e)
      (value (operations W) elements f) (value valid_operations numbers e).1 (value valid_operations numbers f).1 (reads-value e) (reads-value f)
      (by_ring (operations W) (sign W) (Alike M.height) (ordered W M.is-tower) elements e f h)

  -- and where that follows from two equations between them
  law_from : (e f : Expression) → EqualOver W M.a M.b × EqualOver W M.c M.d → (p q : Expression)
      → normal (e ⊝ (f ⊕ pull (fact p (var 0) (var 1) ∷ fact q (var 2) (var 3) ∷ []))) ≡ []
      → ValidEqual (value valid_operations numbers e) (value valid_operations numbers f)
  law_from e f k p q h = reads-equal W M.is-tower (value valid_operations numbers e).0 (value valid_operations numbers f).0
      (value (operations W) elements e) (value (operations W) elements f) (value valid_operations numbers e).1 (value valid_operations numbers f).1
      (reads-value e) (reads-value f)
      (solve_over W M.is-tower elements (fact p (var 0) (var 1) ∷ fact q (var 2) (var 3) ∷ []) e f (k.0, (k.1, tt)) h)

  both_equal : ValidEqual x y → ValidEqual z t → EqualOver W M.a M.b × EqualOver W M.c M.d
  both_equal p q = (equal-reads W M.is-tower x.0 y.0 M.a M.b x.1 y.1 M.x_is M.y_is p, equal-reads W M.is-tower z.0 t.0 M.c M.d z.1 t.1 M.z_is M.t_is q)

  sum_signs : T (adds (valid_sign x) (valid_sign y) (valid_sign (valid_operations.add x y)))
  sum_signs = subst (λ s. T (adds s (valid_sign y) (valid_sign (valid_operations.add x y)))) (reads-sign W M.is-tower x.0 M.a M.x_is)
      (subst (λ s. T (adds (sign W M.a) s (valid_sign (valid_operations.add x y)))) (reads-sign W M.is-tower y.0 M.b M.y_is)
      (subst (λ s. T (adds (sign W M.a) (sign W M.b) s))
      (reads-sign W M.is-tower (add x.0 y.0) ((operations W).add M.a M.b) (reads-add W M.is-tower x.0 y.0 M.a M.b x.1 y.1 M.x_is M.y_is))
      ((ordered W M.is-tower).sign-add M.a M.b)))

  product_sign : valid_sign (valid_operations.mul x y) ≡ valid_sign x · valid_sign y
  product_sign = sym (reads-sign W M.is-tower (mul x.0 y.0) ((operations W).mul M.a M.b) (reads-mul W M.is-tower x.0 y.0 M.a M.b x.1 y.1 M.x_is M.y_is))
      ∙ (ordered W M.is-tower).sign-mul M.a M.b ∙ ap₂ ◌·◌ (reads-sign W M.is-tower x.0 M.a M.x_is) (reads-sign W M.is-tower y.0 M.b M.y_is)

  equal_signs : ValidEqual x y → valid_sign x ≡ valid_sign y
  equal_signs e = sym (reads-sign W M.is-tower x.0 M.a M.x_is) ∙ equal_signs_over W M.is-tower M.a M.b (equal-reads W M.is-tower x.0 y.0 M.a M.b x.1 y.1 M.x_is M.y_is e)
      ∙ reads-sign W M.is-tower y.0 M.b M.y_is

abbrev x₀ : Expression
x₀ = var 0

abbrev x₁ : Expression
x₁ = var 1

abbrev x₂ : Expression
x₂ = var 2

abbrev x₃ : Expression
x₃ = var 3

valid_same : (x : ValidNumber) → ValidEqual x x
valid_same x = law_by x x x x x₀ x₀ refl

valid_then : (x y z : ValidNumber) → ValidEqual x y → ValidEqual y z → ValidEqual x z
valid_then x y z h k = reads-equal W₀ N.is-tower x.0 z.0 N.a N.d x.1 z.1 N.x_is N.t_is
    (solve_over W₀ N.is-tower (N.a ∷ N.b ∷ N.c ∷ N.d ∷ []) (fact unit x₀ x₁ ∷ fact unit x₁ x₂ ∷ fact unit x₂ x₃ ∷ []) x₀ x₃
    (p.0, (equal-reads W₀ N.is-tower y.0 y.0 N.b N.c y.1 y.1 N.y_is N.z_is (valid_same y), (p.1, tt))) refl)
  where
    N : Common x.0 y.0 y.0 z.0
    N = M x y y z

    W₀ : Tower N.height
    W₀ = N.tower

    p : EqualOver N.tower N.a N.b × EqualOver N.tower N.c N.d
    p = both_equal x y y z h k

-- the numbers are a ring
valid_ring : IsRing valid_operations ValidEqual
valid_ring = record {
  same = valid_same;
  back = λ x y h. law_from x y y y x₁ x₀ (both_equal x y y y h (valid_same y)) (⊖ unit) nought refl;
  then = valid_then;
  add-same = λ x y z t h k. law_from x y z t (x₀ ⊕ x₂) (x₁ ⊕ x₃) (both_equal x y z t h k) unit unit refl;
  neg-same = λ x y h. law_from x y y y (⊖ x₀) (⊖ x₁) (both_equal x y y y h (valid_same y)) (⊖ unit) nought refl;
  mul-same = λ x y z t h k. law_from x y z t (x₀ ⊗ x₂) (x₁ ⊗ x₃) (both_equal x y z t h k) x₂ x₁ refl;
  add-assoc = λ x y z. law_by x y z z (x₀ ⊕ x₁ ⊕ x₂) (x₀ ⊕ (x₁ ⊕ x₂)) refl;
  add-comm = λ x y. law_by x y y y (x₀ ⊕ x₁) (x₁ ⊕ x₀) refl;
  add-zero = λ x. law_by x x x x (x₀ ⊕ nought) x₀ refl;
  add-neg = λ x. law_by x x x x (x₀ ⊝ x₀) nought refl;
  mul-assoc = λ x y z. law_by x y z z (x₀ ⊗ x₁ ⊗ x₂) (x₀ ⊗ (x₁ ⊗ x₂)) refl;
  mul-comm = λ x y. law_by x y y y (x₀ ⊗ x₁) (x₁ ⊗ x₀) refl;
  mul-one = λ x. law_by x x x x (x₀ ⊗ unit) x₀ refl;
  mul-add = λ x y z. law_by x y z z (x₀ ⊗ (x₁ ⊕ x₂)) (x₀ ⊗ x₁ ⊕ x₀ ⊗ x₂) refl;
}

-- and an ordered one: so `solve`, `law`, `pick_is` and the rest speak of numbers too
pub valid_ordered : IsOrdered valid_operations valid_sign ValidEqual
valid_ordered = record {
  ring = valid_ring;
  sign-same = λ x y h. equal_signs x y y y h;
  sign-one = refl;
  sign-neg = λ x. (ordered x.0.tower x.1).sign-neg x.0.element;
  sign-mul = λ x y. product_sign x y y y;
  sign-add = λ x y. sum_signs x y y y;
}

-- every number that is not zero has an inverse over the same tower
pub inverse_of : (x : Number) → IsNumber x → IsNotZero (sign_of x) → InverseOf x
inverse_of x h hx = record {
  inverse = i.0;
  product = reads-equal x.tower h (mul x (number x.tower i.0)) (whole_number (pos 1)) ((operations x.tower).mul x.element i.0) (operations x.tower).one
      (joined x.tower h x.tower h).0 tt
      (reads-mul x.tower h x (number x.tower i.0) x.element i.0 h h (reads-self x h) (reads-self (number x.tower i.0) h)) (reads-one x.tower h) i.1;
}
  where
    i : Inverse (operations x.tower) (sign x.tower) x.element
    i = inverse_over x.tower h x.element hx

-- every number that is not negative has a root over its tower with it as one radicand more
pub root_of_number : (x : Number) → IsNumber x → IsNotMinus (sign_of x) → RootOf x
root_of_number x h hx = record {
  root = top_root x.tower;
  is-number = k;
  not-minus = root_sign (operations x.tower) (sign x.tower) (Alike x.height) (ordered x.tower h) x.element hx;
  square = reads-equal t k (mul w w) x ((operations t).mul (top_root x.tower) (top_root x.tower)) (raised x.tower x.element) (joined t k t k).0 h
      (reads-mul t k w w (top_root x.tower) (top_root x.tower) k k (reads-self w k) (reads-self w k))
      (record { by = raised x.tower; map = raised_map x.tower x.element k; at = (ring_of t k).same (raised x.tower x.element) })
      (root_squared (operations x.tower) (sign x.tower) (Alike x.height) (ordered x.tower h) x.element hx);
}
  where
    t : Tower (suc x.height)
    t = over x.tower x.element

    w : Number
    w = number t (top_root x.tower)

    k : IsTower t
    k = (h, hx)

-- the same of numbers with their proofs, for what is proved over any ordered ring with inverses and roots
pub valid_inverts : Inverts valid_operations valid_sign
valid_inverts x hx = ((number x.0.tower i.inverse, x.1), i.product)
  where
    i : InverseOf x.0
    i = inverse_of x.0 x.1 hx

pub valid_roots : HasRoots valid_operations valid_sign
valid_roots x hx = ((number (over x.0.tower x.0.element) i.root, i.is-number), (i.not-minus, i.square))
  where
    i : RootOf x.0
    i = root_of_number x.0 x.1 hx
