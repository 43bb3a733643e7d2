-- A polynomial has one sign at two values, or it has a root between them.
use Rattle.std.proofs.Common.{◌≡◌, ◌⊎◌, inl, inr, List, [], ◌∷◌, sym, refl, ap₂, ◌∙◌}
use Rattle.qe_ring.specs.Ring.{Operations, difference}
use Rattle.qe_ring.specs.Sign.{Sign, Minus, Plus, ◌·◌}
use Rattle.qe_ring.specs.Ordered.{AtMostBySign}
use Rattle.qe_ring.proofs.Finite.{is-eq}
use Rattle.qe_line.specs.Field.{IsEuclideanField}
use Rattle.qe_line.specs.Place.{LessBySign}
use Rattle.qe_line.specs.Quadratic.{quadratic, IsRoot}
use Rattle.qe_line.proofs.Places.{less_most, most_less, either, itself}
use Rattle.qe_line.proofs.Products.{Each, product, minus_below}
use Rattle.qe_line.proofs.Factored.{Factored, factored}

module _ {C : Type 0} {o : Operations C} {s : C → Sign} (F : IsEuclideanField o s) where
  plus_after : (r x u : C) → LessBySign o s r x → AtMostBySign o s x u → s (difference o u r) ≡ Plus
  plus_after r x u h k = is-eq (s (difference o u r)) Plus (less_most F r x u h k)

  minus_before : (u y r : C) → AtMostBySign o s u y → LessBySign o s y r → s (difference o u r) ≡ Minus
  minus_before u y r h k = minus_below F u r (most_less F u y r h k)

  -- a product has one sign at x and at y, or one of its roots is between
  same_or_root : (P : C → Type 0) (x y : C) → AtMostBySign o s x y → (t : Sign) (rs : List C) → Each P rs
      → (product F t rs x ≡ product F t rs y) ⊎ ((r : C) × (P r × (AtMostBySign o s x r × AtMostBySign o s r y)))
  same_or_root P x y h t [] e = inl refl
  same_or_root P x y h t (r ∷ rs) e = elim (either F x r) [
    | inr before ↦ elim (same_or_root P x y h t rs e.1) [
      | inl k ↦ inl (ap₂ ◌·◌ (plus_after r x x before (itself F x) ∙ sym (plus_after r x y before h)) k)
      | inr k ↦ inr k
    ]
    | inl left ↦ elim (either F r y) [
      | inl right ↦ inr (r, (e.0, (left, right)))
      | inr after ↦ elim (same_or_root P x y h t rs e.1) [
        | inl k ↦ inl (ap₂ ◌·◌ (minus_before x y r h after ∙ sym (minus_before y y r (itself F y) after)) k)
        | inr k ↦ inr k
      ]
    ]
  ]

  -- a polynomial has one sign at x and at y, or a root between
  pub root_between : (a b c x y : C) → AtMostBySign o s x y
      → (s (quadratic o a b c x) ≡ s (quadratic o a b c y)) ⊎ ((r : C) × (IsRoot o s a b c r × (AtMostBySign o s x r × AtMostBySign o s r y)))
  root_between a b c x y h = elim (same_or_root (IsRoot o s a b c) x y h g.0 g.1.0 g.1.1.real) [
    | inl e ↦ inl (g.1.1.factors x ∙ e ∙ sym (g.1.1.factors y))
    | inr k ↦ inr k
  ]
    where
      g : Factored F a b c
      g = factored F a b c
