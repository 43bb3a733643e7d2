-- The order of an ordered ring: transitive, total, antisymmetric, kept by sums and by products with what is not minus.
use Rattle.std.proofs.Common.{◌≡◌, ◌⊎◌, inl, inr, T, [], ◌∷◌, refl, sym, ap, subst, ◌∙◌}
use Rattle.qe_ring.specs.Ring.{Operations, difference}
use Rattle.qe_ring.specs.Sign.{Sign, Minus, Zero, Plus, is_not_minus, IsNotMinus, is, opposite, ◌·◌, adds, IsSignOfSum}
use Rattle.qe_ring.specs.Ordered.{IsOrdered, EqualBySign, AtMostBySign}
use Rattle.qe_ring.specs.Expression.{var, ◌⊕◌, ◌⊝◌, ⊖◌, ◌⊗◌}
use Rattle.qe_ring.proofs.Finite.{any, given, Claim, decide, is-eq, to_is, swapped}
use Rattle.qe_ring.proofs.Signs.{same_sign, law}

abbrev Summed : Claim (any ∷ given ∷ any ∷ given ∷ any ∷ given ∷ [])
Summed a = (is_not_minus a, λ _ b. (is_not_minus b, λ _ c. (adds a b c, λ _. is_not_minus c)))

abbrev Raised : Claim (any ∷ given ∷ any ∷ given ∷ any ∷ given ∷ given ∷ [])
Raised a = (is a Plus, λ _ b. (is_not_minus b, λ _ c. (adds a b c, λ _. (is_not_minus a, λ _. is c Plus))))

abbrev Opposed : Claim (any ∷ given ∷ given ∷ [])
Opposed a = (is_not_minus a, λ _. (is_not_minus (opposite a), λ _. is a Zero))

abbrev Multiplied : Claim (any ∷ given ∷ any ∷ given ∷ [])
Multiplied a = (is_not_minus a, λ _ b. (is_not_minus b, λ _. is_not_minus (a · b)))

-- what the table of a sum's signs says in words
pub sum_in_words : (a b c : Sign) → T (adds a b c) → IsSignOfSum a b c
sum_in_words a b c h = record {
  allowed = h;
  not-minus = λ ha hb. decide (any ∷ given ∷ any ∷ given ∷ any ∷ given ∷ []) Summed tt a ha b hb c h;
  plus = λ ha hb. elim [
    | inl p ↦ is-eq c Plus (decide (any ∷ given ∷ any ∷ given ∷ any ∷ given ∷ given ∷ []) Raised tt a (to_is a Plus p) b hb c h ha)
    | inr p ↦ is-eq c Plus (decide (any ∷ given ∷ any ∷ given ∷ any ∷ given ∷ given ∷ []) Raised tt b (to_is b Plus p) a ha c (swapped a b c h) hb)
  ];
}

module _ {C : Type 0} (o : Operations C) (s : C → Sign) (E : C → C → Type 0) (L : IsOrdered o s E) where
  -- a - b and b - a have opposite signs
  turned : (a b : C) → s (difference o a b) ≡ opposite (s (difference o b a))
  turned a b = same_sign o s E L (a ∷ b ∷ []) (var 0 ⊝ var 1) (⊖ (var 1 ⊝ var 0)) refl

  -- the order is transitive, total and antisymmetric
  pub transitive : (a b c : C) → AtMostBySign o s a b → AtMostBySign o s b c → AtMostBySign o s a c
  transitive a b c p q =
      decide (any ∷ given ∷ any ∷ given ∷ any ∷ given ∷ []) Summed tt (s (difference o b a)) p (s (difference o c b)) q (s (difference o c a))
      (law o s E L (a ∷ b ∷ c ∷ []) (var 1 ⊝ var 0) (var 2 ⊝ var 1) (var 2 ⊝ var 0) refl)

  pub total : (a b : C) → AtMostBySign o s a b ⊎ AtMostBySign o s b a
  total a b = by_sign (s (difference o b a)) (s (difference o a b)) (turned a b)
    where
      by_sign : (u v : Sign) → v ≡ opposite u → IsNotMinus u ⊎ IsNotMinus v
      by_sign Minus v e = inr (subst (λ z. IsNotMinus z) (sym e) tt)
      by_sign Zero v e = inl tt
      by_sign Plus v e = inl tt

  pub antisymmetric : (a b : C) → AtMostBySign o s a b → AtMostBySign o s b a → EqualBySign o s a b
  antisymmetric a b p q = is-eq (s (difference o a b)) Zero
      (decide (any ∷ given ∷ given ∷ []) Opposed tt (s (difference o a b)) q (subst (λ z. IsNotMinus z) (turned b a) p))

  -- it is kept by sums, and by products with what is not minus
  pub kept_by_sum : (a b c : C) → AtMostBySign o s a b → AtMostBySign o s (o.add a c) (o.add b c)
  kept_by_sum a b c p = subst (λ z. IsNotMinus z)
      (same_sign o s E L (a ∷ b ∷ c ∷ []) (var 1 ⊝ var 0) (var 1 ⊕ var 2 ⊝ (var 0 ⊕ var 2)) refl) p

  pub kept_by_product : (a b c : C) → IsNotMinus (s c) → AtMostBySign o s a b → AtMostBySign o s (o.mul a c) (o.mul b c)
  kept_by_product a b c hc p = subst (λ z. IsNotMinus z)
      (same_sign o s E L (a ∷ b ∷ c ∷ []) ((var 1 ⊝ var 0) ⊗ var 2) (var 1 ⊗ var 2 ⊝ var 0 ⊗ var 2) refl)
      (decide (any ∷ given ∷ any ∷ given ∷ []) Multiplied tt (s (difference o b a)) p (s c) hc)

  -- at most is less or equal
  pub less_or_equal : (a b : C) → AtMostBySign o s a b → s (difference o b a) ≡ Plus ⊎ EqualBySign o s a b
  less_or_equal a b p = by_sign (s (difference o b a)) (s (difference o a b)) (turned a b) p
    where
      by_sign : (u v : Sign) → v ≡ opposite u → IsNotMinus u → u ≡ Plus ⊎ v ≡ Zero
      by_sign Minus v e h = absurd h
      by_sign Zero v e h = inr e
      by_sign Plus v e h = inl refl

  pub less_at_most : (a b : C) → s (difference o b a) ≡ Plus → AtMostBySign o s a b
  less_at_most a b p = subst (λ z. IsNotMinus z) (sym p) tt

  pub equal_at_most : (a b : C) → EqualBySign o s a b → AtMostBySign o s a b
  equal_at_most a b p = subst (λ z. IsNotMinus z) (sym (turned b a ∙ ap opposite p)) tt
