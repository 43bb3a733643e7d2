-- The order of a line, and what holds at a place: closed under what follows and under both; and it holds at some value.
use Rattle.std.proofs.Common.{◌≡◌, ◌⊎◌, inl, inr, List, [], ◌∷◌, refl, sym, ap, subst, ◌∙◌}
use Rattle.qe_ring.specs.Ring.{Operations, difference}
use Rattle.qe_ring.specs.Expression.{var, nought, unit, ◌⊕◌, ⊖◌, ◌⊗◌, ◌⊝◌}
use Rattle.qe_ring.specs.Sign.{Sign, Minus, Zero, Plus, is_not_minus, IsNotMinus, IsNotZero, is, opposite, ◌·◌, adds}
use Rattle.qe_ring.specs.Ordered.{EqualBySign, AtMostBySign}
use Rattle.qe_ring.proofs.Finite.{any, given, Step, Claim, decide, is-eq}
use Rattle.qe_ring.proofs.Hypotheses.{fact}
use Rattle.qe_line.specs.Field.{IsEuclideanField}
use Rattle.qe_line.specs.Place.{Place, below, at, above, IsPlus, LessBySign, Eventually}
use Rattle.qe_line.proofs.Field.{same, law, equal_by, one_and_one}

-- two steps on the line, from the signs of y - x, z - y and z - x
abbrev Steps : List Step
Steps = any ∷ given ∷ any ∷ given ∷ any ∷ given ∷ []

abbrev Most_less : Claim Steps
Most_less a = (is_not_minus a, λ _ b. (is b Plus, λ _ c. (adds a b c, λ _. is c Plus)))

abbrev Less_most : Claim Steps
Less_most a = (is a Plus, λ _ b. (is_not_minus b, λ _ c. (adds a b c, λ _. is c Plus)))

abbrev Most_most : Claim Steps
Most_most a = (is_not_minus a, λ _ b. (is_not_minus b, λ _ c. (adds a b c, λ _. is_not_minus c)))

abbrev Weak : Claim (any ∷ given ∷ [])
Weak a = (is a Plus, λ _. is_not_minus a)

either_sign : (a b : Sign) → b ≡ opposite a → IsNotMinus a ⊎ IsPlus b
either_sign Minus b e = inr (subst (λ z. IsPlus z) (sym e) tt)
either_sign Zero b e = inl tt
either_sign Plus b e = inl tt

-- P holds at the place: a record, so that P is found from a proof
pub record There {C : Type 0} (o : Operations C) (s : C → Sign) (p : Place C) (P : C → Type 0) : Type 0 where
  pub is : Eventually (LessBySign o s) p P

module _ {C : Type 0} {o : Operations C} {s : C → Sign} (F : IsEuclideanField o s) where
  open o use {zero, one, add, mul}
  open F use {ordered, inverts}

  -- x at most y, y less than z
  pub most_less : (x y z : C) → AtMostBySign o s x y → LessBySign o s y z → LessBySign o s x z
  most_less x y z p q = decide Steps Most_less tt (s (difference o y x)) p (s (difference o z y)) q (s (difference o z x))
      (law F (x ∷ y ∷ z ∷ []) (var 1 ⊝ var 0) (var 2 ⊝ var 1) (var 2 ⊝ var 0) refl)

  -- x less than y, y at most z
  pub less_most : (x y z : C) → LessBySign o s x y → AtMostBySign o s y z → LessBySign o s x z
  less_most x y z p q = decide Steps Less_most tt (s (difference o y x)) p (s (difference o z y)) q (s (difference o z x))
      (law F (x ∷ y ∷ z ∷ []) (var 1 ⊝ var 0) (var 2 ⊝ var 1) (var 2 ⊝ var 0) refl)

  -- x at most y, y at most z
  pub most_most : (x y z : C) → AtMostBySign o s x y → AtMostBySign o s y z → AtMostBySign o s x z
  most_most x y z p q = decide Steps Most_most tt (s (difference o y x)) p (s (difference o z y)) q (s (difference o z x))
      (law F (x ∷ y ∷ z ∷ []) (var 1 ⊝ var 0) (var 2 ⊝ var 1) (var 2 ⊝ var 0) refl)

  -- what is less is at most
  pub weak : (x y : C) → LessBySign o s x y → AtMostBySign o s x y
  weak x y p = decide (any ∷ given ∷ []) Weak tt (s (difference o y x)) p

  -- each value is at most itself
  pub itself : (x : C) → AtMostBySign o s x x
  itself x = subst (λ z. IsNotMinus z) (sym (same F (x ∷ []) (var 0 ⊝ var 0) nought refl)) tt

  -- of two values the first is at most the second, or the second is less
  pub either : (x y : C) → AtMostBySign o s x y ⊎ LessBySign o s y x
  either x y = either_sign (s (difference o y x)) (s (difference o x y)) (same F (x ∷ y ∷ []) (var 0 ⊝ var 1) (⊖ (var 1 ⊝ var 0)) refl)

  one_more : (v : C) → LessBySign o s v (add v one)
  one_more v = subst (λ z. IsPlus z) (sym (same F (v ∷ []) (var 0 ⊕ unit ⊝ var 0) unit refl)) tt

  one_less : (v : C) → LessBySign o s (difference o v one) v
  one_less v = subst (λ z. IsPlus z) (sym (same F (v ∷ []) (var 0 ⊝ (var 0 ⊝ unit)) unit refl)) tt

  half : (m : C) × (EqualBySign o s (mul (add one one) m) one × s m ≡ Plus)
  half = (
    i.0,
    (
      i.1,
      ap (λ z. z · s i.0) (sym (one_and_one F)) ∙ sym (ordered.sign-mul (add one one) i.0)
          ∙ ordered.sign-same (mul (add one one) i.0) one i.1 ∙ ordered.sign-one,
    ),
  )
    where
      i : (m : C) × EqualBySign o s (mul (add one one) m) one
      i = inverts (add one one) (subst (λ z. IsNotZero z) (sym (one_and_one F)) tt)

  -- there is a value between two: (x + y)/2
  between : (x y : C) → LessBySign o s x y → (u : C) × (LessBySign o s x u × LessBySign o s u y)
  between x y h = (mid, (is_plus (difference o mid x) from_first, is_plus (difference o y mid) to_second))
    where
      mid : C
      mid = mul (add x y) half.0

      from_first : EqualBySign o s (difference o mid x) (mul (difference o y x) half.0)
      from_first = equal_by F (x ∷ y ∷ half.0 ∷ []) (fact (var 0) ((unit ⊕ unit) ⊗ var 2) unit ∷ [])
          ((var 0 ⊕ var 1) ⊗ var 2 ⊝ var 0) ((var 1 ⊝ var 0) ⊗ var 2) (half.1.0, tt) refl

      to_second : EqualBySign o s (difference o y mid) (mul (difference o y x) half.0)
      to_second = equal_by F (x ∷ y ∷ half.0 ∷ []) (fact (⊖ var 1) ((unit ⊕ unit) ⊗ var 2) unit ∷ [])
          (var 1 ⊝ (var 0 ⊕ var 1) ⊗ var 2) ((var 1 ⊝ var 0) ⊗ var 2) (half.1.0, tt) refl

      is_plus : (z : C) → EqualBySign o s z (mul (difference o y x) half.0) → IsPlus (s z)
      is_plus z e = subst (λ t. IsPlus t) (sym (ordered.sign-same z (mul (difference o y x) half.0) e ∙ ordered.sign-mul (difference o y x) half.0
          ∙ ap (λ t. s (difference o y x) · t) half.1.1 ∙ ap (λ t. t · Plus) (is-eq (s (difference o y x)) Plus h))) tt

  widen : (p : Place C) (P Q : C → Type 0) → ((u : C) → P u → Q u) → Eventually (LessBySign o s) p P → Eventually (LessBySign o s) p Q
  widen below P Q f h = (h.0, λ u l. f u (h.1 u l))
  widen (at v) P Q f h = f v h
  widen (above v) P Q f h = (h.0, (h.1.0, λ u k l. f u (h.1.1 u k l)))

  always : (p : Place C) (P : C → Type 0) → ((u : C) → P u) → Eventually (LessBySign o s) p P
  always below P f = (zero, λ u l. f u)
  always (at v) P f = f v
  always (above v) P f = (add v one, (one_more v, λ u k l. f u))

  -- the lesser of two ends
  meet : (p : Place C) (P Q : C → Type 0) → Eventually (LessBySign o s) p P → Eventually (LessBySign o s) p Q → Eventually (LessBySign o s) p (λ u. P u × Q u)
  meet below P Q h k = elim (either h.0 k.0) [
    | inl l ↦ (h.0, λ u m. (h.1 u m, k.1 u (less_most u h.0 k.0 m l)))
    | inr l ↦ (k.0, λ u m. (h.1 u (less_most u k.0 h.0 m (weak k.0 h.0 l)), k.1 u m))
  ]
  meet (at v) P Q h k = (h, k)
  meet (above v) P Q h k = elim (either h.0 k.0) [
    | inl l ↦ (h.0, (h.1.0, λ u n m. (h.1.1 u n m, k.1.1 u n (less_most u h.0 k.0 m l))))
    | inr l ↦ (k.0, (k.1.0, λ u n m. (h.1.1 u n (less_most u k.0 h.0 m (weak k.0 h.0 l)), k.1.1 u n m)))
  ]

  witness : (p : Place C) (P : C → Type 0) → Eventually (LessBySign o s) p P → (u : C) × P u
  witness below P h = (difference o h.0 one, h.1 (difference o h.0 one) (one_less h.0))
  witness (at v) P h = (v, h)
  witness (above v) P h = (m.0, h.1.1 m.0 m.1.0 m.1.1)
    where
      m : (u : C) × (LessBySign o s v u × LessBySign o s u h.0)
      m = between v h.0 h.1.0

  -- what holds everywhere holds at a place
  pub here : (p : Place C) {P : C → Type 0} → ((u : C) → P u) → There o s p P
  here p {P} f = record { is = always p P f }

  -- what follows from what holds at a place holds there
  pub then : {p : Place C} {P Q : C → Type 0} → There o s p P → ((u : C) → P u → Q u) → There o s p Q
  then {p} {P} {Q} h f = record { is = widen p P Q f h.is }

  -- two that hold at a place hold there together
  pub both : {p : Place C} {P Q : C → Type 0} → There o s p P → There o s p Q → There o s p (λ u. P u × Q u)
  both {p} {P} {Q} h k = record { is = meet p P Q h.is k.is }

  -- what holds at a place holds for some value
  pub some : {p : Place C} {P : C → Type 0} → There o s p P → (u : C) × P u
  some {p} {P} h = witness p P h.is

  -- just above v is more than v
  pub passed : (v : C) → There o s (above v) (λ u. LessBySign o s v u)
  passed v = record { is = (add v one, (one_more v, λ u k l. k)) }
