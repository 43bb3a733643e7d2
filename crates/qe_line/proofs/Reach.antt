-- How far down from a value what holds there holds: to a place, at which it holds then. In place of a greatest root, two such are joined.
use Rattle.std.proofs.Common.{◌≡◌, ◌⊎◌, inl, inr, Bool, true, false, ◌&&◌, ◌||◌, T, List, [], ◌∷◌, refl, sym, subst}
use Rattle.qe_ring.specs.Ring.{Operations, difference}
use Rattle.qe_ring.specs.Expression.{var, ◌⊝◌}
use Rattle.qe_ring.specs.Sign.{Sign, Minus, Zero, Plus, is_not_minus, IsNotMinus, is_not_zero, is, ◌·◌, adds}
use Rattle.qe_ring.specs.Ordered.{AtMostBySign}
use Rattle.qe_ring.proofs.Finite.{Step, any, given, Claim, decide}
use Rattle.qe_line.specs.Field.{IsEuclideanField}
use Rattle.qe_line.specs.Place.{Place, below, at, above, IsPlus, LessBySign, Eventually}
use Rattle.qe_line.proofs.Field.{law}
use Rattle.qe_line.proofs.Places.{There, most_less, less_most, most_most, weak, itself, either}
use Rattle.qe_line.proofs.Products.{Each, product}

-- x is y, or zero where that is allowed
abbrev pub agrees : Bool → Sign → Sign → Bool
agrees b x y = is x y || b && is x Zero

-- zero is allowed, or is not there
abbrev pub fits : Bool → Sign → Bool
fits b x = b || is_not_zero x

-- where a root is a test point: itself where zero is allowed, and else just above it
abbrev pub root_place : {C : Type 0} → Bool → C → Place C
root_place true r = at r
root_place false r = above r

pub or_left : (a b : Bool) → T a → T (a || b)
or_left true b h = tt
or_left false b h = absurd h

pub or_right : (a b : Bool) → T b → T (a || b)
or_right true b h = tt
or_right false b h = h

un_or : (a : Bool) → T (a || false) → T a
un_or true h = tt
un_or false h = h

abbrev Two_pairs : List Step
Two_pairs = any ∷ any ∷ given ∷ any ∷ any ∷ given ∷ []

abbrev Agree_product : Claim Two_pairs
Agree_product a b = (is a b, λ _ c d. (is c d, λ _. is (a · c) (b · d)))

abbrev Agree_product_with_zero : Claim Two_pairs
Agree_product_with_zero a b = (agrees true a b, λ _ c d. (agrees true c d, λ _. agrees true (a · c) (b · d)))

agrees_product : (b : Bool) (x y z t : Sign) → T (agrees b x y) → T (agrees b z t) → T (agrees b (x · z) (y · t))
agrees_product true x y z t h k = decide Two_pairs Agree_product_with_zero tt x y h z t k
agrees_product false x y z t h k = or_left (is (x · z) (y · t)) false
    (decide Two_pairs Agree_product tt x y (un_or (is x y) h) z t (un_or (is z t) k))

agrees_self : (b : Bool) (x : Sign) → T (agrees b x x)
agrees_self b Minus = tt
agrees_self b Zero = tt
agrees_self b Plus = tt

fits_left : (b : Bool) (x y : Sign) → T (fits b (x · y)) → T (fits b x)
fits_left true x y h = tt
fits_left false Minus y h = tt
fits_left false Zero y h = h
fits_left false Plus y h = tt

fits_right : (b : Bool) (x y : Sign) → T (fits b (x · y)) → T (fits b y)
fits_right true x y h = tt
fits_right false x Minus h = tt
fits_right false Minus Zero h = h
fits_right false Zero Zero h = h
fits_right false Plus Zero h = h
fits_right false x Plus h = tt

-- d, a and c are the signs of x - r, u - r and x - u
abbrev Below_root : Claim (any ∷ given ∷ any ∷ any ∷ given ∷ given ∷ [])
Below_root d = (is d Minus, λ _ a c. (is_not_minus c, λ _. (adds a c d, λ _. is a d)))

abbrev Above_root : Claim (any ∷ given ∷ any ∷ given ∷ any ∷ given ∷ given ∷ [])
Above_root d = (is_not_minus d, λ _ a. (is_not_minus a, λ _ c. (is_not_minus c, λ _. (adds a c d, λ _. agrees true a d))))

-- u is not before the place: anything where it is below, what is at least v where it is at v, and what is more than v where it is above v
abbrev pub IsFrom : {C : Type 0} → Operations C → (C → Sign) → Place C → C → Type 0
IsFrom o s below u = Unit {0}
IsFrom o s (at v) u = AtMostBySign o s v u
IsFrom o s (above v) u = LessBySign o s v u

-- P holds from a place of which K holds up to x, and the place is not after x
pub record Reach {C : Type 0} (o : Operations C) (s : C → Sign) (K : Place C → Type 0) (x : C) (P : C → Type 0) : Type 0 where
  pub place : Place C
  pub is_candidate : K place
  pub not_after : IsFrom o s place x
  pub holds : (u : C) → IsFrom o s place u → AtMostBySign o s u x → P u

module _ {C : Type 0} {o : Operations C} {s : C → Sign} (F : IsEuclideanField o s) where
  -- of two places, from one on is from the other on too
  nested : (p q : Place C) → ((u : C) → IsFrom o s p u → IsFrom o s q u) ⊎ ((u : C) → IsFrom o s q u → IsFrom o s p u)
  nested below q = inr (λ u h. tt)
  nested (at v) below = inl (λ u h. tt)
  nested (above v) below = inl (λ u h. tt)
  nested (at v) (at w) = elim (either F v w) [
    | inl l ↦ inr (λ u h. most_most F v w u l h)
    | inr l ↦ inl (λ u h. most_most F w v u (weak F w v l) h)
  ]
  nested (at v) (above w) = elim (either F v w) [
    | inl l ↦ inr (λ u h. weak F v u (most_less F v w u l h))
    | inr l ↦ inl (λ u h. less_most F w v u l h)
  ]
  nested (above v) (at w) = elim (either F w v) [
    | inl l ↦ inl (λ u h. weak F w u (most_less F w v u l h))
    | inr l ↦ inr (λ u h. less_most F v w u l h)
  ]
  nested (above v) (above w) = elim (either F v w) [
    | inl l ↦ inr (λ u h. most_less F v w u l h)
    | inr l ↦ inl (λ u h. most_less F w v u (weak F w v l) h)
  ]

  -- what follows reaches as far
  pub reach_then : {K : Place C → Type 0} {x : C} {P Q : C → Type 0} → Reach o s K x P → ((u : C) → P u → Q u) → Reach o s K x Q
  reach_then h f = record { place = h.place; is_candidate = h.is_candidate; not_after = h.not_after; holds = λ u k l. f u (h.holds u k l) }

  -- two reach together to the later place
  pub reach_both : {K : Place C → Type 0} {x : C} {P Q : C → Type 0} → Reach o s K x P → Reach o s K x Q → Reach o s K x (λ u. P u × Q u)
  reach_both h k = elim (nested h.place k.place) [
    | inl i ↦ record {
      place = h.place;
      is_candidate = h.is_candidate;
      not_after = h.not_after;
      holds = λ u m l. (h.holds u m l, k.holds u (i u m) l);
    }
    | inr i ↦ record {
      place = k.place;
      is_candidate = k.is_candidate;
      not_after = k.not_after;
      holds = λ u m l. (h.holds u (i u m) l, k.holds u m l);
    }
  ]

  -- what holds everywhere reaches to below all
  pub reach_here : {K : Place C → Type 0} {x : C} {P : C → Type 0} → K below → ((u : C) → P u) → Reach o s K x P
  reach_here k f = record { place = below; is_candidate = k; not_after = tt; holds = λ u m l. f u }

  eventually : (x : C) (P : C → Type 0) (p : Place C) → IsFrom o s p x → ((u : C) → IsFrom o s p u → AtMostBySign o s u x → P u) → Eventually (LessBySign o s) p P
  eventually x P below h f = (x, λ u l. f u tt (weak F u x l))
  eventually x P (at v) h f = f v (itself F v) h
  eventually x P (above v) h f = (x, (h, λ u k l. f u k (weak F u x l)))

  -- what holds from a place up to x holds at the place
  pub reached : {K : Place C → Type 0} {x : C} {P : C → Type 0} → Reach o s K x P → (p : Place C) × (K p × There o s p P)
  reached {K} {x} {P} h = (h.place, (h.is_candidate, record { is = eventually x P h.place h.not_after h.holds }))

  parts : (x u r : C) (d : Sign) → s (difference o x r) ≡ d → T (adds (s (difference o u r)) (s (difference o x u)) d)
  parts x u r d e = subst (λ z. T (adds (s (difference o u r)) (s (difference o x u)) z)) e
      (law F (x ∷ u ∷ r ∷ []) (var 1 ⊝ var 2) (var 0 ⊝ var 1) (var 0 ⊝ var 2) refl)

  kept_below : (b : Bool) (x u r : C) (d : Sign) → s (difference o x r) ≡ d → T (is d Minus) → AtMostBySign o s u x
      → T (agrees b (s (difference o u r)) d)
  kept_below b x u r d e m l = or_left (is (s (difference o u r)) d) (b && is (s (difference o u r)) Zero)
      (decide (any ∷ given ∷ any ∷ any ∷ given ∷ given ∷ []) Below_root tt d m (s (difference o u r)) (s (difference o x u)) l (parts x u r d e))

  kept_above : (x u r : C) (d : Sign) → s (difference o x r) ≡ d → IsNotMinus d → AtMostBySign o s r u → AtMostBySign o s u x
      → T (agrees true (s (difference o u r)) d)
  kept_above x u r d e m k l = decide (any ∷ given ∷ any ∷ given ∷ any ∷ given ∷ given ∷ []) Above_root tt d m (s (difference o u r)) k
      (s (difference o x u)) l (parts x u r d e)

  -- the sign of u - r keeps down to r, and below that it keeps to the end
  reach_factor : (K : Place C → Type 0) (b : Bool) (x r : C) (d : Sign) → s (difference o x r) ≡ d → T (fits b d) → K below → K (root_place b r)
      → Reach o s K x (λ u. T (agrees b (s (difference o u r)) d))
  reach_factor K b x r Minus e f k l = record { place = below; is_candidate = k; not_after = tt; holds = λ u m n. kept_below b x u r Minus e tt n }
  reach_factor K true x r Zero e f k l = record {
    place = at r;
    is_candidate = l;
    not_after = subst (λ z. IsNotMinus z) (sym e) tt;
    holds = λ u m n. kept_above x u r Zero e tt m n;
  }
  reach_factor K true x r Plus e f k l = record {
    place = at r;
    is_candidate = l;
    not_after = subst (λ z. IsNotMinus z) (sym e) tt;
    holds = λ u m n. kept_above x u r Plus e tt m n;
  }
  reach_factor K false x r Zero e f k l = absurd f
  reach_factor K false x r Plus e f k l = record {
    place = above r;
    is_candidate = l;
    not_after = subst (λ z. IsPlus z) (sym e) tt;
    holds = λ u m n. or_left (is (s (difference o u r)) Plus) false m;
  }

  -- a product of signs keeps down to the first of its roots
  pub reach_product : (K : Place C → Type 0) (b : Bool) (x : C) (t : Sign) (rs : List C) → T (fits b (product F t rs x))
      → K below → Each (λ r. K (root_place b r)) rs → Reach o s K x (λ u. T (agrees b (product F t rs u) (product F t rs x)))
  reach_product K b x t [] f k l = reach_here k (λ u. agrees_self b t)
  reach_product K b x t (r ∷ rs) f k l = reach_then
      (reach_both (reach_factor K b x r (s (difference o x r)) refl (fits_left b (s (difference o x r)) (product F t rs x) f) k l.0)
      (reach_product K b x t rs (fits_right b (s (difference o x r)) (product F t rs x) f) k l.1))
      (λ u h. agrees_product b (s (difference o u r)) (s (difference o x r)) (product F t rs u) (product F t rs x) h.0 h.1)
