-- Lists of entries in the order of their monomials, from the greatest to the least.
use Rattle.std.proofs.Common.{◌≡◌, refl, sym, ap, subst, ◌∙◌, Bool, true, false, cond, T, ◌&&◌, List, [], ◌∷◌, Option, Some, None, map, ◌++◌}
use Rattle.std.specs.declared.cmp.Ordering.{Ordering}
use Rattle.std.specs.declared.cmp.Ordering.TheVariants.{Less, Equal, Greater}
use Rattle.std.specs.Ordering.{is_lt, is_eq, ordering_reverse, eq_by_cmp}
use Rattle.std.specs.FinMap.Entries.{find, is_sorted, below_all}
use Rattle.qe_poly.specs.Monomial.{Monomial, in_turn}
use Rattle.qe_poly.proofs.Order.{turn_total, turn_same}

-- ---- facts of each item of a list

abbrev pub Each : {X : Type 0} → (X → Type 0) → List X → Type 0
Each P [] = Unit {0}
Each P (x ∷ xs) = P x × Each P xs

pub Each-append : {X : Type 0} (P : X → Type 0) (xs ys : List X) → Each P xs → Each P ys → Each P (xs ++ ys)
Each-append P [] ys left right = right
Each-append P (x ∷ xs) ys left right = (left.0, Each-append P xs ys left.1 right)

-- ---- tests as facts

both : (a b : Bool) → T a → T b → T (a && b)
both true b p q = q
both false b p q = p

first : (a b : Bool) → T (a && b) → T a
first true b p = tt
first false b p = p

second : (a b : Bool) → T (a && b) → T b
second true b p = p
second false b p = absurd p

less : (r : Ordering) → T (is_lt r) → r ≡ Less
less Less p = refl
less Equal p = absurd p
less Greater p = absurd p

pub equal : (r : Ordering) → T (is_eq r) → r ≡ Equal
equal Less p = absurd p
equal Equal p = refl
equal Greater p = absurd p

-- a test of ties that holds tells equal monomials
pub tied : (m n : Monomial) → eq_by_cmp in_turn m n ≡ true → m ≡ n
tied m n tie = turn_same m n (equal (in_turn m n) (subst T (sym tie) tt))

pub less_back : (m n : Monomial) → in_turn m n ≡ Greater → in_turn n m ≡ Less
less_back m n after = turn_total.antisymm n m ∙ ap ordering_reverse after

-- ---- the parts of a sorted list

module _ {X : Type 0} where
  pub below_first : (m : Monomial) (e : Monomial × X) (es : List (Monomial × X)) → T (below_all in_turn m (e ∷ es)) → in_turn m e.0 ≡ Less
  below_first m e es below = less (in_turn m e.0) (first (is_lt (in_turn m e.0)) (below_all in_turn m es) below)

  pub below_rest : (m : Monomial) (e : Monomial × X) (es : List (Monomial × X)) → T (below_all in_turn m (e ∷ es)) → T (below_all in_turn m es)
  below_rest m e es below = second (is_lt (in_turn m e.0)) (below_all in_turn m es) below

  pub below_cons : (m : Monomial) (e : Monomial × X) (es : List (Monomial × X)) → in_turn m e.0 ≡ Less → T (below_all in_turn m es) → T (below_all in_turn m (e ∷ es))
  below_cons m e es before below = both (is_lt (in_turn m e.0)) (below_all in_turn m es) (subst (λ r. T (is_lt r)) (sym before) tt) below

  pub sorted_first : (e : Monomial × X) (es : List (Monomial × X)) → T (is_sorted in_turn (e ∷ es)) → T (below_all in_turn e.0 es)
  sorted_first e es sorted = first (below_all in_turn e.0 es) (is_sorted in_turn es) sorted

  pub sorted_rest : (e : Monomial × X) (es : List (Monomial × X)) → T (is_sorted in_turn (e ∷ es)) → T (is_sorted in_turn es)
  sorted_rest e es sorted = second (below_all in_turn e.0 es) (is_sorted in_turn es) sorted

  pub sorted_cons : (e : Monomial × X) (es : List (Monomial × X)) → T (below_all in_turn e.0 es) → T (is_sorted in_turn es) → T (is_sorted in_turn (e ∷ es))
  sorted_cons e es below sorted = both (below_all in_turn e.0 es) (is_sorted in_turn es) below sorted

  pub below_before : (m n : Monomial) (es : List (Monomial × X)) → in_turn m n ≡ Less → T (below_all in_turn n es) → T (below_all in_turn m es)
  below_before m n [] before below = tt
  below_before m n (e ∷ es) before below =
      below_cons m e es (turn_total.trans m n e.0 before (below_first n e es below)) (below_before m n es before (below_rest n e es below))

  -- a monomial before the first of a sorted list is before all
  pub below_sorted : (m : Monomial) (e : Monomial × X) (es : List (Monomial × X)) → in_turn m e.0 ≡ Less → T (is_sorted in_turn (e ∷ es)) → T (below_all in_turn m (e ∷ es))
  below_sorted m e es before sorted = below_cons m e es before (below_before m e.0 es before (sorted_first e es sorted))

  -- ---- what is found in it

  pub find_below : (m : Monomial) (es : List (Monomial × X)) → T (below_all in_turn m es) → find in_turn m es ≡ None
  find_below m [] below = refl
  find_below m (e ∷ es) below =
      ap (λ r. cond (is_eq r) (Some e.1) (find in_turn m es)) (below_first m e es below) ∙ find_below m es (below_rest m e es below)

  -- a monomial that ties with one before all is not found
  pub find_before : (m n : Monomial) (es : List (Monomial × X)) → eq_by_cmp in_turn m n ≡ true → T (below_all in_turn n es) → find in_turn m es ≡ None
  find_before m n es tie below = find_below m es (subst (λ k. T (below_all in_turn k es)) (sym (tied m n tie)) below)

-- ---- new values under the same monomials

module _ {X Y : Type 0} (f : Monomial × X → Y) where
  abbrev pub under_keys : List (Monomial × X) → List (Monomial × Y)
  under_keys es = map (λ e. (e.0, f e)) es

  below-under_keys : (m : Monomial) (es : List (Monomial × X)) → T (below_all in_turn m es) → T (below_all in_turn m (under_keys es))
  below-under_keys m [] below = tt
  below-under_keys m (e ∷ es) below = below_cons m (e.0, f e) (under_keys es) (below_first m e es below) (below-under_keys m es (below_rest m e es below))

  pub is_sorted-under_keys : (es : List (Monomial × X)) → T (is_sorted in_turn es) → T (is_sorted in_turn (under_keys es))
  is_sorted-under_keys [] sorted = tt
  is_sorted-under_keys (e ∷ es) sorted = sorted_cons (e.0, f e) (under_keys es) (below-under_keys e.0 es (sorted_first e es sorted)) (is_sorted-under_keys es (sorted_rest e es sorted))

  pub Each-under_keys : (P : Monomial → Type 0) (es : List (Monomial × X)) → Each (λ e. P e.0) es → Each (λ e. P e.0) (under_keys es)
  Each-under_keys P [] each = tt
  Each-under_keys P (e ∷ es) each = (each.0, Each-under_keys P es each.1)

  abbrev pub new_value : Monomial → Option X → Option Y
  new_value m None = None
  new_value m (Some x) = Some (f (m, x))

  pub find-under_keys : (m : Monomial) (es : List (Monomial × X)) → find in_turn m (under_keys es) ≡ new_value m (find in_turn m es)
  find-under_keys m [] = refl
  find-under_keys m (e ∷ es) =
      elim (eq_by_cmp in_turn m e.0) as (λ b. eq_by_cmp in_turn m e.0 ≡ b → cond b (Some (f e)) (find in_turn m (under_keys es)) ≡ new_value m (cond b (Some e.1) (find in_turn m es))) [
        | true ↦ λ tie. ap (λ k. Some (f (k, e.1))) (sym (tied m e.0 tie))
        | false ↦ λ apart. find-under_keys m es
      ] refl
