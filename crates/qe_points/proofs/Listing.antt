-- The polynomials of the atoms, each once, as they are gathered one after another.
use Rattle.std.proofs.Common.{◌≡◌, ◌∙◌, sym, ap, refl, Bool, true, false, not, cond, List, [], ◌∷◌, ◌++◌, append_assoc}
use Rattle.std.specs.Prelude.{◌&&◌, ◌||◌, Option, Some, None, is_some}
use Rattle.std.specs.List.{filter, list_any}
use Rattle.std.specs.Map.{lookup}
use Rattle.std.proofs.lemmas.List.{append-nil}
use Rattle.std.proofs.lemmas.List.Folds.{list_any-append}
use Rattle.qe_poly.specs.Polynomial.{Polynomial}
use Rattle.qe_poly.specs.Equal.{poly_eq, poly_tells, poly_eq_equiv}
use Rattle.qe_points.specs.Candidates.{Numbered, distinct, with_one}

-- ---- filters

module _ {X : Type 0} where
  filter_step : (f : X → Bool) (x : X) (xs : List X) (b : Bool) → f x ≡ b → filter f (x ∷ xs) ≡ cond b (x ∷ filter f xs) (filter f xs)
  filter_step f x xs b h = ap (λ b. cond b (x ∷ filter f xs) (filter f xs)) h

  filter_all : (f : X → Bool) (xs : List X) → ((x : X) → f x ≡ true) → filter f xs ≡ xs
  filter_all f [] h = refl
  filter_all f (x ∷ xs) h = filter_step f x xs true (h x) ∙ ap (λ ys. x ∷ ys) (filter_all f xs h)

  -- the tests agree
  filter_alike : (f g : X → Bool) (xs : List X) → ((x : X) → f x ≡ g x) → filter f xs ≡ filter g xs
  filter_alike f g [] h = refl
  filter_alike f g (x ∷ xs) h = filter_step f x xs (g x) (h x) ∙ ap (λ ys. cond (g x) (x ∷ ys) ys) (filter_alike f g xs h)

  filter_both : (f g : X → Bool) (xs : List X) → filter f (filter g xs) ≡ filter (λ x. g x && f x) xs
  filter_both f g [] = refl
  filter_both f g (x ∷ xs) =
      elim (g x) as (λ b. filter f (cond b (x ∷ filter g xs) (filter g xs)) ≡ cond (b && f x) (x ∷ filter (λ x. g x && f x) xs) (filter (λ x. g x && f x) xs)) [
        | true ↦ ap (λ ys. cond (f x) (x ∷ ys) ys) (filter_both f g xs)
        | false ↦ filter_both f g xs
      ]

-- ---- each at its first place

-- entries, and then one more for each of the others that is not there
abbrev pub entered : List Numbered → List Numbered → List Numbered
entered gs [] = gs
entered gs (h ∷ hs) = entered (with_one gs h) hs

abbrev has_poly : Polynomial → List Numbered → Bool
has_poly q gs = list_any (λ (g : Numbered). poly_eq q g.0) gs

abbrev is_new : List Numbered → Numbered → Bool
is_new gs h = not (has_poly h.0 gs)

abbrev others : Numbered → List Numbered → List Numbered
others h hs = filter (λ k. not (poly_eq h.0 k.0)) (distinct hs)

de_morgan : (a b : Bool) → not (a || (b || false)) ≡ (not b && not a)
de_morgan true true = refl
de_morgan true false = refl
de_morgan false true = refl
de_morgan false false = refl

-- one more entry takes its own polynomial out of those that are new
is_new_after : (gs : List Numbered) (p q : Numbered) → is_new (gs ++ p ∷ []) q ≡ (not (poly_eq p.0 q.0) && is_new gs q)
is_new_after gs p q =
    ap not (list_any-append (λ (g : Numbered). poly_eq q.0 g.0) gs (p ∷ []))
    ∙ (ap (λ b. not (has_poly q.0 gs || (b || false))) (poly_eq_equiv.symm q.0 p.0) ∙ de_morgan (has_poly q.0 gs) (poly_eq p.0 q.0))

-- a polynomial that is there takes nothing else away
found_alike : (gs : List Numbered) (p q : Numbered) → has_poly p.0 gs ≡ true → (not (poly_eq p.0 q.0) && is_new gs q) ≡ is_new gs q
found_alike gs p q found =
    elim (poly_eq p.0 q.0) as (λ b. poly_eq p.0 q.0 ≡ b → (not b && is_new gs q) ≡ is_new gs q) [
      | true ↦ λ same. ap not (sym (ap (λ r. has_poly r gs) (sym (poly_tells p.0 q.0 same)) ∙ found))
      | false ↦ λ other. refl
    ] refl

entered_are : (gs hs : List Numbered) → entered gs hs ≡ gs ++ filter (is_new gs) (distinct hs)
entered_are gs [] = sym (append-nil gs)
entered_are gs (h ∷ hs) =
    elim (has_poly h.0 gs) as (λ b. has_poly h.0 gs ≡ b → entered (cond b gs (gs ++ h ∷ [])) hs ≡ gs ++ filter (is_new gs) (h ∷ others h hs)) [
      | true ↦ λ found. entered_are gs hs ∙ ap (λ ks. gs ++ ks)
          (sym (filter_step (is_new gs) h (others h hs) false (ap not found)
          ∙ (filter_both (is_new gs) (λ k. not (poly_eq h.0 k.0)) (distinct hs) ∙ filter_alike _ _ (distinct hs) (λ k. found_alike gs h k found))))
      | false ↦ λ new. entered_are (gs ++ h ∷ []) hs
          ∙ (append_assoc gs (h ∷ []) _
          ∙ ap (λ ks. gs ++ ks)
          (ap (λ ks. h ∷ ks) (filter_alike _ _ (distinct hs) (λ k. is_new_after gs h k) ∙ sym (filter_both (is_new gs) (λ k. not (poly_eq h.0 k.0)) (distinct hs)))
          ∙ sym (filter_step (is_new gs) h (others h hs) true (ap not new))))
    ] refl

-- from nothing on, each is there once, at its first place
pub entered_first : (hs : List Numbered) → entered [] hs ≡ distinct hs
entered_first hs = entered_are [] hs ∙ filter_all (is_new []) (distinct hs) (λ h. refl)

-- ---- what a map finds

found_is : (q : Polynomial) (gs : List Numbered) → is_some (lookup (poly_eq q) gs) ≡ has_poly q gs
found_is q [] = refl
found_is q (g ∷ gs) = elim (poly_eq q g.0) as (λ b. is_some (cond b (Some g.1) (lookup (poly_eq q) gs)) ≡ (b || has_poly q gs)) [ true ↦ refl | false ↦ found_is q gs ]

-- a polynomial that is found stays as it is, and another goes last
pub with_found : (gs : List Numbered) (g : Numbered) → is_some (lookup (poly_eq g.0) gs) ≡ true → gs ≡ with_one gs g
with_found gs g found = ap (λ b. cond b gs (gs ++ g ∷ [])) (sym (sym (found_is g.0 gs) ∙ found))

pub with_new : (gs : List Numbered) (g : Numbered) → is_some (lookup (poly_eq g.0) gs) ≡ false → gs ++ g ∷ [] ≡ with_one gs g
with_new gs g new = ap (λ b. cond b gs (gs ++ g ∷ [])) (sym (sym (found_is g.0 gs) ∙ new))

pub none_found : {X : Type 0} (o : Option X) → is_some o ≡ false → o ≡ None
none_found (Some x) h = absurd (cc)
none_found None h = refl
