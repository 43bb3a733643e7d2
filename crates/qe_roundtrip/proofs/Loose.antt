-- The letters of the names that are free in a tree, and the binders around it.
use Rattle.std.proofs.Common.{ℕ, ◌≡◌, refl, sym, ap, ◌∙◌, Bool, true, false, ◌||◌, cond, List, [], ◌∷◌, ◌++◌, map, Some, None}
use Rattle.std.specs.List.{list_any}
use Rattle.std.specs.Option.{option_or}
use Rattle.std.proofs.lemmas.List.{map-append}
use Rattle.qe_token.specs.declared.token.Name.{Name}
use Rattle.qe_poly.specs.declared.monomial.Var.{Var}
use Rattle.qe_syntax.specs.Tree.{TermTree, Number, Variable, Negative, Power, Sum, Product, Addends, no_addend, addend, Factors, no_factor, factor}
use Rattle.qe_form.specs.Formula.{Formula, Formulas, True, False, Atom, And, Or, Not, Implies, Iff, Ex, All, no_more, more}
use Rattle.qe_read.specs.declared.scope.Binder.{Binder}
use Rattle.qe_read.specs.Names.{Letters, letters, is_same, bound_to, or_free, variable}
use Rattle.qe_read.specs.FreeNames.{is_bound, free_in, free_in_addends, free_in_factors}
use Rattle.qe_read.proofs.Named.{all_in, all_in_addends, all_in_factors}
use Rattle.qe_print.specs.Polynomial.{name_of}
use Rattle.qe_roundtrip.proofs.Legible.{Scope, found}
use Rattle.qe_roundtrip.proofs.PolynomialNames.{printed_names}

-- these without those that stand around
abbrev pub outside : List Letters → List Letters → List Letters
outside around [] = []
outside around (v ∷ vs) = cond (list_any (λ w. is_same w v) around) (outside around vs) (v ∷ outside around vs)

-- the names that are printed of a formula's polynomials without those that are bound there, in order
abbrev mutual
  pub loose : List Letters → List Letters → Formula → List Letters
  loose names around True = []
  loose names around False = []
  loose names around (Atom a) = outside around (printed_names names a.poly)
  loose names around (And fs) = loose_each names around fs
  loose names around (Or fs) = loose_each names around fs
  loose names around (Not f) = loose names around f
  loose names around (Implies f g) = loose names around f ++ loose names around g
  loose names around (Iff f g) = loose names around f ++ loose names around g
  loose names around (Ex x f) = loose names (around ++ name_of names x ∷ []) f
  loose names around (All x f) = loose names (around ++ name_of names x ∷ []) f

  pub loose_each : List Letters → List Letters → Formulas → List Letters
  loose_each names around no_more = []
  loose_each names around (more f fs) = loose names around f ++ loose_each names around fs

outside-append : (around vs ws : List Letters) → outside around (vs ++ ws) ≡ outside around vs ++ outside around ws
outside-append around [] ws = refl
outside-append around (v ∷ vs) ws =
    elim (list_any (λ w. is_same w v) around) as (λ b. cond b (outside around (vs ++ ws)) (v ∷ outside around (vs ++ ws)) ≡ cond b (outside around vs) (v ∷ outside around vs) ++ outside around ws) [
      | true ↦ outside-append around vs ws
      | false ↦ ap (λ l. v ∷ l) (outside-append around vs ws)
    ]

any-mapped : {X Y : Type 0} (f : X → Y) (p : Y → Bool) (xs : List X) → list_any (λ x. p (f x)) xs ≡ list_any p (map f xs)
any-mapped f p [] = refl
any-mapped f p (x ∷ xs) = ap (λ b. p (f x) || b) (any-mapped f p xs)

module _ (text : List ℕ) where
  -- the binders of a text, as their letters with their variables
  abbrev pub scope_of : List Binder → Scope
  scope_of bs = map (λ b. (letters text b.name, b.var)) bs

  pub found_in : (bs : List Binder) (w : Letters) → bound_to text bs w ≡ found (scope_of bs) w
  found_in [] w = refl
  found_in (b ∷ bs) w = ap (λ o. option_or o (cond (is_same (letters text b.name) w) (Some b.var) None)) (found_in bs w)

  pub variable_in : (free : List Letters) (bs : List Binder) (x : Name) → variable text free bs x ≡ or_free free (letters text x) (found (scope_of bs) (letters text x))
  variable_in free bs x = ap (or_free free (letters text x)) (found_in bs (letters text x))

  pub scope_of-push : (bs : List Binder) (b : Binder) → scope_of (bs ++ b ∷ []) ≡ scope_of bs ++ (letters text b.name, b.var) ∷ []
  scope_of-push bs b = map-append {B = Letters × Var} (λ b. (letters text b.name, b.var)) bs (b ∷ [])

  -- ---- the free names of a term

  module _ (around : List Name) where
    abbrev others : List Name → List Letters
    others ns = outside (map (letters text) around) (map (letters text) ns)

    one : (b : Bool) (x : Name) → list_any (λ w. is_same w (letters text x)) (map (letters text) around) ≡ b → map (letters text) (cond b [] (x ∷ [])) ≡ others (x ∷ [])
    one true x e = ap (λ b. cond b [] (letters text x ∷ [])) (sym e)
    one false x e = ap (λ b. cond b [] (letters text x ∷ [])) (sym e)

    both : (xs ys us vs : List Name) → map (letters text) xs ≡ others us → map (letters text) ys ≡ others vs → map (letters text) (xs ++ ys) ≡ others (us ++ vs)
    both xs ys us vs h k =
        map-append (letters text) xs ys ∙ (λ i. h i ++ k i)
        ∙ sym (ap (outside (map (letters text) around)) (map-append (letters text) us vs) ∙ outside-append (map (letters text) around) (map (letters text) us) (map (letters text) vs))

    mutual
      pub free_in-is : (t : TermTree) → map (letters text) (free_in text around t) ≡ outside (map (letters text) around) (map (letters text) (all_in t))
      free_in-is (Number n) = refl
      free_in-is (Variable x) = one (is_bound text around x) x (sym (any-mapped (letters text) (λ w. is_same w (letters text x)) around))
      free_in-is (Negative t) = free_in-is t
      free_in-is (Power t p n) = free_in-is t
      free_in-is (Sum t us) = both (free_in text around t) (free_in_addends text around us) (all_in t) (all_in_addends us) (free_in-is t) (free_in_addends-is us)
      free_in-is (Product t us) = both (free_in text around t) (free_in_factors text around us) (all_in t) (all_in_factors us) (free_in-is t) (free_in_factors-is us)

      free_in_addends-is : (us : Addends) → map (letters text) (free_in_addends text around us) ≡ outside (map (letters text) around) (map (letters text) (all_in_addends us))
      free_in_addends-is no_addend = refl
      free_in_addends-is (addend p m t us) = both (free_in text around t) (free_in_addends text around us) (all_in t) (all_in_addends us) (free_in-is t) (free_in_addends-is us)

      free_in_factors-is : (us : Factors) → map (letters text) (free_in_factors text around us) ≡ outside (map (letters text) around) (map (letters text) (all_in_factors us))
      free_in_factors-is no_factor = refl
      free_in_factors-is (factor p t us) = both (free_in text around t) (free_in_factors text around us) (all_in t) (all_in_factors us) (free_in-is t) (free_in_factors-is us)
