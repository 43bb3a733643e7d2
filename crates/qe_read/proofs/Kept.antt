-- The names that are free in a tree and those that are bound are among its names.
use Rattle.std.proofs.Common.{ℕ, zero, suc, ◌+◌, ◌≤◌, List, [], ◌∷◌, ◌++◌, length, length-append, Bool, true, false, cond, arith}
use Rattle.std.specs.List.{AllByRecursion, All}
use Rattle.qe_token.specs.declared.token.Name.{Name}
use Rattle.qe_syntax.specs.Tree as tree
use Rattle.qe_syntax.specs.Tree.{TermTree, Addends, no_addend, addend, Factors, no_factor, factor, FormulaTree, FormulaTrees, no_more, more}
use Rattle.qe_read.specs.FreeNames.{is_bound, free_in, free_in_addends, free_in_factors, free_names, free_names_each}
use Rattle.qe_read.specs.Formula.{bound_names, names_bound_in}
use Rattle.qe_read.proofs.Named.{all_in, all_in_addends, all_in_factors, all_names, all_names_each}

module _ (P : Name → Type 0) where
  abbrev pub Each : List Name → Type 0
  Each = AllByRecursion P

  pub append : (xs ys : List Name) → Each xs → Each ys → Each (xs ++ ys)
  append [] ys p q = q
  append (x ∷ xs) ys p q = (p.0, append xs ys p.1 q)

  pub front : (xs ys : List Name) → Each (xs ++ ys) → Each xs
  front [] ys p = tt
  front (x ∷ xs) ys p = (p.0, front xs ys p.1)

  pub behind : (xs ys : List Name) → Each (xs ++ ys) → Each ys
  behind [] ys p = p
  behind (x ∷ xs) ys p = behind xs ys p.1

  -- xs are some of ys
  record Among (xs ys : List Name) : Type 0 where
    each : Each ys → Each xs
    few : length xs ≤ length ys

  among_append : (xs ys us vs : List Name) → Among xs ys → Among us vs → Among (xs ++ us) (ys ++ vs)
  among_append xs ys us vs a b = record {
    each = λ p. append xs us (a.each (front ys vs p)) (b.each (behind ys vs p));
    few = omega (arith, length-append xs us, length-append ys vs, a.few, b.few);
  }

  one : (b : Bool) (x : Name) → Among (cond b [] (x ∷ [])) (x ∷ [])
  one true x = record { each = λ p. tt; few = omega arith }
  one false x = record { each = λ p. p; few = omega arith }

  none : Among [] []
  none = record { each = λ p. tt; few = omega arith }

  mutual
    free_among : (text : List ℕ) (around : List Name) (t : TermTree) → Among (free_in text around t) (all_in t)
    free_among text around (tree.Number n) = none
    free_among text around (tree.Variable x) = one (is_bound text around x) x
    free_among text around (tree.Negative t) = free_among text around t
    free_among text around (tree.Power t p n) = free_among text around t
    free_among text around (tree.Sum t us) = among_append _ _ _ _ (free_among text around t) (free_addends text around us)
    free_among text around (tree.Product t us) = among_append _ _ _ _ (free_among text around t) (free_factors text around us)

    free_addends : (text : List ℕ) (around : List Name) (us : Addends) → Among (free_in_addends text around us) (all_in_addends us)
    free_addends text around no_addend = none
    free_addends text around (addend p m t us) = among_append _ _ _ _ (free_among text around t) (free_addends text around us)

    free_factors : (text : List ℕ) (around : List Name) (us : Factors) → Among (free_in_factors text around us) (all_in_factors us)
    free_factors text around no_factor = none
    free_factors text around (factor p t us) = among_append _ _ _ _ (free_among text around t) (free_factors text around us)

  -- xs and zs are some of ys, and no more than ys together
  record Parted (xs zs ys : List Name) : Type 0 where
    free : Each ys → Each xs
    bound : Each ys → Each zs
    few : length xs + length zs ≤ length ys

  parted_append : (xs zs ys us ws vs : List Name) → Parted xs zs ys → Parted us ws vs → Parted (xs ++ us) (zs ++ ws) (ys ++ vs)
  parted_append xs zs ys us ws vs a b = record {
    free = λ p. append xs us (a.free (front ys vs p)) (b.free (behind ys vs p));
    bound = λ p. append zs ws (a.bound (front ys vs p)) (b.bound (behind ys vs p));
    few = omega (arith, length-append xs us, length-append zs ws, length-append ys vs, a.few, b.few);
  }

  parted_more : (x : Name) (xs zs ys : List Name) → Parted xs zs ys → Parted xs (x ∷ zs) (x ∷ ys)
  parted_more x xs zs ys a = record { free = λ p. a.free p.1; bound = λ p. (p.0, a.bound p.1); few = omega (arith, a.few) }

  parted_free : (xs ys : List Name) → Among xs ys → Parted xs [] ys
  parted_free xs ys a = record { free = a.each; bound = λ p. tt; few = omega (arith, a.few) }

  mutual
    parted : (text : List ℕ) (around : List Name) (f : FormulaTree) → Parted (free_names text around f) (bound_names f) (all_names f)
    parted text around tree.True = parted_free [] [] none
    parted text around tree.False = parted_free [] [] none
    parted text around (tree.Atom t p r u) = parted_free _ _ (among_append _ _ _ _ (free_among text around t) (free_among text around u))
    parted text around (tree.And fs) = parted_each text around fs
    parted text around (tree.Or fs) = parted_each text around fs
    parted text around (tree.Not f) = parted text around f
    parted text around (tree.Implies f g) = parted_append _ _ _ _ _ _ (parted text around f) (parted text around g)
    parted text around (tree.Iff f g) = parted_append _ _ _ _ _ _ (parted text around f) (parted text around g)
    parted text around (tree.Ex x f) = parted_more x _ _ _ (parted text (around ++ x ∷ []) f)
    parted text around (tree.All x f) = parted_more x _ _ _ (parted text (around ++ x ∷ []) f)

    parted_each : (text : List ℕ) (around : List Name) (fs : FormulaTrees) → Parted (free_names_each text around fs) (names_bound_in fs) (all_names_each fs)
    parted_each text around no_more = parted_free [] [] none
    parted_each text around (more f fs) = parted_append _ _ _ _ _ _ (parted text around f) (parted_each text around fs)

  by_index : (xs : List Name) → Each xs → All P xs
  by_index [] p k d h = absurd (omega arith)
  by_index (x ∷ xs) p zero d h = p.0
  by_index (x ∷ xs) p (suc k) d h = by_index xs p.1 k d (omega arith)

  pub free_each : (text : List ℕ) (f : FormulaTree) → Each (all_names f) → All P (free_names text [] f)
  free_each text f p = by_index (free_names text [] f) ((parted text [] f).free p)

  pub bound_each : (f : FormulaTree) → Each (all_names f) → All P (bound_names f)
  bound_each f p = by_index (bound_names f) ((parted [] [] f).bound p)

  pub few_names : (text : List ℕ) (f : FormulaTree) → length (free_names text [] f) + length (bound_names f) ≤ length (all_names f)
  few_names text f = (parted text [] f).few
