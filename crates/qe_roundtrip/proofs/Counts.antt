-- A formula has as many atoms, constants and quantifiers as begin in the text that stands for it.
use Rattle.std.proofs.Common.{ℕ, ◌+◌, ◌≡◌, refl, ap, List, [], ◌∷◌, ◌++◌}
use Rattle.qe_token.specs.declared.token.Name.{Name}
use Rattle.qe_syntax.specs.Tree as tree
use Rattle.qe_syntax.specs.Tree.{FormulaTree, FormulaTrees}
use Rattle.qe_form.specs.Formula.{Formula, Formulas}
use Rattle.qe_form.specs.Measures.{count, count_each}
use Rattle.qe_read.specs.declared.scope.Binder.{Binder}
use Rattle.qe_read.specs.Names.{Letters, variable}
use Rattle.qe_read.specs.Value.{value, subtracted}
use Rattle.qe_read.specs.Formula.{bound_names, binder, formula, formulas}
use Rattle.qe_read.proofs.Numbers.{Gives, gives_next, gives_equal}
use Rattle.qe_roundtrip.proofs.Begun.{begun_in, begun_each}

module _ (text : List ℕ) (free : List Letters) where
  abbrev Counts : FormulaTree → Formula → Type 0
  Counts t g = begun_in t ≡ count g

  abbrev CountsEach : FormulaTrees → Formulas → Type 0
  CountsEach ts gs = begun_each ts ≡ count_each gs

  mutual
    pub counts : (enclosing : List Binder) (bound : List Name) (t : FormulaTree) → Gives (λ g. begun_in t ≡ count g) (formula text free enclosing bound t)
    counts enclosing bound tree.True = refl
    counts enclosing bound tree.False = refl
    counts enclosing bound (tree.Atom t p r u) =
        gives_equal (Counts (tree.Atom t p r u)) (value (variable text free enclosing) t) _ (λ a ea.
        gives_equal (Counts (tree.Atom t p r u)) (value (variable text free enclosing) u) _ (λ b eb.
        gives_equal (Counts (tree.Atom t p r u)) (subtracted p a b) _ (λ d ed. refl)))
    counts enclosing bound (tree.And fs) = gives_next (CountsEach fs) (Counts (tree.And fs)) (formulas text free enclosing bound fs) _ (counts_each enclosing bound fs) (λ gs k. k)
    counts enclosing bound (tree.Or fs) = gives_next (CountsEach fs) (Counts (tree.Or fs)) (formulas text free enclosing bound fs) _ (counts_each enclosing bound fs) (λ gs k. k)
    counts enclosing bound (tree.Not f) = gives_next (Counts f) (Counts (tree.Not f)) (formula text free enclosing bound f) _ (counts enclosing bound f) (λ g k. k)
    counts enclosing bound (tree.Implies f g) =
        gives_next (Counts f) (Counts (tree.Implies f g)) (formula text free enclosing bound f) _ (counts enclosing bound f) (λ a k.
        gives_next (Counts g) (Counts (tree.Implies f g)) (formula text free enclosing (bound ++ bound_names f) g) _ (counts enclosing (bound ++ bound_names f) g) (λ b l. (λ i. k i + l i)))
    counts enclosing bound (tree.Iff f g) =
        gives_next (Counts f) (Counts (tree.Iff f g)) (formula text free enclosing bound f) _ (counts enclosing bound f) (λ a k.
        gives_next (Counts g) (Counts (tree.Iff f g)) (formula text free enclosing (bound ++ bound_names f) g) _ (counts enclosing (bound ++ bound_names f) g) (λ b l. (λ i. k i + l i)))
    counts enclosing bound (tree.Ex y f) =
        gives_next (Counts f) (Counts (tree.Ex y f)) (formula text free (enclosing ++ binder free bound y ∷ []) (bound ++ y ∷ []) f) _ (counts (enclosing ++ binder free bound y ∷ []) (bound ++ y ∷ []) f) (λ g k. ap (λ n. 1 + n) k)
    counts enclosing bound (tree.All y f) =
        gives_next (Counts f) (Counts (tree.All y f)) (formula text free (enclosing ++ binder free bound y ∷ []) (bound ++ y ∷ []) f) _ (counts (enclosing ++ binder free bound y ∷ []) (bound ++ y ∷ []) f) (λ g k. ap (λ n. 1 + n) k)

    counts_each : (enclosing : List Binder) (bound : List Name) (fs : FormulaTrees) → Gives (λ gs. begun_each fs ≡ count_each gs) (formulas text free enclosing bound fs)
    counts_each enclosing bound tree.no_more = refl
    counts_each enclosing bound (tree.more f fs) =
        gives_next (Counts f) (CountsEach (tree.more f fs)) (formula text free enclosing bound f) _ (counts enclosing bound f) (λ a k.
        gives_next (CountsEach fs) (CountsEach (tree.more f fs)) (formulas text free enclosing (bound ++ bound_names f) fs) _ (counts_each enclosing (bound ++ bound_names f) fs) (λ b l. (λ i. k i + l i)))
