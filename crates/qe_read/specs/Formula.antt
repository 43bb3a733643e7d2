-- The formula that a tree stands for, or the first limit that an operation meets.
use Rattle.std.specs.Prelude.{ℕ, ◌≡◌, ◌+◌, ◌<◌, ◌^◌, List, [], ◌∷◌, ◌++◌, length, Result, Ok, Err}
use Rattle.qe_token.specs.declared.token.Name.{Name}
use Rattle.qe_token.specs.declared.token.Relation.{Relation}
use Rattle.qe_token.specs.declared.token.Relation.TheVariants as relation
use Rattle.qe_syntax.specs.Tree as syntax
use Rattle.qe_syntax.specs.Tree.{TermTree, FormulaTree, FormulaTrees}
use Rattle.qe_form.specs.declared.signs.Signs.{Signs}
use Rattle.qe_form.specs.Signs.{equal, not_equal, less, less_or_equal, greater, greater_or_equal}
use Rattle.qe_form.specs.Formula.{Formula, Formulas, True, False, Atom, And, Or, Not, Implies, Iff, Ex, All, no_more, more}
use Rattle.qe_read.specs.declared.value.Met.{Met}
use Rattle.qe_read.specs.declared.scope.Binder.{Binder}
use Rattle.qe_read.specs.declared.scope.Context.{Context}
use Rattle.qe_read.specs.declared.scope.Scope.{Scope}
use Rattle.qe_halt.specs.declared.halt.Halt.{Halt}
use Rattle.qe_halt.specs.declared.halt.Halt.TheVariants as halt
use Rattle.qe_read.specs.Names.{Letters, variable}
use Rattle.qe_read.specs.Value.{Value, proceed, value, subtracted}

-- the signs that the left term less the right one may have
abbrev pub relation_signs : Relation → Signs
relation_signs relation.Equal = equal
relation_signs relation.NotEqual = not_equal
relation_signs relation.Less = less
relation_signs relation.LessOrEqual = less_or_equal
relation_signs relation.Greater = greater
relation_signs relation.GreaterOrEqual = greater_or_equal

-- the names that the quantifiers bind, in the order of the text
abbrev mutual
  pub bound_names : FormulaTree → List Name
  bound_names syntax.True = []
  bound_names syntax.False = []
  bound_names (syntax.Atom t p r u) = []
  bound_names (syntax.And fs) = names_bound_in fs
  bound_names (syntax.Or fs) = names_bound_in fs
  bound_names (syntax.Not f) = bound_names f
  bound_names (syntax.Implies f g) = bound_names f ++ bound_names g
  bound_names (syntax.Iff f g) = bound_names f ++ bound_names g
  bound_names (syntax.Ex x f) = x ∷ bound_names f
  bound_names (syntax.All x f) = x ∷ bound_names f

  pub names_bound_in : FormulaTrees → List Name
  names_bound_in syntax.no_more = []
  names_bound_in (syntax.more f fs) = bound_names f ++ names_bound_in fs

-- the name, bound after these
abbrev pub binder : List Letters → List Name → Name → Binder
binder free bound x = record { name = x; var = record { 0 = length free + length bound } }

-- left and right term, and then their difference at the place of the relation
abbrev pub atom_value : ℕ → Relation → Value → Value → Result Formula Met
atom_value p r left right = proceed left (λ a. proceed right (λ b. proceed (subtracted p a b) (λ d. Ok (Atom (record { poly = d; signs = relation_signs r })))))

-- both, one after the other
abbrev pub pair_value : (Formula → Formula → Formula) → Result Formula Met → Result Formula Met → Result Formula Met
pair_value join left right = proceed left (λ f. proceed right (λ g. Ok (join f g)))

-- The formula of a tree, inside these binders; `bound` are the names that are bound before it in the text.
-- A variable that is bound has the next number after the free names and these.
abbrev mutual
  pub formula : List ℕ → List Letters → List Binder → List Name → FormulaTree → Result Formula Met
  formula text free enclosing bound syntax.True = Ok True
  formula text free enclosing bound syntax.False = Ok False
  formula text free enclosing bound (syntax.Atom t p r u) = atom_value p r (value (variable text free enclosing) t) (value (variable text free enclosing) u)
  formula text free enclosing bound (syntax.And fs) = proceed (formulas text free enclosing bound fs) (λ gs. Ok (And gs))
  formula text free enclosing bound (syntax.Or fs) = proceed (formulas text free enclosing bound fs) (λ gs. Ok (Or gs))
  formula text free enclosing bound (syntax.Not f) = proceed (formula text free enclosing bound f) (λ g. Ok (Not g))
  formula text free enclosing bound (syntax.Implies f g) = pair_value Implies (formula text free enclosing bound f) (formula text free enclosing (bound ++ bound_names f) g)
  formula text free enclosing bound (syntax.Iff f g) = pair_value Iff (formula text free enclosing bound f) (formula text free enclosing (bound ++ bound_names f) g)
  formula text free enclosing bound (syntax.Ex x f) = proceed (formula text free (enclosing ++ binder free bound x ∷ []) (bound ++ x ∷ []) f) (λ g. Ok (Ex (binder free bound x).var.0 g))
  formula text free enclosing bound (syntax.All x f) = proceed (formula text free (enclosing ++ binder free bound x ∷ []) (bound ++ x ∷ []) f) (λ g. Ok (All (binder free bound x).var.0 g))

  pub formulas : List ℕ → List Letters → List Binder → List Name → FormulaTrees → Result Formulas Met
  formulas text free enclosing bound syntax.no_more = Ok no_more
  formulas text free enclosing bound (syntax.more f fs) =
      proceed (formula text free enclosing bound f) (λ g. proceed (formulas text free enclosing (bound ++ bound_names f) fs) (λ gs. Ok (more g gs)))

-- ---- what a method of the reader does

-- there is room for these names, behind those that are free and those that are bound
abbrev pub HasRoom : Context → Scope → List Name → Type 0
HasRoom context scope names = length context.free.now + length scope.bound.items + length names < 2 ^ 32

abbrev pub formula_within : Context → Scope → FormulaTree → Result Formula Met
formula_within context scope = formula context.text.now context.free.now scope.enclosing.items scope.bound.items

abbrev pub formulas_within : Context → Scope → FormulaTrees → Result Formulas Met
formulas_within context scope = formulas context.text.now context.free.now scope.enclosing.items scope.bound.items

-- A call's result, as `seen` sees it, is this value; the binders around are as before, and these names are bound now.
-- Or there is a limit in its place; out of memory may come in place of either.
abbrev pub Yields : {A B : Type 0} → (B → A) → Result A Met → List Name → Result B (Halt Met) → Scope → Scope → Type 0
Yields seen exact names (Ok b) old new = record {
  is : exact ≡ Ok (seen b);
  enclosing : new.enclosing.items ≡ old.enclosing.items;
  bound : new.bound.items ≡ old.bound.items ++ names;
}
Yields seen exact names (Err (halt.Limit met)) old new = exact ≡ Err met
Yields seen exact names (Err halt.OutOfMemory) old new = Unit {0}
