-- The names that are free in a text.
use Rattle.std.specs.Prelude.{ℕ, ◌↔◌, Bool, cond, List, [], ◌∷◌, ◌++◌, map}
use Rattle.std.specs.List.{list_any, Contains}
use Rattle.std.specs.List.Sorted.{IsStrictlySortedBy}
use Rattle.qe_token.specs.declared.token.Name.{Name}
use Rattle.qe_syntax.specs.Tree.{TermTree, Number, Variable, Negative, Power, Sum, Product, Addends, no_addend, addend, Factors, no_factor, factor}
use Rattle.qe_syntax.specs.Tree as syntax
use Rattle.qe_syntax.specs.Tree.{FormulaTree, FormulaTrees}
use Rattle.qe_read.specs.Names.{Letters, letters, letters_cmp, is_same}

-- one of the names around has the same letters
abbrev pub is_bound : List ℕ → List Name → Name → Bool
is_bound text around x = list_any (λ y. is_same (letters text y) (letters text x)) around

-- the names in a term that are not bound, in the order of the text
abbrev mutual
  pub free_in : List ℕ → List Name → TermTree → List Name
  free_in text around (Number n) = []
  free_in text around (Variable x) = cond (is_bound text around x) [] (x ∷ [])
  free_in text around (Negative t) = free_in text around t
  free_in text around (Power t p n) = free_in text around t
  free_in text around (Sum t us) = free_in text around t ++ free_in_addends text around us
  free_in text around (Product t us) = free_in text around t ++ free_in_factors text around us

  pub free_in_addends : List ℕ → List Name → Addends → List Name
  free_in_addends text around no_addend = []
  free_in_addends text around (addend p minus t us) = free_in text around t ++ free_in_addends text around us

  pub free_in_factors : List ℕ → List Name → Factors → List Name
  free_in_factors text around no_factor = []
  free_in_factors text around (factor p t us) = free_in text around t ++ free_in_factors text around us

-- the names in a formula that neither it nor what is around it binds, in the order of the text
abbrev mutual
  pub free_names : List ℕ → List Name → FormulaTree → List Name
  free_names text around syntax.True = []
  free_names text around syntax.False = []
  free_names text around (syntax.Atom t p r u) = free_in text around t ++ free_in text around u
  free_names text around (syntax.And fs) = free_names_each text around fs
  free_names text around (syntax.Or fs) = free_names_each text around fs
  free_names text around (syntax.Not f) = free_names text around f
  free_names text around (syntax.Implies f g) = free_names text around f ++ free_names text around g
  free_names text around (syntax.Iff f g) = free_names text around f ++ free_names text around g
  free_names text around (syntax.Ex x f) = free_names text (around ++ x ∷ []) f
  free_names text around (syntax.All x f) = free_names text (around ++ x ∷ []) f

  pub free_names_each : List ℕ → List Name → FormulaTrees → List Name
  free_names_each text around syntax.no_more = []
  free_names_each text around (syntax.more f fs) = free_names text around f ++ free_names_each text around fs

-- The letters of these names, each once, in the order of their bytes.
pub record AreLettersOf (text : List ℕ) (names : List Name) (free : List Letters) : Type 0 where
  pub sorted : IsStrictlySortedBy letters_cmp free
  pub each : (w : Letters) → Contains free w ↔ Contains (map (letters text) names) w
