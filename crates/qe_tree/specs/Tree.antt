-- The tree of a block: its root and, below each node that has variables and does not fail, the
-- successors in order.
use Rattle.std.specs.Prelude.{ℕ, zero, suc, Bool, true, false, cond, List, [], ◌∷◌, ◌++◌, map, filter, flat_map, Option, Some, None}
use Rattle.std.specs.List.{list_any}
use Rattle.std.specs.Ordering.{is_eq}
use Rattle.qe_form.specs.Formula.{Formula, True, Or}
use Rattle.qe_form.specs.Tree.{trees_of}
use Rattle.qe_form.specs.Making.{is_true}
use Rattle.qe_form.specs.Order.{formula_cmp}
use Rattle.qe_simp.specs.Simplified.{simplified}
use Rattle.qe_tree.specs.Variables.{remaining}
use Rattle.qe_tree.specs.Expanded.{Expanded, Expansion, successors, failed}

-- a variable and the number of its test point
pub record Step : Type 0 where
  pub var : ℕ
  pub point : ℕ

-- a place in the tree: the steps to it from the root, and the formula that stands there
pub record Place : Type 0 where
  pub path : List Step
  pub form : Formula

abbrev pub is_empty : {A : Type 0} → List A → Bool
is_empty [] = true
is_empty (x ∷ xs) = false

-- what a block gives: a formula, or the steps to the first node that fails, and why
pub data Inner (F : Type 0) : Type 0 where
  form : Formula → Inner F
  node : List Step → F → Inner F

-- the step to each successor, and its formula
abbrev pub grown : {F : Type 0} → Expanded F → List (Step × Formula)
grown (failed s) = []
grown (successors x parts) = map (λ s. (record { var = x; point = s.0 }, s.1)) parts

abbrev pub failure_of : {F : Type 0} → Expanded F → Option F
failure_of (failed s) = Some s
failure_of (successors x parts) = None

-- a leaf is a node without variables
abbrev pub unless_leaf : {A : Type 0} → List ℕ → A → A → A
unless_leaf [] at_leaf otherwise = at_leaf
unless_leaf (x ∷ xs) at_leaf otherwise = otherwise

module _ {F : Type 0} (expand : Expansion F) (vars : List ℕ) where
  -- what becomes of the formula at a node
  abbrev pub expanded : Formula → Expanded F
  expanded f = expand.becomes (remaining vars f) f

  -- the height of the node of a formula
  abbrev pub height : Formula → ℕ
  height f = expand.height (remaining vars f) f

  -- the successors of a node, with the steps to them; a leaf has none
  abbrev pub below : Formula → List (Step × Formula)
  below f = unless_leaf (remaining vars f) [] (grown (expanded f))

  -- why a node fails; a leaf does not
  abbrev pub failure : Formula → Option F
  failure f = unless_leaf (remaining vars f) None (failure_of (expanded f))

  abbrev pub is_leaf : Formula → Bool
  is_leaf f = is_empty (remaining vars f)

  -- the places of the tree from a node on, depth first, down to so many steps
  abbrev pub walk : ℕ → List Step → Formula → List Place
  walk zero path f = record { path = path; form = f } ∷ []
  walk (suc n) path f = record { path = path; form = f } ∷ flat_map (λ s. walk n (path ++ s.0 ∷ []) s.1) (below f)

  -- the places of the whole tree, with repeats: each step lowers the height, so there are no more
  -- steps than the root's
  abbrev pub places : Formula → List Place
  places f = walk (height f) [] f

-- whether the formula is one of them
abbrev pub is_among : Formula → List Formula → Bool
is_among f fs = list_any (λ g. is_eq (formula_cmp f g)) fs

-- the first place of each formula that is not met before
abbrev pub first_places : List Formula → List Place → List Place
first_places met [] = []
first_places met (p ∷ ps) = cond (is_among p.form met) (first_places met ps) (p ∷ first_places (met ++ p.form ∷ []) ps)

module _ {F : Type 0} (expand : Expansion F) (vars : List ℕ) where
  -- the distinct nodes of the tree, each at its first place
  abbrev pub nodes : Formula → List Place
  nodes f = first_places [] (places expand vars f)

  -- the formulas of the leaves among places
  abbrev pub leaves : List Place → List Formula
  leaves ps = filter (is_leaf expand vars) (map (λ p. p.form) ps)

  -- the first place whose node fails
  abbrev pub or_fails : List Step → Option F → Option (List Step × F) → Option (List Step × F)
  or_fails path (Some s) others = Some (path, s)
  or_fails path None others = others

  abbrev pub first_failure : List Place → Option (List Step × F)
  first_failure [] = None
  first_failure (p ∷ ps) = or_fails p.path (failure expand vars p.form) (first_failure ps)

  abbrev pub or_form : Option (List Step × F) → Formula → Inner F
  or_form None f = form f
  or_form (Some e) f = node e.0 e.1

  -- a leaf is True; a True node has no variables
  abbrev pub has_true_leaf : List Place → Bool
  has_true_leaf ps = list_any (λ p. is_true p.form) ps

  -- True where a leaf is True; else the first node that fails; else the simplified Or of the leaves
  abbrev pub inner_of : List Place → Inner F
  inner_of ps = cond (has_true_leaf ps) (form True) (or_form (first_failure ps) (simplified (Or (trees_of (leaves ps)))))

  -- the inner result of the block, from its root's formula
  abbrev pub inner : Formula → Inner F
  inner f = inner_of (nodes f)
