-- The prenex form of a formula, and what is known of it.
use Rattle.std.specs.Prelude.{ℕ, ◌-◌, ◌^◌, ◌<◌, ◌≤◌, ◌≡◌, List, [], length, nat_eq, Result, Ok, Err}
use Rattle.std.specs.List.{IsDistinct, Contains, All}
use Rattle.qe_form.specs.Formula.{Formula}
use Rattle.qe_form.specs.Tree.{tree}
use Rattle.qe_form.specs.Same.{IsFree}
use Rattle.qe_form.specs.Measures.{count}
use Rattle.qe_form.specs.Numbered.{Occurs}
use Rattle.qe_norm.specs.declared.blocks.Prenex.{Prenex}
use Rattle.qe_norm.specs.declared.blocks.NormStop.{NormStop}
use Rattle.qe_norm.specs.declared.blocks.NormStop.TheVariants.{TooLarge, OutOfMemory}
use Rattle.qe_form.specs.Blocks.{under_blocks, bound_by}
use Rattle.qe_norm.specs.declared.polarity.Polarity.TheVariants.{Positive}
use Rattle.qe_norm.specs.NormalForm.{normal_form}
use Rattle.qe_norm.specs.Numbering.{Walked, numbered, start}
use Rattle.qe_norm.specs.Blocks.{prefix, matrix, grouped}

-- the normal form with a variable of its own for each quantifier, and the names of all variables
abbrev pub numbered_form : Formula → List (List ℕ) → Formula × Walked
numbered_form f names = numbered (normal_form Positive f) [] (start names)

-- The prenex form: the quantifiers of the walk in blocks, the rest as the matrix, and the names.
pub record IsPrenexOf (f : Formula) (given : List (List ℕ)) (p : Prenex) : Type 0 where
  pub blocks : p.blocks.items ≡ grouped (prefix (numbered_form f given).0)
  pub matrix : tree p.matrix ≡ matrix (numbered_form f given).0
  pub names : p.names ≡ (numbered_form f given).1.names

-- how many atoms, constants and quantifiers the prenex form has: as many as the normal form
abbrev pub prenex_size : Formula → ℕ
prenex_size f = count (normal_form Positive f)

-- The prenex form where it has at most 65,536 atoms, constants and quantifiers, and else 65,537; or
-- out of memory in place of either.
abbrev pub Answers : Formula → List (List ℕ) → Result Prenex NormStop → Type 0
Answers f names (Ok p) = (prenex_size f ≤ 65536) × IsPrenexOf f names p
Answers f names (Err (TooLarge n)) = (65536 < prenex_size f) × (n ≡ 65537)
Answers f names (Err OutOfMemory) = Unit {0}

-- what a prenex form stands for
abbrev pub stands_for : Prenex → Formula
stands_for p = under_blocks p.blocks.items (tree p.matrix)

-- Each variable has a name, none stands twice in the blocks or is free there, no block is longer
-- than 65,536 and there are fewer than 2^32 - 1 blocks.
pub record IsWellNumbered (p : Prenex) : Type 0 where
  pub below : (x : ℕ) → Occurs x (stands_for p) → x < length p.names
  pub own : IsDistinct nat_eq (bound_by p.blocks.items)
  pub bound : (x : ℕ) → Contains (bound_by p.blocks.items) x → IsFree x (stands_for p) → ⊥
  pub short : All (λ b. length b.vars ≤ 65536) p.blocks.items
  pub few : length p.blocks.items < 2 ^ 32 - 1
