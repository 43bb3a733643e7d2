-- The clauses of a generated formula, made one after another.
use Rattle.std.proofs.Common.{ℕ, ◌+◌, ◌≡◌, sym, ap, ◌∙◌, List, [], ◌∷◌, ◌++◌, map}
use Rattle.std.proofs.lemmas.List.{map-append}
use Rattle.std.proofs.Math.Numerals.{add-one}
use Rattle.qe_form.specs.declared.form.Form.{Form}
use Rattle.qe_form.specs.declared.form.Form.TheVariants as code
use Rattle.qe_form.specs.Formula.{Formula, And}
use Rattle.qe_form.specs.Tree.{tree, trees_of}
use Rattle.qe_form.specs.Making.{either}
use Rattle.qe_form.proofs.Trees.{tree_and}
use Rattle.qe_gen.specs.Generated.{clause, matrix, numbers_below}

-- the Or of two formulas that are given by their trees
pub either_of : (f g h k l : Formula) → l ≡ either f g → f ≡ h → g ≡ k → l ≡ either h k
either_of f g h k l e left right = e ∙ ap (λ t. either t g) left ∙ ap (λ t. either h t) right

-- one clause more
pub clause_more : (number k : ℕ) (old new : List Form) (f : Form) → new ≡ old ++ f ∷ [] → tree f ≡ clause number k
    → map tree old ≡ map (clause number) (numbers_below k) → map tree new ≡ map (clause number) (numbers_below (k + 1))
clause_more number k old new f e is before =
    rw add-one (ap (map tree) e ∙ map-append tree old (f ∷ []) ∙ ap (λ ts. ts ++ tree f ∷ []) before ∙ ap (λ t. map (clause number) (numbers_below k) ++ t ∷ []) is
    ∙ sym (map-append (clause number) (numbers_below k) (k ∷ [])))

-- all eight
pub clause_all : (number k : ℕ) (parts : List Form) → k ≡ 8
    → map tree parts ≡ map (clause number) (numbers_below k) → tree (code.And parts) ≡ matrix number
unfolding matrix
clause_all number k parts all are = tree_and parts ∙ ap (λ ts. And (trees_of ts)) (are ∙ ap (λ n. map (clause number) (numbers_below n)) all)
