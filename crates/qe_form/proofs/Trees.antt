-- Lists of forms as trees, for loops that go along one list and make another.
use Rattle.std.proofs.Common.{ℕ, zero, suc, ◌+◌, ◌≡◌, ◌<◌, ◌≤◌, refl, List, [], ◌∷◌, ◌++◌, ap, sym, ◌∙◌, arith, length, get_or, drop}
use Rattle.std.proofs.lemmas.List.{drop_all}
use Rattle.std.proofs.Math.Numerals.{add-one}
use Rattle.qe_form.specs.declared.form.Form.{Form}
use Rattle.qe_form.specs.declared.form.Form.TheVariants as code
use Rattle.qe_form.specs.declared.form.Form.TheOpen as layer
use Rattle.qe_form.specs.declared.form.Form.TheFolds.{fold-roll-Form}
use Rattle.qe_form.specs.Formula.{Formula, Formulas, And, Or, more, no_more}
use Rattle.qe_form.specs.Tree.{tree, tree_step, trees, followed}
use Rattle.qe_form.specs.Fed.{size}

followed-push : (fs : List Form) (f : Form) (ts : Formulas) → followed (fs ++ f ∷ []) ts ≡ followed fs (more (tree f) ts)
followed-push [] f ts = refl
followed-push (g ∷ fs) f ts = ap (more (tree g)) (followed-push fs f ts)

followed-no_more : (fs : List Form) → followed fs no_more ≡ trees fs
followed-no_more [] = refl
followed-no_more (g ∷ fs) = ap (more (tree g)) (followed-no_more fs)

left_suc : (fs : List Form) (i : ℕ) (f : Form) → i < length fs → f ≡ get_or fs i f → trees (drop i fs) ≡ more (tree f) (trees (drop (suc i) fs))
left_suc [] i f h e = absurd (omega arith)
left_suc (g ∷ fs) zero f h e = λ j. more (tree (sym e j)) (trees fs)
left_suc (g ∷ fs) (suc i) f h e = left_suc fs i f (omega arith) e

-- what is left of fs from i on, where f stands at i
pub left_at : (fs : List Form) (i : ℕ) (f : Form) → i < length fs → f ≡ get_or fs i f → trees (drop i fs) ≡ more (tree f) (trees (drop (i + 1) fs))
left_at fs i f h e = rw add-one (left_suc fs i f h e)

-- nothing is left past the end
pub left_none : (fs : List Form) (i : ℕ) → length fs ≤ i → trees (drop i fs) ≡ no_more
left_none fs i h = ap trees (drop_all i fs h)

-- one turn of a loop that makes, of each part of a list, the next part of another: t is the tree of the part made in this turn, n
pub made_more : (out new : List Form) (n : Form) (t : Formula) (before after all : Formulas) → new ≡ out ++ n ∷ [] → tree n ≡ t → before ≡ more t after → followed out before ≡ all → followed new after ≡ all
made_more out new n t before after all w s r inv =
    ap (λ fs. followed fs after) w ∙ followed-push out n after ∙ ap (λ u. followed out (more u after)) s ∙ ap (followed out) (sym r) ∙ inv

-- the end of such a loop
pub made_all : (out : List Form) (left all : Formulas) → left ≡ no_more → followed out left ≡ all → trees out ≡ all
made_all out left all e inv = sym (followed-no_more out) ∙ ap (followed out) (sym e) ∙ inv

-- the number of parts
pub size_trees : (fs : List Form) → length fs ≡ size (trees fs)
size_trees [] = refl
size_trees (f ∷ fs) = ap suc (size_trees fs)

-- ---- the tree of a list

pub tree_and : (fs : List Form) → tree (code.And fs) ≡ And (trees fs)
tree_and fs = ap tree (sym (code.rolls-And fs)) ∙ fold-roll-Form Formula tree_step (layer.Form-F.And fs)

pub tree_or : (fs : List Form) → tree (code.Or fs) ≡ Or (trees fs)
tree_or fs = ap tree (sym (code.rolls-Or fs)) ∙ fold-roll-Form Formula tree_step (layer.Form-F.Or fs)

-- ---- one more at the end

abbrev pub appended : Formulas → Formula → Formulas
appended no_more t = more t no_more
appended (more u us) t = more u (appended us t)

pub trees_push : (fs : List Form) (f : Form) → trees (fs ++ f ∷ []) ≡ appended (trees fs) (tree f)
trees_push [] f = refl
trees_push (g ∷ fs) f = ap (more (tree g)) (trees_push fs f)
