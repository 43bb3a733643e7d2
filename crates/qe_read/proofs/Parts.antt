-- Formulas in order, for a loop that goes along one list and makes another.
use Rattle.std.proofs.Common.{ℕ, zero, suc, ◌+◌, ◌^◌, ◌≡◌, ◌<◌, ◌≤◌, refl, sym, ap, subst, ◌∙◌, List, [], ◌∷◌, ◌++◌, append_assoc, length, length-append, map, get_or, drop, arith, Result, Ok, Err}
use Rattle.std.proofs.lemmas.List.{append-nil, drop_all}
use Rattle.std.proofs.Math.Numerals.{add-one}
use Rattle.qe_token.specs.declared.token.Name.{Name}
use Rattle.qe_syntax.specs.declared.tree.Formula.{Formula}
use Rattle.qe_syntax.proofs.tree.Formula.TheLaws.{the_size}
use denote.Param.Weighed.{at_most, most}
use Rattle.qe_syntax.specs.Tree.{FormulaTree, FormulaTrees, no_more, more}
use Rattle.qe_syntax.specs.Code.{tree_of, as_parts}
use Rattle.qe_form.specs.declared.form.Form.{Form}
use Rattle.qe_form.specs.Formula as form
use Rattle.qe_form.specs.Formula.{Formulas}
use Rattle.qe_form.specs.Tree.{tree, trees, followed}
use Rattle.qe_read.specs.declared.value.Met.{Met}
use Rattle.qe_read.specs.declared.scope.Binder.{Binder}
use Rattle.qe_read.specs.Names.{Letters}
use Rattle.qe_read.specs.Value.{proceed}
use Rattle.qe_read.specs.Formula.{bound_names, names_bound_in, formula, formulas}

abbrev pub left : List Formula → ℕ → FormulaTrees
left fs i = as_parts (map tree_of (drop i fs))

left_suc : (fs : List Formula) (i : ℕ) (f : Formula) → i < length fs → f ≡ get_or fs i f → left fs i ≡ more (tree_of f) (left fs (suc i))
left_suc [] i f h e = absurd (omega arith)
left_suc (g ∷ fs) zero f h e = λ j. more (tree_of (sym e j)) (as_parts (map tree_of fs))
left_suc (g ∷ fs) (suc i) f h e = left_suc fs i f (omega arith) e

-- what is left from i on, where f stands at i
pub left_at : (fs : List Formula) (i : ℕ) (f : Formula) → i < length fs → f ≡ get_or fs i f → left fs i ≡ more (tree_of f) (left fs (i + 1))
left_at fs i f h e = rw add-one (left_suc fs i f h e)

-- nothing is left past the end
pub left_none : (fs : List Formula) (i : ℕ) → length fs ≤ i → left fs i ≡ no_more
left_none fs i h = ap (λ gs. as_parts (map tree_of gs)) (drop_all i fs h)

-- no part is deeper than the deepest
pub part_size : (fs : List Formula) (i : ℕ) (f : Formula) → i < length fs → f ≡ get_or fs i f → the_size f ≤ most the_size fs
part_size fs i f h e =
    let r : the_size (get_or fs i f) ≤ most the_size fs = at_most {X = Formula} the_size fs i f h in
    subst (λ g. the_size g ≤ most the_size fs) (sym e) r

-- the numbers that the rest takes leave room for those of its first formula
pub room : (bound start all : List Name) (count : ℕ) (t : FormulaTree) (rest before : FormulaTrees) → before ≡ more t rest
    → bound ++ names_bound_in before ≡ start ++ all → count + length start + length all < 2 ^ 32 → count + length bound + length (bound_names t) < 2 ^ 32
room bound start all count t rest before e inv h =
    let total : length bound + (length (bound_names t) + length (names_bound_in rest)) ≡ length start + length all =
    sym (ap (λ n. length bound + n) (length-append (bound_names t) (names_bound_in rest))) ∙ sym (length-append bound (bound_names t ++ names_bound_in rest))
    ∙ ap length (ap (λ ts. bound ++ names_bound_in ts) (sym e) ∙ inv) ∙ length-append start all in
    omega arith

-- one more formula: `bound` and `named` are the bound names before it and after it
pub bound_once : (bound named goal : List Name) (t : FormulaTree) (rest before : FormulaTrees) → before ≡ more t rest → named ≡ bound ++ bound_names t
    → bound ++ names_bound_in before ≡ goal → named ++ names_bound_in rest ≡ goal
bound_once bound named goal t rest before e n inv =
    ap (λ ns. ns ++ names_bound_in rest) n ∙ append_assoc bound (bound_names t) (names_bound_in rest) ∙ ap (λ ts. bound ++ names_bound_in ts) (sym e) ∙ inv

followed-push : (fs : List Form) (f : Form) (ts : Formulas) → followed (fs ++ f ∷ []) ts ≡ followed fs (form.more (tree f) ts)
followed-push [] f ts = refl
followed-push (g ∷ fs) f ts = ap (form.more (tree g)) (followed-push fs f ts)

followed-no_more : (fs : List Form) → followed fs form.no_more ≡ trees fs
followed-no_more [] = refl
followed-no_more (g ∷ fs) = ap (form.more (tree g)) (followed-no_more fs)

all_followed : (fs : List Form) (f : Form) (v : Result Formulas Met) →
    proceed v (λ gs. Ok (followed (fs ++ f ∷ []) gs)) ≡ proceed (proceed v (λ gs. Ok (form.more (tree f) gs))) (λ gs. Ok (followed fs gs))
all_followed fs f (Ok gs) = ap Ok (followed-push fs f gs)
all_followed fs f (Err met) = refl

pub made_once : (text : List ℕ) (free : List Letters) (enclosing around : List Binder) (bound named : List Name) (fs made : List Form) (f : Form) (t : FormulaTree)
    (rest before : FormulaTrees) (goal : Result Formulas Met) → before ≡ more t rest → named ≡ bound ++ bound_names t → made ≡ fs ++ f ∷ [] → around ≡ enclosing
    → formula text free around bound t ≡ Ok (tree f)
    → proceed (formulas text free enclosing bound before) (λ gs. Ok (followed fs gs)) ≡ goal
    → proceed (formulas text free enclosing named rest) (λ gs. Ok (followed made gs)) ≡ goal
made_once text free enclosing around bound named fs made f t rest before goal e n m a v inv =
    let at_first : formulas text free enclosing bound (more t rest) ≡ proceed (formulas text free enclosing (bound ++ bound_names t) rest) (λ gs. Ok (form.more (tree f) gs)) =
    ap (λ r. proceed r (λ g. proceed (formulas text free enclosing (bound ++ bound_names t) rest) (λ gs. Ok (form.more g gs)))) (ap (λ b. formula text free b bound t) (sym a) ∙ v) in
    ap (λ ns. proceed (formulas text free enclosing ns rest) (λ gs. Ok (followed made gs))) n
    ∙ ap (λ ms. proceed (formulas text free enclosing (bound ++ bound_names t) rest) (λ gs. Ok (followed ms gs))) m
    ∙ all_followed fs f (formulas text free enclosing (bound ++ bound_names t) rest)
    ∙ ap (λ r. proceed r (λ gs. Ok (followed fs gs))) (sym at_first)
    ∙ ap (λ ts. proceed (formulas text free enclosing bound ts) (λ gs. Ok (followed fs gs))) (sym e)
    ∙ inv

-- where nothing is left
pub bound_none : (bound goal : List Name) (rest : FormulaTrees) → rest ≡ no_more → bound ++ names_bound_in rest ≡ goal → bound ≡ goal
bound_none bound goal rest e inv = sym (append-nil bound) ∙ ap (λ ts. bound ++ names_bound_in ts) (sym e) ∙ inv

pub made_all : (text : List ℕ) (free : List Letters) (enclosing : List Binder) (bound : List Name) (fs : List Form) (rest : FormulaTrees) (goal : Result Formulas Met)
    → rest ≡ no_more → proceed (formulas text free enclosing bound rest) (λ gs. Ok (followed fs gs)) ≡ goal → goal ≡ Ok (trees fs)
made_all text free enclosing bound fs rest goal e inv =
    sym inv ∙ ap (λ ts. proceed (formulas text free enclosing bound ts) (λ gs. Ok (followed fs gs))) e ∙ ap Ok (followed-no_more fs)
