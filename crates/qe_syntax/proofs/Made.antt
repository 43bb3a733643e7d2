-- The tree of a term that is made.
use Rattle.std.proofs.Common.{◌≡◌, ℕ, Bool, List, [], ◌∷◌, ◌++◌, refl, sym, ap, ◌∙◌, map, length, ◌<◌, arith}
use Rattle.std.specs.declared.boxed.Box.{Box}
use Rattle.std.specs.declared.alloc.Global.{Global}
use Rattle.qe_token.specs.declared.token.Name.{Name}
use Rattle.qe_syntax.specs.declared.tree.Term.{Term}
use Rattle.qe_syntax.specs.declared.tree.Addend.{Addend}
use Rattle.qe_syntax.specs.declared.tree.Factor.{Factor}
use Rattle.qe_syntax.specs.declared.tree.Term.TheVariants as term
use Rattle.qe_syntax.specs.declared.tree.Term.TheVariants.{rolls-Number, rolls-Name, rolls-Negative, rolls-Power, rolls-Sum, rolls-Product}
use Rattle.qe_syntax.specs.declared.tree.Term.TheOpen as layer
use Rattle.qe_syntax.specs.declared.tree.Term.TheViews.{roll-Addend, roll-Factor}
use Rattle.qe_syntax.specs.declared.tree.Term.TheFolds.{fold-roll-Term, fold-roll-Addend, fold-roll-Factor}
use Rattle.qe_syntax.specs.Tree as tree
use Rattle.qe_syntax.specs.Tree.{TermTree}
use Rattle.qe_syntax.specs.Code.{AddendTree, FactorTree, term_of, addend_of, factor_of, addends_of, factors_of, term_step, addend_step, factor_step}
use Rattle.qe_syntax.specs.Grammar.{sum_of, product_of}

pub made_number : (n : ℕ) → term_of (term.Number n) ≡ tree.Number n
made_number n = ap term_of (sym (rolls-Number n)) ∙ fold-roll-Term TermTree AddendTree FactorTree term_step addend_step factor_step (layer.Term-F.Number n)

pub made_name : (x : Name) → term_of (term.Name x) ≡ tree.Variable x
made_name x = ap term_of (sym (rolls-Name x)) ∙ fold-roll-Term TermTree AddendTree FactorTree term_step addend_step factor_step (layer.Term-F.Name x)

pub made_negative : (b : Box Term Global) (t : Term) → b.value ≡ t → term_of (term.Negative b) ≡ tree.Negative (term_of t)
made_negative b t e = ap term_of (sym (rolls-Negative b)) ∙ fold-roll-Term TermTree AddendTree FactorTree term_step addend_step factor_step (layer.Term-F.Negative b) ∙ ap (λ (u : Term). tree.Negative (term_of u)) e

pub made_power : (b : Box Term Global) (t : Term) (p n : ℕ) → b.value ≡ t → term_of (term.Power b p n) ≡ tree.Power (term_of t) p n
made_power b t p n e = ap term_of (sym (rolls-Power b p n)) ∙ fold-roll-Term TermTree AddendTree FactorTree term_step addend_step factor_step (layer.Term-F.Power b p n) ∙ ap (λ (u : Term). tree.Power (term_of u) p n) e

sums : (t : TermTree) (xs : List Addend) → 0 < length xs → tree.Sum t (addends_of (map addend_of xs)) ≡ sum_of t (addends_of (map addend_of xs))
sums t [] h = absurd (omega arith)
sums t (x ∷ xs) h = refl

pub made_sum : (b : Box Term Global) (t : Term) (xs : List Addend) → b.value ≡ t → 0 < length xs → term_of (term.Sum b xs) ≡ sum_of (term_of t) (addends_of (map addend_of xs))
made_sum b t xs e h = ap term_of (sym (rolls-Sum b xs)) ∙ fold-roll-Term TermTree AddendTree FactorTree term_step addend_step factor_step (layer.Term-F.Sum b xs) ∙ ap (λ (u : Term). tree.Sum (term_of u) (addends_of (map addend_of xs))) e ∙ sums (term_of t) xs h

products : (t : TermTree) (xs : List Factor) → 0 < length xs → tree.Product t (factors_of (map factor_of xs)) ≡ product_of t (factors_of (map factor_of xs))
products t [] h = absurd (omega arith)
products t (x ∷ xs) h = refl

pub made_product : (b : Box Term Global) (t : Term) (xs : List Factor) → b.value ≡ t → 0 < length xs → term_of (term.Product b xs) ≡ product_of (term_of t) (factors_of (map factor_of xs))
made_product b t xs e h = ap term_of (sym (rolls-Product b xs)) ∙ fold-roll-Term TermTree AddendTree FactorTree term_step addend_step factor_step (layer.Term-F.Product b xs) ∙ ap (λ (u : Term). tree.Product (term_of u) (factors_of (map factor_of xs))) e ∙ products (term_of t) xs h

pub none_summed : (t : TermTree) (xs : List Addend) → length xs ≡ 0 → t ≡ sum_of t (addends_of (map addend_of xs))
none_summed t [] h = refl
none_summed t (x ∷ xs) h = absurd (omega arith)

pub none_multiplied : (t : TermTree) (xs : List Factor) → length xs ≡ 0 → t ≡ product_of t (factors_of (map factor_of xs))
none_multiplied t [] h = refl
none_multiplied t (x ∷ xs) h = absurd (omega arith)

pub pushed_addend : (xs ys : List Addend) (p : ℕ) (m : Bool) (t : Term) → ys ≡ xs ++ roll-Addend (record { place = p; minus = m; term = t }) ∷ [] → map addend_of ys ≡ map addend_of xs ++ (p, m, term_of t) ∷ []
pushed_addend xs ys p m t e = ap (map addend_of) e ∙ mapped xs
  where
    mapped : (xs : List Addend) → map addend_of (xs ++ roll-Addend (record { place = p; minus = m; term = t }) ∷ []) ≡ map addend_of xs ++ (p, m, term_of t) ∷ []
    mapped [] = ap (λ (a : AddendTree). a ∷ []) (fold-roll-Addend TermTree AddendTree FactorTree term_step addend_step factor_step (record { place = p; minus = m; term = t }))
    mapped (x ∷ xs) = ap (λ (ys : List AddendTree). addend_of x ∷ ys) (mapped xs)

pub pushed_factor : (xs ys : List Factor) (p : ℕ) (t : Term) → ys ≡ xs ++ roll-Factor (record { place = p; term = t }) ∷ [] → map factor_of ys ≡ map factor_of xs ++ (p, term_of t) ∷ []
pushed_factor xs ys p t e = ap (map factor_of) e ∙ mapped xs
  where
    mapped : (xs : List Factor) → map factor_of (xs ++ roll-Factor (record { place = p; term = t }) ∷ []) ≡ map factor_of xs ++ (p, term_of t) ∷ []
    mapped [] = ap (λ (a : FactorTree). a ∷ []) (fold-roll-Factor TermTree AddendTree FactorTree term_step addend_step factor_step (record { place = p; term = t }))
    mapped (x ∷ xs) = ap (λ (ys : List FactorTree). factor_of x ∷ ys) (mapped xs)
