-- The variables of a list that pass a test, found one after another.
use Rattle.std.proofs.Common.{◌≢◌, ◌^◌, filter, subst, ℕ, ◌<◌, ◌≤◌, ◌≡◌, ◌∙◌, sym, ap, refl, Bool, true, false, cond, List, [], ◌∷◌, map, length, arith}
use Rattle.std.specs.Prelude.{AllPairs, eqb, not, ◌&&◌}
use lib.Pointwise.{pointwise}
use Rattle.std.proofs.lemmas.List.Kept.{AllPairs-filter}
use Rattle.std.proofs.lemmas.List.{length-map}
use Rattle.std.proofs.lemmas.Bool.{eqb-true}
use Rattle.qe_poly.specs.declared.monomial.Var.{Var}
use Rattle.qe_form.specs.Formula.{Formula}
use Rattle.qe_form.specs.Measures.{Has, count}
use Rattle.qe_form.specs.Plain.{IsPlainAndProper}
use Rattle.qe_form.specs.Measures.{occurs}
use Rattle.qe_tree.specs.Variables.{remaining}
use Rattle.qe_form.proofs.Occurring.{occurs_is_has}
use Rattle.qe_node.specs.Node.{IsNode}
use Rattle.qe_node.specs.Answer.{others}
use Rattle.qe_node.specs.lemmas.Piece.{filtered_short}

-- the numbers of variables
abbrev pub numbers : List Var → List ℕ
numbers vs = map (λ v. v.0) vs

-- ---- variables and their numbers

pub same_numbers : (test : Var → Var → Bool) → ((u v : Var) → test u v ≡ eqb u.0 v.0) → (us vs : List Var) → pointwise test us vs ≡ pointwise eqb (numbers us) (numbers vs)
same_numbers test same [] [] = refl
same_numbers test same [] (v ∷ vs) = refl
same_numbers test same (u ∷ us) [] = refl
same_numbers test same (u ∷ us) (v ∷ vs) = λ i. same u v i && same_numbers test same us vs i

-- ---- what is left is distinct, and nothing more goes

filter-again : (p : ℕ → Bool) (xs : List ℕ) → filter p (filter p xs) ≡ filter p xs
filter-again p [] = refl
filter-again p (x ∷ xs) = by_test (filter-again p xs) (p x) refl
  where
    by_test : filter p (filter p xs) ≡ filter p xs → (b : Bool) → p x ≡ b → filter p (cond b (x ∷ filter p xs) (filter p xs)) ≡ cond b (x ∷ filter p xs) (filter p xs)
    by_test later true test = ap (λ b. cond b (x ∷ filter p (filter p xs)) (filter p (filter p xs))) test ∙ ap (λ ys. x ∷ ys) later
    by_test later false test = later

-- there are as many numbers as variables
length-numbers : (vs : List Var) → length (numbers vs) ≡ length vs
length-numbers vs = length-map vs (λ v. v.0)

-- the node of a formula
pub node_of : (vs : List Var) (f : Formula) (left : List ℕ) (g : Formula) → left ≡ remaining (numbers vs) f → g ≡ f → AllPairs (λ x y. x ≢ y) (numbers vs) → length vs ≤ 65536 → IsPlainAndProper f → count f < 2 ^ 50
    → IsNode (record { vars = left; form = g })
node_of vs f left g is same distinct short proper small =
    subst (λ xs. IsNode (record { vars = xs; form = g })) (sym is) (subst (λ h. IsNode (record { vars = remaining (numbers vs) f; form = h })) (sym same)
    (record {
      distinct = AllPairs-filter (λ x y. x ≢ y) (λ x. occurs x f) (numbers vs) distinct;
      short = let most = filtered_short (λ x. occurs x f) (numbers vs) in let all = length-numbers vs in omega arith;
      occurring = filter-again (λ x. occurs x f) (numbers vs);
      proper = proper;
      small = small;
    }))

-- no more variables are left of those other than one
pub others_short : (x : ℕ) (vars left : List Var) → numbers left ≡ others x (numbers vars) → length vars ≤ 65536 → length left ≤ 65536
others_short x vars left is short =
    let most = filtered_short (λ y. not (eqb y x)) (numbers vars) in
    let few : length (numbers left) ≡ length (others x (numbers vars)) = ap length is in
    let of_left = length-numbers left in
    let of_vars = length-numbers vars in
    omega arith

-- ---- what is left of the variables of a successor

left_twice : (p q r : ℕ → Bool) → ((y : ℕ) → p y ≡ true → (q y ≡ true) × (r y ≡ true)) → (xs : List ℕ) → filter p (filter q (filter r xs)) ≡ filter p xs
left_twice p q r passes [] = refl
left_twice p q r passes (x ∷ xs) = by_tests (left_twice p q r passes xs) (p x) (r x) (q x) refl refl refl
  where
    rest : List ℕ
    rest = filter r xs

    by_tests : filter p (filter q rest) ≡ filter p xs → (a b c : Bool) → p x ≡ a → r x ≡ b → q x ≡ c → filter p (filter q (cond b (x ∷ rest) rest)) ≡ cond a (x ∷ filter p xs) (filter p xs)
    by_tests again true true true e k l = ap (λ t. filter p (cond t (x ∷ filter q rest) (filter q rest))) l ∙ (ap (λ t. cond t (x ∷ filter p (filter q rest)) (filter p (filter q rest))) e ∙ ap (λ ys. x ∷ ys) again)
    by_tests again true true false e k l = absurd (let w = (passes x e).0 in cc)
    by_tests again true false c e k l = absurd (let w = (passes x e).1 in cc)
    by_tests again false true true e k l = ap (λ t. filter p (cond t (x ∷ filter q rest) (filter q rest))) l ∙ (ap (λ t. cond t (x ∷ filter p (filter q rest)) (filter p (filter q rest))) e ∙ again)
    by_tests again false true false e k l = ap (λ t. filter p (cond t (x ∷ filter q rest) (filter q rest))) l ∙ again
    by_tests again false false c e k l = again

pub left_of_successor : (vars : List ℕ) (f g : Formula) (x : ℕ) → ((y : ℕ) → Has y g → Has y f × (y ≢ x)) → remaining (others x (remaining vars f)) g ≡ remaining vars g
left_of_successor vars f g x fewer = left_twice (λ y. occurs y g) (λ y. not (eqb y x)) (λ y. occurs y f) passes vars
  where
    other : (y : ℕ) → y ≢ x → (b : Bool) → eqb y x ≡ b → not b ≡ true
    other y apart true e = absurd (apart (eqb-true y x e))
    other y apart false e = refl

    passes : (y : ℕ) → occurs y g ≡ true → (not (eqb y x) ≡ true) × (occurs y f ≡ true)
    passes y e = let w = fewer y ((occurs_is_has y g).0 e) in (other y w.1 (eqb y x) refl, (occurs_is_has y f).1 w.0)

-- the variables other than one are distinct too
pub others_distinct : (x : ℕ) (vars left : List ℕ) → left ≡ others x vars → AllPairs (λ x y. x ≢ y) vars → AllPairs (λ x y. x ≢ y) left
others_distinct x vars left is distinct = subst (λ xs. AllPairs (λ (y : ℕ) z. y ≢ z) xs) (sym is) (AllPairs-filter (λ y z. y ≢ z) (λ y. not (eqb y x)) vars distinct)
