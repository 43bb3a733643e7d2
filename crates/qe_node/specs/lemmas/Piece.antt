-- What holds of nodes as pieces: only a leaf is true, and a successor has fewer variables.
use Rattle.std.specs.Prelude.{◌≡◌, refl, ℕ, ◌<◌, ◌≤◌, Bool, true, false, not, eqb, cond, List, [], ◌∷◌, filter, map, length, Option, Some, None, Result, Ok, Err}
use Rattle.std.specs.List.{All}
use Rattle.std.proofs.Common.{ap, sym, subst, inl, inr, arith}
use Rattle.std.proofs.lemmas.List.Elements.{All-nil, All-cons}
use Rattle.std.proofs.lemmas.Bool.{eq-eqb}
use Rattle.qe_ring.proofs.Bools.{both_hold}
use Rattle.qe_poly.specs.declared.monomial.Var.{Var}
use Rattle.qe_form.specs.Formula.{Formula}
use Rattle.qe_form.specs.Measures.{degree}
use Rattle.qe_halt.specs.Outcome.{or_else}
use Rattle.qe_points.specs.Choice.{first_of_degree, choice}
use Rattle.qe_points.specs.Candidates.{candidates}
use Rattle.qe_form.specs.Measures.{occurs}
use Rattle.qe_tree.specs.Variables.{remaining}
use Rattle.qe_tree.specs.Tree.{is_empty}
use Rattle.qe_tree.specs.Sound.{IsIn}
use Rattle.qe_piece.specs.Meaning.{Child, Descends}
use Rattle.qe_node.specs.declared.stop.NodeStop.{NodeStop}
use Rattle.qe_node.specs.key.Code.{variables_of, form_of, key, sight_key, sight_of}
use Rattle.qe_node.specs.Successors.{given_by, at_variable, at_choice, as_vars}
use Rattle.qe_node.specs.Answer.{others, below, with_nodes}
use Rattle.qe_node.specs.Piece.{is_leaf_node, is_true_node, height_of, by_keys, meaning_of}
use Rattle.qe_node.specs.lemmas.Code.{variables-key}

pub true_is_leaf : (k : List ℕ) → is_true_node (sight_of k) ≡ true → is_leaf_node (sight_of k) ≡ true
true_is_leaf k holds = (both_hold (is_empty (variables_of k)) _ holds).0

-- ---- fewer variables

pub filtered_short : (p : ℕ → Bool) (xs : List ℕ) → length (filter p xs) ≤ length xs
filtered_short p [] = omega arith
filtered_short p (x ∷ xs) = by (filtered_short p xs) (p x)
  where
    by : length (filter p xs) ≤ length xs → (b : Bool) → length (cond b (x ∷ filter p xs) (filter p xs)) ≤ length (x ∷ xs)
    by rest true = omega arith
    by rest false = omega arith

others_fewer : (x : ℕ) (xs : List ℕ) → IsIn x xs → length (others x xs) < length xs
others_fewer x [] h = absurd h
others_fewer x (y ∷ ys) h = elim h [
  | inl same ↦ subst (λ b. length (cond (not b) (y ∷ others x ys) (others x ys)) < length (y ∷ ys)) (sym (eq-eqb y x (sym same))) (let most = filtered_short (λ z. not (eqb z x)) ys in omega arith)
  | inr later ↦ by (others_fewer x ys later) (not (eqb y x))
]
  where
    by : length (others x ys) < length ys → (b : Bool) → length (cond b (y ∷ others x ys) (others x ys)) < length (y ∷ ys)
    by rest true = omega arith
    by rest false = omega arith

-- the chosen variable is one of them
first_in : (f : Formula) (n : ℕ) (xs : List ℕ) (v : Var) → first_of_degree f n (as_vars xs) ≡ Some v → IsIn v.0 xs
first_in f n [] v is = absurd (cc)
first_in f n (x ∷ xs) v is = by (first_in f n xs v) (eqb (degree x f) n) is
  where
    by : (first_of_degree f n (as_vars xs) ≡ Some v → IsIn v.0 xs) → (b : Bool) → cond b (Some (record { 0 = x })) (first_of_degree f n (as_vars xs)) ≡ Some v → IsIn v.0 (x ∷ xs)
    by later true e = inl (ap (λ o. elim o [ Some u ↦ u.0 | None ↦ 0 ]) (sym e))
    by later false e = inr (later e)

one_of_two : (o rest : Option Var) (v : Var) (P : Type 0) → (o ≡ Some v → P) → (rest ≡ Some v → P) → or_else o rest ≡ Some v → P
one_of_two (Some u) rest v P first second is = first is
one_of_two None rest v P first second is = second is

pub chosen_in : (f : Formula) (xs : List ℕ) (v : Var) → choice f (as_vars xs) ≡ Some v → IsIn v.0 xs
chosen_in f xs v is =
    one_of_two (first_of_degree f 0 (as_vars xs)) (or_else (first_of_degree f 1 (as_vars xs)) (first_of_degree f 2 (as_vars xs))) v (IsIn v.0 xs) (first_in f 0 xs v)
    (one_of_two (first_of_degree f 1 (as_vars xs)) (first_of_degree f 2 (as_vars xs)) v (IsIn v.0 xs) (first_in f 1 xs v) (first_in f 2 xs v)) is

-- ---- a successor has fewer

abbrev height : List ℕ → ℕ
height k = height_of (sight_of k)

each_less : (vars : List ℕ) (bound : ℕ) → length vars < bound → (parts : List (ℕ × Formula))
    → All (λ (child : Child). height child.key < bound) (map (λ s. record { point = s.0; key = sight_key s.1 }) (below vars parts))
each_less vars bound less [] = All-nil (λ (child : Child). height child.key < bound)
each_less vars bound less (s ∷ parts) =
    All-cons (λ (child : Child). height child.key < bound) (record { point = s.0; key = key (remaining vars s.1) s.1 }) (map (λ t. record { point = t.0; key = sight_key t.1 }) (below vars parts)) (subst (λ xs. length xs < bound) (sym (variables-key (remaining vars s.1) s.1)) (let most = filtered_short (λ x. occurs x s.1) vars in omega arith)) (each_less vars bound less parts)

descends_at : (vars : List ℕ) (f : Formula) (o : Option Var) → choice f (as_vars vars) ≡ o → Descends height (length vars) (by_keys (with_nodes vars (at_choice f o)))
descends_at vars f None is = tt
descends_at vars f (Some v) is = by (given_by v.0 f 0 (candidates v.0 f))
  where
    by : (r : Result (List (ℕ × Formula)) NodeStop) → Descends height (length vars) (by_keys (with_nodes vars (at_variable v.0 r)))
    by (Ok parts) = each_less (others v.0 vars) (length vars) (others_fewer v.0 vars (chosen_in f vars v is)) parts
    by (Err s) = tt

pub descends : (k : List ℕ) → is_leaf_node (sight_of k) ≡ false → Descends height (height k) (meaning_of (sight_of k))
descends k inner = descends_at (variables_of k) (form_of k) (choice (form_of k) (as_vars (variables_of k))) refl
