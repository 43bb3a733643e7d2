-- The successors of a node are grown from it, and the expansion of nodes is sound.
use Rattle.std.proofs.Common.{arith, ℕ, ◌≡◌, ◌≢◌, ◌≤◌, ◌<◌, inl, inr, ap, refl, subst, List, [], ◌∷◌, map, length, Option, Some, None, Result, Ok, Err, IfSome}
use Rattle.qe_line.specs.Place as line
use Rattle.qe_poly.specs.declared.monomial.Var.{Var}
use Rattle.qe_poly.specs.Polynomial.{IsPolynomial}
use Rattle.qe_form.specs.Formula.{Formula, And, no_more, more}
use Rattle.qe_form.specs.Measures.{degree, count, Has}
use Rattle.qe_form.specs.Plain.{IsPlainAndProper}
use Rattle.qe_form.specs.Same.{IsFree, HasNoQuantifier}
use Rattle.qe_form.proofs.Occurring.{occurring_is_free}
use Rattle.qe_simp.specs.Simplified.{simplified}
use Rattle.qe_simp.specs.Meaning.{Keeps}
use Rattle.qe_simp.specs.Shape.{IsSimple, IsSimplified, EachAtom, IsCanonicalAtom}
use Rattle.qe_simp.proofs.Kept.{simplified_keeps}
use Rattle.qe_simp.proofs.Sizes.{simplified_size}
use Rattle.qe_simp.proofs.Shapes.{plain_weaker, plain_atoms, plain_no_quantifier, simplified_is, simplified_is_proper, simplified_no_quantifier}
use Rattle.qe_root.specs.Atoms.{atoms}
use Rattle.qe_points.specs.declared.candidate.Candidate.{Candidate}
use Rattle.qe_points.specs.declared.candidate.Candidate.TheVariants.{Root, MinusInf}
use Rattle.qe_points.specs.Choice.{choice, IsOneOf}
use Rattle.qe_points.specs.Candidates.{candidates}
use Rattle.qe_points.specs.Guard.{guard, root_guard, point_of, root_of_kind}
use Rattle.qe_points.specs.Guarded.{HasRoot, own, IsSound, IsOf, OccursInOwn}
use Rattle.qe_points.specs.Complete.{IsComplete}
use Rattle.qe_points.proofs.Choosing.{choice_is}
use Rattle.qe_points.proofs.Members as members
use Rattle.qe_points.proofs.Enough.{is_of, made_complete}
use Rattle.qe_points.proofs.Sound.{made_sound}
use Rattle.qe_subst.specs.Stop.{stop}
use Rattle.qe_subst.proofs.Truth.{substituted_means}
use Rattle.qe_subst.proofs.LeftOver.{made_left}
use Rattle.qe_tree.specs.Variables.{remaining}
use Rattle.qe_tree.specs.Expanded.{successors}
use Rattle.qe_tree.specs.Sound as tree
use Rattle.qe_tree.specs.Sound.{Each, IsIn, IsFine, forms_of, IsGrown}
use Rattle.qe_tree.proofs.Occurs.{fewer_left}
use Rattle.qe_tree.proofs.Growth.{fine_plain}
use Rattle.qe_node.specs.declared.stop.NodeStop.{NodeStop}
use Rattle.qe_node.specs.lemmas.Piece.{chosen_in}
use Rattle.qe_node.specs.Successors.{given_by, at_variable, at_choice, as_vars, expansion}
use Rattle.qe_node.proofs.Canonical.{IsOverPolynomial, substituted_fine, point_fine, guard_of_fine}
use Rattle.qe_node.proofs.Fine.{atoms_fine, candidates_fine}
use Rattle.qe_node.proofs.Candidates.{IsUsable, at_candidate, successor, told, each_given}
use Rattle.qe_node.proofs.Tries.{guard_small, substituted_small}

-- ---- fine formulas

fine_atoms : (f : Formula) → IsFine f → EachAtom IsCanonicalAtom f
fine_atoms f h = plain_atoms IsCanonicalAtom f h

pub simplified_fine : (f : Formula) → IsSimplified f → IsFine f
simplified_fine f h = plain_weaker IsSimple (λ a. IsPolynomial a.poly) (λ a k. k.primitive.canonical) f h.simple

pub fine_simplified : (f : Formula) → IsFine f → IsSimplified (simplified f)
fine_simplified f h = simplified_is f (fine_plain f h) (fine_atoms f h)

pub fine_keeps : (f : Formula) → IsFine f → Keeps f (simplified f)
fine_keeps f h = simplified_keeps f (fine_atoms f h)

-- ---- lists

each_of : {A : Type 0} (P : A → Type 0) (xs : List A) → ((x : A) → members.IsIn x xs → P x) → Each P xs
each_of P [] h = tt
each_of P (x ∷ xs) h = (h x (inl refl), each_of P xs (λ y i. h y (inr i)))

in_each : {A : Type 0} (P : A → Type 0) (xs : List A) → Each P xs → (x : A) → members.IsIn x xs → P x
in_each P [] h x i = absurd i
in_each P (y ∷ ys) h x i = elim i [ inl same ↦ subst P same h.0 | inr later ↦ in_each P ys h.1 x later ]

map_same : {A : Type 0} (xs : List A) → map (λ x. x) xs ≡ xs
map_same [] = refl
map_same (x ∷ xs) = ap (λ ys. x ∷ ys) (map_same xs)

both_each : {A : Type 0} (P Q R : A → Type 0) → ((x : A) → P x → Q x → R x) → (xs : List A) → Each P xs → Each Q xs → Each R xs
both_each P Q R join [] h k = tt
both_each P Q R join (x ∷ xs) h k = (join x h.0 k.0, both_each P Q R join xs h.1 k.1)

-- ---- guards and points

sound_candidate : (x : ℕ) (c : Candidate) → HasRoot x c → IsOverPolynomial c → IsSound x c (simplified (guard x c)) (point_of x c)
sound_candidate x (Root q n kind plus) has over =
    let fine = guard_of_fine x (Root q n kind plus) over in
    made_sound x q n kind plus (root_guard x q kind) (simplified (root_guard x q kind)) (point_of x (Root q n kind plus)) (root_of_kind x q kind) over has refl refl refl
    (fine_keeps (root_guard x q kind) fine) (λ plain. fine_simplified (root_guard x q kind) fine)
sound_candidate x MinusInf has over = record {
  plain = tt;
  there = λ p valid t. record { place = (line.below, tt); zero = λ k h. tt };
  guard-free = λ y h. absurd h;
  point-free = λ y h. absurd h;
}

complete : (x : ℕ) (f : Formula) → IsFine f → degree x f ≤ 2 → IsComplete x f (candidates x f)
complete x f fine low =
    made_complete (λ a. a) f (atoms f) (map_same (atoms f)) (members.all_in (λ a. IsPolynomial a.poly) (atoms f) (in_each (λ a. IsPolynomial a.poly) (atoms f) (atoms_fine f fine))) x (candidates x f) refl (fine_plain f fine) low

module _ (x : ℕ) (f : Formula) (fine : IsFine f) (proper : IsPlainAndProper f) (low : degree x f ≤ 2) where
  none : HasNoQuantifier f
  none = plain_no_quantifier f (fine_plain f fine)

  module _ (c : Candidate) (of : IsOf x f c) (over : IsOverPolynomial c) where
    guard_fine : IsFine (simplified (guard x c))
    guard_fine = simplified_fine (simplified (guard x c)) (fine_simplified (guard x c) (guard_of_fine x c over))

    at_fine : IsFine (at_candidate x f c)
    at_fine = substituted_fine x (point_of x c) (own c) (point_fine x c over) f fine

    joined_fine : IsFine (And (more (simplified (guard x c)) (more (at_candidate x f c) no_more)))
    joined_fine = (guard_fine, (at_fine, tt))

    usable : IsUsable x f c
    usable = record {
      guarded = sound_candidate x c of.root over;
      simple = (fine_keeps (guard x c) (guard_of_fine x c over)).agree;
      stands = substituted_means x (point_of x c) (own c) f low proper fine;
      kept = fine_keeps (And (more (simplified (guard x c)) (more (at_candidate x f c) no_more))) joined_fine;
    }

    good_successor : IsSimplified (successor x f c)
    good_successor = fine_simplified (And (more (simplified (guard x c)) (more (at_candidate x f c) no_more))) joined_fine

    has_free : (y : ℕ) (g : Formula) → HasNoQuantifier g → Has y g → IsFree y g
    has_free y g none h = (occurring_is_free y g none).0 h

    own_has : (y : ℕ) → (y ≢ x) × OccursInOwn y c → Has y f × (y ≢ x)
    own_has y h = ((occurring_is_free y f none).1 (of.free y h.1), h.0)

    fewer : (y : ℕ) → Has y (successor x f c) → Has y f × (y ≢ x)
    fewer y h = elim (usable.kept.free y (has_free y (successor x f c) (simplified_no_quantifier (successor x f c) good_successor) h)) [
      | inl in_guard ↦ own_has y (usable.guarded.guard-free y in_guard)
      | inr rest ↦ elim rest [
        | inl in_form ↦ elim (made_left x (point_of x c) (own c) f (at_candidate x f c) fine refl y in_form) [
          | inl stays ↦ ((occurring_is_free y f none).1 stays.1, stays.0)
          | inr at ↦ own_has y (usable.guarded.point-free y at)
        ]
        | inr none ↦ absurd none
      ]
    ]

  abbrev IsReady : Candidate → Type 0
  IsReady c = IsUsable x f c × (IsSimplified (successor x f c) × ((y : ℕ) → Has y (successor x f c) → Has y f × (y ≢ x)))

  small : (c : Candidate) → IsUsable x f c → stop x (point_of x c) (own c) f ≡ None → count (successor x f c) ≤ 65538
  small c u none =
      let most = u.kept.size in
      let few = simplified_size (guard x c) in
      let two = guard_small x c in
      let some = substituted_small x (point_of x c) (own c) f none in
      omega arith

  ready : Each IsReady (candidates x f)
  ready = both_each (IsOf x f) IsOverPolynomial IsReady (λ c of over. (usable c of over, (good_successor c of over, fewer c of over))) (candidates x f)
      (each_of (IsOf x f) (candidates x f) (is_of x f)) (candidates_fine x f fine)

  each_ready : {P : Candidate → Type 0} → ((c : Candidate) → IsReady c → P c) → Each P (candidates x f)
  each_ready {P} take = both_each IsReady IsReady P (λ c h k. take c h) (candidates x f) ready ready

  grown : (vars : List ℕ) (parts : List (ℕ × Formula)) → IsIn x vars → given_by x f 0 (candidates x f) ≡ Ok parts → IsGrown IsSimplified vars f x parts
  grown vars parts chosen is = record {
    chosen = chosen;
    good = each_given IsSimplified x f 0 (candidates x f) (each_ready (λ c h none. h.1.0)) parts is;
    fewer = each_given (λ g. (y : ℕ) → Has y g → Has y f × (y ≢ x)) x f 0 (candidates x f) (each_ready (λ c h none. h.1.1)) parts is;
    small = each_given (λ g. count g ≤ 65538) x f 0 (candidates x f) (each_ready (λ c h none. small c h.0 none)) parts is;
    truth = λ p valid.
        let all = (complete x f fine low).true_side p valid in
        let some = told x f p valid 0 (candidates x f) (each_ready (λ c h. h.0)) parts is in
        ((λ t. some.1 (all.0 t)), (λ t. all.1 (some.0 t)));
  }

at_choice_grown : (vars : List ℕ) (f : Formula) → IsFine f → IsPlainAndProper f → (o : Option Var) → choice f (as_vars vars) ≡ o → (x : ℕ) (parts : List (ℕ × Formula))
    → at_choice f o ≡ successors x parts → IsGrown IsSimplified vars f x parts
at_choice_grown vars f fine proper None chosen x parts is = absurd (cc)
at_choice_grown vars f fine proper (Some v) chosen x parts is = by_result (given_by v.0 f 0 (candidates v.0 f)) refl is
  where
    low : degree v.0 f ≤ 2
    low = let h : IfSome (Some v) (λ u. IsOneOf u (as_vars vars) × (degree u.0 f ≤ 2)) = subst (λ o. IfSome o (λ u. IsOneOf u (as_vars vars) × (degree u.0 f ≤ 2))) chosen (choice_is f (as_vars vars)) in h.1

    by_result : (r : Result (List (ℕ × Formula)) NodeStop) → given_by v.0 f 0 (candidates v.0 f) ≡ r → at_variable v.0 r ≡ successors x parts → IsGrown IsSimplified vars f x parts
    by_result (Ok ps) given same =
        let same_x : v.0 ≡ x = cc in
        let same_parts : ps ≡ parts = cc in
        subst (λ z. IsGrown IsSimplified vars f z parts) same_x (subst (λ qs. IsGrown IsSimplified vars f v.0 qs) same_parts (grown v.0 f fine proper low vars ps (chosen_in f vars v chosen) given))
    by_result (Err s) given same = absurd (cc)

-- the successors of a node are grown from it
pub expansion_grown : (vars : List ℕ) (f : Formula) → IsFine f → IsPlainAndProper f → (x : ℕ) (parts : List (ℕ × Formula)) → expansion.becomes vars f ≡ successors x parts → IsGrown IsSimplified vars f x parts
expansion_grown vars f fine proper x parts is = at_choice_grown vars f fine proper (choice f (as_vars vars)) refl x parts is

-- each successor has fewer variables
successors_fall : (vars : List ℕ) (f : Formula) (x : ℕ) → IsIn x (remaining vars f) → (gs : List Formula) → Each (λ g. (y : ℕ) → Has y g → Has y f × (y ≢ x)) gs
    → Each (λ g. length (remaining vars g) < length (remaining vars f)) gs
successors_fall vars f x chosen [] fewer = tt
successors_fall vars f x chosen (g ∷ gs) fewer = (fewer_left vars f g x chosen fewer.0, successors_fall vars f x chosen gs fewer.1)

-- the expansion of nodes is sound: of a simplified formula come simplified ones
pub expansion_sound : tree.IsSound IsSimplified expansion
expansion_sound = record {
  fine = simplified_fine;
  good = fine_simplified;
  keeps = fine_keeps;
  grows = λ vars f good x parts is. expansion_grown (remaining vars f) f (simplified_fine f good) (simplified_is_proper f good) x parts is;
  falls = λ vars f good x parts is.
      let grown = expansion_grown (remaining vars f) f (simplified_fine f good) (simplified_is_proper f good) x parts is in
      successors_fall vars f x grown.chosen (forms_of parts) grown.fewer;
}
