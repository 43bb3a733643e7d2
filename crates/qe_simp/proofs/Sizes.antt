-- The simplified form has no further free variable, and no more atoms and constants, or one.
use Rattle.std.proofs.Common.{ℕ, ◌+◌, ◌≤◌, max, eqb, ◌≡◌, refl, sym, ap, subst, Bool, true, false, cond, ◌||◌, ◌⊎◌, inl, inr, List, [], ◌∷◌, Option, Some, None, ℤ, arith}
use Rattle.std.specs.List.{list_any}
use Rattle.std.specs.Ordering.{is_eq}
use Rattle.qe_ring.specs.Sign.{int_sign}
use Rattle.qe_poly.specs.Polynomial.{Polynomial}
use Rattle.qe_poly.specs.Primitive.{divided, negated_if, leads_negative, content}
use Rattle.qe_poly.specs.Equal.{poly_eq}
use Rattle.qe_form.specs.declared.form.Atom as atom
use Rattle.qe_form.specs.Signs.{bits}
use Rattle.qe_form.specs.Formula.{Formula, Formulas, True, False, Atom, And, Or, Not, Implies, Iff, Ex, All, no_more, more}
use Rattle.qe_form.specs.Tree.{trees_of}
use Rattle.qe_form.specs.Truth.{has_sign}
use Rattle.qe_form.specs.Same.{IsFree, IsFreeInSome}
use Rattle.qe_poly.specs.Occurs.{OccursInSome}
use Rattle.qe_form.specs.Measures.{count, count_each}
use Rattle.qe_form.specs.Order.{formula_cmp}
use Rattle.qe_simp.specs.declared.connective.Connective.{Connective}
use Rattle.qe_simp.specs.declared.connective.Connective.TheVariants.{Conjunction, Disjunction}
use Rattle.qe_form.specs.Making.{constant as truth}
use Rattle.qe_simp.specs.Simplified.{as_number, on_number, simplified_atom, neutral, deciding, under, joined_signs, listed, parts_in, as_one, decides, united, decided, joint, simplified, simplified_each}
use Rattle.qe_simp.proofs.Parts.{Any, steps, Any-steps, sum_of, sum-steps}

-- two parts that are one are the first again, or an atom on the first's polynomial
pub one_is : (k : Connective) (f g h : Formula) → as_one k f g ≡ Some h → (h ≡ f) ⊎ ((a : atom.Atom) × (b : atom.Atom) × (f ≡ Atom a) × (h ≡ Atom (record { poly = a.poly; signs = joined_signs k a.signs b.signs })))
one_is k (Atom a) (Atom b) h is = by_test (poly_eq a.poly b.poly) is
  where
    by_test : (t : Bool) → cond t (Some (Atom (record { poly = a.poly; signs = joined_signs k a.signs b.signs }))) None ≡ Some h
        → (h ≡ Atom a) ⊎ ((c : atom.Atom) × (d : atom.Atom) × (Atom a ≡ Atom c) × (h ≡ Atom (record { poly = c.poly; signs = joined_signs k c.signs d.signs })))
    by_test true same = inr (a, b, refl, (let made : h ≡ Atom (record { poly = a.poly; signs = joined_signs k a.signs b.signs }) = cc in made))
    by_test false none = absurd (cc)
one_is k f g h is = inl (by_test (is_eq (formula_cmp f g)) is)
  where
    by_test : (t : Bool) → cond t (Some f) None ≡ Some h → h ≡ f
    by_test true same = cc
    by_test false none = absurd (cc)

-- ---- free variables

module _ (x : ℕ) where
  free_trees : (fs : List Formula) → IsFreeInSome x (trees_of fs) → Any (IsFree x) fs
  free_trees [] h = h
  free_trees (f ∷ fs) h = elim h [ inl y ↦ inl y | inr z ↦ inr (free_trees fs z) ]

  free_listed : (fs : Formulas) → Any (IsFree x) (listed fs) → IsFreeInSome x fs
  free_listed no_more h = h
  free_listed (more f fs) h = elim h [ inl y ↦ inl y | inr z ↦ inr (free_listed fs z) ]

  free_own : (k : Connective) (f : Formula) → Any (IsFree x) (parts_in k f) → IsFree x f
  free_own Conjunction True h = h
  free_own Conjunction (And fs) h = free_listed fs h
  free_own Disjunction False h = h
  free_own Disjunction (Or fs) h = free_listed fs h
  free_own k f h = elim h [ inl y ↦ y | inr z ↦ absurd z ]

  free_one : (k : Connective) (f g h : Formula) → as_one k f g ≡ Some h → IsFree x h → IsFree x f ⊎ IsFree x g
  free_one k f g h is free = elim (one_is k f g h is) [
    | inl same ↦ inl (subst (IsFree x) same free)
    | inr atoms ↦ inl (subst (IsFree x) (sym atoms.2) (subst (IsFree x) atoms.3 free))
  ]

  free_closed : (k : Connective) (fs : List Formula) → IsFree x (united k fs) → Any (IsFree x) fs
  free_closed Conjunction [] h = h
  free_closed Disjunction [] h = h
  free_closed k (f ∷ []) h = inl h
  free_closed Conjunction (f ∷ g ∷ gs) h = free_trees (f ∷ g ∷ gs) h
  free_closed Disjunction (f ∷ g ∷ gs) h = free_trees (f ∷ g ∷ gs) h

  free_deciding : (k : Connective) → IsFree x (deciding k) → ⊥
  free_deciding Conjunction h = h
  free_deciding Disjunction h = h

  free_decided : (k : Connective) (fs : List Formula) → IsFree x (decided k fs) → Any (IsFree x) fs
  free_decided k fs = elim (list_any (decides k) fs) as (λ b. IsFree x (cond b (deciding k) (united k fs)) → Any (IsFree x) fs) [ true ↦ λ h. absurd (free_deciding k h) | false ↦ free_closed k fs ]

  free_joint : (k : Connective) (fs : List Formula) → IsFree x (joint k fs) → Any (IsFree x) fs
  free_joint k fs h = Any-steps (IsFree x) k (free_one k) (free_own k) fs (free_decided k (steps k fs) h)

  free_divided : (d : ℤ) (p : Polynomial) → OccursInSome x (divided d p) → OccursInSome x p
  free_divided d [] h = h
  free_divided d (t ∷ ts) h = elim h [ inl y ↦ inl y | inr z ↦ inr (free_divided d ts z) ]

  free_truth : (b : Bool) → IsFree x (truth b) → ⊥
  free_truth true h = h
  free_truth false h = h

  free_on_number : (a : atom.Atom) (o : Option ℤ) → IsFree x (on_number a o) → OccursInSome x a.poly
  free_on_number a None h = free_divided (negated_if (leads_negative a.poly) (content a.poly)) a.poly h
  free_on_number a (Some c) h = absurd (free_truth (has_sign a.signs (int_sign c)) h)

  free_atom : (a : atom.Atom) → IsFree x (simplified_atom a) → OccursInSome x a.poly
  free_atom a = by_tests (eqb (bits a.signs) 0) (eqb (bits a.signs) 7)
    where
      by_tests : (s t : Bool) → IsFree x (cond s False (cond t True (on_number a (as_number a.poly)))) → OccursInSome x a.poly
      by_tests true t h = absurd h
      by_tests false true h = absurd h
      by_tests false false h = free_on_number a (as_number a.poly) h

  mutual
    pub simplified_free : (f : Formula) → IsFree x (simplified f) → IsFree x f
    simplified_free True h = h
    simplified_free False h = h
    simplified_free (Atom a) h = free_atom a h
    simplified_free (And fs) h = each_free fs (free_joint Conjunction (simplified_each fs) h)
    simplified_free (Or fs) h = each_free fs (free_joint Disjunction (simplified_each fs) h)
    simplified_free (Not f) h = h
    simplified_free (Implies f g) h = h
    simplified_free (Iff f g) h = h
    simplified_free (Ex y f) h = h
    simplified_free (All y f) h = h

    each_free : (fs : Formulas) → Any (IsFree x) (simplified_each fs) → IsFreeInSome x fs
    each_free no_more h = h
    each_free (more f fs) h = elim h [ inl y ↦ inl (simplified_free f y) | inr z ↦ inr (each_free fs z) ]

-- ---- atoms and constants

-- the count, 0 for the constants
abbrev weight : Formula → ℕ
weight True = 0
weight False = 0
weight f = count f

-- the count, 0 for the constant that decides
abbrev part_weight : Connective → Formula → ℕ
part_weight Conjunction False = 0
part_weight Disjunction True = 0
part_weight k f = count f

part_at_most : (k : Connective) (f : Formula) → part_weight k f ≤ count f
part_at_most Conjunction False = omega arith
part_at_most Disjunction True = omega arith
part_at_most k f = omega arith

weight_at_most : (f : Formula) → weight f ≤ count f
weight_at_most True = omega arith
weight_at_most False = omega arith
weight_at_most f = omega arith

listed_at_most : (k : Connective) (fs : Formulas) → sum_of (part_weight k) (listed fs) ≤ count_each fs
listed_at_most k no_more = omega arith
listed_at_most k (more f fs) = omega (arith, part_at_most k f, listed_at_most k fs)

own_at_most : (k : Connective) (f : Formula) → sum_of (part_weight k) (parts_in k f) ≤ weight f
own_at_most Conjunction True = omega arith
own_at_most Conjunction False = omega arith
own_at_most Conjunction (And fs) = listed_at_most Conjunction fs
own_at_most Disjunction True = omega arith
own_at_most Disjunction False = omega arith
own_at_most Disjunction (Or fs) = listed_at_most Disjunction fs
own_at_most k f = omega (arith, part_at_most k f)

atom_weight : (k : Connective) (a : atom.Atom) → part_weight k (Atom a) ≡ 1
atom_weight Conjunction a = refl
atom_weight Disjunction a = refl

one_at_most : (k : Connective) (f g h : Formula) → as_one k f g ≡ Some h → part_weight k h ≤ part_weight k f + part_weight k g
one_at_most k f g h is = elim (one_is k f g h is) [
  | inl same ↦ (let e : part_weight k h ≡ part_weight k f = ap (part_weight k) same in omega arith)
  | inr atoms ↦ (
      let e : part_weight k f ≡ part_weight k (Atom atoms.0) = ap (part_weight k) atoms.2 in
      let d : part_weight k h ≡ part_weight k (Atom (record { poly = atoms.0.poly; signs = joined_signs k atoms.0.signs atoms.1.signs })) = ap (part_weight k) atoms.3 in
      omega (arith, atom_weight k atoms.0, atom_weight k (record { poly = atoms.0.poly; signs = joined_signs k atoms.0.signs atoms.1.signs })))
]

undecided : (k : Connective) (f : Formula) → decides k f ≡ false → count f ≤ part_weight k f
undecided Conjunction False test = absurd (cc)
undecided Disjunction True test = absurd (cc)
undecided k f test = omega arith

count_trees : (fs : List Formula) → count_each (trees_of fs) ≡ sum_of count fs
count_trees [] = refl
count_trees (f ∷ fs) = ap (λ n. count f + n) (count_trees fs)

undecided_sum : (k : Connective) (fs : List Formula) → list_any (decides k) fs ≡ false → sum_of count fs ≤ sum_of (part_weight k) fs
undecided_sum k [] test = omega arith
undecided_sum k (f ∷ fs) test = by_first (decides k f) refl (undecided_sum k fs) test
  where
    by_first : (b : Bool) → decides k f ≡ b → (list_any (decides k) fs ≡ false → sum_of count fs ≤ sum_of (part_weight k) fs) → (b || list_any (decides k) fs) ≡ false → sum_of count (f ∷ fs) ≤ sum_of (part_weight k) (f ∷ fs)
    by_first true first rest neither = absurd (cc)
    by_first false first rest neither = omega (arith, undecided k f first, rest neither)

neutral_weight : (k : Connective) → weight (neutral k) ≡ 0
neutral_weight Conjunction = refl
neutral_weight Disjunction = refl

connected_weight : (k : Connective) (fs : List Formula) → weight (under k fs) ≡ count_each (trees_of fs)
connected_weight Conjunction fs = refl
connected_weight Disjunction fs = refl

closed_at_most : (k : Connective) (fs : List Formula) → sum_of count fs ≤ sum_of (part_weight k) fs → weight (united k fs) ≤ sum_of (part_weight k) fs
closed_at_most k [] counts = omega (arith, neutral_weight k)
closed_at_most k (f ∷ []) counts = omega (arith, weight_at_most f)
closed_at_most k (f ∷ g ∷ gs) counts = omega (arith, connected_weight k (f ∷ g ∷ gs), count_trees (f ∷ g ∷ gs))

deciding_weight : (k : Connective) → weight (deciding k) ≡ 0
deciding_weight Conjunction = refl
deciding_weight Disjunction = refl

decided_at_most : (k : Connective) (fs : List Formula) → weight (decided k fs) ≤ sum_of (part_weight k) fs
decided_at_most k fs = by_test (list_any (decides k) fs) refl
  where
    by_test : (b : Bool) → list_any (decides k) fs ≡ b → weight (cond b (deciding k) (united k fs)) ≤ sum_of (part_weight k) fs
    by_test true test = omega (arith, deciding_weight k)
    by_test false test = closed_at_most k fs (undecided_sum k fs test)

joint_at_most : (k : Connective) (fs : List Formula) → weight (joint k fs) ≤ sum_of weight fs
joint_at_most k fs = omega (arith, decided_at_most k (steps k fs), sum-steps (part_weight k) weight k (one_at_most k) (own_at_most k) fs)

truth_weight : (b : Bool) → weight (truth b) ≡ 0
truth_weight true = refl
truth_weight false = refl

number_weight : (a : atom.Atom) (o : Option ℤ) → weight (on_number a o) ≤ 1
number_weight a None = omega arith
number_weight a (Some c) = omega (arith, truth_weight (has_sign a.signs (int_sign c)))

atom_at_most : (a : atom.Atom) → weight (simplified_atom a) ≤ 1
atom_at_most a = by_tests (eqb (bits a.signs) 0) (eqb (bits a.signs) 7)
  where
    by_tests : (s t : Bool) → weight (cond s False (cond t True (on_number a (as_number a.poly)))) ≤ 1
    by_tests true t = omega arith
    by_tests false true = omega arith
    by_tests false false = number_weight a (as_number a.poly)

mutual
  simplified_weight : (f : Formula) → weight (simplified f) ≤ count f
  simplified_weight True = omega arith
  simplified_weight False = omega arith
  simplified_weight (Atom a) = atom_at_most a
  simplified_weight (And fs) = omega (arith, joint_at_most Conjunction (simplified_each fs), each_weight fs)
  simplified_weight (Or fs) = omega (arith, joint_at_most Disjunction (simplified_each fs), each_weight fs)
  simplified_weight (Not f) = omega arith
  simplified_weight (Implies f g) = omega arith
  simplified_weight (Iff f g) = omega arith
  simplified_weight (Ex x f) = omega arith
  simplified_weight (All x f) = omega arith

  each_weight : (fs : Formulas) → sum_of weight (simplified_each fs) ≤ count_each fs
  each_weight no_more = omega arith
  each_weight (more f fs) = omega (arith, simplified_weight f, each_weight fs)

counted : (f : Formula) → count f ≤ max 1 (weight f)
counted True = omega arith
counted False = omega arith
counted f = omega arith

pub simplified_size : (f : Formula) → count (simplified f) ≤ max 1 (count f)
simplified_size f = omega (arith, counted (simplified f), simplified_weight f)
