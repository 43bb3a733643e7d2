-- Each candidate of a formula over canonical polynomials has a canonical polynomial.
use Rattle.std.proofs.Common.{ℕ, suc, Bool, true, false, not, cond, eqb, List, [], ◌∷◌, ◌++◌}
use Rattle.std.specs.List.{filter, flat_map}
use Rattle.qe_poly.specs.Polynomial.{IsPolynomial}
use Rattle.qe_poly.specs.Coefficients.{degree_in}
use Rattle.qe_poly.specs.Equal.{poly_eq}
use Rattle.qe_form.specs.declared.form.Atom as atom
use Rattle.qe_form.specs.Formula.{Formula, Formulas, True, False, Atom, And, Or, Not, Implies, Iff, Ex, All, no_more, more}
use Rattle.qe_form.specs.Plain.{ArePlainWith}
use Rattle.qe_root.specs.Atoms.{atoms, atoms_of}
use Rattle.qe_points.specs.declared.candidate.Which.TheVariants.{Linear, Upper, Lower}
use Rattle.qe_points.specs.declared.candidate.Candidate.TheVariants.{Root, MinusInf}
use Rattle.qe_points.specs.Candidates.{Numbered, gives, numbered, distinct, roots_of, roots, candidates}
use Rattle.qe_tree.specs.Sound.{Each, IsFine}
use Rattle.qe_node.proofs.Canonical.{IsOverPolynomial}

-- ---- lists

module _ {A : Type 0} (P : A → Type 0) where
  pub each_append : (xs ys : List A) → Each P xs → Each P ys → Each P (xs ++ ys)
  each_append [] ys h k = k
  each_append (x ∷ xs) ys h k = (h.0, each_append xs ys h.1 k)

  each_filter : (test : A → Bool) (xs : List A) → Each P xs → Each P (filter test xs)
  each_filter test [] h = tt
  each_filter test (x ∷ xs) h = by (test x) (each_filter test xs h.1)
    where
      by : (b : Bool) → Each P (filter test xs) → Each P (cond b (x ∷ filter test xs) (filter test xs))
      by true rest = (h.0, rest)
      by false rest = rest

module _ {A B : Type 0} (P : A → Type 0) (Q : B → Type 0) (f : A → List B) (gives_each : (a : A) → P a → Each Q (f a)) where
  each_flat : (xs : List A) → Each P xs → Each Q (flat_map f xs)
  each_flat [] h = tt
  each_flat (x ∷ xs) h = each_append Q (f x) (flat_map f xs) (gives_each x h.0) (each_flat xs h.1)

-- ---- atoms

abbrev IsOver : atom.Atom → Type 0
IsOver a = IsPolynomial a.poly

mutual
  pub atoms_fine : (f : Formula) → IsFine f → Each IsOver (atoms f)
  atoms_fine True h = tt
  atoms_fine False h = tt
  atoms_fine (Atom a) h = (h, tt)
  atoms_fine (And fs) h = atoms_of_fine fs h
  atoms_fine (Or fs) h = atoms_of_fine fs h
  atoms_fine (Not f) h = tt
  atoms_fine (Implies f g) h = tt
  atoms_fine (Iff f g) h = tt
  atoms_fine (Ex x f) h = tt
  atoms_fine (All x f) h = tt

  atoms_of_fine : (fs : Formulas) → ArePlainWith IsOver fs → Each IsOver (atoms_of fs)
  atoms_of_fine no_more h = tt
  atoms_of_fine (more f fs) h = each_append IsOver (atoms f) (atoms_of fs) (atoms_fine f h.0) (atoms_of_fine fs h.1)

-- ---- candidates

abbrev IsNumbered : Numbered → Type 0
IsNumbered g = IsPolynomial g.0

numbered_fine : (x : ℕ) (zero : Bool) (n : ℕ) (list : List atom.Atom) → Each IsOver list → Each IsNumbered (numbered x zero n list)
numbered_fine x zero n [] h = tt
numbered_fine x zero n (a ∷ list) h = by (gives x zero a) (numbered_fine x zero (suc n) list h.1)
  where
    by : (b : Bool) → Each IsNumbered (numbered x zero (suc n) list) → Each IsNumbered (cond b ((a.poly, n) ∷ numbered x zero (suc n) list) (numbered x zero (suc n) list))
    by true rest = (h.0, rest)
    by false rest = rest

distinct_fine : (gs : List Numbered) → Each IsNumbered gs → Each IsNumbered (distinct gs)
distinct_fine [] h = tt
distinct_fine (g ∷ gs) h = (h.0, each_filter IsNumbered (λ k. not (poly_eq g.0 k.0)) (distinct gs) (distinct_fine gs h.1))

roots_of_fine : (x : ℕ) (plus : Bool) (g : Numbered) → IsNumbered g → Each IsOverPolynomial (roots_of x plus g)
roots_of_fine x plus g h = by (eqb (degree_in x g.0) 1) (eqb (degree_in x g.0) 2)
  where
    by : (one two : Bool) → Each IsOverPolynomial (cond one (Root g.0 g.1 Linear plus ∷ []) (cond two (Root g.0 g.1 Linear plus ∷ Root g.0 g.1 Upper plus ∷ Root g.0 g.1 Lower plus ∷ []) []))
    by true two = (h, tt)
    by false true = (h, (h, (h, tt)))
    by false false = tt

roots_fine : (x : ℕ) (plus : Bool) (gs : List Numbered) → Each IsNumbered gs → Each IsOverPolynomial (roots x plus gs)
roots_fine x plus gs h = each_flat IsNumbered IsOverPolynomial (roots_of x plus) (roots_of_fine x plus) gs h

pub candidates_fine : (x : ℕ) (f : Formula) → IsFine f → Each IsOverPolynomial (candidates x f)
candidates_fine x f h =
    let group : (zero : Bool) → Each IsNumbered (distinct (numbered x zero 0 (atoms f))) = λ zero. distinct_fine (numbered x zero 0 (atoms f)) (numbered_fine x zero 0 (atoms f) (atoms_fine f h)) in
    each_append IsOverPolynomial (roots x false (distinct (numbered x true 0 (atoms f)))) (roots x true (distinct (numbered x false 0 (atoms f))) ++ MinusInf ∷ [])
    (roots_fine x false (distinct (numbered x true 0 (atoms f))) (group true))
    (each_append IsOverPolynomial (roots x true (distinct (numbered x false 0 (atoms f)))) (MinusInf ∷ []) (roots_fine x true (distinct (numbered x false 0 (atoms f))) (group false)) (tt, tt))
