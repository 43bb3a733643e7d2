-- The candidates of a formula are enough.
use Rattle.std.proofs.Common.{ℕ, suc, ◌≡◌, ◌∙◌, ◌≤◌, ◌<◌, inl, inr, refl, sym, ap, subst, Bool, true, false, not, cond, eqb, max, List, [], ◌∷◌, ◌++◌, map, length, get_or, arith}
use Rattle.std.specs.Prelude.{◌&&◌, nat_lt}
use Rattle.std.proofs.lemmas.Bool.Decides.{nat_tests}
use Rattle.qe_tower.specs.Point.{Point, IsPoint}
use Rattle.qe_tower.proofs.ValidNumbers.{valid_operations, valid_sign}
use Rattle.qe_tower.specs.Number.{ValidNumber}
use Rattle.qe_line.specs.Place.{Place, Eventually}
use Rattle.qe_line.specs.Place as line
use Rattle.qe_line.specs.Quadratic.{linear, upper, lower}
use Rattle.qe_line.specs.Numbers.{numbers}
use Rattle.qe_line.proofs.Places.{There, some}
use Rattle.qe_line.proofs.Reach.{root_place, reached}
use Rattle.qe_poly.specs.Polynomial.{Polynomial, IsPolynomial}
use Rattle.qe_poly.specs.Coefficients.{degree_in}
use Rattle.qe_form.specs.declared.form.Atom as atom
use Rattle.qe_form.specs.Formula.{Formula, Formulas, True, False, Atom, And, Or, Ex, no_more, more}
use Rattle.qe_form.specs.Measures.{degree, degree_of_some}
use Rattle.qe_form.specs.Plain.{IsPlain, ArePlainWith}
use Rattle.qe_form.specs.Same.{IsFree, IsFreeInSome}
use Rattle.qe_poly.specs.Occurs.{OccursInSome}
use Rattle.qe_form.specs.Truth.{Is}
use Rattle.qe_form.proofs.TwoSides.{never_both, decided}
use Rattle.qe_simp.proofs.Shapes.{plain_no_quantifier}
use Rattle.qe_root.specs.Atoms.{atoms, atoms_of, HasCanonicalAtoms, HaveCanonicalAtoms}
use Rattle.qe_root.specs.Holds.{StandsAt, IsLess}
use Rattle.qe_points.specs.declared.candidate.Which.{Which}
use Rattle.qe_points.specs.declared.candidate.Which.TheVariants.{Linear, Upper, Lower}
use Rattle.qe_points.specs.declared.candidate.Candidate.{Candidate}
use Rattle.qe_points.specs.declared.candidate.Candidate.TheVariants.{Root, MinusInf}
use Rattle.qe_points.specs.Candidates.{Numbered, gives, numbered, distinct, roots_of, roots, candidates}
use Rattle.qe_points.specs.Guard.{guard, turned, root_of_kind, point_of}
use Rattle.qe_points.specs.Guarded.{HasKind, IsOf}
use Rattle.qe_points.specs.Complete.{HoldsAtCandidate, HoldsAtOne, IsComplete}
use Rattle.qe_points.proofs.Members.{IsIn, in_left, in_right, of_append, in_flat, of_flat, of_map, all_in, of_all, in_distinct, of_distinct}
use Rattle.qe_points.proofs.OnLine.{IsRootOf, atom_reaches, formula_reaches}
use Rattle.qe_root.proofs.RootValue.{to_value}
use Rattle.qe_points.proofs.Roots.{IsRootAt, turned_value, to_root, has_degree, guard_true}

-- ---- the atoms of a formula

mutual
  -- the degree is the greatest of the atoms' degrees
  degree_each : (x : ℕ) (f : Formula) (a : atom.Atom) → IsIn a (atoms f) → degree_in x a.poly ≤ degree x f
  degree_each x (Atom b) a (inl e) = let same : degree_in x b.poly ≡ degree_in x a.poly = ap (λ c. degree_in x c.poly) e in omega arith
  degree_each x (Atom b) a (inr i) = absurd i
  degree_each x (And fs) a i = degree_some x fs a i
  degree_each x (Or fs) a i = degree_some x fs a i
  degree_each x f a i = absurd i

  degree_some : (x : ℕ) (fs : Formulas) (a : atom.Atom) → IsIn a (atoms_of fs) → degree_in x a.poly ≤ degree_of_some x fs
  degree_some x no_more a i = absurd i
  degree_some x (more f fs) a i = elim (of_append a (atoms f) (atoms_of fs) i) [
    | inl k ↦ left (degree_in x a.poly) (degree x f) (degree_of_some x fs) (degree_each x f a k)
    | inr k ↦ right (degree_in x a.poly) (degree x f) (degree_of_some x fs) (degree_some x fs a k)
  ]
    where
      left : (d m n : ℕ) → d ≤ m → d ≤ max m n
      left d m n h = omega arith

      right : (d m n : ℕ) → d ≤ n → d ≤ max m n
      right d m n h = omega arith

mutual
  -- what occurs in an atom is free
  free_each : (y : ℕ) (f : Formula) (a : atom.Atom) → IsIn a (atoms f) → OccursInSome y a.poly → IsFree y f
  free_each y (Atom b) a (inl e) h = subst (λ c. OccursInSome y c.poly) (sym e) h
  free_each y (Atom b) a (inr i) h = absurd i
  free_each y (And fs) a i h = free_some y fs a i h
  free_each y (Or fs) a i h = free_some y fs a i h
  free_each y f a i h = absurd i

  free_some : (y : ℕ) (fs : Formulas) (a : atom.Atom) → IsIn a (atoms_of fs) → OccursInSome y a.poly → IsFreeInSome y fs
  free_some y no_more a i h = absurd i
  free_some y (more f fs) a i h = elim (of_append a (atoms f) (atoms_of fs) i) [ inl k ↦ inl (free_each y f a k h) | inr k ↦ inr (free_some y fs a k h) ]

-- ---- the polynomials of atoms

abbrev taken : ℕ → Bool → ℕ → atom.Atom → List atom.Atom → Bool → List Numbered
taken x zero n a rest b = cond b ((a.poly, n) ∷ numbered x zero (suc n) rest) (numbered x zero (suc n) rest)

-- an atom that gives its polynomial gives it with its number
in_numbered : (x : ℕ) (zero : Bool) (a : atom.Atom) → gives x zero a ≡ true → (list : List atom.Atom) (n : ℕ) → IsIn a list
    → (m : ℕ) × IsIn (a.poly, m) (numbered x zero n list)
in_numbered x zero a given [] n i = absurd i
in_numbered x zero a given (b ∷ rest) n (inl e) =
    (n, subst (λ t. IsIn (a.poly, n) (taken x zero n b rest t)) (sym (ap (gives x zero) e ∙ given)) (inl (ap (λ c. (c.poly, n)) e)))
in_numbered x zero a given (b ∷ rest) n (inr i) =
    let r = in_numbered x zero a given rest (suc n) i in
    (r.0, elim (gives x zero b) as (λ t. IsIn (a.poly, r.0) (taken x zero n b rest t)) [ true ↦ inr r.1 | false ↦ r.1 ])

of_numbered : (x : ℕ) (zero : Bool) (g : Numbered) (list : List atom.Atom) (n : ℕ) → IsIn g (numbered x zero n list) → (a : atom.Atom) × IsIn a list × (a.poly ≡ g.0)
of_numbered x zero g [] n i = absurd i
of_numbered x zero g (b ∷ rest) n i =
    elim (gives x zero b) as (λ t. IsIn g (taken x zero n b rest t) → (a : atom.Atom) × IsIn a (b ∷ rest) × (a.poly ≡ g.0)) [
      | true ↦ λ k. elim k [
        | inl e ↦ (b, inl refl, ap (λ (h : Numbered). h.0) e)
        | inr m ↦ let r = of_numbered x zero g rest (suc n) m in (r.0, inr r.1, r.2)
      ]
      | false ↦ λ k. let r = of_numbered x zero g rest (suc n) k in (r.0, inr r.1, r.2)
    ] i

-- ---- the candidates of a polynomial

in_cond : {X : Type 0} (c : X) (b : Bool) (xs ys : List X) → (b ≡ true → IsIn c xs) → (b ≡ false → IsIn c ys) → IsIn c (cond b xs ys)
in_cond c true xs ys h k = h refl
in_cond c false xs ys h k = k refl

not_one : (n : ℕ) → n ≡ 2 → eqb n 1 ≡ true → ⊥
not_one n e t = grind (arith, nat_tests)

not_two : (n : ℕ) → n ≡ 2 → eqb n 2 ≡ false → ⊥
not_two n e t = grind (arith, nat_tests)

in_roots_of : (x : ℕ) (plus : Bool) (g : Numbered) (which : Which) → HasKind x g.0 which → IsIn (Root g.0 g.1 which plus) (roots_of x plus g)
in_roots_of x plus g Linear fits = in_cond _ (eqb (degree_in x g.0) 1) _ _ (λ t. inl refl) (λ t. in_cond _ (eqb (degree_in x g.0) 2) _ _ (λ u. inl refl) (λ u. absurd (neither (degree_in x g.0) fits.0 fits.1 t u)))
  where
    neither : (n : ℕ) → 0 < n → n ≤ 2 → eqb n 1 ≡ false → eqb n 2 ≡ false → ⊥
    neither n less low t u = grind (arith, nat_tests)
in_roots_of x plus g Upper fits = in_cond _ (eqb (degree_in x g.0) 1) _ _ (λ t. absurd (not_one (degree_in x g.0) fits t)) (λ t. in_cond _ (eqb (degree_in x g.0) 2) _ _ (λ u. inr (inl refl)) (λ u. absurd (not_two (degree_in x g.0) fits u)))
in_roots_of x plus g Lower fits = in_cond _ (eqb (degree_in x g.0) 1) _ _ (λ t. absurd (not_one (degree_in x g.0) fits t)) (λ t. in_cond _ (eqb (degree_in x g.0) 2) _ _ (λ u. inr (inr (inl refl))) (λ u. absurd (not_two (degree_in x g.0) fits u)))

of_roots_of : (x : ℕ) (plus : Bool) (g : Numbered) (c : Candidate) → IsIn c (roots_of x plus g) → (which : Which) × (c ≡ Root g.0 g.1 which plus) × HasKind x g.0 which
of_roots_of x plus g c i = one (eqb (degree_in x g.0) 1) refl (eqb (degree_in x g.0) 2) refl i
  where
    is_one : (n : ℕ) → eqb n 1 ≡ true → (0 < n) × (n ≤ 2)
    is_one n t = let e : n ≡ 1 = grind (arith, nat_tests) in (omega arith, omega arith)

    is_two : (n : ℕ) → eqb n 2 ≡ true → n ≡ 2
    is_two n t = grind (arith, nat_tests)

    some_of_two : (n : ℕ) → n ≡ 2 → (0 < n) × (n ≤ 2)
    some_of_two n e = (omega arith, omega arith)

    one : (b : Bool) → eqb (degree_in x g.0) 1 ≡ b → (d : Bool) → eqb (degree_in x g.0) 2 ≡ d
        → IsIn c (cond b (Root g.0 g.1 Linear plus ∷ []) (cond d (Root g.0 g.1 Linear plus ∷ Root g.0 g.1 Upper plus ∷ Root g.0 g.1 Lower plus ∷ []) []))
        → (which : Which) × (c ≡ Root g.0 g.1 which plus) × HasKind x g.0 which
    one true t d u (inl e) = (Linear, sym e, is_one (degree_in x g.0) t)
    one true t d u (inr k) = absurd k
    one false t true u (inl e) = (Linear, sym e, some_of_two (degree_in x g.0) (is_two (degree_in x g.0) u))
    one false t true u (inr (inl e)) = (Upper, sym e, is_two (degree_in x g.0) u)
    one false t true u (inr (inr (inl e))) = (Lower, sym e, is_two (degree_in x g.0) u)
    one false t true u (inr (inr (inr k))) = absurd k
    one false t false u k = absurd k

-- ---- each candidate is one of the formula

abbrev group : ℕ → Bool → Formula → List Numbered
group x zero f = distinct (numbered x zero 0 (atoms f))

pub is_of : (x : ℕ) (f : Formula) (c : Candidate) → IsIn c (candidates x f) → IsOf x f c
is_of x f c i = elim (of_append c (roots x false (group x true f)) (roots x true (group x false f) ++ MinusInf ∷ []) i) [
  | inl k ↦ of_group false true k
  | inr k ↦ elim (of_append c (roots x true (group x false f)) (MinusInf ∷ []) k) [
    | inl m ↦ of_group true false m
    | inr m ↦ elim m [ inl e ↦ subst (IsOf x f) e (record { root = tt; free = λ y h. absurd h }) | inr n ↦ absurd n ]
  ]
]
  where
    of_group : (plus zero : Bool) → IsIn c (roots x plus (group x zero f)) → IsOf x f c
    of_group plus zero k =
        let g = of_flat (roots_of x plus) c (group x zero f) k in
        let w = of_roots_of x plus g.0 c g.2 in
        let a = of_numbered x zero g.0 (atoms f) 0 (of_distinct g.0 (numbered x zero 0 (atoms f)) g.1) in
        subst (IsOf x f) (sym w.1) (record { root = w.2; free = λ y h. free_each y f a.0 a.1 (subst (λ q. OccursInSome y q) (sym a.2) h) })

pub each_is_of : (x : ℕ) (f : Formula) (cs : List Candidate) → cs ≡ candidates x f → (k : ℕ) (d : Candidate) → k < length cs → IsOf x f (get_or cs k d)
each_is_of x f cs made = all_in (IsOf x f) cs (λ c i. is_of x f c (subst (IsIn c) made i))

-- ---- any candidates that stand at the roots of the atoms

module _ (x : ℕ) (cs : List Candidate) (f : Formula) (p : Point) where
  at_one : (c : Candidate) (ds : List Candidate) → IsIn c ds → HoldsAtCandidate x c f p → HoldsAtOne x ds f p
  at_one c [] i h = absurd i
  at_one c (d ∷ ds) (inl e) h = inl (subst (λ d. HoldsAtCandidate x d f p) (sym e) h)
  at_one c (d ∷ ds) (inr i) h = inr (at_one c ds i h)

  -- one of the candidates, with a true guard, stands at the place
  abbrev pub IsPlaceOfOne : Place ValidNumber → Type 0
  IsPlaceOfOne k = (c : Candidate) × IsIn c cs × Is (guard x c) true p × StandsAt (point_of x c) p k

  -- what is true at a place is so for some number
  some_number : (valid : IsPoint p) (k : Place ValidNumber) → Eventually IsLess k (λ v. Is f true ((x, v.0) ∷ p)) → Is (Ex x f) true p
  some_number valid k h = let w = some numbers there in (w.0.0, w.0.1, w.1)
    where
      there : There valid_operations valid_sign k (λ v. Is f true ((x, v.0) ∷ p))
      there = record { is = h }

  -- what is true at one of the candidates is true for some number
  pub sound : IsPoint p → (ds : List Candidate) → HoldsAtOne x ds f p → Is (Ex x f) true p
  sound valid [] h = absurd h
  sound valid (c ∷ ds) (inl h) = some_number valid h.1.0 h.1.1.1
  sound valid (c ∷ ds) (inr h) = sound valid ds h

  -- and what is true for some number is so at one of them, if they stand at the roots of the atoms
  pub reaches_one : (valid : IsPoint p) → IsPlain f → ((a : atom.Atom) → IsIn a (atoms f) → IsPolynomial a.poly × (degree_in x a.poly ≤ 2)) → IsPlaceOfOne line.below
      → ((a : atom.Atom) → IsIn a (atoms f) → (r : ValidNumber) → IsRootOf x p valid a.poly r → IsPlaceOfOne (root_place a.signs.zero r)) → Is (Ex x f) true p → HoldsAtOne x cs f p
  reaches_one valid plain small low roots t =
      let k = reached numbers (formula_reaches x p valid IsPlaceOfOne low (t.0, t.1) f plain
      (λ a i. atom_reaches x p valid IsPlaceOfOne low (t.0, t.1) a (small a i).0 (small a i).1 (roots a i)) t.2) in
      at_one k.1.0.0 cs k.1.0.1 (k.1.0.2, (k.0, (k.1.0.3, k.1.1.is)))

-- so they are enough, if they do so at each point
complete_list : (x : ℕ) (f : Formula) (cs : List Candidate) → IsPlain f → ((a : atom.Atom) → IsIn a (atoms f) → IsPolynomial a.poly × (degree_in x a.poly ≤ 2))
    → ((p : Point) → IsPlaceOfOne x cs f p line.below)
    → ((p : Point) (valid : IsPoint p) (a : atom.Atom) → IsIn a (atoms f) → (r : ValidNumber) → IsRootOf x p valid a.poly r → IsPlaceOfOne x cs f p (root_place a.signs.zero r))
    → IsComplete x f cs
complete_list x f cs plain small low roots = record {
  true_side = λ p valid. (forth p valid, sound x cs f p valid cs);
  false_side = λ p valid. (
    (λ e h. never_both (Ex x f) p (sound x cs f p valid cs h) e),
    (λ n v k. elim (decided f (plain_no_quantifier f plain) ((x, v) ∷ p)) [ inl t ↦ absurd (n (forth p valid (v, k, t))) | inr e ↦ e ]),
  );
}
  where
    forth : (p : Point) → IsPoint p → Is (Ex x f) true p → HoldsAtOne x cs f p
    forth p valid = reaches_one x cs f p valid plain small (low p) (roots p valid)

-- ---- the candidates stand there

module _ (x : ℕ) (f : Formula) (p : Point) (valid : IsPoint p) where
  -- a polynomial is in the group of its atom
  in_group : (zero : Bool) (a : atom.Atom) → IsIn a (atoms f) → 0 < degree_in x a.poly → cond zero a.signs.zero (not a.signs.zero) ≡ true
      → (g : Numbered) × IsIn g (group x zero f) × (g.0 ≡ a.poly)
  in_group zero a i least given =
      let n = in_numbered x zero a (λ j. above (degree_in x a.poly) least j && given j) (atoms f) 0 i in in_distinct (a.poly, n.0) (numbered x zero 0 (atoms f)) n.1
    where
      above : (n : ℕ) → 0 < n → nat_lt 0 n ≡ true
      above n less = grind (arith, nat_tests)

  positive : (q : Polynomial) (which : Which) → HasKind x q which → 0 < degree_in x q
  positive q Linear fits = fits.0
  positive q Upper fits = omega arith
  positive q Lower fits = omega arith

  at_plain : (g : Numbered) (which : Which) → IsIn g (group x true f) → HasKind x g.0 which → IsIn (Root g.0 g.1 which false) (candidates x f)
  at_plain g which i fits = in_left _ (roots x false (group x true f)) _ (in_flat (roots_of x false) _ g (group x true f) i (in_roots_of x false g which fits))

  at_plus : (g : Numbered) (which : Which) → IsIn g (group x false f) → HasKind x g.0 which → IsIn (Root g.0 g.1 which true) (candidates x f)
  at_plus g which i fits = in_right _ (roots x false (group x true f)) _
      (in_left _ (roots x true (group x false f)) (MinusInf ∷ []) (in_flat (roots_of x true) _ g (group x false f) i (in_roots_of x true g which fits)))

  -- one of them at each root of an atom, or just above it
  at_root : (a : atom.Atom) → IsIn a (atoms f) → degree_in x a.poly ≤ 2 → (which : Which) (r : ValidNumber) → IsRootAt p valid x a.poly which r
      → IsPlaceOfOne x (candidates x f) f p (root_place a.signs.zero r)
  at_root a i low which r h = by a.signs.zero refl
    where
      fits : HasKind x a.poly which
      fits = has_degree p valid x a.poly which r low h

      by : (zero : Bool) → a.signs.zero ≡ zero → IsPlaceOfOne x (candidates x f) f p (root_place zero r)
      by true e =
          let g = in_group true a i (positive a.poly which fits) e in
          let h : IsRootAt p valid x g.0.0 which r = subst (λ q. IsRootAt p valid x q which r) (sym g.2) h in (
            Root g.0.0 g.0.1 which false,
            at_plain g.0 which g.1 (subst (λ q. HasKind x q which) (sym g.2) fits),
            guard_true p valid x g.0.0 which r h,
            to_value p valid (turned (root_of_kind x g.0.0 which)) r (turned_value p valid (root_of_kind x g.0.0 which) r (to_root p valid x g.0.0 which r h)),
          )
      by false e =
          let g = in_group false a i (positive a.poly which fits) (ap not e) in
          let h : IsRootAt p valid x g.0.0 which r = subst (λ q. IsRootAt p valid x q which r) (sym g.2) h in (
            Root g.0.0 g.0.1 which true,
            at_plus g.0 which g.1 (subst (λ q. HasKind x q which) (sym g.2) fits),
            guard_true p valid x g.0.0 which r h,
            to_value p valid (turned (root_of_kind x g.0.0 which)) r (turned_value p valid (root_of_kind x g.0.0 which) r (to_root p valid x g.0.0 which r h)),
          )

  at_each_root : (a : atom.Atom) → IsIn a (atoms f) → degree_in x a.poly ≤ 2 → (r : ValidNumber) → IsRootOf x p valid a.poly r → IsPlaceOfOne x (candidates x f) f p (root_place a.signs.zero r)
  at_each_root a i low r (linear, h) = at_root a i low Linear r h
  at_each_root a i low r (upper, h) = at_root a i low Upper r h
  at_each_root a i low r (lower, h) = at_root a i low Lower r h

lowest_in : (x : ℕ) (f : Formula) → IsIn MinusInf (candidates x f)
lowest_in x f = in_right _ (roots x false (group x true f)) _ (in_right _ (roots x true (group x false f)) (MinusInf ∷ []) (inl refl))

-- the candidates of a plain formula in which x has degree two at most are enough
candidates_complete : (x : ℕ) (f : Formula) → IsPlain f → degree x f ≤ 2 → ((a : atom.Atom) → IsIn a (atoms f) → IsPolynomial a.poly) → IsComplete x f (candidates x f)
candidates_complete x f plain low canonical = complete_list x f (candidates x f) plain (λ a i. (canonical a i, small a i))
    (λ p. (MinusInf, lowest_in x f, refl, tt))
    (λ p valid a i r h. at_each_root x f p valid a i (small a i) r h)
  where
    small : (a : atom.Atom) → IsIn a (atoms f) → degree_in x a.poly ≤ 2
    small a i = let d = degree_each x f a i in omega (arith, d)

-- a plain formula whose atoms are over canonical polynomials is over these
mutual
  plain_over : (f : Formula) → IsPlain f → ((a : atom.Atom) → IsIn a (atoms f) → IsPolynomial a.poly) → HasCanonicalAtoms f
  plain_over True plain over = tt
  plain_over False plain over = tt
  plain_over (Atom a) plain over = over a (inl refl)
  plain_over (And fs) plain over = plain_over_each fs plain over
  plain_over (Or fs) plain over = plain_over_each fs plain over
  plain_over f plain over = absurd plain

  plain_over_each : (fs : Formulas) → ArePlainWith (λ a. Unit {0}) fs → ((a : atom.Atom) → IsIn a (atoms_of fs) → IsPolynomial a.poly) → HaveCanonicalAtoms fs
  plain_over_each no_more plain over = tt
  plain_over_each (more f fs) plain over =
      (plain_over f plain.0 (λ a i. over a (in_left a (atoms f) (atoms_of fs) i)), plain_over_each fs plain.1 (λ a i. over a (in_right a (atoms f) (atoms_of fs) i)))

-- where the atoms are those of some items
module _ {X : Type 0} (shown : X → atom.Atom) (f : Formula) (items : List X) (all : map shown items ≡ atoms f) (canonical : (k : ℕ) (d : X) → k < length items → IsPolynomial (shown (get_or items k d)).poly) where
  each_canonical : (a : atom.Atom) → IsIn a (atoms f) → IsPolynomial a.poly
  each_canonical a i =
      let r = of_map shown a items (subst (IsIn a) (sym all) i) in
      subst (λ b. IsPolynomial b.poly) r.2 (of_all (λ y. IsPolynomial (shown y).poly) items canonical r.0 r.1)

  pub made_canonical : IsPlain f → HasCanonicalAtoms f
  made_canonical plain = plain_over f plain each_canonical

  -- those that are made
  pub made_complete : (x : ℕ) (cs : List Candidate) → cs ≡ candidates x f → IsPlain f → degree x f ≤ 2 → IsComplete x f cs
  made_complete x cs made plain low = subst (IsComplete x f) (sym made) (candidates_complete x f plain low each_canonical)
