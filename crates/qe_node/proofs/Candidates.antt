-- What the candidates of a formula give: formulas that are true where the formula holds at the candidate, and good ones.
use Rattle.std.proofs.Common.{ℕ, suc, ◌≡◌, inl, inr, ◌↔◌, sym, refl, subst, Bool, true, false, cond, List, [], ◌∷◌, Option, Some, None, Result, Ok, Err}
use Rattle.qe_tower.specs.Point.{Point, IsPoint}
use Rattle.qe_poly.specs.declared.limit.PolyLimit.{PolyLimit}
use Rattle.qe_form.specs.Formula.{Formula, True, False, Atom, And, Or, Not, Implies, Iff, Ex, All, no_more, more}
use Rattle.qe_form.specs.Tree.{trees_of}
use Rattle.qe_form.specs.Truth.{Is, SomeIs}
use Rattle.qe_form.specs.Same.{Agree}
use Rattle.qe_simp.specs.Simplified.{simplified}
use Rattle.qe_simp.specs.Meaning.{Keeps}
use Rattle.qe_root.specs.declared.stop.SubstStop.{SubstStop}
use Rattle.qe_root.specs.Holds.{StandsFor}
use Rattle.qe_points.specs.declared.candidate.Candidate.{Candidate}
use Rattle.qe_points.specs.Complete.{HoldsAtCandidate, HoldsAtOne}
use Rattle.qe_points.specs.Guard.{guard, point_of, limit}
use Rattle.qe_points.specs.Guarded.{own, IsSound}
use Rattle.qe_subst.specs.Substituted.{substituted}
use Rattle.qe_subst.specs.Stop.{stop}
use Rattle.qe_tree.specs.Sound.{Each, forms_of}
use Rattle.qe_node.specs.declared.stop.NodeStop.{NodeStop}
use Rattle.qe_form.specs.Making.{is_false, is_true}
use Rattle.qe_node.specs.Successors.{Tried, fails, skipped, gives, after_stop, joined, put_in, after_limit, tried, before, and_then, given_by}

-- ---- tests

pub false_is : (g : Formula) → is_false g ≡ true → g ≡ False
false_is True test = absurd (cc)
false_is False test = refl
false_is (Atom a) test = absurd (cc)
false_is (And fs) test = absurd (cc)
false_is (Or fs) test = absurd (cc)
false_is (Not f) test = absurd (cc)
false_is (Implies f g) test = absurd (cc)
false_is (Iff f g) test = absurd (cc)
false_is (Ex x f) test = absurd (cc)
false_is (All x f) test = absurd (cc)

pub true_is : (g : Formula) → is_true g ≡ true → g ≡ True
true_is True test = refl
true_is False test = absurd (cc)
true_is (Atom a) test = absurd (cc)
true_is (And fs) test = absurd (cc)
true_is (Or fs) test = absurd (cc)
true_is (Not f) test = absurd (cc)
true_is (Implies f g) test = absurd (cc)
true_is (Iff f g) test = absurd (cc)
true_is (Ex x f) test = absurd (cc)
true_is (All x f) test = absurd (cc)

-- False is nowhere true
never_true : (g : Formula) (p : Point) → is_false g ≡ true → Is g true p → ⊥
never_true g p test t = let wrong : true ≡ false = subst (λ h. Is h true p) (false_is g test) t in absurd (cc)

-- ---- candidates that may be tried

-- the formula at the candidate's point, and the successor: the simplified And of the simplified guard and of that formula
abbrev pub at_candidate : ℕ → Formula → Candidate → Formula
at_candidate x f c = substituted x (point_of x c) (own c) f

abbrev pub successor : ℕ → Formula → Candidate → Formula
successor x f c = joined x f (simplified (guard x c)) (point_of x c) (own c)

-- the guard and the formula at the candidate's point mean what they should
pub record IsUsable (x : ℕ) (f : Formula) (c : Candidate) : Type 0 where
  pub guarded : IsSound x c (simplified (guard x c)) (point_of x c)
  pub simple : (p : Point) → IsPoint p → Agree (guard x c) (simplified (guard x c)) p
  pub stands : StandsFor x (point_of x c) (own c) f (at_candidate x f c)
  pub kept : Keeps (And (more (simplified (guard x c)) (more (at_candidate x f c) no_more))) (successor x f c)

module _ (x : ℕ) (f : Formula) (p : Point) (valid : IsPoint p) where
  -- guard and form are true exactly where the candidate's guard is and the formula holds at its point
  parts_hold : (c : Candidate) → IsUsable x f c → (Is (simplified (guard x c)) true p × Is (at_candidate x f c) true p) ↔ HoldsAtCandidate x c f p
  parts_hold c u = (
    λ h.
        let there = u.guarded.there p valid h.0 in
        let place = there.place.0 in
        let stands = there.place.1 in
        ((u.simple p valid true).1 h.0, (place, (stands, (u.stands p valid place stands (there.zero place stands) true).0 h.1))),
    λ h.
        let place = h.1.0 in
        let stands = h.1.1.0 in
        let simple = (u.simple p valid true).0 h.0 in
        (simple, (u.stands p valid place stands ((u.guarded.there p valid simple).zero place stands) true).1 h.1.1.1),
  )

  successor_holds : (c : Candidate) → IsUsable x f c → Is (successor x f c) true p ↔ HoldsAtCandidate x c f p
  successor_holds c u = (
    λ t. let both = (u.kept.agree p valid true).1 t in (parts_hold c u).0 (both.0, both.1.0),
    λ h. let both = (parts_hold c u).1 h in (u.kept.agree p valid true).0 (both.0, (both.1, tt)),
  )

  -- what becomes of the candidate tells whether the formula holds there
  abbrev Tells : Tried → Candidate → Type 0
  Tells (fails s) c = Unit {0}
  Tells skipped c = HoldsAtCandidate x c f p → ⊥
  Tells (gives g) c = Is g true p ↔ HoldsAtCandidate x c f p

  module _ (n : ℕ) (c : Candidate) (u : IsUsable x f c) where
    tells_unless : (b : Bool) → is_false (successor x f c) ≡ b → Tells (cond b skipped (gives (successor x f c))) c
    tells_unless true test = λ h. never_true (successor x f c) p test ((successor_holds c u).1 h)
    tells_unless false test = successor_holds c u

    tells_after_stop : (s : Option SubstStop) → Tells (after_stop n (successor x f c) s) c
    tells_after_stop (Some s) = tt
    tells_after_stop None = tells_unless (is_false (successor x f c)) refl

    tells_guard : (b : Bool) → is_false (simplified (guard x c)) ≡ b → Tells (cond b skipped (put_in x f n (simplified (guard x c)) (point_of x c) (own c))) c
    tells_guard true test = λ h. never_true (simplified (guard x c)) p test ((u.simple p valid true).0 h.0)
    tells_guard false test = tells_after_stop (stop x (point_of x c) (own c) f)

    tells_after_limit : (o : Option PolyLimit) → Tells (after_limit x f n c o) c
    tells_after_limit (Some polynomial) = tt
    tells_after_limit None = tells_guard (is_false (simplified (guard x c))) refl

    tells : Tells (tried x f n c) c
    tells = tells_after_limit (limit x c)

  -- some of these formulas is true
  abbrev OneIs : List (ℕ × Formula) → Type 0
  OneIs parts = SomeIs (trees_of (forms_of parts)) true p

  abbrev IsTold : Result (List (ℕ × Formula)) NodeStop → List Candidate → Type 0
  IsTold r cs = (parts : List (ℕ × Formula)) → r ≡ Ok parts → OneIs parts ↔ HoldsAtOne x cs f p

  told_before : (n : ℕ) (g : Formula) (c : Candidate) (cs : List Candidate) → Is g true p ↔ HoldsAtCandidate x c f p → (others : Result (List (ℕ × Formula)) NodeStop) → IsTold others cs
      → IsTold (before (n, g) others) (c ∷ cs)
  told_before n g c cs here (Ok rest) told parts is =
      let e : parts ≡ (n, g) ∷ rest = cc in
      let later = told rest refl in
      subst (λ ps. OneIs ps ↔ HoldsAtOne x (c ∷ cs) f p) (sym e)
      ((λ h. elim h [ inl t ↦ inl (here.0 t) | inr t ↦ inr (later.0 t) ]), (λ h. elim h [ inl t ↦ inl (here.1 t) | inr t ↦ inr (later.1 t) ]))
  told_before n g c cs here (Err s) told parts is = absurd (cc)

  told_next : (n : ℕ) (t : Tried) (c : Candidate) (cs : List Candidate) → Tells t c → (others : Result (List (ℕ × Formula)) NodeStop) → IsTold others cs → IsTold (and_then n t others) (c ∷ cs)
  told_next n (fails s) c cs here others told = λ parts is. absurd (cc)
  told_next n skipped c cs here others told = λ parts is.
      let later = told parts is in ((λ h. inr (later.0 h)), (λ h. elim h [ inl t ↦ absurd (here t) | inr t ↦ later.1 t ]))
  told_next n (gives g) c cs here others told = by_test (is_true g) refl
    where
      by_test : (b : Bool) → is_true g ≡ b → IsTold (cond b (Ok ((n, g) ∷ [])) (before (n, g) others)) (c ∷ cs)
      by_test true test = λ parts is.
          let e : parts ≡ (n, g) ∷ [] = cc in
          let always : Is g true p = subst (λ h. Is h true p) (sym (true_is g test)) refl in
          subst (λ ps. OneIs ps ↔ HoldsAtOne x (c ∷ cs) f p) (sym e)
          ((λ h. elim h [ inl t ↦ inl (here.0 t) | inr t ↦ absurd t ]), (λ h. inl always))
      by_test false test = told_before n g c cs here others told

  -- some successor is true exactly where the formula holds at one of the candidates
  pub told : (n : ℕ) (cs : List Candidate) → Each (IsUsable x f) cs → IsTold (given_by x f n cs) cs
  told n [] usable = λ parts is. let e : parts ≡ [] = cc in subst (λ ps. OneIs ps ↔ ⊥) (sym e) ((λ h. h), (λ h. h))
  told n (c ∷ cs) usable = told_next n (tried x f n c) c cs (tells n c usable.0) (given_by x f (suc n) cs) (told (suc n) cs usable.1)

-- ---- what holds of each successor

module _ (P : Formula → Type 0) where
  abbrev IfGives : Tried → Type 0
  IfGives (fails s) = Unit {0}
  IfGives skipped = Unit {0}
  IfGives (gives g) = P g

  abbrev HoldOfEach : Result (List (ℕ × Formula)) NodeStop → Type 0
  HoldOfEach r = (parts : List (ℕ × Formula)) → r ≡ Ok parts → Each P (forms_of parts)

  each_before : (n : ℕ) (g : Formula) → P g → (others : Result (List (ℕ × Formula)) NodeStop) → HoldOfEach others → HoldOfEach (before (n, g) others)
  each_before n g here (Ok rest) later parts is = let e : parts ≡ (n, g) ∷ rest = cc in subst (λ ps. Each P (forms_of ps)) (sym e) (here, later rest refl)
  each_before n g here (Err s) later parts is = absurd (cc)

  each_next : (n : ℕ) (t : Tried) → IfGives t → (others : Result (List (ℕ × Formula)) NodeStop) → HoldOfEach others → HoldOfEach (and_then n t others)
  each_next n (fails s) here others later = λ parts is. absurd (cc)
  each_next n skipped here others later = later
  each_next n (gives g) here others later = by_test (is_true g)
    where
      by_test : (b : Bool) → HoldOfEach (cond b (Ok ((n, g) ∷ [])) (before (n, g) others))
      by_test true = λ parts is. let e : parts ≡ (n, g) ∷ [] = cc in subst (λ ps. Each P (forms_of ps)) (sym e) (here, tt)
      by_test false = each_before n g here others later

  module _ (x : ℕ) (f : Formula) where
    -- no limit is met at the candidate's point
    abbrev IsWithout : Candidate → Type 0
    IsWithout c = stop x (point_of x c) (own c) f ≡ None

    gives_if : (n : ℕ) (c : Candidate) → (IsWithout c → P (successor x f c)) → IfGives (tried x f n c)
    gives_if n c here = by_limit (limit x c)
      where
        by_false : IsWithout c → (b : Bool) → IfGives (cond b skipped (gives (successor x f c)))
        by_false without true = tt
        by_false without false = here without

        by_stop : (s : Option SubstStop) → stop x (point_of x c) (own c) f ≡ s → IfGives (after_stop n (successor x f c) s)
        by_stop (Some s) is = tt
        by_stop None is = by_false is (is_false (successor x f c))

        by_guard : (b : Bool) → IfGives (cond b skipped (put_in x f n (simplified (guard x c)) (point_of x c) (own c)))
        by_guard true = tt
        by_guard false = by_stop (stop x (point_of x c) (own c) f) refl

        by_limit : (o : Option PolyLimit) → IfGives (after_limit x f n c o)
        by_limit (Some polynomial) = tt
        by_limit None = by_guard (is_false (simplified (guard x c)))

    -- what holds of the simplified And of guard and form at each candidate, where no limit is met, holds of each successor
    pub each_given : (n : ℕ) (cs : List Candidate) → Each (λ c. IsWithout c → P (successor x f c)) cs → HoldOfEach (given_by x f n cs)
    each_given n [] here = λ parts is. let e : parts ≡ [] = cc in subst (λ ps. Each P (forms_of ps)) (sym e) tt
    each_given n (c ∷ cs) here = each_next n (tried x f n c) (gives_if n c here.0) (given_by x f (suc n) cs) (each_given (suc n) cs here.1)
