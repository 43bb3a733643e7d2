-- The choice of the variable with the least degree, along the list.
use Rattle.std.proofs.Common.{ℕ, zero, suc, ◌≡◌, ◌∙◌, ◌<◌, ◌≤◌, ◌+◌, inl, inr, refl, sym, ap, subst, Bool, true, false, cond, eqb, List, [], ◌∷◌, Option, Some, None, IfSome, IfNone, length, get_or, drop, drop-cons, add-one, arith}
use Rattle.std.proofs.lemmas.List.{drop_all}
use Rattle.std.proofs.lemmas.Bool.{eqb-true}
use Rattle.std.proofs.lemmas.Bool.Decides.{nat_tests}
use Rattle.qe_halt.specs.Outcome.{or_else}
use Rattle.qe_ring.proofs.Bools.{number_tells, fails}
use Rattle.qe_poly.specs.declared.monomial.Var.{Var}
use Rattle.qe_form.specs.Formula.{Formula}
use Rattle.qe_form.specs.Measures.{degree}
use Rattle.qe_points.specs.Choice.{first_of_degree, choice, IsOneOf, AllAreHigh}

other_test : (d n : ℕ) → (d ≡ n → ⊥) → eqb d n ≡ false
other_test d n other = fails (eqb d n) (number_tells d n) other

-- ---- what is left of the list decides, with the variable found so far, in which the degree is `least`

abbrev pub going : Formula → ℕ → Option Var → List Var → Option Var
going f zero chosen rest = chosen
going f (suc zero) chosen rest = or_else (first_of_degree f 0 rest) chosen
going f (suc (suc zero)) chosen rest = or_else (first_of_degree f 0 rest) (or_else (first_of_degree f 1 rest) chosen)
going f (suc (suc (suc n))) chosen rest = or_else (first_of_degree f 0 rest) (or_else (first_of_degree f 1 rest) (or_else (first_of_degree f 2 rest) chosen))

or_none : (o : Option Var) → or_else o None ≡ o
or_none (Some v) = refl
or_none None = refl

-- as long as none is found, all of the list
pub going_first : (f : Formula) (vs : List Var) → going f 3 None vs ≡ choice f vs
going_first f vs = ap (λ o. or_else (first_of_degree f 0 vs) (or_else (first_of_degree f 1 vs) o)) (or_none (first_of_degree f 2 vs))

-- at the end, the one that is found
pub going_last : (f : Formula) (least : ℕ) (chosen : Option Var) → going f least chosen [] ≡ chosen
going_last f zero chosen = refl
going_last f (suc zero) chosen = refl
going_last f (suc (suc zero)) chosen = refl
going_last f (suc (suc (suc n))) chosen = refl

module _ (f : Formula) (v : Var) (vs : List Var) where
  hit : (n : ℕ) → degree v.0 f ≡ n → first_of_degree f n (v ∷ vs) ≡ Some v
  hit n same = ap (λ b. cond b (Some v) (first_of_degree f n vs)) ((number_tells (degree v.0 f) n).1 same)

  miss : (n d : ℕ) → degree v.0 f ≡ d → (d ≡ n → ⊥) → first_of_degree f n (v ∷ vs) ≡ first_of_degree f n vs
  miss n d same other = ap (λ b. cond b (Some v) (first_of_degree f n vs)) (other_test (degree v.0 f) n (λ e. other (sym same ∙ e)))

  -- a variable of a lower degree takes the place
  pub going_taken : (least : ℕ) (chosen : Option Var) (d : ℕ) → degree v.0 f ≡ d → d < least → least ≤ 3 → going f least chosen (v ∷ vs) ≡ going f d (Some v) vs
  going_taken zero chosen d same less small = absurd (omega arith)
  going_taken (suc zero) chosen zero same less small = ap (λ o. or_else o chosen) (hit 0 same)
  going_taken (suc zero) chosen (suc d) same less small = absurd (omega arith)
  going_taken (suc (suc zero)) chosen zero same less small = ap (λ o. or_else o (or_else (first_of_degree f 1 (v ∷ vs)) chosen)) (hit 0 same)
  going_taken (suc (suc zero)) chosen (suc zero) same less small = λ i. or_else (miss 0 1 same (λ e. omega arith) i) (or_else (hit 1 same i) chosen)
  going_taken (suc (suc zero)) chosen (suc (suc d)) same less small = absurd (omega arith)
  going_taken (suc (suc (suc n))) chosen zero same less small =
      ap (λ o. or_else o (or_else (first_of_degree f 1 (v ∷ vs)) (or_else (first_of_degree f 2 (v ∷ vs)) chosen))) (hit 0 same)
  going_taken (suc (suc (suc n))) chosen (suc zero) same less small =
      λ i. or_else (miss 0 1 same (λ e. omega arith) i) (or_else (hit 1 same i) (or_else (first_of_degree f 2 (v ∷ vs)) chosen))
  going_taken (suc (suc (suc n))) chosen (suc (suc zero)) same less small =
      λ i. or_else (miss 0 2 same (λ e. omega arith) i) (or_else (miss 1 2 same (λ e. omega arith) i) (or_else (hit 2 same i) chosen))
  going_taken (suc (suc (suc n))) chosen (suc (suc (suc d))) same less small = absurd (omega arith)

  -- any other leaves it
  pub going_kept : (least : ℕ) (chosen : Option Var) (d : ℕ) → degree v.0 f ≡ d → least ≤ d → going f least chosen (v ∷ vs) ≡ going f least chosen vs
  going_kept zero chosen d same high = refl
  going_kept (suc zero) chosen d same high = λ i. or_else (miss 0 d same (λ e. omega arith) i) chosen
  going_kept (suc (suc zero)) chosen d same high = λ i. or_else (miss 0 d same (λ e. omega arith) i) (or_else (miss 1 d same (λ e. omega arith) i) chosen)
  going_kept (suc (suc (suc n))) chosen d same high =
      λ i. or_else (miss 0 d same (λ e. omega arith) i) (or_else (miss 1 d same (λ e. omega arith) i) (or_else (miss 2 d same (λ e. omega arith) i) chosen))

-- ---- one turn of the loop

module _ (f : Formula) (vs : List Var) (i least : ℕ) (chosen answer : Option Var) (within : i < length vs) (before : going f least chosen (drop i vs) ≡ answer) where
  left : (least : ℕ) (chosen : Option Var) → going f least chosen (drop i vs) ≡ going f least chosen (get_or vs i (record { 0 = 0 }) ∷ drop (i + 1) vs)
  left least chosen = ap (going f least chosen) (rw add-one (drop-cons vs i (record { 0 = 0 }) within))

  pub turn_taken : (d now : ℕ) (new : Option Var) → d ≡ degree (get_or vs i (record { 0 = 0 })).0 f → d < least → least ≤ 3 → new ≡ Some (get_or vs i (record { 0 = 0 })) → now ≡ d
      → going f now new (drop (i + 1) vs) ≡ answer
  turn_taken d now new same less small is is_now =
      (λ j. going f (is_now j) (is j) (drop (i + 1) vs)) ∙ (sym (going_taken f (get_or vs i (record { 0 = 0 })) (drop (i + 1) vs) least chosen d (sym same) less small) ∙ (sym (left least chosen) ∙ before))

  pub turn_kept : (d now : ℕ) (new : Option Var) → d ≡ degree (get_or vs i (record { 0 = 0 })).0 f → least ≤ d → new ≡ chosen → now ≡ least
      → going f now new (drop (i + 1) vs) ≡ answer
  turn_kept d now new same high is is_now =
      (λ j. going f (is_now j) (is j) (drop (i + 1) vs)) ∙ (sym (going_kept f (get_or vs i (record { 0 = 0 })) (drop (i + 1) vs) least chosen d (sym same) high) ∙ (sym (left least chosen) ∙ before))

-- the end of the loop
pub all_gone : (f : Formula) (vs : List Var) (i least : ℕ) (chosen answer : Option Var) → length vs ≤ i → going f least chosen (drop i vs) ≡ answer → chosen ≡ answer
all_gone f vs i least chosen answer past before = sym (going_last f least chosen) ∙ (ap (going f least chosen) (sym (drop_all i vs past)) ∙ before)

-- ---- what the choice is

if_some : {P : Var → Type 0} (Q : Var → Type 0) (o : Option Var) → IfSome o P → ((v : Var) → P v → Q v) → IfSome o Q
if_some Q (Some v) h k = k v h
if_some Q None h k = tt

if_either : (P : Var → Type 0) (o rest : Option Var) → IfSome o P → IfSome rest P → IfSome (or_else o rest) P
if_either P (Some v) rest h k = h
if_either P None rest h k = k

first_is : (f : Formula) (n : ℕ) (vs : List Var) → IfSome (first_of_degree f n vs) (λ v. IsOneOf v vs × (degree v.0 f ≡ n))
first_is f n [] = tt
first_is f n (v ∷ vs) = by (eqb (degree v.0 f) n) refl (if_some _ (first_of_degree f n vs) (first_is f n vs) (λ u h. (inr h.0, h.1)))
  where
    by : (b : Bool) → eqb (degree v.0 f) n ≡ b → IfSome (first_of_degree f n vs) (λ u. IsOneOf u (v ∷ vs) × (degree u.0 f ≡ n))
        → IfSome (cond b (Some v) (first_of_degree f n vs)) (λ u. IsOneOf u (v ∷ vs) × (degree u.0 f ≡ n))
    by true test later = (inl refl, eqb-true (degree v.0 f) n test)
    by false test later = later

-- one of the variables, with a degree of two at most
pub choice_is : (f : Formula) (vs : List Var) → IfSome (choice f vs) (λ v. IsOneOf v vs × (degree v.0 f ≤ 2))
choice_is f vs =
    if_either _ (first_of_degree f 0 vs) (or_else (first_of_degree f 1 vs) (first_of_degree f 2 vs)) (low 0 (omega arith))
    (if_either _ (first_of_degree f 1 vs) (first_of_degree f 2 vs) (low 1 (omega arith)) (low 2 (omega arith)))
  where
    low : (n : ℕ) → n ≤ 2 → IfSome (first_of_degree f n vs) (λ v. IsOneOf v vs × (degree v.0 f ≤ 2))
    low n small = if_some _ (first_of_degree f n vs) (first_is f n vs) (λ v h. (h.0, at_most (degree v.0 f) h.1))
      where
        at_most : (d : ℕ) → d ≡ n → d ≤ 2
        at_most d same = omega arith

none_of_both : (o rest : Option Var) → or_else o rest ≡ None → (o ≡ None) × (rest ≡ None)
none_of_both (Some v) rest none = absurd (cc)
none_of_both None rest none = (refl, none)

not_equal : (d n : ℕ) → eqb d n ≡ false → d ≡ n → ⊥
not_equal d n test same = grind (arith, nat_tests)

not_first : (f : Formula) (n : ℕ) (v : Var) (vs : List Var) → first_of_degree f n (v ∷ vs) ≡ None → (degree v.0 f ≡ n → ⊥) × (first_of_degree f n vs ≡ None)
not_first f n v vs none = by (eqb (degree v.0 f) n) refl none
  where
    by : (b : Bool) → eqb (degree v.0 f) n ≡ b → cond b (Some v) (first_of_degree f n vs) ≡ None → (degree v.0 f ≡ n → ⊥) × (first_of_degree f n vs ≡ None)
    by true test e = absurd (cc)
    by false test e = ((λ same. not_equal (degree v.0 f) n test same), e)

-- without one, each has a degree over two
pub all_high : (f : Formula) (vs : List Var) → first_of_degree f 0 vs ≡ None → first_of_degree f 1 vs ≡ None → first_of_degree f 2 vs ≡ None → AllAreHigh f vs
all_high f [] n0 n1 n2 = tt
all_high f (v ∷ vs) n0 n1 n2 =
    let a0 = not_first f 0 v vs n0 in
    let a1 = not_first f 1 v vs n1 in
    let a2 = not_first f 2 v vs n2 in
    (over (degree v.0 f) a0.0 a1.0 a2.0, all_high f vs a0.1 a1.1 a2.1)
  where
    over : (d : ℕ) → (d ≡ 0 → ⊥) → (d ≡ 1 → ⊥) → (d ≡ 2 → ⊥) → 2 < d
    over zero a b c = absurd (a refl)
    over (suc zero) a b c = absurd (b refl)
    over (suc (suc zero)) a b c = absurd (c refl)
    over (suc (suc (suc d))) a b c = omega arith

pub choice_none : (f : Formula) (vs : List Var) → IfNone (choice f vs) (AllAreHigh f vs)
choice_none f vs = by (choice f vs) refl
  where
    by : (o : Option Var) → choice f vs ≡ o → IfNone o (AllAreHigh f vs)
    by (Some v) e = tt
    by None e =
        let first = none_of_both (first_of_degree f 0 vs) (or_else (first_of_degree f 1 vs) (first_of_degree f 2 vs)) e in
        let rest = none_of_both (first_of_degree f 1 vs) (first_of_degree f 2 vs) first.1 in
        all_high f vs first.0 rest.0 rest.1

-- so of what is equal to it
pub chosen_is : (f : Formula) (vs : List Var) (o : Option Var) → o ≡ choice f vs → IfSome o (λ v. IsOneOf v vs × (degree v.0 f ≤ 2))
chosen_is f vs o is = subst (λ o. IfSome o (λ v. IsOneOf v vs × (degree v.0 f ≤ 2))) (sym is) (choice_is f vs)

pub none_chosen : (f : Formula) (vs : List Var) (o : Option Var) → o ≡ choice f vs → IfNone o (AllAreHigh f vs)
none_chosen f vs o is = subst (λ o. IfNone o (AllAreHigh f vs)) (sym is) (choice_none f vs)
