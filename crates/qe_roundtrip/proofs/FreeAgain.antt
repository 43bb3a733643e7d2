-- The names that are printed free are the free names, where each of these occurs.
use Rattle.std.proofs.Common.{ℕ, zero, suc, ◌+◌, ◌≡◌, ◌<◌, ◌≤◌, ◌⊎◌, inl, inr, refl, sym, ap, subst, ◌∙◌, Bool, true, false, ◌||◌, cond, List, [], ◌∷◌, ◌++◌, map, length, Option, Some, None, arith}
use Rattle.std.specs.List.{AllByRecursion, Contains, list_any}
use Rattle.std.specs.Option.{option_or}
use Rattle.std.proofs.lemmas.List.{map-append}
use Rattle.qe_poly.specs.declared.monomial.Var.{Var}
use Rattle.qe_poly.specs.Monomial.{Monomial}
use Rattle.qe_poly.specs.Polynomial.{Polynomial}
use Rattle.qe_form.specs.Formula.{Formula, Formulas, True, False, Atom, And, Or, Not, Implies, Iff, Ex, All, no_more, more}
use Rattle.qe_poly.specs.Occurs.{OccursIn, OccursInSome}
use Rattle.qe_form.specs.Measures.{Has, SomeHas}
use Rattle.qe_print.specs.Polynomial.{name_of}
use Rattle.qe_read.specs.Names.{Letters, is_same, or_free}
use Rattle.qe_read.specs.Numbered.{binders}
use Rattle.qe_read.proofs.Variables as variables
use Rattle.qe_read.proofs.Variables.{Have}
use Rattle.qe_roundtrip.proofs.Legible.{Scope, found, IsKnown, IsLegible, AreLegible}
use Rattle.qe_roundtrip.proofs.PolynomialNames.{monomial_names, printed_names}
use Rattle.qe_roundtrip.proofs.Loose.{outside, loose, loose_each}

-- ---- lists that hold a name

abbrev pub Holds : Letters → List Letters → Type 0
Holds w [] = ⊥
Holds w (v ∷ vs) = (v ≡ w) ⊎ Holds w vs

pub holds_contained : (w : Letters) (vs : List Letters) → Holds w vs → Contains vs w
holds_contained w [] h = absurd h
holds_contained w (v ∷ vs) (inl e) = (0, omega arith, e)
holds_contained w (v ∷ vs) (inr h) = let c = holds_contained w vs h in (suc c.0, omega (arith, c.1), c.2)

pub contained_holds : (w : Letters) (vs : List Letters) → Contains vs w → Holds w vs
contained_holds w [] (k, h, e) = absurd (omega arith)
contained_holds w (v ∷ vs) (zero, h, e) = inl e
contained_holds w (v ∷ vs) (suc k, h, e) = inr (contained_holds w vs (k, omega arith, e))

holds_left : (w : Letters) (vs ws : List Letters) → Holds w vs → Holds w (vs ++ ws)
holds_left w [] ws h = absurd h
holds_left w (v ∷ vs) ws (inl e) = inl e
holds_left w (v ∷ vs) ws (inr h) = inr (holds_left w vs ws h)

holds_right : (w : Letters) (vs ws : List Letters) → Holds w ws → Holds w (vs ++ ws)
holds_right w [] ws h = h
holds_right w (v ∷ vs) ws h = inr (holds_right w vs ws h)

pub held : (P : Letters → Type 0) (w : Letters) (vs : List Letters) → AllByRecursion P vs → Holds w vs → P w
held P w [] a h = absurd h
held P w (v ∷ vs) a (inl e) = subst P e a.0
held P w (v ∷ vs) a (inr h) = held P w vs a.1 h

all_append : (P : Letters → Type 0) (vs ws : List Letters) → AllByRecursion P vs → AllByRecursion P ws → AllByRecursion P (vs ++ ws)
all_append P [] ws h k = k
all_append P (v ∷ vs) ws h k = (h.0, all_append P vs ws h.1 k)

-- ---- binders around

abbrev around_of : Scope → List Letters
around_of scope = map (λ s. s.0) scope

unfound_one : (o : Option Var) (same any : Bool) (x : Var) → (any ≡ false → o ≡ None) → (same || any) ≡ false → option_or o (cond same (Some x) None) ≡ None
unfound_one o true any x h e = absurd (cc)
unfound_one o false any x h e = ap (λ p. option_or p None) (h e)

unfound : (scope : Scope) (w : Letters) → list_any (λ v. is_same v w) (around_of scope) ≡ false → found scope w ≡ None
unfound [] w e = refl
unfound (s ∷ ss) w e = unfound_one (found ss w) (is_same s.0 w) (list_any (λ v. is_same v w) (around_of ss)) s.1 (λ f. unfound ss w f) e

apart_one : (o : Option Var) (same any : Bool) (x : Var) → (o ≡ None → any ≡ false) → option_or o (cond same (Some x) None) ≡ None → (same || any) ≡ false
apart_one (Some u) same any x h e = absurd (cc)
apart_one None true any x h e = absurd (cc)
apart_one None false any x h e = h refl

apart : (scope : Scope) (w : Letters) → found scope w ≡ None → list_any (λ v. is_same v w) (around_of scope) ≡ false
apart [] w e = refl
apart (s ∷ ss) w e = apart_one (found ss w) (is_same s.0 w) (list_any (λ v. is_same v w) (around_of ss)) s.1 (λ f. apart ss w f) e

abbrev AreHigh : ℕ → Scope → Type 0
AreHigh n scope = AllByRecursion (λ s. n ≤ s.1.0) scope

high_push : (n : ℕ) (scope : Scope) (s : Letters × Var) → AreHigh n scope → n ≤ s.1.0 → AreHigh n (scope ++ s ∷ [])
high_push n [] s h k = (k, tt)
high_push n (r ∷ scope) s h k = (h.0, high_push n scope s h.1 k)

high_one : (n : ℕ) (o : Option Var) (same : Bool) (x v : Var) → ((u : Var) → o ≡ Some u → n ≤ u.0) → n ≤ x.0 → option_or o (cond same (Some x) None) ≡ Some v → n ≤ v.0
high_one n (Some u) same x v h k e = h v e
high_one n None true x v h k e = let f : x ≡ v = cc in subst (λ (z : Var). n ≤ z.0) f k
high_one n None false x v h k e = absurd (cc)

high_found : (n : ℕ) (scope : Scope) (w : Letters) (v : Var) → AreHigh n scope → found scope w ≡ Some v → n ≤ v.0
high_found n [] w v h e = absurd (cc)
high_found n (s ∷ ss) w v h e = high_one n (found ss w) (is_same s.0 w) s.1 v (λ u f. high_found n ss w u h.1 f) h.0 e

module _ (names free : List Letters) where
  around_push : (scope : Scope) (w : Letters) (x : Var) → around_of (scope ++ (w, x) ∷ []) ≡ around_of scope ++ w ∷ []
  around_push scope w x = map-append {B = Letters} (λ (s : Letters × Var). s.0) scope ((w, x) ∷ [])

  -- ---- what is printed free is a free name

  abbrev IsListed : Letters → Type 0
  IsListed w = Contains free w

  all_outside : (around vs : List Letters) → AllByRecursion (λ w. list_any (λ v. is_same v w) around ≡ false → IsListed w) vs → AllByRecursion IsListed (outside around vs)
  all_outside around [] h = tt
  all_outside around (v ∷ vs) h =
      elim (list_any (λ u. is_same u v) around) as (λ b. list_any (λ u. is_same u v) around ≡ b → AllByRecursion IsListed (cond b (outside around vs) (v ∷ outside around vs))) [
        | true ↦ λ e. all_outside around vs h.1
        | false ↦ λ e. (h.0 e, all_outside around vs h.1)
      ] refl

  module _ (scope : Scope) where
    abbrev MayListed : Letters → Type 0
    MayListed w = list_any (λ v. is_same v w) (around_of scope) ≡ false → IsListed w

    listed_monomial : (m : Monomial) → variables.Has (IsKnown names free scope) m → AllByRecursion MayListed (monomial_names names m)
    listed_monomial [] h = tt
    listed_monomial (a ∷ m) h = (λ e. h.0.listed (unfound scope (name_of names a.var.0) e), listed_monomial m h.1)

    listed_polynomial : (p : Polynomial) → Have (IsKnown names free scope) p → AllByRecursion MayListed (printed_names names p)
    listed_polynomial [] h = tt
    listed_polynomial (t ∷ ts) h = all_append MayListed (monomial_names names t.0) (printed_names names ts) (listed_monomial t.0 h.0) (listed_polynomial ts h.1)

  mutual
    pub all_listed : (f : Formula) (n : ℕ) (scope : Scope) → IsLegible names free n scope f → AllByRecursion (λ w. Contains free w) (loose names (map (λ s. s.0) scope) f)
    all_listed True n scope h = tt
    all_listed False n scope h = tt
    all_listed (Atom a) n scope h = all_outside (around_of scope) (printed_names names a.poly) (listed_polynomial scope a.poly h.known)
    all_listed (And fs) n scope h = all_listed_each fs n scope h.1
    all_listed (Or fs) n scope h = all_listed_each fs n scope h.1
    all_listed (Not f) n scope h = all_listed f n scope h
    all_listed (Implies f g) n scope h = all_append IsListed (loose names (around_of scope) f) (loose names (around_of scope) g) (all_listed f n scope h.0) (all_listed g (n + length (binders f)) scope h.1)
    all_listed (Iff f g) n scope h = all_append IsListed (loose names (around_of scope) f) (loose names (around_of scope) g) (all_listed f n scope h.0) (all_listed g (n + length (binders f)) scope h.1)
    all_listed (Ex x f) n scope h = subst (λ ws. AllByRecursion IsListed (loose names ws f)) (around_push scope (name_of names x) (record { 0 = x })) (all_listed f (suc n) (scope ++ (name_of names x, record { 0 = x }) ∷ []) h.2)
    all_listed (All x f) n scope h = subst (λ ws. AllByRecursion IsListed (loose names ws f)) (around_push scope (name_of names x) (record { 0 = x })) (all_listed f (suc n) (scope ++ (name_of names x, record { 0 = x }) ∷ []) h.2)

    all_listed_each : (fs : Formulas) (n : ℕ) (scope : Scope) → AreLegible names free n scope fs → AllByRecursion (λ w. Contains free w) (loose_each names (map (λ s. s.0) scope) fs)
    all_listed_each no_more n scope h = tt
    all_listed_each (more f fs) n scope h = all_append IsListed (loose names (around_of scope) f) (loose_each names (around_of scope) fs) (all_listed f n scope h.0) (all_listed_each fs (n + length (binders f)) scope h.1)

  -- ---- a free name that occurs is printed free

  in_monomial : (k : ℕ) (m : Monomial) → OccursIn k m → Holds (name_of names k) (monomial_names names m)
  in_monomial k [] o = absurd o
  in_monomial k (a ∷ m) (inl e) = inl (ap (name_of names) e)
  in_monomial k (a ∷ m) (inr o) = inr (in_monomial k m o)

  in_polynomial : (k : ℕ) (p : Polynomial) → OccursInSome k p → Holds (name_of names k) (printed_names names p)
  in_polynomial k [] o = absurd o
  in_polynomial k (t ∷ ts) (inl o) = holds_left (name_of names k) (monomial_names names t.0) (printed_names names ts) (in_monomial k t.0 o)
  in_polynomial k (t ∷ ts) (inr o) = holds_right (name_of names k) (monomial_names names t.0) (printed_names names ts) (in_polynomial k ts o)

  held_outside : (around : List Letters) (w : Letters) (vs : List Letters) → list_any (λ v. is_same v w) around ≡ false → Holds w vs → Holds w (outside around vs)
  held_outside around w [] e h = absurd h
  held_outside around w (v ∷ vs) e (inl q) =
      let free_one : list_any (λ u. is_same u v) around ≡ false = ap (λ x. list_any (λ u. is_same u x) around) q ∙ e in
      subst (λ b. Holds w (cond b (outside around vs) (v ∷ outside around vs))) (sym free_one) (inl q)
  held_outside around w (v ∷ vs) e (inr h) =
      let rest = held_outside around w vs e h in
      elim (list_any (λ u. is_same u v) around) as (λ b. Holds w (cond b (outside around vs) (v ∷ outside around vs))) [ true ↦ rest | false ↦ inr rest ]

  -- no binder around has the variable
  none_found : (k : ℕ) (scope : Scope) (w : Letters) (o : Option Var) → found scope w ≡ o → k < length free → AreHigh (length free) scope → (or_free free w o).0 ≡ k → o ≡ None
  none_found k scope w None e l h q = refl
  none_found k scope w (Some v) e l h q = absurd (let high = high_found (length free) scope w v h e in omega (arith, high, q))

  module _ (k : ℕ) (l : k < length free) where
    mutual
      pub printed : (f : Formula) (n : ℕ) (scope : Scope) → IsLegible names free n scope f → AllByRecursion (λ s. length free ≤ s.1.0) scope → length free ≤ n → Has k f → Holds (name_of names k) (loose names (map (λ s. s.0) scope) f)
      printed True n scope h a b o = absurd o
      printed False n scope h a b o = absurd o
      printed (Atom p) n scope h a b o =
          let known = variables.in_polynomial (IsKnown names free scope) k p.poly h.known o in
          let w = name_of names k in
          held_outside (around_of scope) w (printed_names names p.poly) (apart scope w (none_found k scope w (found scope w) refl l a known.is)) (in_polynomial k p.poly o)
      printed (And fs) n scope h a b o = printed_each fs n scope h.1 a b o
      printed (Or fs) n scope h a b o = printed_each fs n scope h.1 a b o
      printed (Not f) n scope h a b o = printed f n scope h a b o
      printed (Implies f g) n scope h a b (inl o) = holds_left (name_of names k) (loose names (around_of scope) f) (loose names (around_of scope) g) (printed f n scope h.0 a b o)
      printed (Implies f g) n scope h a b (inr o) = holds_right (name_of names k) (loose names (around_of scope) f) (loose names (around_of scope) g) (printed g (n + length (binders f)) scope h.1 a (omega (arith, b)) o)
      printed (Iff f g) n scope h a b (inl o) = holds_left (name_of names k) (loose names (around_of scope) f) (loose names (around_of scope) g) (printed f n scope h.0 a b o)
      printed (Iff f g) n scope h a b (inr o) = holds_right (name_of names k) (loose names (around_of scope) f) (loose names (around_of scope) g) (printed g (n + length (binders f)) scope h.1 a (omega (arith, b)) o)
      printed (Ex x f) n scope h a b o = subst (λ ws. Holds (name_of names k) (loose names ws f)) (around_push scope (name_of names x) (record { 0 = x }))
          (printed f (suc n) (scope ++ (name_of names x, record { 0 = x }) ∷ []) h.2 (high_push (length free) scope (name_of names x, record { 0 = x }) a (omega (arith, b, h.0))) (omega (arith, b)) o)
      printed (All x f) n scope h a b o = subst (λ ws. Holds (name_of names k) (loose names ws f)) (around_push scope (name_of names x) (record { 0 = x }))
          (printed f (suc n) (scope ++ (name_of names x, record { 0 = x }) ∷ []) h.2 (high_push (length free) scope (name_of names x, record { 0 = x }) a (omega (arith, b, h.0))) (omega (arith, b)) o)

      printed_each : (fs : Formulas) (n : ℕ) (scope : Scope) → AreLegible names free n scope fs → AllByRecursion (λ s. length free ≤ s.1.0) scope → length free ≤ n → SomeHas k fs → Holds (name_of names k) (loose_each names (map (λ s. s.0) scope) fs)
      printed_each no_more n scope h a b o = absurd o
      printed_each (more f fs) n scope h a b (inl o) = holds_left (name_of names k) (loose names (around_of scope) f) (loose_each names (around_of scope) fs) (printed f n scope h.0 a b o)
      printed_each (more f fs) n scope h a b (inr o) = holds_right (name_of names k) (loose names (around_of scope) f) (loose_each names (around_of scope) fs) (printed_each fs (n + length (binders f)) scope h.1 a (omega (arith, b)) o)
