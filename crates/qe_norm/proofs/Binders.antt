-- Which variables the quantifiers of a formula bind, of the formula that is read and of its normal form.
use Rattle.std.proofs.Common.{ℕ, zero, suc, ◌<◌, false, ◌≡◌, ◌⊎◌, inl, inr, refl, sym, List, [], ◌∷◌, ◌++◌, length, get_or, arith}
use Rattle.std.specs.Prelude.{nat_eq}
use Rattle.std.specs.List.{IsDistinct, AllByRecursion, Contains}
use Rattle.std.proofs.lemmas.Map.Keys.{IsDistinct-head, IsDistinct-tail, IsDistinct-cons}
use Rattle.std.proofs.lemmas.List.Elements.{Contains-append_right}
use Rattle.qe_form.specs.Formula.{Formula, Formulas, True, False, Atom, And, Or, Not, Implies, Iff, Ex, All, no_more, more}
use Rattle.qe_form.specs.Numbered.{binders, binders_each}
use Rattle.qe_norm.proofs.Numbers.{eqb_apart, apart_from}
use Rattle.qe_norm.specs.declared.polarity.Polarity.{Polarity}
use Rattle.qe_norm.specs.declared.polarity.Polarity.TheVariants.{Positive, Negative}
use Rattle.qe_norm.specs.Polarity.{flipped, truth_under, conjunction, pair, existential}
use Rattle.qe_norm.specs.NormalForm.{normal_form, normal_forms}

-- the number is one of these
abbrev pub IsIn : ℕ → List ℕ → Type 0
IsIn x [] = ⊥
IsIn x (y ∷ ys) = (x ≡ y) ⊎ IsIn x ys

pub in_either : (x : ℕ) (xs ys : List ℕ) → IsIn x (xs ++ ys) → IsIn x xs ⊎ IsIn x ys
in_either x [] ys h = inr h
in_either x (y ∷ xs) ys h = elim h [ inl e ↦ inl (inl e) | inr k ↦ elim (in_either x xs ys k) [ inl l ↦ inl (inr l) | inr l ↦ inr l ] ]

pub in_left : (x : ℕ) (xs ys : List ℕ) → IsIn x xs → IsIn x (xs ++ ys)
in_left x [] ys h = absurd h
in_left x (y ∷ xs) ys h = elim h [ inl e ↦ inl e | inr k ↦ inr (in_left x xs ys k) ]

pub in_right : (x : ℕ) (xs ys : List ℕ) → IsIn x ys → IsIn x (xs ++ ys)
in_right x [] ys h = h
in_right x (y ∷ xs) ys h = inr (in_right x xs ys h)

pub contained : (xs : List ℕ) (x : ℕ) → Contains xs x → IsIn x xs
contained xs x h = at xs h.0 h.1 h.2
  where
    at : (xs : List ℕ) (k : ℕ) → k < length xs → get_or xs k x ≡ x → IsIn x xs
    at [] k less e = absurd (omega arith)
    at (y ∷ xs) zero less e = inl (sym e)
    at (y ∷ xs) (suc k) less e = inr (at xs k (omega arith) e)

pub contains : (xs : List ℕ) (x : ℕ) → IsIn x xs → Contains xs x
contains [] x h = absurd h
contains (y ∷ xs) x h = elim h [ inl e ↦ (0, omega arith, sym e) | inr k ↦ Contains-append_right (y ∷ []) xs x (contains xs x k) ]

-- a quantifier of the formula binds the variable
abbrev pub Binds : ℕ → Formula → Type 0
Binds x f = IsIn x (binders f)

abbrev pub BindsIn : ℕ → Formulas → Type 0
BindsIn x fs = IsIn x (binders_each fs)

-- no quantifier binds a variable that one around it binds
abbrev mutual
  pub IsNested : Formula → Type 0
  IsNested True = Unit {0}
  IsNested False = Unit {0}
  IsNested (Atom a) = Unit {0}
  IsNested (And fs) = AreNested fs
  IsNested (Or fs) = AreNested fs
  IsNested (Not f) = IsNested f
  IsNested (Implies f g) = IsNested f × IsNested g
  IsNested (Iff f g) = IsNested f × IsNested g
  IsNested (Ex x f) = (Binds x f → ⊥) × IsNested f
  IsNested (All x f) = (Binds x f → ⊥) × IsNested f

  pub AreNested : Formulas → Type 0
  AreNested no_more = Unit {0}
  AreNested (more f fs) = IsNested f × AreNested fs

-- the same of a normal form: constants, atoms, And, Or and quantifiers alone
abbrev mutual
  pub IsReady : Formula → Type 0
  IsReady True = Unit {0}
  IsReady False = Unit {0}
  IsReady (Atom a) = Unit {0}
  IsReady (And fs) = AreReady fs
  IsReady (Or fs) = AreReady fs
  IsReady (Not f) = ⊥
  IsReady (Implies f g) = ⊥
  IsReady (Iff f g) = ⊥
  IsReady (Ex x f) = (Binds x f → ⊥) × IsReady f
  IsReady (All x f) = (Binds x f → ⊥) × IsReady f

  pub AreReady : Formulas → Type 0
  AreReady no_more = Unit {0}
  AreReady (more f fs) = IsReady f × AreReady fs

-- ---- distinct lists

-- all are other numbers than x
abbrev OtherThan : ℕ → List ℕ → Type 0
OtherThan x ys = AllByRecursion (λ y. nat_eq x y ≡ false) ys

all_parts : (P : ℕ → Type 0) (xs ys : List ℕ) → AllByRecursion P (xs ++ ys) → AllByRecursion P xs × AllByRecursion P ys
all_parts P [] ys all = (tt, all)
all_parts P (x ∷ xs) ys all = let rest = all_parts P xs ys all.1 in ((all.0, rest.0), rest.1)

pub none_distinct : IsDistinct nat_eq []
unfolding IsDistinct
none_distinct = tt

distinct_parts : (xs ys : List ℕ) → IsDistinct nat_eq (xs ++ ys) → IsDistinct nat_eq xs × IsDistinct nat_eq ys
distinct_parts [] ys own = (none_distinct, own)
distinct_parts (x ∷ xs) ys own =
    let rest = distinct_parts xs ys (IsDistinct-tail nat_eq x (xs ++ ys) own) in
    (IsDistinct-cons nat_eq x xs (all_parts (λ y. nat_eq x y ≡ false) xs ys (IsDistinct-head nat_eq x (xs ++ ys) own)).0 rest.0, rest.1)

none_in : (x : ℕ) (ys : List ℕ) → OtherThan x ys → IsIn x ys → ⊥
none_in x [] all h = h
none_in x (y ∷ ys) all h = elim h [ inl e ↦ apart_from x y all.0 e | inr k ↦ none_in x ys all.1 k ]

others : (x : ℕ) (ys : List ℕ) → (IsIn x ys → ⊥) → OtherThan x ys
others x [] none = tt
others x (y ∷ ys) none = (eqb_apart x y (λ e. none (inl e)), others x ys (λ k. none (inr k)))

pub distinct_cons : (x : ℕ) (xs : List ℕ) → (IsIn x xs → ⊥) → IsDistinct nat_eq xs → IsDistinct nat_eq (x ∷ xs)
distinct_cons x xs none own = IsDistinct-cons nat_eq x xs (others x xs none) own

distinct_head : (x : ℕ) (xs : List ℕ) → IsDistinct nat_eq (x ∷ xs) → IsIn x xs → ⊥
distinct_head x xs own = none_in x xs (IsDistinct-head nat_eq x xs own)

pub distinct_append : (xs ys : List ℕ) → IsDistinct nat_eq xs → IsDistinct nat_eq ys → ((z : ℕ) → IsIn z xs → IsIn z ys → ⊥) → IsDistinct nat_eq (xs ++ ys)
distinct_append [] ys left right no_common = right
distinct_append (x ∷ xs) ys left right no_common =
    distinct_cons x (xs ++ ys) (λ i. elim (in_either x xs ys i) [ inl k ↦ distinct_head x xs left k | inr k ↦ no_common x (inl refl) k ])
    (distinct_append xs ys (IsDistinct-tail nat_eq x xs left) right (λ z i j. no_common z (inr i) j))

-- ---- of the formula that is read

mutual
  pub nested : (f : Formula) → IsDistinct nat_eq (binders f) → IsNested f
  nested True own = tt
  nested False own = tt
  nested (Atom a) own = tt
  nested (And fs) own = nested_each fs own
  nested (Or fs) own = nested_each fs own
  nested (Not f) own = nested f own
  nested (Implies f g) own = let parts = distinct_parts (binders f) (binders g) own in (nested f parts.0, nested g parts.1)
  nested (Iff f g) own = let parts = distinct_parts (binders f) (binders g) own in (nested f parts.0, nested g parts.1)
  nested (Ex x f) own = (distinct_head x (binders f) own, nested f (IsDistinct-tail nat_eq x (binders f) own))
  nested (All x f) own = (distinct_head x (binders f) own, nested f (IsDistinct-tail nat_eq x (binders f) own))

  nested_each : (fs : Formulas) → IsDistinct nat_eq (binders_each fs) → AreNested fs
  nested_each no_more own = tt
  nested_each (more f fs) own = let parts = distinct_parts (binders f) (binders_each fs) own in (nested f parts.0, nested_each fs parts.1)

-- ---- of its normal form

binds_connected : (b : Polarity) (fs : Formulas) (x : ℕ) → Binds x (conjunction b fs) → BindsIn x fs
binds_connected Positive fs x h = h
binds_connected Negative fs x h = h

binds_quantified : (b : Polarity) (y : ℕ) (f : Formula) (x : ℕ) → Binds x (existential b y f) → (x ≡ y) ⊎ Binds x f
binds_quantified Positive y f x h = h
binds_quantified Negative y f x h = h

binds_constant : (b : Polarity) (x : ℕ) → Binds x (truth_under b) → ⊥
binds_constant Positive x h = h
binds_constant Negative x h = h

in_pair : (x : ℕ) (xs ys us vs : List ℕ) → (IsIn x xs → IsIn x us) → (IsIn x ys → IsIn x vs) → IsIn x (xs ++ (ys ++ [])) → IsIn x (us ++ vs)
in_pair x xs ys us vs p q h =
    elim (in_either x xs (ys ++ []) h) [
      | inl k ↦ in_left x us vs (p k)
      | inr k ↦ elim (in_either x ys [] k) [ inl l ↦ in_right x us vs (q l) | inr n ↦ absurd n ]
    ]

mutual
  pub binds_normal : (b : Polarity) (f : Formula) (x : ℕ) → Binds x (normal_form b f) → Binds x f
  binds_normal b True x h = binds_constant b x h
  binds_normal b False x h = binds_constant (flipped b) x h
  binds_normal b (Atom a) x h = h
  binds_normal b (And fs) x h = bind_normal b fs x (binds_connected b (normal_forms b fs) x h)
  binds_normal b (Or fs) x h = bind_normal b fs x (binds_connected (flipped b) (normal_forms b fs) x h)
  binds_normal b (Not f) x h = binds_normal (flipped b) f x h
  binds_normal b (Implies f g) x h = in_pair x _ _ (binders f) (binders g) (binds_normal (flipped b) f x) (binds_normal b g x) (binds_connected (flipped b) _ x h)
  binds_normal b (Iff f g) x h =
      elim (in_either x (binders (pair Positive (normal_form Positive f) (normal_form b g))) (binders (pair Positive (normal_form Negative f) (normal_form (flipped b) g)) ++ []) h) [
        | inl s ↦ in_pair x _ _ (binders f) (binders g) (binds_normal Positive f x) (binds_normal b g x) s
        | inr t ↦ elim (in_either x (binders (pair Positive (normal_form Negative f) (normal_form (flipped b) g))) [] t) [
          | inl s ↦ in_pair x _ _ (binders f) (binders g) (binds_normal Negative f x) (binds_normal (flipped b) g x) s
          | inr n ↦ absurd n
        ]
      ]
  binds_normal b (Ex y f) x h = elim (binds_quantified b y (normal_form b f) x h) [ inl e ↦ inl e | inr k ↦ inr (binds_normal b f x k) ]
  binds_normal b (All y f) x h = elim (binds_quantified (flipped b) y (normal_form b f) x h) [ inl e ↦ inl e | inr k ↦ inr (binds_normal b f x k) ]

  bind_normal : (b : Polarity) (fs : Formulas) (x : ℕ) → BindsIn x (normal_forms b fs) → BindsIn x fs
  bind_normal b no_more x h = h
  bind_normal b (more f fs) x h =
      elim (in_either x (binders (normal_form b f)) (binders_each (normal_forms b fs)) h) [
        | inl k ↦ in_left x (binders f) (binders_each fs) (binds_normal b f x k)
        | inr k ↦ in_right x (binders f) (binders_each fs) (bind_normal b fs x k)
      ]

ready_connected : (b : Polarity) (fs : Formulas) → AreReady fs → IsReady (conjunction b fs)
ready_connected Positive fs h = h
ready_connected Negative fs h = h

ready_quantified : (b : Polarity) (x : ℕ) (f : Formula) → (Binds x f → ⊥) × IsReady f → IsReady (existential b x f)
ready_quantified Positive x f h = h
ready_quantified Negative x f h = h

ready_constant : (b : Polarity) → IsReady (truth_under b)
ready_constant Positive = tt
ready_constant Negative = tt

mutual
  pub ready : (b : Polarity) (f : Formula) → IsNested f → IsReady (normal_form b f)
  ready b True h = ready_constant b
  ready b False h = ready_constant (flipped b)
  ready b (Atom a) h = tt
  ready b (And fs) h = ready_connected b (normal_forms b fs) (ready_each b fs h)
  ready b (Or fs) h = ready_connected (flipped b) (normal_forms b fs) (ready_each b fs h)
  ready b (Not f) h = ready (flipped b) f h
  ready b (Implies f g) h = ready_connected (flipped b) _ (ready (flipped b) f h.0, (ready b g h.1, tt))
  ready b (Iff f g) h = ((ready Positive f h.0, (ready b g h.1, tt)), ((ready Negative f h.0, (ready (flipped b) g h.1, tt)), tt))
  ready b (Ex x f) h = ready_quantified b x (normal_form b f) (λ k. h.0 (binds_normal b f x k), ready b f h.1)
  ready b (All x f) h = ready_quantified (flipped b) x (normal_form b f) (λ k. h.0 (binds_normal b f x k), ready b f h.1)

  ready_each : (b : Polarity) (fs : Formulas) → AreNested fs → AreReady (normal_forms b fs)
  ready_each b no_more h = tt
  ready_each b (more f fs) h = (ready b f h.0, ready_each b fs h.1)
