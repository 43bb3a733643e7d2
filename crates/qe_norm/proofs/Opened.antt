-- The normal form is true where the formula is, and false where it is; it has the same free variables.
use Rattle.std.proofs.Common.{◌≡◌, ◌∙◌, refl, sym, ℕ, Bool, true, false, not, ◌⊎◌, ◌↔◌, inl, inr, ◌∷◌}
use Rattle.qe_form.proofs.Opposites.{complement_has, not_moved}
use Rattle.qe_ring.specs.Sign.{Sign}
use Rattle.qe_tower.specs.Number.{Number, IsNumber, sign_of}
use Rattle.qe_tower.specs.Point.{Point}
use Rattle.qe_form.specs.declared.signs.Signs.{Signs}
use Rattle.qe_form.specs.Formula.{Formula, Formulas, True, False, Atom, And, Or, Not, Implies, Iff, Ex, All, no_more, more}
use Rattle.qe_form.specs.Value.{value}
use Rattle.qe_form.specs.Truth.{has_sign, Is, EachIs, SomeIs}
use Rattle.qe_form.specs.Same.{IsFree, IsFreeInSome, Same}
use Rattle.qe_form.specs.Preserved.{IsDecided}
use Rattle.qe_form.proofs.TwoSides.{never_both}
use Rattle.qe_norm.specs.declared.polarity.Polarity.{Polarity}
use Rattle.qe_norm.specs.declared.polarity.Polarity.TheVariants.{Positive, Negative}
use Rattle.qe_norm.specs.Polarity.{flipped, truth_under, conjunction, existential, signs_under}
use Rattle.qe_norm.specs.NormalForm.{normal_form, normal_forms}
use Rattle.qe_norm.proofs.Negatives.{chain}

-- the truth of a formula whose normal form at the polarity has this truth
abbrev pub agreeing : Polarity → Bool → Bool
agreeing Positive c = c
agreeing Negative c = not c

-- ---- one formula at a time

constant_is : (b : Polarity) (c : Bool) (p : Point) → Is (truth_under b) c p ↔ (agreeing b c ≡ true)
constant_is Positive true p = ((λ e. e), (λ e. e))
constant_is Positive false p = ((λ e. e), (λ e. e))
constant_is Negative true p = ((λ e. sym e), (λ e. sym e))
constant_is Negative false p = ((λ e. refl), (λ e. refl))

constant_is_not : (b : Polarity) (c : Bool) (p : Point) → Is (truth_under (flipped b)) c p ↔ (agreeing b c ≡ false)
constant_is_not Positive c p = ((λ e. e), (λ e. e))
constant_is_not Negative true p = ((λ e. refl), (λ e. refl))
constant_is_not Negative false p = ((λ e. sym e), (λ e. sym e))

signs_are : (b : Polarity) (c : Bool) (s : Signs) (t : Sign) → (has_sign (signs_under b s) t ≡ c) ↔ (has_sign s t ≡ agreeing b c)
signs_are Positive c s t = ((λ e. e), (λ e. e))
signs_are Negative c s t = (λ e. (not_moved (has_sign s t) c).0 (sym (complement_has s t) ∙ e), λ e. complement_has s t ∙ (not_moved (has_sign s t) c).1 e)

-- ---- the whole formula

two : {A B C D : Type 0} → A ↔ C → B ↔ D → (A × (B × Unit {0})) ↔ (C × D)
two p q = ((λ t. (p.0 t.0, q.0 (t.1).0)), (λ t. (p.1 t.0, (q.1 t.1, tt))))

one_of : {A B C D : Type 0} → A ↔ C → B ↔ D → (A ⊎ (B ⊎ ⊥)) ↔ (C ⊎ D)
one_of p q = (
  λ t. elim t [ inl a ↦ inl (p.0 a) | inr s ↦ elim s [ inl b ↦ inr (q.0 b) | inr n ↦ absurd n ] ],
  λ t. elim t [ inl c ↦ inl (p.1 c) | inr d ↦ inr (inl (q.1 d)) ],
)

-- not both true and not both false: one is true and the other false
crossed : (f g : Formula) (p : Point) → ((Is f false p ⊎ Is g false p) × (Is f true p ⊎ Is g true p)) ↔ ((Is f true p × Is g false p) ⊎ (Is f false p × Is g true p))
crossed f g p = (
  λ t. elim t.0 [
    | inl a ↦ elim t.1 [ inl x ↦ absurd (never_both f p x a) | inr y ↦ inr (a, y) ]
    | inr b ↦ elim t.1 [ inl x ↦ inl (x, b) | inr y ↦ absurd (never_both g p y b) ]
  ],
  λ t. elim t [ inl h ↦ (inr h.1, inl h.0) | inr h ↦ (inl h.0, inr h.1) ],
)

-- not one true and the other false: both are true or both are false
level : (f g : Formula) (p : Point) → ((Is f false p ⊎ Is g true p) × (Is f true p ⊎ Is g false p)) ↔ ((Is f true p × Is g true p) ⊎ (Is f false p × Is g false p))
level f g p = (
  λ t. elim t.0 [
    | inl a ↦ elim t.1 [ inl x ↦ absurd (never_both f p x a) | inr y ↦ inr (a, y) ]
    | inr b ↦ elim t.1 [ inl x ↦ inl (x, b) | inr y ↦ absurd (never_both g p b y) ]
  ],
  λ t. elim t [ inl h ↦ (inr h.1, inl h.0) | inr h ↦ (inl h.0, inr h.1) ],
)

module _ (P Q : Number → Type 0) (r : (v : Number) → P v ↔ Q v) where
  some_number : ((v : Number) × IsNumber v × P v) ↔ ((v : Number) × IsNumber v × Q v)
  some_number = ((λ t. (t.0, t.1, (r t.0).0 t.2)), (λ t. (t.0, t.1, (r t.0).1 t.2)))

  each_number : ((v : Number) → IsNumber v → P v) ↔ ((v : Number) → IsNumber v → Q v)
  each_number = ((λ t v k. (r v).0 (t v k)), (λ t v k. (r v).1 (t v k)))

mutual
  pub normal_form_is : (b : Polarity) (f : Formula) (c : Bool) (p : Point) → Is (normal_form b f) c p ↔ Is f (agreeing b c) p
  normal_form_is b True c p = constant_is b c p
  normal_form_is b False c p = constant_is_not b c p
  normal_form_is b (Atom a) c p = signs_are b c a.signs (sign_of (value a.poly p))
  normal_form_is Positive (And fs) true p = normal_forms_each Positive fs true p
  normal_form_is Positive (And fs) false p = normal_forms_some Positive fs false p
  normal_form_is Negative (And fs) true p = normal_forms_some Negative fs true p
  normal_form_is Negative (And fs) false p = normal_forms_each Negative fs false p
  normal_form_is Positive (Or fs) true p = normal_forms_some Positive fs true p
  normal_form_is Positive (Or fs) false p = normal_forms_each Positive fs false p
  normal_form_is Negative (Or fs) true p = normal_forms_each Negative fs true p
  normal_form_is Negative (Or fs) false p = normal_forms_some Negative fs false p
  normal_form_is Positive (Not f) c p = normal_form_is Negative f c p
  normal_form_is Negative (Not f) true p = normal_form_is Positive f true p
  normal_form_is Negative (Not f) false p = normal_form_is Positive f false p
  normal_form_is Positive (Implies f g) true p = one_of (normal_form_is Negative f true p) (normal_form_is Positive g true p)
  normal_form_is Positive (Implies f g) false p = two (normal_form_is Negative f false p) (normal_form_is Positive g false p)
  normal_form_is Negative (Implies f g) true p = two (normal_form_is Positive f true p) (normal_form_is Negative g true p)
  normal_form_is Negative (Implies f g) false p = one_of (normal_form_is Positive f false p) (normal_form_is Negative g false p)
  normal_form_is Positive (Iff f g) true p =
      one_of (two (normal_form_is Positive f true p) (normal_form_is Positive g true p)) (two (normal_form_is Negative f true p) (normal_form_is Negative g true p))
  normal_form_is Negative (Iff f g) true p =
      one_of (two (normal_form_is Positive f true p) (normal_form_is Negative g true p)) (two (normal_form_is Negative f true p) (normal_form_is Positive g true p))
  normal_form_is Positive (Iff f g) false p =
      chain (two (one_of (normal_form_is Positive f false p) (normal_form_is Positive g false p)) (one_of (normal_form_is Negative f false p) (normal_form_is Negative g false p)))
      (crossed f g p)
  normal_form_is Negative (Iff f g) false p =
      chain (two (one_of (normal_form_is Positive f false p) (normal_form_is Negative g false p)) (one_of (normal_form_is Negative f false p) (normal_form_is Positive g false p)))
      (level f g p)
  normal_form_is Positive (Ex x f) true p = some_number _ _ (λ v. normal_form_is Positive f true ((x, v) ∷ p))
  normal_form_is Positive (Ex x f) false p = each_number _ _ (λ v. normal_form_is Positive f false ((x, v) ∷ p))
  normal_form_is Negative (Ex x f) true p = each_number _ _ (λ v. normal_form_is Negative f true ((x, v) ∷ p))
  normal_form_is Negative (Ex x f) false p = some_number _ _ (λ v. normal_form_is Negative f false ((x, v) ∷ p))
  normal_form_is Positive (All x f) true p = each_number _ _ (λ v. normal_form_is Positive f true ((x, v) ∷ p))
  normal_form_is Positive (All x f) false p = some_number _ _ (λ v. normal_form_is Positive f false ((x, v) ∷ p))
  normal_form_is Negative (All x f) true p = some_number _ _ (λ v. normal_form_is Negative f true ((x, v) ∷ p))
  normal_form_is Negative (All x f) false p = each_number _ _ (λ v. normal_form_is Negative f false ((x, v) ∷ p))

  normal_forms_each : (b : Polarity) (fs : Formulas) (c : Bool) (p : Point) → EachIs (normal_forms b fs) c p ↔ EachIs fs (agreeing b c) p
  normal_forms_each b no_more c p = ((λ t. t), (λ t. t))
  normal_forms_each b (more f fs) c p =
      let first = normal_form_is b f c p in
      let rest = normal_forms_each b fs c p in
      ((λ t. (first.0 t.0, rest.0 t.1)), (λ t. (first.1 t.0, rest.1 t.1)))

  normal_forms_some : (b : Polarity) (fs : Formulas) (c : Bool) (p : Point) → SomeIs (normal_forms b fs) c p ↔ SomeIs fs (agreeing b c) p
  normal_forms_some b no_more c p = ((λ t. t), (λ t. t))
  normal_forms_some b (more f fs) c p =
      let first = normal_form_is b f c p in
      let rest = normal_forms_some b fs c p in (
        λ t. elim t [ inl x ↦ inl (first.0 x) | inr y ↦ inr (rest.0 y) ],
        λ t. elim t [ inl x ↦ inl (first.1 x) | inr y ↦ inr (rest.1 y) ],
      )

-- ---- its free variables

either_free : {A B C D : Type 0} → (A → C) → (B → D) → A ⊎ (B ⊎ ⊥) → C ⊎ D
either_free p q t = elim t [ inl a ↦ inl (p a) | inr s ↦ elim s [ inl b ↦ inr (q b) | inr n ↦ absurd n ] ]

both_kinds : {A C : Type 0} → (A → C) → (A → C) → A ⊎ (A ⊎ ⊥) → C
both_kinds p q t = elim t [ inl a ↦ p a | inr s ↦ elim s [ inl b ↦ q b | inr n ↦ absurd n ] ]

pub free_connected : (b : Polarity) (fs : Formulas) (x : ℕ) → IsFree x (conjunction b fs) → IsFreeInSome x fs
free_connected Positive fs x o = o
free_connected Negative fs x o = o

pub free_quantified : (b : Polarity) (y : ℕ) (f : Formula) (x : ℕ) → IsFree x (existential b y f) → (x ≡ y → ⊥) × IsFree x f
free_quantified Positive y f x o = o
free_quantified Negative y f x o = o

free_constant : (b : Polarity) (x : ℕ) → IsFree x (truth_under b) → ⊥
free_constant Positive x o = o
free_constant Negative x o = o

mutual
  pub free_normal : (b : Polarity) (f : Formula) (x : ℕ) → IsFree x (normal_form b f) → IsFree x f
  free_normal b True x o = free_constant b x o
  free_normal b False x o = free_constant (flipped b) x o
  free_normal b (Atom a) x o = o
  free_normal b (And fs) x o = free_normals b fs x (free_connected b (normal_forms b fs) x o)
  free_normal b (Or fs) x o = free_normals b fs x (free_connected (flipped b) (normal_forms b fs) x o)
  free_normal b (Not f) x o = free_normal (flipped b) f x o
  free_normal b (Implies f g) x o = either_free (free_normal (flipped b) f x) (free_normal b g x) (free_connected (flipped b) _ x o)
  free_normal b (Iff f g) x o =
      elim o [
        | inl s ↦ either_free (free_normal Positive f x) (free_normal b g x) s
        | inr t ↦ elim t [ inl s ↦ either_free (free_normal Negative f x) (free_normal (flipped b) g x) s | inr n ↦ absurd n ]
      ]
  free_normal b (Ex y f) x o = let h = free_quantified b y (normal_form b f) x o in (h.0, free_normal b f x h.1)
  free_normal b (All y f) x o = let h = free_quantified (flipped b) y (normal_form b f) x o in (h.0, free_normal b f x h.1)

  free_normals : (b : Polarity) (fs : Formulas) (x : ℕ) → IsFreeInSome x (normal_forms b fs) → IsFreeInSome x fs
  free_normals b no_more x o = o
  free_normals b (more f fs) x o = elim o [ inl h ↦ inl (free_normal b f x h) | inr h ↦ inr (free_normals b fs x h) ]

-- and back

either_free_back : {A B C D : Type 0} → (A → C) → (B → D) → A ⊎ B → C ⊎ (D ⊎ ⊥)
either_free_back p q t = elim t [ inl a ↦ inl (p a) | inr b ↦ inr (inl (q b)) ]

connected_free : (b : Polarity) (fs : Formulas) (x : ℕ) → IsFreeInSome x fs → IsFree x (conjunction b fs)
connected_free Positive fs x o = o
connected_free Negative fs x o = o

quantified_free : (b : Polarity) (y : ℕ) (f : Formula) (x : ℕ) → (x ≡ y → ⊥) × IsFree x f → IsFree x (existential b y f)
quantified_free Positive y f x o = o
quantified_free Negative y f x o = o

mutual
  pub normal_free : (b : Polarity) (f : Formula) (x : ℕ) → IsFree x f → IsFree x (normal_form b f)
  normal_free b True x o = absurd o
  normal_free b False x o = absurd o
  normal_free b (Atom a) x o = o
  normal_free b (And fs) x o = connected_free b (normal_forms b fs) x (normals_free b fs x o)
  normal_free b (Or fs) x o = connected_free (flipped b) (normal_forms b fs) x (normals_free b fs x o)
  normal_free b (Not f) x o = normal_free (flipped b) f x o
  normal_free b (Implies f g) x o = connected_free (flipped b) _ x (either_free_back (normal_free (flipped b) f x) (normal_free b g x) o)
  normal_free b (Iff f g) x o = inl (either_free_back (normal_free Positive f x) (normal_free b g x) o)
  normal_free b (Ex y f) x o = quantified_free b y (normal_form b f) x (o.0, normal_free b f x o.1)
  normal_free b (All y f) x o = quantified_free (flipped b) y (normal_form b f) x (o.0, normal_free b f x o.1)

  normals_free : (b : Polarity) (fs : Formulas) (x : ℕ) → IsFreeInSome x fs → IsFreeInSome x (normal_forms b fs)
  normals_free b no_more x o = o
  normals_free b (more f fs) x o = elim o [ inl h ↦ inl (normal_free b f x h) | inr h ↦ inr (normals_free b fs x h) ]

agreed_truth : (b : Polarity) (f : Formula) (p : Point) → Is f true p ⊎ Is f false p → Is f (agreeing b true) p ⊎ Is f (agreeing b false) p
agreed_truth Positive f p h = h
agreed_truth Negative f p h = elim h [ inl t ↦ inr t | inr e ↦ inl e ]

-- where the formula is decided, its normal form is
pub decided_normal : (b : Polarity) (f : Formula) → IsDecided f → IsDecided (normal_form b f)
decided_normal b f settled p valid gives =
    elim (agreed_truth b f p (settled p valid (λ x o. gives x (normal_free b f x o)))) [
      | inl t ↦ inl ((normal_form_is b f true p).1 t)
      | inr e ↦ inr ((normal_form_is b f false p).1 e)
    ]

pub normal_is_same : (f : Formula) → Same f (normal_form Positive f)
normal_is_same f = record { free = λ x o. free_normal Positive f x o; agree = λ p valid gives c. let r = normal_form_is Positive f c p in (r.1, r.0) }
