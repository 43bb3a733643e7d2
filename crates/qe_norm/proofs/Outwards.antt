-- Quantifiers move outwards: a formula whose quantifiers have variables of their own is true at a point only if its matrix under
-- its quantifiers is, and false only if that is.
use Rattle.std.proofs.Common.{ℕ, Bool, true, false, not, ◌≡◌, ◌∙◌, ◌⊎◌, inl, inr, refl, sym, ap, subst, pos, List, [], ◌∷◌, ◌++◌, map, Some, if◌then◌else◌}
use Rattle.std.proofs.lemmas.Bool.{cases_eq}
use Rattle.std.proofs.lemmas.List.{map-append}
use Rattle.qe_tower.specs.Number.{Number, IsNumber, whole_number}
use Rattle.qe_tower.specs.Point.{Point, look_up, or_zero}
use Rattle.qe_form.specs.Formula.{Formula, Formulas, no_more, more}
use Rattle.qe_form.specs.Formula as formula
use Rattle.qe_form.specs.Truth.{Is}
use Rattle.qe_form.specs.Same.{IsFree, IsFreeInSome}
use Rattle.qe_form.specs.Numbered.{binders, binders_each}
use Rattle.qe_form.proofs.FreeReads.{truth_reads}
use Rattle.qe_form.specs.Blocks.{QuantifierKind, exists, for_all, under_one}
use Rattle.qe_norm.specs.declared.walk.Quantifier.{Quantifier}
use Rattle.qe_norm.specs.Blocks.{kind_of, prefix, prefix_each, matrix, matrix_each}
use Rattle.qe_norm.specs.declared.polarity.Polarity.{Polarity}
use Rattle.qe_norm.specs.declared.polarity.Polarity.TheVariants.{Positive, Negative}
use Rattle.qe_norm.specs.Polarity.{conjunction}
use Rattle.qe_norm.proofs.Numbers.{eqb_apart}
use Rattle.qe_norm.proofs.Opened.{agreeing, free_connected}
use Rattle.qe_norm.proofs.Binders.{IsIn, in_left, in_right, Binds, BindsIn, IsReady, AreReady}

-- the formula under quantifiers, the first outermost
abbrev pub under : List Quantifier → Formula → Formula
under [] f = f
under (q ∷ qs) f = under_one (kind_of q.kind) q.var.0 (under qs f)

abbrev pub vars_of : List Quantifier → List ℕ
vars_of qs = map (λ q. q.var.0) qs

-- the variable is that of one of the quantifiers
abbrev pub IsVariable : ℕ → List Quantifier → Type 0
IsVariable x qs = IsIn x (vars_of qs)

-- ---- the formula, part by part

-- no quantifier of one has a variable of the other
abbrev pub Disjoint : Formula → Formulas → Type 0
Disjoint f fs = ((z : ℕ) → Binds z f → (IsFreeInSome z fs ⊎ BindsIn z fs) → ⊥) × ((z : ℕ) → BindsIn z fs → IsFree z f → ⊥)

-- its quantifiers have variables of their own, which are nowhere free
abbrev mutual
  pub IsApart : Formula → Type 0
  IsApart (formula.And fs) = AreApart fs
  IsApart (formula.Or fs) = AreApart fs
  IsApart (formula.Ex x f) = (Binds x f → ⊥) × IsApart f
  IsApart (formula.All x f) = (Binds x f → ⊥) × IsApart f
  IsApart f = Unit {0}

  pub AreApart : Formulas → Type 0
  AreApart no_more = Unit {0}
  AreApart (more f fs) = IsApart f × AreApart fs × Disjoint f fs

-- ---- one quantifier

-- both, or one of both
abbrev pub Joint : Bool → Type 0 → Type 0 → Type 0
Joint true A B = A × B
Joint false A B = A ⊎ B

-- for some number, or for each
abbrev pub Ranging : Bool → (Number → Type 0) → Type 0
Ranging true P = (v : Number) × IsNumber v × P v
Ranging false P = (v : Number) → IsNumber v → P v

pub zero_number : Number
zero_number = whole_number (pos 0)

pub zero_valid : IsNumber zero_number
unfolding zero_number
zero_valid = tt

-- a quantifier moves out past a part that does not depend on its number, on the left and on the right
left_out : (j r : Bool) (P : Number → Type 0) (B : Type 0) (C : Number → Type 0) → ((v : Number) → B → C v) → Joint j (Ranging r P) B → Ranging r (λ v. Joint j (P v) (C v))
left_out true true P B C move t = ((t.0).0, (t.0).1, ((t.0).2, move (t.0).0 t.1))
left_out true false P B C move t = λ v k. (t.0 v k, move v t.1)
left_out false true P B C move t = elim t [ inl h ↦ (h.0, h.1, inl h.2) | inr h ↦ (zero_number, zero_valid, inr (move zero_number h)) ]
left_out false false P B C move t = λ v k. elim t [ inl h ↦ inl (h v k) | inr h ↦ inr (move v h) ]

right_out : (j r : Bool) (P : Number → Type 0) (B : Type 0) (C : Number → Type 0) → ((v : Number) → B → C v) → Joint j B (Ranging r P) → Ranging r (λ v. Joint j (C v) (P v))
right_out true true P B C move t = ((t.1).0, (t.1).1, (move (t.1).0 t.0, (t.1).2))
right_out true false P B C move t = λ v k. (move v t.0, t.1 v k)
right_out false true P B C move t = elim t [ inl h ↦ (zero_number, zero_valid, inl (move zero_number h)) | inr h ↦ (h.0, h.1, inr h.2) ]
right_out false false P B C move t = λ v k. elim t [ inl h ↦ inl (move v h) | inr h ↦ inr (h v k) ]

ranging_moved : (r : Bool) (P Q : Number → Type 0) → ((v : Number) → IsNumber v → P v → Q v) → Ranging r P → Ranging r Q
ranging_moved true P Q move t = (t.0, t.1, move t.0 t.1 t.2)
ranging_moved false P Q move t = λ v k. move v k (t v k)

-- whether a quantifier at a truth speaks of some number
abbrev range : QuantifierKind → Bool → Bool
range exists b = b
range for_all b = not b

ranges : (k : QuantifierKind) (x : ℕ) (f : Formula) (b : Bool) (p : Point) → Is (under_one k x f) b p → Ranging (range k b) (λ v. Is f b ((x, v) ∷ p))
ranges exists x f true p t = t
ranges exists x f false p t = t
ranges for_all x f true p t = t
ranges for_all x f false p t = t

ranges_back : (k : QuantifierKind) (x : ℕ) (f : Formula) (b : Bool) (p : Point) → Ranging (range k b) (λ v. Is f b ((x, v) ∷ p)) → Is (under_one k x f) b p
ranges_back exists x f true p t = t
ranges_back exists x f false p t = t
ranges_back for_all x f true p t = t
ranges_back for_all x f false p t = t

-- ---- truth where a variable is not free

pub not_free_reads : (f : Formula) (b : Bool) (x : ℕ) (v : Number) (p : Point) → (IsFree x f → ⊥) → Is f b p → Is f b ((x, v) ∷ p)
not_free_reads f b x v p none t =
    truth_reads f b p ((x, v) ∷ p) (λ z o. ap (λ c. or_zero (if c then Some v else look_up p z)) (sym (eqb_apart x z (λ e. none (subst (λ i. IsFree i f) (sym e) o))))) t

-- ---- quantifiers of two parts

free_quantified : (k : QuantifierKind) (x : ℕ) (f : Formula) (z : ℕ) → IsFree z (under_one k x f) → (z ≡ x → ⊥) × IsFree z f
free_quantified exists x f z o = o
free_quantified for_all x f z o = o

pub free_under : (qs : List Quantifier) (f : Formula) (z : ℕ) → IsFree z (under qs f) → (IsVariable z qs → ⊥) × IsFree z f
free_under [] f z o = ((λ h. h), o)
free_under (q ∷ qs) f z o =
    let first = free_quantified (kind_of q.kind) q.var.0 (under qs f) z o in
    let rest = free_under qs f z first.1 in
    ((λ h. elim h [ inl e ↦ first.0 e | inr k ↦ rest.0 k ]), rest.1)

joint_right : (i : Bool) (A B C : Type 0) → (B → C) → Joint i A B → Joint i A C
joint_right true A B C move h = (h.0, move h.1)
joint_right false A B C move h = elim h [ inl a ↦ inl a | inr c ↦ inr (move c) ]

joint_left : (i : Bool) (A B C : Type 0) → (A → C) → Joint i A B → Joint i C B
joint_left true A B C move h = (move h.0, h.1)
joint_left false A B C move h = elim h [ inl a ↦ inl (move a) | inr c ↦ inr c ]

-- two formulas at a truth: j says whether both are meant, and `joined` is the formula that joins them
module _ (j b : Bool) (joined : Formula) (left right : Formula) (made : (p : Point) → Joint j (Is left b p) (Is right b p) → Is joined b p) where
  -- those of the right part
  out_right : (qs : List Quantifier) → ((z : ℕ) → IsVariable z qs → IsFree z left → ⊥) → (p : Point) → Joint j (Is left b p) (Is (under qs right) b p) → Is (under qs joined) b p
  out_right [] free p t = made p t
  out_right (q ∷ qs) free p t =
      ranges_back (kind_of q.kind) q.var.0 (under qs joined) b p
      (ranging_moved (range (kind_of q.kind) b) _ _ (λ v k h. out_right qs (λ z i. free z (inr i)) ((q.var.0, v) ∷ p) h)
      (right_out j (range (kind_of q.kind) b) (λ v. Is (under qs right) b ((q.var.0, v) ∷ p)) (Is left b p) (λ v. Is left b ((q.var.0, v) ∷ p))
      (λ v h. not_free_reads left b q.var.0 v p (free q.var.0 (inl refl)) h)
      (joint_right j (Is left b p) (Is (under (q ∷ qs) right) b p) (Ranging (range (kind_of q.kind) b) (λ v. Is (under qs right) b ((q.var.0, v) ∷ p))) (ranges (kind_of q.kind) q.var.0 (under qs right) b p) t)))

  -- those of the left part, and then those of the right part
  pub out_both : (ps qs : List Quantifier) → ((z : ℕ) → IsVariable z ps → IsFree z (under qs right) → ⊥) → ((z : ℕ) → IsVariable z qs → IsFree z left → ⊥)
      → (p : Point) → Joint j (Is (under ps left) b p) (Is (under qs right) b p) → Is (under (ps ++ qs) joined) b p
  out_both [] qs first second p t = out_right qs second p t
  out_both (q ∷ ps) qs first second p t =
      ranges_back (kind_of q.kind) q.var.0 (under (ps ++ qs) joined) b p
      (ranging_moved (range (kind_of q.kind) b) _ _ (λ v k h. out_both ps qs (λ z i. first z (inr i)) second ((q.var.0, v) ∷ p) h)
      (left_out j (range (kind_of q.kind) b) (λ v. Is (under ps left) b ((q.var.0, v) ∷ p)) (Is (under qs right) b p) (λ v. Is (under qs right) b ((q.var.0, v) ∷ p))
      (λ v h. not_free_reads (under qs right) b q.var.0 v p (first q.var.0 (inl refl)) h)
      (joint_left j (Is (under (q ∷ ps) left) b p) (Is (under qs right) b p) (Ranging (range (kind_of q.kind) b) (λ v. Is (under ps left) b ((q.var.0, v) ∷ p))) (ranges (kind_of q.kind) q.var.0 (under ps left) b p) t)))

-- ---- the variables of prefix and matrix

mutual
  -- the quantifiers of a normal form are those that bind
  pub vars_of_prefix : (f : Formula) → IsReady f → vars_of (prefix f) ≡ binders f
  vars_of_prefix formula.True r = refl
  vars_of_prefix formula.False r = refl
  vars_of_prefix (formula.Atom a) r = refl
  vars_of_prefix (formula.And fs) r = vars_of_prefixes fs r
  vars_of_prefix (formula.Or fs) r = vars_of_prefixes fs r
  vars_of_prefix (formula.Not f) r = absurd r
  vars_of_prefix (formula.Implies f g) r = absurd r
  vars_of_prefix (formula.Iff f g) r = absurd r
  vars_of_prefix (formula.Ex x f) r = ap (λ xs. x ∷ xs) (vars_of_prefix f r.1)
  vars_of_prefix (formula.All x f) r = ap (λ xs. x ∷ xs) (vars_of_prefix f r.1)

  vars_of_prefixes : (fs : Formulas) → AreReady fs → vars_of (prefix_each fs) ≡ binders_each fs
  vars_of_prefixes no_more r = refl
  vars_of_prefixes (more f fs) r = map-append (λ q. q.var.0) (prefix f) (prefix_each fs) ∙ (λ i. vars_of_prefix f r.0 i ++ vars_of_prefixes fs r.1 i)

pub prefix_binds : (f : Formula) (z : ℕ) → IsReady f → IsVariable z (prefix f) → Binds z f
prefix_binds f z r h = subst (IsIn z) (vars_of_prefix f r) h

prefixes_bind : (fs : Formulas) (z : ℕ) → AreReady fs → IsVariable z (prefix_each fs) → BindsIn z fs
prefixes_bind fs z r h = subst (IsIn z) (vars_of_prefixes fs r) h

pub below_one : (x : ℕ) (f : Formula) (z : ℕ) → IsFree z f ⊎ Binds z f → ((z ≡ x → ⊥) × IsFree z f) ⊎ ((z ≡ x) ⊎ Binds z f)
below_one x f z h = elim h [ inl o ↦ (elim (cases_eq z x) [ inl e ↦ inr (inl e) | inr n ↦ inl (n, o) ]) | inr k ↦ inr (inr k) ]

mutual
  pub free_matrix : (f : Formula) (z : ℕ) → IsReady f → IsFree z (matrix f) → IsFree z f ⊎ Binds z f
  free_matrix formula.True z r h = inl h
  free_matrix formula.False z r h = inl h
  free_matrix (formula.Atom a) z r h = inl h
  free_matrix (formula.And fs) z r h = free_matrices fs z r h
  free_matrix (formula.Or fs) z r h = free_matrices fs z r h
  free_matrix (formula.Not f) z r h = absurd r
  free_matrix (formula.Implies f g) z r h = absurd r
  free_matrix (formula.Iff f g) z r h = absurd r
  free_matrix (formula.Ex x f) z r h = below_one x f z (free_matrix f z r.1 h)
  free_matrix (formula.All x f) z r h = below_one x f z (free_matrix f z r.1 h)

  free_matrices : (fs : Formulas) (z : ℕ) → AreReady fs → IsFreeInSome z (matrix_each fs) → IsFreeInSome z fs ⊎ BindsIn z fs
  free_matrices no_more z r h = inl h
  free_matrices (more f fs) z r h =
      elim h [
        | inl k ↦ elim (free_matrix f z r.0 k) [ inl l ↦ inl (inl l) | inr l ↦ inr (in_left z (binders f) (binders_each fs) l) ]
        | inr k ↦ elim (free_matrices fs z r.1 k) [ inl l ↦ inl (inr l) | inr l ↦ inr (in_right z (binders f) (binders_each fs) l) ]
      ]

-- the free variables of the prenex form are free in the formula
pub free_prenex : (f : Formula) (z : ℕ) → IsReady f → IsFree z (under (prefix f) (matrix f)) → IsFree z f
free_prenex f z r o =
    let h = free_under (prefix f) (matrix f) z o in
    elim (free_matrix f z r h.1) [ inl k ↦ k | inr k ↦ absurd (h.0 (subst (IsIn z) (sym (vars_of_prefix f r)) k)) ]

pub free_prenexes : (fs : Formulas) (z : ℕ) → AreReady fs → (m : Formula) → (IsFree z m → IsFreeInSome z (matrix_each fs)) → IsFree z (under (prefix_each fs) m) → IsFreeInSome z fs
free_prenexes fs z r m is o =
    let h = free_under (prefix_each fs) m z o in
    elim (free_matrices fs z r (is h.1)) [ inl k ↦ k | inr k ↦ absurd (h.0 (subst (IsIn z) (sym (vars_of_prefixes fs r)) k)) ]

-- ---- the whole formula

-- a part joins the others, under And, or under Or where the polarity is negative
joined : (c : Polarity) (b : Bool) (f : Formula) (fs : Formulas) (p : Point) → Joint (agreeing c b) (Is f b p) (Is (conjunction c fs) b p) → Is (conjunction c (more f fs)) b p
joined Positive true f fs p t = t
joined Positive false f fs p t = t
joined Negative true f fs p t = t
joined Negative false f fs p t = t

parted : (c : Polarity) (b : Bool) (f : Formula) (fs : Formulas) (p : Point) → Is (conjunction c (more f fs)) b p → Joint (agreeing c b) (Is f b p) (Is (conjunction c fs) b p)
parted Positive true f fs p t = t
parted Positive false f fs p t = t
parted Negative true f fs p t = t
parted Negative false f fs p t = t

joint_moved : (j : Bool) (A B C D : Type 0) → (A → C) → (B → D) → Joint j A B → Joint j C D
joint_moved true A B C D p q t = (p t.0, q t.1)
joint_moved false A B C D p q t = elim t [ inl a ↦ inl (p a) | inr c ↦ inr (q c) ]

-- the quantifiers of the later parts have no variable of the first matrix
pub apart_right : (f : Formula) (fs : Formulas) (z : ℕ) → IsReady f × AreReady fs → Disjoint f fs → IsVariable z (prefix_each fs) → IsFree z (matrix f) → ⊥
apart_right f fs z r d i o = elim (free_matrix f z r.0 o) [ inl k ↦ d.1 z (prefixes_bind fs z r.1 i) k | inr k ↦ d.0 z k (inr (prefixes_bind fs z r.1 i)) ]

mutual
  pub outwards : (f : Formula) → IsReady f → IsApart f → (b : Bool) (p : Point) → Is f b p → Is (under (prefix f) (matrix f)) b p
  outwards formula.True r a b p t = t
  outwards formula.False r a b p t = t
  outwards (formula.Atom c) r a b p t = t
  outwards (formula.And fs) r a b p t = parts_outwards Positive fs r a b p t
  outwards (formula.Or fs) r a b p t = parts_outwards Negative fs r a b p t
  outwards (formula.Not f) r a b p t = absurd r
  outwards (formula.Implies f g) r a b p t = absurd r
  outwards (formula.Iff f g) r a b p t = absurd r
  outwards (formula.Ex x f) r a true p t = (t.0, t.1, outwards f r.1 a.1 true ((x, t.0) ∷ p) t.2)
  outwards (formula.Ex x f) r a false p t = λ v k. outwards f r.1 a.1 false ((x, v) ∷ p) (t v k)
  outwards (formula.All x f) r a true p t = λ v k. outwards f r.1 a.1 true ((x, v) ∷ p) (t v k)
  outwards (formula.All x f) r a false p t = (t.0, t.1, outwards f r.1 a.1 false ((x, t.0) ∷ p) t.2)

  parts_outwards : (c : Polarity) (fs : Formulas) → AreReady fs → AreApart fs → (b : Bool) (p : Point) → Is (conjunction c fs) b p → Is (under (prefix_each fs) (conjunction c (matrix_each fs))) b p
  parts_outwards c no_more r a b p t = t
  parts_outwards c (more f fs) r a b p t =
      out_both (agreeing c b) b (conjunction c (more (matrix f) (matrix_each fs))) (matrix f) (conjunction c (matrix_each fs)) (λ q h. joined c b (matrix f) (matrix_each fs) q h) (prefix f) (prefix_each fs)
      (λ z i o. (a.2).0 z (prefix_binds f z r.0 i) (inl (free_prenexes fs z r.1 (conjunction c (matrix_each fs)) (λ h. free_connected c (matrix_each fs) z h) o)))
      (λ z i o. apart_right f fs z r a.2 i o) p
      (joint_moved (agreeing c b) (Is f b p) (Is (conjunction c fs) b p) (Is (under (prefix f) (matrix f)) b p) (Is (under (prefix_each fs) (conjunction c (matrix_each fs))) b p)
      (λ h. outwards f r.0 a.0 b p h) (λ h. parts_outwards c fs r.1 a.1 b p h) (parted c b f fs p t))
