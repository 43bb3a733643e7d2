-- A formula that stands for another at every point, and what stands for it under quantifiers and negation.
use Rattle.std.proofs.Common.{ℕ, inl, inr, ◌↔◌, Bool, true, false, not, List, [], ◌∷◌}
use Rattle.qe_tower.specs.Point.{Point, IsPoint}
use Rattle.qe_poly.specs.Polynomial.{Polynomial, IsPolynomial}
use Rattle.qe_form.specs.Formula.{Formula, Formulas, True, False, Atom, And, Or, Not, Implies, Iff, Ex, All, no_more, more}
use Rattle.qe_form.specs.Truth.{Is}
use Rattle.qe_form.specs.Same.{IsFree, IsFreeInSome, HasNoQuantifier, Agree, Same}
use Rattle.qe_form.specs.Plain.{IsPlainWith, ArePlainWith}
use Rattle.qe_form.specs.Negation.{negated, negated_each}
use Rattle.qe_form.proofs.TwoSides.{never_both, decided}
use Rattle.qe_form.proofs.Opposites.{negated_opposite}
use Rattle.qe_simp.specs.Meaning.{Keeps}
use Rattle.qe_form.specs.Blocks.{QuantifierKind, exists, for_all, under_one, under_each}
use Rattle.qe_tree.specs.Variables.{under_ex}
use Rattle.qe_tree.specs.Sound.{IsIn, IsFine}

-- g has no further free variable, and at every point it is true where f is true, and false where f is false
pub record Stands (f g : Formula) : Type 0 where
  pub free : (x : ℕ) → IsFree x g → IsFree x f
  pub agree : (p : Point) → IsPoint p → Agree f g p

pub stands_same : (f g : Formula) → Stands f g → Same f g
stands_same f g s = record { free = s.free; agree = λ p valid gives. s.agree p valid }

pub keeps_stands : (f g : Formula) → Keeps f g → Stands f g
keeps_stands f g k = record { free = k.free; agree = k.agree }

pub stands_itself : (f : Formula) → Stands f f
stands_itself f = record { free = λ x h. h; agree = λ p valid b. ((λ t. t), (λ t. t)) }

pub then_stands : (f g h : Formula) → Stands f g → Stands g h → Stands f h
then_stands f g h s t = record {
  free = λ x k. s.free x (t.free x k);
  agree = λ p valid b. ((λ k. (t.agree p valid b).0 ((s.agree p valid b).0 k)), (λ k. (s.agree p valid b).1 ((t.agree p valid b).1 k)));
}

-- ---- under quantifiers

stands_ex : (x : ℕ) (f g : Formula) → Stands f g → Stands (Ex x f) (Ex x g)
stands_ex x f g s = record { free = λ y h. (h.0, s.free y h.1); agree = agree }
  where
    agree : (p : Point) → IsPoint p → Agree (Ex x f) (Ex x g) p
    agree p valid true = (
      (λ t. (t.0, t.1, (s.agree ((x, t.0) ∷ p) (t.1, valid) true).0 t.2)),
      (λ t. (t.0, t.1, (s.agree ((x, t.0) ∷ p) (t.1, valid) true).1 t.2)),
    )
    agree p valid false = ((λ t v k. (s.agree ((x, v) ∷ p) (k, valid) false).0 (t v k)), (λ t v k. (s.agree ((x, v) ∷ p) (k, valid) false).1 (t v k)))

stands_all : (x : ℕ) (f g : Formula) → Stands f g → Stands (All x f) (All x g)
stands_all x f g s = record { free = λ y h. (h.0, s.free y h.1); agree = agree }
  where
    agree : (p : Point) → IsPoint p → Agree (All x f) (All x g) p
    agree p valid true = ((λ t v k. (s.agree ((x, v) ∷ p) (k, valid) true).0 (t v k)), (λ t v k. (s.agree ((x, v) ∷ p) (k, valid) true).1 (t v k)))
    agree p valid false = (
      (λ t. (t.0, t.1, (s.agree ((x, t.0) ∷ p) (t.1, valid) false).0 t.2)),
      (λ t. (t.0, t.1, (s.agree ((x, t.0) ∷ p) (t.1, valid) false).1 t.2)),
    )

stands_under_one : (kind : QuantifierKind) (x : ℕ) (f g : Formula) → Stands f g → Stands (under_one kind x f) (under_one kind x g)
stands_under_one exists x f g s = stands_ex x f g s
stands_under_one for_all x f g s = stands_all x f g s

pub stands_under_each : (kind : QuantifierKind) (xs : List ℕ) (f g : Formula) → Stands f g → Stands (under_each kind xs f) (under_each kind xs g)
stands_under_each kind [] f g s = s
stands_under_each kind (x ∷ xs) f g s = stands_under_one kind x (under_each kind xs f) (under_each kind xs g) (stands_under_each kind xs f g s)

-- a variable of the formula that is not among those of the quantifiers is free
pub free_under_ex : (xs : List ℕ) (f : Formula) (y : ℕ) → (IsIn y xs → ⊥) → IsFree y f → IsFree y (under_ex xs f)
free_under_ex [] f y apart h = h
free_under_ex (x ∷ xs) f y apart h = ((λ same. apart (inl same)), free_under_ex xs f y (λ later. apart (inr later)) h)

-- ---- falsity follows from truth

false_if_not_true : (xs : List ℕ) (f : Formula) → HasNoQuantifier f → (p : Point) → (Is (under_ex xs f) true p → ⊥) → Is (under_ex xs f) false p
false_if_not_true [] f none p apart = elim (decided f none p) [ inl t ↦ absurd (apart t) | inr t ↦ t ]
false_if_not_true (x ∷ xs) f none p apart = λ v k. false_if_not_true xs f none ((x, v) ∷ p) (λ t. apart (v, k, t))

pub agree_by_truth : (xs : List ℕ) (f g : Formula) → HasNoQuantifier f → HasNoQuantifier g → (p : Point) → Is (under_ex xs f) true p ↔ Is g true p → Agree (under_ex xs f) g p
agree_by_truth xs f g none none_too p truth true = truth
agree_by_truth xs f g none none_too p truth false = (
  (λ e. elim (decided g none_too p) [ inl t ↦ absurd (never_both (under_ex xs f) p (truth.1 t) e) | inr t ↦ t ]),
  (λ e. false_if_not_true xs f none p (λ t. never_both g p (truth.0 t) e)),
)

-- ---- negation

mutual
  pub free_negated : (f : Formula) (x : ℕ) → IsFree x (negated f) ↔ IsFree x f
  free_negated True x = ((λ h. h), (λ h. h))
  free_negated False x = ((λ h. h), (λ h. h))
  free_negated (Atom a) x = ((λ h. h), (λ h. h))
  free_negated (And fs) x = free_negated_each fs x
  free_negated (Or fs) x = free_negated_each fs x
  free_negated (Not f) x = ((λ h. h), (λ h. h))
  free_negated (Implies f g) x = ((λ h. h), (λ h. h))
  free_negated (Iff f g) x = ((λ h. h), (λ h. h))
  free_negated (Ex y f) x = ((λ h. h), (λ h. h))
  free_negated (All y f) x = ((λ h. h), (λ h. h))

  free_negated_each : (fs : Formulas) (x : ℕ) → IsFreeInSome x (negated_each fs) ↔ IsFreeInSome x fs
  free_negated_each no_more x = ((λ h. h), (λ h. h))
  free_negated_each (more f fs) x =
      let first = free_negated f x in
      let rest = free_negated_each fs x in (
        (λ h. elim h [ inl k ↦ inl (first.0 k) | inr k ↦ inr (rest.0 k) ]),
        (λ h. elim h [ inl k ↦ inl (first.1 k) | inr k ↦ inr (rest.1 k) ]),
      )

pub stands_negated : (f g : Formula) → Stands f g → Stands (negated f) (negated g)
stands_negated f g s = record {
  free = λ x h. (free_negated f x).1 (s.free x ((free_negated g x).0 h));
  agree = λ p valid b. (
    (λ t. (negated_opposite g p b).1 ((s.agree p valid (not b)).0 ((negated_opposite f p b).0 t))),
    (λ t. (negated_opposite f p b).1 ((s.agree p valid (not b)).1 ((negated_opposite g p b).0 t))),
  );
}

-- the negation of a plain formula is plain, over the same polynomials
module _ (P : Polynomial → Type 0) where
  mutual
    pub negated_plain : (f : Formula) → IsPlainWith (λ a. P a.poly) f → IsPlainWith (λ a. P a.poly) (negated f)
    negated_plain True plain = tt
    negated_plain False plain = tt
    negated_plain (Atom a) plain = plain
    negated_plain (And fs) plain = each_negated_plain fs plain
    negated_plain (Or fs) plain = each_negated_plain fs plain
    negated_plain (Not f) plain = absurd plain
    negated_plain (Implies f g) plain = absurd plain
    negated_plain (Iff f g) plain = absurd plain
    negated_plain (Ex x f) plain = absurd plain
    negated_plain (All x f) plain = absurd plain

    each_negated_plain : (fs : Formulas) → ArePlainWith (λ a. P a.poly) fs → ArePlainWith (λ a. P a.poly) (negated_each fs)
    each_negated_plain no_more plain = tt
    each_negated_plain (more f fs) plain = (negated_plain f plain.0, each_negated_plain fs plain.1)

pub negated_fine : (f : Formula) → IsFine f → IsFine (negated f)
negated_fine f fine = negated_plain IsPolynomial f fine

-- each value fits exactly where no value fits the negation
all_is_ex : (xs : List ℕ) (f : Formula) (p : Point) (b : Bool) → Is (under_each for_all xs f) b p ↔ Is (under_ex xs (negated f)) (not b) p
all_is_ex [] f p true = ((λ t. (negated_opposite f p false).1 t), (λ t. (negated_opposite f p false).0 t))
all_is_ex [] f p false = ((λ t. (negated_opposite f p true).1 t), (λ t. (negated_opposite f p true).0 t))
all_is_ex (x ∷ xs) f p true = ((λ t v k. (all_is_ex xs f ((x, v) ∷ p) true).0 (t v k)), (λ t v k. (all_is_ex xs f ((x, v) ∷ p) true).1 (t v k)))
all_is_ex (x ∷ xs) f p false = ((λ t. (t.0, t.1, (all_is_ex xs f ((x, t.0) ∷ p) false).0 t.2)), (λ t. (t.0, t.1, (all_is_ex xs f ((x, t.0) ∷ p) false).1 t.2)))

ex_is_free : (xs : List ℕ) (f : Formula) (y : ℕ) → IsFree y (under_ex xs (negated f)) → IsFree y (under_each for_all xs f)
ex_is_free [] f y h = (free_negated f y).0 h
ex_is_free (x ∷ xs) f y h = (h.0, ex_is_free xs f y h.1)

not_twice : (f : Formula) (b : Bool) (p : Point) → Is f (not (not b)) p ↔ Is f b p
not_twice f true p = ((λ t. t), (λ t. t))
not_twice f false p = ((λ t. t), (λ t. t))

-- what stands for `ex` over the negation stands, negated, for `all`
pub stands_for_all : (xs : List ℕ) (f h : Formula) → Stands (under_ex xs (negated f)) h → Stands (under_each for_all xs f) (negated h)
stands_for_all xs f h s = record {
  free = λ y k. ex_is_free xs f y (s.free y ((free_negated h y).0 k));
  agree = λ p valid b. (
    (λ t. (negated_opposite h p b).1 ((s.agree p valid (not b)).0 ((all_is_ex xs f p b).0 t))),
    (λ t. (all_is_ex xs f p b).1 ((s.agree p valid (not b)).1 ((negated_opposite h p b).0 t))),
  );
}
