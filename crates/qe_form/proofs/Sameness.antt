-- `Same` is a preorder that every connective and quantifier keeps.
use Rattle.std.proofs.Common.{ℕ, Bool, true, false, not, ◌≡◌, ◌⊎◌, ◌↔◌, inl, inr, ◌∷◌, sym, Some}
use Rattle.std.proofs.lemmas.Bool.Decides.{eqb_tells}
use Rattle.qe_tower.specs.Number.{Number, IsNumber}
use Rattle.qe_tower.specs.Point.{Point, IsPoint, look_up}
use Rattle.qe_form.specs.Formula.{Formula, Formulas, And, Or, Implies, Iff, Ex, All, no_more, more}
use Rattle.qe_form.specs.Truth.{Is, EachIs, SomeIs}
use Rattle.qe_form.specs.Same.{IsFree, IsFreeInSome, Gives, Agree, Same, SameEach}
use Rattle.qe_form.specs.Laws.{SameIsPreorder, SameIsKept, SameIsLiteral}
use Rattle.qe_form.proofs.TwoSides.{decided}

-- ---- what two pairs of equivalences give

module _ {A B C D : Type 0} (p : A ↔ B) (q : C ↔ D) where
  both : (A × C) ↔ (B × D)
  both = ((λ t. (p.0 t.0, q.0 t.1)), (λ t. (p.1 t.0, q.1 t.1)))

  either : (A ⊎ C) ↔ (B ⊎ D)
  either = ((λ t. elim t [ inl a ↦ inl (p.0 a) | inr a ↦ inr (q.0 a) ]), (λ t. elim t [ inl a ↦ inl (p.1 a) | inr a ↦ inr (q.1 a) ]))

-- an equivalence at true and one at false
agree : (f g : Formula) (p : Point) → Is f true p ↔ Is g true p → Is f false p ↔ Is g false p → Agree f g p
agree f g p t e true = t
agree f g p t e false = e

-- ---- the preorder

pub same_is_preorder : SameIsPreorder
same_is_preorder = record {
  reflexive = λ f. record { free = λ x h. h; agree = λ p k g b. ((λ t. t), (λ t. t)) };
  symmetric = λ f g back s. record { free = back; agree = λ p k h b. let r = s.agree p k (λ x o. h x (back x o)) b in (r.1, r.0) };
  transitive = λ f g h s t. record {
    free = λ x o. s.free x (t.free x o);
    agree = λ p k gives b.
        let first = s.agree p k gives b in
        let second = t.agree p k (λ x o. gives x (s.free x o)) b in
        ((λ a. second.0 (first.0 a)), (λ a. first.1 (second.1 a)));
  };
}

-- ---- lists of formulas

free_in_each : (fs gs : Formulas) → SameEach fs gs → (x : ℕ) → IsFreeInSome x gs → IsFreeInSome x fs
free_in_each no_more no_more s x h = h
free_in_each no_more (more g gs) s x h = absurd s
free_in_each (more f fs) no_more s x h = absurd s
free_in_each (more f fs) (more g gs) s x h = elim h [ inl a ↦ inl (s.0.free x a) | inr b ↦ inr (free_in_each fs gs s.1 x b) ]

-- what is said of each list part by part: SameEach, the point, and what it gives
module _ (p : Point) (valid : IsPoint p) where
  abbrev GivesEach : Formulas → Type 0
  GivesEach fs = (x : ℕ) → IsFreeInSome x fs → (v : Number) × (look_up p x ≡ Some v)

  each_agrees : (fs gs : Formulas) → SameEach fs gs → GivesEach fs → (b : Bool) → EachIs fs b p ↔ EachIs gs b p
  each_agrees no_more no_more s k b = ((λ t. t), (λ t. t))
  each_agrees no_more (more g gs) s k b = absurd s
  each_agrees (more f fs) no_more s k b = absurd s
  each_agrees (more f fs) (more g gs) s k b =
      both (s.0.agree p valid (λ x h. k x (inl h)) b) (each_agrees fs gs s.1 (λ x h. k x (inr h)) b)

  some_agrees : (fs gs : Formulas) → SameEach fs gs → GivesEach fs → (b : Bool) → SomeIs fs b p ↔ SomeIs gs b p
  some_agrees no_more no_more s k b = ((λ t. t), (λ t. t))
  some_agrees no_more (more g gs) s k b = absurd s
  some_agrees (more f fs) no_more s k b = absurd s
  some_agrees (more f fs) (more g gs) s k b =
      either (s.0.agree p valid (λ x h. k x (inl h)) b) (some_agrees fs gs s.1 (λ x h. k x (inr h)) b)

-- ---- connectives

under_and : (fs gs : Formulas) → SameEach fs gs → Same (And fs) (And gs)
under_and fs gs s = record {
  free = free_in_each fs gs s;
  agree = λ p valid k. agree (And fs) (And gs) p (each_agrees p valid fs gs s k true) (some_agrees p valid fs gs s k false);
}

under_or : (fs gs : Formulas) → SameEach fs gs → Same (Or fs) (Or gs)
under_or fs gs s = record {
  free = free_in_each fs gs s;
  agree = λ p valid k. agree (Or fs) (Or gs) p (some_agrees p valid fs gs s k true) (each_agrees p valid fs gs s k false);
}

free_in_either : (f g h k : Formula) → Same f g → Same h k → (x : ℕ) → IsFree x g ⊎ IsFree x k → IsFree x f ⊎ IsFree x h
free_in_either f g h k s t x o = elim o [ inl a ↦ inl (s.free x a) | inr b ↦ inr (t.free x b) ]

under_implies : (f g h k : Formula) → Same f g → Same h k → Same (Implies f h) (Implies g k)
under_implies f g h k s t = record {
  free = free_in_either f g h k s t;
  agree = λ p valid gives.
      let left = s.agree p valid (λ x o. gives x (inl o)) in
      let right = t.agree p valid (λ x o. gives x (inr o)) in
      agree (Implies f h) (Implies g k) p (either (left false) (right true)) (both (left true) (right false));
}

under_iff : (f g h k : Formula) → Same f g → Same h k → Same (Iff f h) (Iff g k)
under_iff f g h k s t = record {
  free = free_in_either f g h k s t;
  agree = λ p valid gives.
      let left = s.agree p valid (λ x o. gives x (inl o)) in
      let right = t.agree p valid (λ x o. gives x (inr o)) in
      agree (Iff f h) (Iff g k) p
      (either (both (left true) (right true)) (both (left false) (right false)))
      (either (both (left true) (right false)) (both (left false) (right true)));
}

-- ---- quantifiers

-- what the point gives besides x, and x itself
gives_more : (x : ℕ) (f : Formula) (p : Point) (v : Number) → ((y : ℕ) → (y ≡ x → ⊥) × IsFree y f → (u : Number) × (look_up p y ≡ Some u)) → Gives ((x, v) ∷ p) f
gives_more x f p v k y h =
    elim (eqb_tells x y) [
      | inl e ↦ (v, rw e.0)
      | inr e ↦ let (u, r) = k y ((λ q. e.1 (sym q)), h) in (u, rw e.0 r)
    ]

-- for some number, and for each number
module _ (P Q : Number → Type 0) (r : (v : Number) → IsNumber v → P v ↔ Q v) where
  for_some : ((v : Number) × IsNumber v × P v) ↔ ((v : Number) × IsNumber v × Q v)
  for_some = ((λ t. (t.0, t.1, (r t.0 t.1).0 t.2)), (λ t. (t.0, t.1, (r t.0 t.1).1 t.2)))

  for_each : ((v : Number) → IsNumber v → P v) ↔ ((v : Number) → IsNumber v → Q v)
  for_each = ((λ t v k. (r v k).0 (t v k)), (λ t v k. (r v k).1 (t v k)))

under_ex : (x : ℕ) (f g : Formula) → Same f g → Same (Ex x f) (Ex x g)
under_ex x f g s = record {
  free = λ y h. (h.0, s.free y h.1);
  agree = λ p valid k.
      let r : (b : Bool) (v : Number) → IsNumber v → Is f b ((x, v) ∷ p) ↔ Is g b ((x, v) ∷ p) = λ b v n. s.agree ((x, v) ∷ p) (n, valid) (gives_more x f p v k) b in
      agree (Ex x f) (Ex x g) p (for_some _ _ (r true)) (for_each _ _ (r false));
}

under_all : (x : ℕ) (f g : Formula) → Same f g → Same (All x f) (All x g)
under_all x f g s = record {
  free = λ y h. (h.0, s.free y h.1);
  agree = λ p valid k.
      let r : (b : Bool) (v : Number) → IsNumber v → Is f b ((x, v) ∷ p) ↔ Is g b ((x, v) ∷ p) = λ b v n. s.agree ((x, v) ∷ p) (n, valid) (gives_more x f p v k) b in
      agree (All x f) (All x g) p (for_each _ _ (r true)) (for_some _ _ (r false));
}

pub same_is_kept : SameIsKept
same_is_kept = record {
  under_not = λ f g s. record { free = s.free; agree = λ p valid k b. s.agree p valid k (not b) };
  under_and = under_and;
  under_or = under_or;
  under_implies = under_implies;
  under_iff = under_iff;
  under_ex = under_ex;
  under_all = under_all;
}

pub same_is_literal : SameIsLiteral
same_is_literal f g h s p valid k =
    elim (decided g h p) [ inl t ↦ inl ((s.agree p valid k true).1 t, t) | inr t ↦ inr ((s.agree p valid k false).1 t, t) ]
