-- `Preserves` is a preorder that negation and quantifiers keep, and is `Same` from a formula that is decided.
use Rattle.std.proofs.Common.{ℕ, Bool, true, false, not, ◌≡◌, ◌⊎◌, inl, inr, ◌∷◌, sym, Some}
use Rattle.std.proofs.lemmas.Bool.Decides.{eqb_tells}
use Rattle.qe_tower.specs.Number.{Number}
use Rattle.qe_tower.specs.Point.{Point, IsPoint, look_up}
use Rattle.qe_form.specs.Formula.{Formula, True, False, Atom, And, Or, Not, Implies, Iff, Ex, All}
use Rattle.qe_form.specs.Truth.{Is}
use Rattle.qe_form.specs.Same.{IsFree, Gives}
use Rattle.qe_form.specs.Preserved.{Preserves, IsDecided, HasDecidedCore, HasOuterQuantifiers}
use Rattle.qe_form.specs.Laws.{PreservesIsSame, PreservesIsPreorder, PreservesIsKept, CoresAreDecided}
use Rattle.qe_form.proofs.TwoSides.{never_both, decided, classical}

-- ---- a formula that is decided

-- g is true nowhere but where f is
back : (f g : Formula) (p : Point) → Is f true p ⊎ Is f false p → ((b : Bool) → Is f b p → Is g b p) → (b : Bool) → Is g b p → Is f b p
back f g p side keeps true t = elim side [ inl h ↦ h | inr e ↦ absurd (never_both g p t (keeps false e)) ]
back f g p side keeps false t = elim side [ inl h ↦ absurd (never_both g p (keeps true h) t) | inr e ↦ e ]

pub preserves_is_same : PreservesIsSame
preserves_is_same f g settled s = record {
  free = s.free;
  agree = λ p valid gives b. ((λ t. s.keeps p valid gives b t), (λ t. back f g p (settled p valid gives) (s.keeps p valid gives) b t));
}

-- ---- the preorder

pub preserves_is_preorder : PreservesIsPreorder
preserves_is_preorder = record {
  reflexive = λ f. record { free = λ x h. h; keeps = λ p valid gives b t. t };
  transitive = λ f g h s t. record {
    free = λ x o. s.free x (t.free x o);
    keeps = λ p valid gives b e. t.keeps p valid (λ x o. gives x (s.free x o)) b (s.keeps p valid gives b e);
  };
  same = λ f g s. record { free = s.free; keeps = λ p valid gives b t. (s.agree p valid gives b).0 t };
}

-- ---- under negation and quantifiers

-- what the point gives besides x, and x itself
pub gives_more : (x : ℕ) (f : Formula) (p : Point) (v : Number) → ((y : ℕ) → (y ≡ x → ⊥) × IsFree y f → (u : Number) × (look_up p y ≡ Some u)) → Gives ((x, v) ∷ p) f
gives_more x f p v k y h =
    elim (eqb_tells x y) [
      | inl e ↦ (v, rw e.0)
      | inr e ↦ let (u, r) = k y ((λ q. e.1 (sym q)), h) in (u, rw e.0 r)
    ]

module _ (x : ℕ) (f g : Formula) (s : Preserves f g) where
  ex_keeps : (p : Point) → IsPoint p → Gives p (Ex x f) → (b : Bool) → Is (Ex x f) b p → Is (Ex x g) b p
  ex_keeps p valid gives true t = (t.0, t.1, s.keeps _ (t.1, valid) (gives_more x f p t.0 gives) true t.2)
  ex_keeps p valid gives false t = λ v k. s.keeps _ (k, valid) (gives_more x f p v gives) false (t v k)

  all_keeps : (p : Point) → IsPoint p → Gives p (All x f) → (b : Bool) → Is (All x f) b p → Is (All x g) b p
  all_keeps p valid gives true t = λ v k. s.keeps _ (k, valid) (gives_more x f p v gives) true (t v k)
  all_keeps p valid gives false t = (t.0, t.1, s.keeps _ (t.1, valid) (gives_more x f p t.0 gives) false t.2)

pub preserves_is_kept : PreservesIsKept
preserves_is_kept = record {
  under_not = λ f g s. record { free = s.free; keeps = λ p valid gives b t. s.keeps p valid gives (not b) t };
  under_ex = λ x f g s. record { free = λ y h. (h.0, s.free y h.1); keeps = ex_keeps x f g s };
  under_all = λ x f g s. record { free = λ y h. (h.0, s.free y h.1); keeps = all_keeps x f g s };
}

-- ---- what is decided

outer : (f : Formula) → HasOuterQuantifiers f → HasDecidedCore f
outer True h = λ p valid gives. decided True h p
outer False h = λ p valid gives. decided False h p
outer (Atom a) h = λ p valid gives. decided (Atom a) h p
outer (And fs) h = λ p valid gives. decided (And fs) h p
outer (Or fs) h = λ p valid gives. decided (Or fs) h p
outer (Not f) h = inr (outer f h)
outer (Implies f g) h = λ p valid gives. decided (Implies f g) h p
outer (Iff f g) h = λ p valid gives. decided (Iff f g) h p
outer (Ex x f) h = inr (outer f h)
outer (All x f) h = inr (outer f h)

-- a formula that is decided has a decided core
pub core_of_decided : (f : Formula) → IsDecided f → HasDecidedCore f
core_of_decided True h = h
core_of_decided False h = h
core_of_decided (Atom a) h = h
core_of_decided (And fs) h = h
core_of_decided (Or fs) h = h
core_of_decided (Not f) h = inl h
core_of_decided (Implies f g) h = h
core_of_decided (Iff f g) h = h
core_of_decided (Ex x f) h = inl h
core_of_decided (All x f) h = inl h

pub cores_are_decided : CoresAreDecided
cores_are_decided = record { outer = outer; settled = λ settled f. core_of_decided f (λ p valid gives. classical settled f p) }
