-- Formulas that are true at a point where a test holds, and false where it does not.
use Rattle.std.proofs.Common.{◌≡◌, ◌∙◌, ◌↔◌, inl, inr, refl, sym, ap, subst, Bool, true, false, ◌&&◌, ◌||◌}
use Rattle.qe_ring.specs.Sign.{Sign}
use Rattle.qe_ring.proofs.Bools.{both_hold, one_fails, one_holds, neither, both_fail}
use Rattle.qe_tower.specs.Number.{sign_of}
use Rattle.qe_tower.specs.Point.{Point}
use Rattle.qe_poly.specs.Polynomial.{Polynomial}
use Rattle.qe_form.specs.Making.{atomic, both, constant, either}
use Rattle.qe_form.specs.declared.signs.Signs.{Signs}
use Rattle.qe_form.specs.Formula.{Formula, Formulas, And, Or, no_more, more}
use Rattle.qe_form.specs.Value.{value}
use Rattle.qe_form.specs.Truth.{has_sign, Is}

-- ---- tests

and_true : (a b : Bool) → true ≡ b → true ≡ a → (a && b) ≡ true
and_true a b right left = (λ i. sym left i && b) ∙ sym right

and_left : (a b : Bool) → a ≡ false → (a && b) ≡ false
and_left a b e = ap (λ c. c && b) e

and_right : (a b : Bool) → b ≡ false → (a && b) ≡ false
and_right true b e = e
and_right false b e = refl

or_left : (a b : Bool) → a ≡ true → (a || b) ≡ true
or_left a b e = ap (λ c. c || b) e

or_right : (a b : Bool) → b ≡ true → (a || b) ≡ true
or_right true b e = refl
or_right false b e = e

and_last : (b : Bool) → (b && true) ≡ b
and_last true = refl
and_last false = refl

pub or_last : (b : Bool) → (b || false) ≡ b
or_last true = refl
or_last false = refl

module _ (p : Point) where
  -- the formula is true where the test holds, and false where it does not
  abbrev pub Reads : Bool → Formula → Type 0
  Reads b g = (t : Bool) → Is g t p ↔ (b ≡ t)

  pub rereads : (a b : Bool) (g : Formula) → a ≡ b → Reads a g → Reads b g
  rereads a b g e h = subst (λ c. Reads c g) e h

  pub reads_constant : (b : Bool) → Reads b (constant b)
  reads_constant true t = ((λ h. sym h), (λ h. sym h))
  reads_constant false t = ((λ h. sym h), (λ h. sym h))

  pub reads_atom : (q : Polynomial) (s : Signs) (sign : Sign) → sign_of (value q p) ≡ sign → Reads (has_sign s sign) (atomic q s)
  reads_atom q s sign e t = ((λ h. sym (ap (has_sign s) e) ∙ h), (λ h. ap (has_sign s) e ∙ h))

  and_none : Reads true (And no_more)
  and_none true = ((λ h. refl), (λ h. tt))
  and_none false = ((λ h. absurd h), (λ h. absurd (cc)))

  pub and_more : (a b : Bool) (f : Formula) (fs : Formulas) → Reads a f → Reads b (And fs) → Reads (a && b) (And (more f fs))
  and_more a b f fs h k true = (
    (λ m. and_true a b (sym ((k true).0 m.1)) (sym ((h true).0 m.0))),
    (λ e. let parts = both_hold a b e in ((h true).1 parts.0, (k true).1 parts.1)),
  )
  and_more a b f fs h k false = (
    (λ m. elim m [ inl l ↦ and_left a b ((h false).0 l) | inr r ↦ and_right a b ((k false).0 r) ]),
    (λ e. elim (one_fails a b e) [ inl l ↦ inl ((h false).1 l) | inr r ↦ inr ((k false).1 r) ]),
  )

  or_none : Reads false (Or no_more)
  or_none true = ((λ h. absurd h), (λ h. absurd (cc)))
  or_none false = ((λ h. refl), (λ h. tt))

  pub or_more : (a b : Bool) (f : Formula) (fs : Formulas) → Reads a f → Reads b (Or fs) → Reads (a || b) (Or (more f fs))
  or_more a b f fs h k true = (
    (λ m. elim m [ inl l ↦ or_left a b ((h true).0 l) | inr r ↦ or_right a b ((k true).0 r) ]),
    (λ e. elim (one_holds a b e) [ inl l ↦ inl ((h true).1 l) | inr r ↦ inr ((k true).1 r) ]),
  )
  or_more a b f fs h k false = (
    (λ m. both_fail a b ((h false).0 m.0) ((k false).0 m.1)),
    (λ e. let parts = neither a b e in ((h false).1 parts.0, (k false).1 parts.1)),
  )

  pub reads_both : (a b : Bool) (f g : Formula) → Reads a f → Reads b g → Reads (a && b) (both f g)
  reads_both a b f g h k = and_more a b f (more g no_more) h (rereads (b && true) b (And (more g no_more)) (and_last b) (and_more b true g no_more k and_none))

  pub reads_either : (a b : Bool) (f g : Formula) → Reads a f → Reads b g → Reads (a || b) (either f g)
  reads_either a b f g h k = or_more a b f (more g no_more) h (rereads (b || false) b (Or (more g no_more)) (or_last b) (or_more b false g no_more k or_none))
