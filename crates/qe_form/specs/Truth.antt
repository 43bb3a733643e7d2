-- Truth and falsity of a formula at a point, side by side, since the logic has no excluded middle.
use Rattle.std.specs.Prelude.{Bool, true, false, not, ◌≡◌, ◌⊎◌, ◌∷◌}
use Rattle.qe_ring.specs.Sign.{Sign, Minus, Zero, Plus}
use Rattle.qe_tower.specs.Number.{Number, IsNumber, sign_of}
use Rattle.qe_tower.specs.Point.{Point}
use Rattle.qe_form.specs.declared.signs.Signs.{Signs}
use Rattle.qe_form.specs.Formula.{Formula, Formulas, True, False, Atom, And, Or, Not, Implies, Iff, Ex, All, no_more, more}
use Rattle.qe_form.specs.Value.{value}

-- whether a set of signs has a sign
abbrev pub has_sign : Signs → Sign → Bool
has_sign s Minus = s.minus
has_sign s Zero = s.zero
has_sign s Plus = s.plus

-- `Is f true p` says that f is true at p, and `Is f false p` that it is false there. A quantifier ranges over the numbers.
abbrev mutual
  pub Is : Formula → Bool → Point → Type 0
  Is True b p = b ≡ true
  Is False b p = b ≡ false
  Is (Atom a) b p = has_sign a.signs (sign_of (value a.poly p)) ≡ b
  Is (And fs) true p = EachIs fs true p
  Is (And fs) false p = SomeIs fs false p
  Is (Or fs) true p = SomeIs fs true p
  Is (Or fs) false p = EachIs fs false p
  Is (Not f) b p = Is f (not b) p
  Is (Implies f g) true p = Is f false p ⊎ Is g true p
  Is (Implies f g) false p = Is f true p × Is g false p
  Is (Iff f g) true p = (Is f true p × Is g true p) ⊎ (Is f false p × Is g false p)
  Is (Iff f g) false p = (Is f true p × Is g false p) ⊎ (Is f false p × Is g true p)
  Is (Ex x f) true p = (v : Number) × IsNumber v × Is f true ((x, v) ∷ p)
  Is (Ex x f) false p = (v : Number) → IsNumber v → Is f false ((x, v) ∷ p)
  Is (All x f) true p = (v : Number) → IsNumber v → Is f true ((x, v) ∷ p)
  Is (All x f) false p = (v : Number) × IsNumber v × Is f false ((x, v) ∷ p)

  -- each of the formulas is true, or each is false
  pub EachIs : Formulas → Bool → Point → Type 0
  EachIs no_more b p = Unit {0}
  EachIs (more f fs) b p = Is f b p × EachIs fs b p

  -- some of the formulas is true, or some is false
  pub SomeIs : Formulas → Bool → Point → Type 0
  SomeIs no_more b p = ⊥
  SomeIs (more f fs) b p = Is f b p ⊎ SomeIs fs b p
