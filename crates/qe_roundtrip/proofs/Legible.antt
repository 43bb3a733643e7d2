-- What a formula that was read is like, so that its text can be read.
use Rattle.std.proofs.Common.{ℕ, suc, ◌+◌, ◌≡◌, ◌<◌, ◌≤◌, false, cond, List, [], ◌∷◌, ◌++◌, length, Option, Some, None}
use Rattle.std.specs.List.{Contains}
use Rattle.std.specs.Option.{option_or}
use Rattle.qe_token.specs.declared.token.Relation.{Relation}
use Rattle.qe_coef.specs.Range.{IsInRange}
use Rattle.qe_poly.specs.declared.monomial.Var.{Var}
use Rattle.qe_poly.specs.Monomial.{is_high}
use Rattle.qe_poly.specs.Polynomial.{Polynomial, IsPolynomial}
use Rattle.qe_poly.proofs.Sorted.{Each}
use Rattle.qe_form.specs.declared.form.Atom as atom
use Rattle.qe_form.specs.Fed.{size}
use Rattle.qe_form.specs.Formula.{Formula, Formulas, True, False, Atom, And, Or, Not, Implies, Iff, Ex, All, no_more, more}
use Rattle.qe_read.specs.Names.{Letters, is_same, or_free}
use Rattle.qe_read.specs.Numbered.{binders}
use Rattle.qe_read.specs.Formula.{relation_signs}
use Rattle.qe_read.proofs.Variables.{Have}
use Rattle.qe_print.specs.Polynomial.{name_of}
use Rattle.qe_roundtrip.proofs.Numerals.{IsName}

-- A polynomial within all limits.
pub record IsStored (p : Polynomial) : Type 0 where
  pub polynomial : IsPolynomial p
  pub in_range : Each (λ t. IsInRange t.1) p
  pub low : Each (λ t. is_high t.0 ≡ false) p
  pub few : length p ≤ 4096

-- the binders around, from the outermost to the innermost, each as its letters with its variable
abbrev pub Scope : Type 0
Scope = List (Letters × Var)

-- the variable of the innermost binder with these letters
abbrev pub found : Scope → Letters → Option Var
found [] w = None
found (s ∷ ss) w = option_or (found ss w) (cond (is_same s.0 w) (Some s.1) None)

module _ (names free : List Letters) where
  -- The variable is the one that its name stands for inside of these binders.
  pub record IsKnown (scope : Scope) (x : ℕ) : Type 0 where
    pub name : IsName (name_of names x)
    pub is : (or_free free (name_of names x) (found scope (name_of names x))).0 ≡ x
    pub listed : found scope (name_of names x) ≡ None → Contains free (name_of names x)

  pub record IsAtom (scope : Scope) (a : atom.Atom) : Type 0 where
    pub relation : Relation
    pub signs : a.signs ≡ relation_signs relation
    pub stored : IsStored a.poly
    pub known : Have (IsKnown scope) a.poly

  -- The formula can be read again inside of these binders, where the next variable to be bound has the number n.
  abbrev mutual
    pub IsLegible : ℕ → Scope → Formula → Type 0
    IsLegible n scope True = Unit {0}
    IsLegible n scope False = Unit {0}
    IsLegible n scope (Atom a) = IsAtom scope a
    IsLegible n scope (And fs) = (1 < size fs) × AreLegible n scope fs
    IsLegible n scope (Or fs) = (1 < size fs) × AreLegible n scope fs
    IsLegible n scope (Not f) = IsLegible n scope f
    IsLegible n scope (Implies f g) = IsLegible n scope f × IsLegible (n + length (binders f)) scope g
    IsLegible n scope (Iff f g) = IsLegible n scope f × IsLegible (n + length (binders f)) scope g
    IsLegible n scope (Ex x f) = (x ≡ n) × IsName (name_of names x) × IsLegible (suc n) (scope ++ (name_of names x, record { 0 = x }) ∷ []) f
    IsLegible n scope (All x f) = (x ≡ n) × IsName (name_of names x) × IsLegible (suc n) (scope ++ (name_of names x, record { 0 = x }) ∷ []) f

    pub AreLegible : ℕ → Scope → Formulas → Type 0
    AreLegible n scope no_more = Unit {0}
    AreLegible n scope (more f fs) = IsLegible n scope f × AreLegible (n + length (binders f)) scope fs
