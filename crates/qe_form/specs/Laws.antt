-- The laws of values, truth and sameness, stated.
use Rattle.std.specs.Prelude.{◌≡◌, ℕ, ℤ, Bool, true, false, ◌⊎◌, ◌↔◌, Option, Some, None, ◌∷◌}
use Rattle.std.specs.declared.cmp.Ordering.TheVariants as ordering
use Rattle.std.specs.Cmp.{IsTotalOrder}
use Rattle.qe_tower.specs.Number.{Number, add, mul, neg, whole_number, Equal}
use Rattle.qe_tower.specs.Point.{Point, IsPoint, look_up, number_at}
use Rattle.qe_poly.specs.Polynomial.{Polynomial, sum, negative, product}
use Rattle.qe_poly.specs.Value.{scaled}
use Rattle.qe_poly.specs.Renamed.{renamed}
use Rattle.qe_poly.specs.declared.monomial.Var.{Var}
use Rattle.qe_form.specs.Formula.{Formula, Formulas, And, Or, Not, Implies, Iff, Ex, All}
use Rattle.qe_form.specs.Measures.{Has}
use Rattle.qe_form.specs.Order.{formula_cmp}
use Rattle.qe_form.specs.Value.{value}
use Rattle.qe_form.specs.Truth.{Is}
use Rattle.qe_form.specs.Same.{IsFree, HasNoQuantifier, Gives, Same, SameEach}
use Rattle.qe_poly.specs.Occurs.{OccursInSome}
use Rattle.qe_form.specs.Preserved.{Preserves, IsDecided, HasDecidedCore, HasOuterQuantifiers}

-- no formula is both true and false at a point
abbrev pub NeverBoth : Type 0
NeverBoth = (f : Formula) (p : Point) → Is f true p → Is f false p → ⊥

-- a formula without quantifiers is true or false at every point
abbrev pub Decided : Type 0
Decided = (f : Formula) → HasNoQuantifier f → (p : Point) → Is f true p ⊎ Is f false p

-- it is settled whether a formula is true at a point: an instance of excluded middle
abbrev pub IsSettled : Formula → Point → Type 0
IsSettled f p = Is f true p ⊎ (Is f true p → ⊥)

-- where it is always settled whether a formula is true, each formula is true or false at each point
abbrev pub Classical : Type 0
Classical = ((f : Formula) (p : Point) → IsSettled f p) → (f : Formula) (p : Point) → Is f true p ⊎ Is f false p

-- `Same` is an order of formulas up to their free variables
pub record SameIsPreorder : Type 0 where
  pub reflexive : (f : Formula) → Same f f
  pub symmetric : (f g : Formula) → ((x : ℕ) → IsFree x f → IsFree x g) → Same f g → Same g f
  pub transitive : (f g h : Formula) → Same f g → Same g h → Same f h

-- every connective and quantifier keeps `Same`
pub record SameIsKept : Type 0 where
  pub under_not : (f g : Formula) → Same f g → Same (Not f) (Not g)
  pub under_and : (fs gs : Formulas) → SameEach fs gs → Same (And fs) (And gs)
  pub under_or : (fs gs : Formulas) → SameEach fs gs → Same (Or fs) (Or gs)
  pub under_implies : (f g h k : Formula) → Same f g → Same h k → Same (Implies f h) (Implies g k)
  pub under_iff : (f g h k : Formula) → Same f g → Same h k → Same (Iff f h) (Iff g k)
  pub under_ex : (x : ℕ) (f g : Formula) → Same f g → Same (Ex x f) (Ex x g)
  pub under_all : (x : ℕ) (f g : Formula) → Same f g → Same (All x f) (All x g)

-- both are true or both are false
abbrev pub BothOrNeither : Formula → Formula → Point → Type 0
BothOrNeither f g p = (Is f true p × Is g true p) ⊎ (Is f false p × Is g false p)

-- where g has no quantifier, `Same f g` says that both are true or both are false
abbrev pub SameIsLiteral : Type 0
SameIsLiteral = (f g : Formula) → HasNoQuantifier g → Same f g → (p : Point) → IsPoint p → Gives p f → BothOrNeither f g p

-- where it is decided whether f is true, what preserves f is the same as f
abbrev pub PreservesIsSame : Type 0
PreservesIsSame = (f g : Formula) → IsDecided f → Preserves f g → Same f g

-- `Preserves` is an order of formulas, and what is the same is preserved
pub record PreservesIsPreorder : Type 0 where
  pub reflexive : (f : Formula) → Preserves f f
  pub transitive : (f g h : Formula) → Preserves f g → Preserves g h → Preserves f h
  pub same : (f g : Formula) → Same f g → Preserves f g

-- negation and the quantifiers keep `Preserves`
pub record PreservesIsKept : Type 0 where
  pub under_not : (f g : Formula) → Preserves f g → Preserves (Not f) (Not g)
  pub under_ex : (x : ℕ) (f g : Formula) → Preserves f g → Preserves (Ex x f) (Ex x g)
  pub under_all : (x : ℕ) (f g : Formula) → Preserves f g → Preserves (All x f) (All x g)

-- what follows outer quantifiers and negations is decided where it has no quantifier, and each formula where excluded middle holds of truth
pub record CoresAreDecided : Type 0 where
  pub outer : (f : Formula) → HasOuterQuantifiers f → HasDecidedCore f
  pub settled : ((f : Formula) (p : Point) → IsSettled f p) → (f : Formula) → HasDecidedCore f

-- the value of a sum is the sum of the values
abbrev pub ValueOfSum : Type 0
ValueOfSum = (q r : Polynomial) (p : Point) → IsPoint p → Equal (value (sum q r) p) (add (value q p) (value r p))

-- the value of a negative is the negative of the value
abbrev pub ValueOfNegative : Type 0
ValueOfNegative = (q : Polynomial) (p : Point) → IsPoint p → Equal (value (negative q) p) (neg (value q p))

-- the value of a product is the product of the values
abbrev pub ValueOfProduct : Type 0
ValueOfProduct = (q r : Polynomial) (p : Point) → IsPoint p → Equal (value (product q r) p) (mul (value q p) (value r p))

-- the value of a multiple is the multiple of the value
abbrev pub ValueOfMultiple : Type 0
ValueOfMultiple = (c : ℤ) (q : Polynomial) (p : Point) → IsPoint p → Equal (value (scaled c q) p) (mul (whole_number c) (value q p))

-- the value with y in the place of x is that where x has the number of y
abbrev pub ValueOfRenamed : Type 0
ValueOfRenamed = (x y : Var) (q : Polynomial) (p : Point) → IsPoint p → (OccursInSome y.0 q → ⊥) → Equal (value (renamed x y q) p) (value q ((x.0, number_at p y.0) ∷ p))

-- neither is a number, or both are and they are equal
abbrev pub SameNumber : Option Number → Option Number → Type 0
SameNumber None None = Unit {0}
SameNumber (Some v) (Some w) = Equal v w
SameNumber _ _ = ⊥

-- to each variable neither point gives a number, or both give it equal numbers
abbrev pub SameNumbers : Point → Point → Type 0
SameNumbers p q = (x : ℕ) → SameNumber (look_up p x) (look_up q x)

-- a formula is true at one point where it is true at another with the same numbers, and false where it is false there
abbrev pub EqualPoints : Type 0
EqualPoints = (f : Formula) (p q : Point) → IsPoint p → IsPoint q → SameNumbers p q → (b : Bool) → Is f b p ↔ Is f b q

-- in a formula without quantifiers the variables that occur are those that are free
abbrev pub OccurringIsFree : Type 0
OccurringIsFree = (x : ℕ) (f : Formula) → HasNoQuantifier f → Has x f ↔ IsFree x f

-- the order of formulas is total, and does not tell apart exactly those that are equal
pub record OrderIsTotal : Type 0 where
  pub total : IsTotalOrder formula_cmp
  pub tells : (f g : Formula) → (formula_cmp f g ≡ ordering.Equal) ↔ (f ≡ g)
