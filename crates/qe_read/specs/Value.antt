-- The polynomial that a term stands for, or the first limit that an operation meets.
use Rattle.std.specs.Prelude.{ℕ, zero, suc, ◌-◌, ◌^◌, pos, min, Bool, cond, Option, Some, None, Result, Ok, Err, ◌≡◌}
use Rattle.qe_coef.specs.declared.Op.TheVariants.{Add, Sub}
use Rattle.qe_poly.specs.declared.limit.PolyLimit.{PolyLimit}
use Rattle.qe_poly.specs.declared.monomial.Var.{Var}
use Rattle.qe_poly.specs.Polynomial.{Polynomial, constant, power_of, negative, sum, difference, product}
use Rattle.qe_poly.specs.Limits.{sum_limit, product_limit}
use Rattle.qe_token.specs.declared.token.Name.{Name}
use Rattle.qe_syntax.specs.Tree.{TermTree, Number, Variable, Negative, Power, Sum, Product, Addends, no_addend, addend, Factors, no_factor, factor}
use Rattle.qe_read.specs.declared.value.Met.{Met}
use Rattle.qe_halt.specs.declared.halt.Halt.{Halt}
use Rattle.qe_halt.specs.declared.halt.Halt.TheVariants.{Limit, OutOfMemory}

-- a polynomial, or the first limit that was met, with the place of its operator
abbrev pub Value : Type 0
Value = Result Polynomial Met

-- what follows where there is a result; the first limit stays
abbrev pub proceed : {A B : Type 0} → Result A Met → (A → Result B Met) → Result B Met
proceed (Ok a) f = f a
proceed (Err met) f = Err met

-- the operation at a place, which may meet a limit
abbrev pub at : ℕ → Option PolyLimit → Polynomial → Value
at p None result = Ok result
at p (Some limit) result = Err (record { place = p; limit = limit })

abbrev pub added : ℕ → Polynomial → Polynomial → Value
added p a b = at p (sum_limit Add a b) (sum a b)

abbrev pub subtracted : ℕ → Polynomial → Polynomial → Value
subtracted p a b = at p (sum_limit Sub a b) (difference a b)

-- the difference behind a minus, and else the sum
abbrev pub signed_sum : ℕ → Bool → Polynomial → Polynomial → Value
signed_sum p minus a b = cond minus (subtracted p a b) (added p a b)

abbrev pub multiplied : ℕ → Polynomial → Polynomial → Value
multiplied p a b = at p (product_limit a b) (product a b)

-- b times a, n times over
abbrev pub repeated : ℕ → Polynomial → ℕ → Polynomial → Value
repeated p a zero b = Ok b
repeated p a (suc n) b = proceed (multiplied p b a) (repeated p a n)

-- a to the n: 1, or a multiplied by itself n - 1 times
abbrev pub raised : ℕ → ℕ → Polynomial → Value
raised p zero a = Ok (constant (pos 1))
raised p (suc n) a = repeated p a n a

-- a name's power is that monomial, and any other base is computed and multiplied
abbrev pub power_value : (Name → Var) → Option Name → Value → ℕ → ℕ → Value
power_value var (Some x) base p n = Ok (power_of (var x) n)
power_value var None base p n = proceed base (raised p n)

abbrev pub as_name : TermTree → Option Name
as_name (Variable x) = Some x
as_name t = None

-- a number of a text, which has none above 2^127-1
abbrev pub literal : ℕ → ℕ
literal n = min n (2 ^ 127 - 1)

-- Operands come before their operator, from left to right. `var` gives the variables of the names.
abbrev mutual
  pub value : (Name → Var) → TermTree → Value
  value var (Number n) = Ok (constant (pos (literal n)))
  value var (Variable x) = Ok (power_of (var x) 1)
  value var (Negative t) = proceed (value var t) (λ a. Ok (negative a))
  value var (Power t p n) = power_value var (as_name t) (value var t) p n
  value var (Sum t us) = proceed (value var t) (summed var us)
  value var (Product t us) = proceed (value var t) (factored var us)

  -- with the later summands
  pub summed : (Name → Var) → Addends → Polynomial → Value
  summed var no_addend a = Ok a
  summed var (addend p minus t us) a = proceed (value var t) (λ b. proceed (signed_sum p minus a b) (summed var us))

  -- with the later factors
  pub factored : (Name → Var) → Factors → Polynomial → Value
  factored var no_factor a = Ok a
  factored var (factor p t us) a = proceed (value var t) (λ b. proceed (multiplied p a b) (factored var us))

-- A call's result, as `seen` sees it, is this value, or the limit in its place; out of memory may come in place of either.
abbrev pub IsValueBy : {A B : Type 0} → (B → A) → Result A Met → Result B (Halt Met) → Type 0
IsValueBy seen v (Ok b) = v ≡ Ok (seen b)
IsValueBy seen v (Err (Limit met)) = v ≡ Err met
IsValueBy seen v (Err OutOfMemory) = Unit {0}

abbrev pub IsValue : Value → Result Polynomial (Halt Met) → Type 0
IsValue = IsValueBy (λ p. p)
