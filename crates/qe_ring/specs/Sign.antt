-- Signs, and how they are reckoned with.
use Rattle.std.specs.Prelude.{◌≡◌, ◌⊎◌, Bool, true, false, T, zero, suc, ℤ, pos, negsuc}

pub data Sign : Type 0 where
  Minus : Sign
  Zero : Sign
  Plus : Sign

abbrev pub is_not_minus : Sign → Bool
is_not_minus Minus = false
is_not_minus Zero = true
is_not_minus Plus = true

-- the sign is zero or plus
abbrev pub IsNotMinus : Sign → Type 0
IsNotMinus s = T (is_not_minus s)

abbrev pub is_not_zero : Sign → Bool
is_not_zero Minus = true
is_not_zero Zero = false
is_not_zero Plus = true

-- the sign is minus or plus
abbrev pub IsNotZero : Sign → Type 0
IsNotZero s = T (is_not_zero s)

-- the sign of a whole number
abbrev pub int_sign : ℤ → Sign
int_sign (pos zero) = Zero
int_sign (pos (suc n)) = Plus
int_sign (negsuc n) = Minus

-- the two signs are one
abbrev pub is : Sign → Sign → Bool
is Minus Minus = true
is Zero Zero = true
is Plus Plus = true
is _ _ = false

-- the sign of a negative
abbrev pub opposite : Sign → Sign
opposite Minus = Plus
opposite Zero = Zero
opposite Plus = Minus

-- the sign of a product
infixl 7 ◌·◌
abbrev pub ◌·◌ : Sign → Sign → Sign
Minus · s = opposite s
Zero · s = Zero
Plus · s = s

-- the sum of two values with the signs s and t may have the sign u: where one is zero, the other's sign;
-- where both have one sign, that sign; where one is minus and one plus, each
abbrev pub adds : Sign → Sign → Sign → Bool
adds Zero t u = is u t
adds s Zero u = is u s
adds Minus Minus u = is u Minus
adds Plus Plus u = is u Plus
adds _ _ u = true

-- the common sign of two, and zero where they differ
abbrev pub meet : Sign → Sign → Sign
meet Minus Minus = Minus
meet Plus Plus = Plus
meet _ _ = Zero

-- the sign of u + v, from that of u*u - v*v and those of u and v
abbrev pub pick : Sign → Sign → Sign → Sign
pick Plus s t = s
pick Minus s t = t
pick Zero s t = meet s t

-- u may be the sign of the sum of two values with the signs s and t: by the table of `adds`,
-- so that it is not minus where s and t are not minus, and plus where moreover one of them is plus
pub record IsSignOfSum (s t u : Sign) : Type 0 where
  pub allowed : T (adds s t u)
  pub not-minus : IsNotMinus s → IsNotMinus t → IsNotMinus u
  pub plus : IsNotMinus s → IsNotMinus t → s ≡ Plus ⊎ t ≡ Plus → u ≡ Plus
