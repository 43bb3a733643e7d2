-- The shape for a set of signs is met, over the signs of A, B, A*B and N, where the sign of A + B*sqrt(r) is in the set.
use Rattle.std.proofs.Common.{◌≡◌, refl, ap, ◌∙◌, T, Bool, true, false, not, arith, [], ◌∷◌}
use Rattle.qe_ring.specs.Sign.{Sign, Minus, Zero, Plus, is_not_minus, IsNotMinus, is, opposite, ◌·◌, adds, pick}
use Rattle.qe_ring.proofs.Finite.{any, given, Claim, decide, is-eq}
use Rattle.qe_form.specs.declared.signs.Signs.{Signs}
use Rattle.qe_form.specs.Truth.{has_sign}
use Rattle.qe_root.specs.Shape.{is_met}
use Rattle.qe_form.specs.Signs.{IsProper}
use Rattle.qe_root.specs.SignForm.{zero_shape, side_shape, sign_shape}

abbrev same_bool : Bool → Bool → Bool
same_bool true b = b
same_bool false b = not b

same_bool-equal : (a b : Bool) → T (same_bool a b) → a ≡ b
same_bool-equal true true same = refl
same_bool-equal true false same = absurd same
same_bool-equal false true same = absurd same
same_bool-equal false false same = refl

-- `=` where zero is in the set, and else `<>`
abbrev zero_signs : Bool → Signs
zero_signs zero = record { minus = not zero; zero = zero; plus = not zero }

-- `<=` where zero is in the set, and else `<`
abbrev side_signs : Bool → Signs
side_signs zero = record { minus = true; zero = zero; plus = false }

-- the radicand's sign r, those of A and B, and n, which may be that of A^2 - B^2*r
abbrev Zero_claim : Bool → Claim (any ∷ given ∷ any ∷ any ∷ any ∷ given ∷ [])
Zero_claim zero r = (
  is_not_minus r,
  λ _ a b n. (
    adds (a · a) (opposite (b · b · r)) n,
    λ _.
        same_bool (is_met (zero_shape zero (a · b) n)) (has_sign (zero_signs zero) (pick n a (b · r))),
  ),
)

abbrev Side_claim : Bool → Claim (any ∷ given ∷ any ∷ any ∷ any ∷ given ∷ [])
Side_claim zero r = (
  is_not_minus r,
  λ _ a b n. (
    adds (a · a) (opposite (b · b · r)) n,
    λ _.
        same_bool (is_met (side_shape zero a b n)) (has_sign (side_signs zero) (pick n a (b · r))),
  ),
)

-- the opposites of A and B give the opposite sign
abbrev Mirrored : Claim (any ∷ any ∷ any ∷ any ∷ [])
Mirrored n a b r = is (pick n (opposite a) (opposite b · r)) (opposite (pick n a (b · r)))

abbrev Squared : Claim (any ∷ any ∷ any ∷ any ∷ given ∷ [])
Squared a b r n = (adds (a · a) (opposite (b · b · r)) n, λ _. adds (opposite a · opposite a) (opposite (opposite b · opposite b · r)) n)

module _ (r a b n : Sign) (radicand : IsNotMinus r) (sum : T (adds (a · a) (opposite (b · b · r)) n)) where
  zero_table : (zero : Bool) → is_met (zero_shape zero (a · b) n) ≡ has_sign (zero_signs zero) (pick n a (b · r))
  zero_table true = same_bool-equal _ _ (decide (any ∷ given ∷ any ∷ any ∷ any ∷ given ∷ []) (Zero_claim true) tt r radicand a b n sum)
  zero_table false = same_bool-equal _ _ (decide (any ∷ given ∷ any ∷ any ∷ any ∷ given ∷ []) (Zero_claim false) tt r radicand a b n sum)

side_table : (r a b n : Sign) → IsNotMinus r → T (adds (a · a) (opposite (b · b · r)) n) → (zero : Bool)
    → is_met (side_shape zero a b n) ≡ has_sign (side_signs zero) (pick n a (b · r))
side_table r a b n radicand sum true = same_bool-equal _ _ (decide (any ∷ given ∷ any ∷ any ∷ any ∷ given ∷ []) (Side_claim true) tt r radicand a b n sum)
side_table r a b n radicand sum false = same_bool-equal _ _ (decide (any ∷ given ∷ any ∷ any ∷ any ∷ given ∷ []) (Side_claim false) tt r radicand a b n sum)

-- the mirrored set has the opposite sign
has_opposite : (zero : Bool) (s : Sign) → has_sign (side_signs zero) (opposite s) ≡ has_sign (record { minus = false; zero = zero; plus = true }) s
has_opposite zero Minus = refl
has_opposite zero Zero = refl
has_opposite zero Plus = refl

mirrored_table : (r a b n : Sign) → IsNotMinus r → T (adds (a · a) (opposite (b · b · r)) n) → (zero : Bool)
    → is_met (side_shape zero (opposite a) (opposite b) n) ≡ has_sign (record { minus = false; zero = zero; plus = true }) (pick n a (b · r))
mirrored_table r a b n radicand sum zero =
    side_table r (opposite a) (opposite b) n radicand (decide (any ∷ any ∷ any ∷ any ∷ given ∷ []) Squared tt a b r n sum) zero
    ∙ (ap (has_sign (side_signs zero)) (is-eq _ _ (decide (any ∷ any ∷ any ∷ any ∷ []) Mirrored tt n a b r))
    ∙ has_opposite zero (pick n a (b · r)))

-- for each set of signs that is neither empty nor full
pub table : (signs : Signs) → IsProper signs → (r a b n : Sign) → IsNotMinus r → T (adds (a · a) (opposite (b · b · r)) n)
    → is_met (sign_shape opposite signs a b (a · b) n) ≡ has_sign signs (pick n a (b · r))
table signs proper r a b n radicand sum = by_sides signs.minus signs.zero signs.plus proper
  where
    by_sides : (minus zero plus : Bool) → IsProper (record { minus = minus; zero = zero; plus = plus })
        → is_met (sign_shape opposite (record { minus = minus; zero = zero; plus = plus }) a b (a · b) n)
        ≡ has_sign (record { minus = minus; zero = zero; plus = plus }) (pick n a (b · r))
    by_sides true zero false proper = side_table r a b n radicand sum zero
    by_sides false zero true proper = mirrored_table r a b n radicand sum zero
    by_sides true false true proper = zero_table r a b n radicand sum false
    by_sides false true false proper = zero_table r a b n radicand sum true
    by_sides true true true proper = absurd (omega arith)
    by_sides false false false proper = absurd (omega arith)
