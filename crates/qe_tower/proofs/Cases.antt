-- What the proofs on pairs a + b*sqrt(r) ask of finitely many signs, by computing all cases. N(a, b) stands for a*a - b*b*r.
use Rattle.std.proofs.Common.{◌≡◌, List, [], ◌∷◌, refl}
use Rattle.qe_ring.specs.Sign.{Sign, Minus, Zero, Plus, is_not_minus, is_not_zero, is, opposite, ◌·◌, adds, pick}
use Rattle.qe_ring.proofs.Finite.{Step, any, given, Claim, Holds, decide, is-eq}
use Rattle.qe_tower.specs.Sign.{sign_of_root_sum}

-- the product: a b c d r, N(x), N(y), u = sign ((ac)^2 - (bdr)^2), v = sign ((ad)^2 - (bc)^2)
abbrev pub Product : List Step
Product = any ∷ given ∷ any ∷ any ∷ any ∷ given ∷ any ∷ any ∷ any ∷ given ∷ any ∷ given ∷ given ∷ any ∷ given ∷ given ∷ []

abbrev pub Product_claim : Claim Product
Product_claim r = (
  is_not_minus r,
  λ _ a b m. (
    adds (a · a) (opposite (b · b · r)) m,
    λ _ c d n. (
      adds (c · c) (opposite (d · d · r)) n,
      λ _ u. (
        adds (m · (c · c)) (b · b · r · n) u,
        λ _. (
          adds (a · a · n) (m · (d · d · r)) u,
          λ _ v. (
            adds (m · (d · d · r)) (opposite (b · b · r · n)) (v · r),
            λ _. (
              adds (opposite (a · a · n)) (m · (c · c)) (v · r),
              λ _.
                  is (pick (m · n) (pick u (a · c) (b · d · r)) (pick v (a · d) (b · c) · r)) (pick m a (b · r) · pick n c (d · r)),
            ),
          ),
        ),
      ),
    ),
  ),
)

pub product_holds : Holds Product Product_claim
product_holds = decide Product Product_claim tt

-- the sign sign_of_root_sum against `pick`: a b r, m = sign (a*a - b*b*r)
abbrev pub Table : List Step
Table = any ∷ given ∷ any ∷ any ∷ any ∷ given ∷ []

abbrev pub Table_claim : Claim Table
Table_claim r = (is_not_minus r, λ _ a b m. (adds (a · a) (opposite (b · b · r)) m, λ _. is (sign_of_root_sum a b r m (opposite m)) (pick m a (b · r))))

pub table_holds : Holds Table Table_claim
table_holds = decide Table Table_claim tt

-- k + (a, b): k a r b, n = N(a, b), f = sign (k + a), g = sign (k + 2a), m = N(k + a, b)
abbrev pub Shift : List Step
Shift = any ∷ given ∷ any ∷ any ∷ any ∷ given ∷ any ∷ any ∷ given ∷ any ∷ given ∷ given ∷ any ∷ given ∷ []

abbrev pub Shift_claim : Claim Shift
Shift_claim r = (
  is_not_minus r,
  λ _ a b n. (
    adds (a · a) (opposite (b · b · r)) n,
    λ _ k f. (
      adds k a f,
      λ _ g. (
        adds f a g,
        λ _. (
          adds k a g,
          λ _ m. (
            adds n (k · g) m,
            λ _.
                adds k (pick n a (b · r)) (pick m f (b · r)),
          ),
        ),
      ),
    ),
  ),
)

pub shift_holds : Holds Shift Shift_claim
shift_holds = decide Shift Shift_claim tt

-- N(x) * (x + y) = x * (N(x) + y * x'), for the conjugate x': n = N(x), the signs of x, x', y, N(x) + y * x' and x + y
abbrev pub Reduce : List Step
Reduce = any ∷ any ∷ any ∷ given ∷ any ∷ any ∷ given ∷ any ∷ given ∷ given ∷ []

abbrev pub Reduce_claim : Claim Reduce
Reduce_claim n x z = (is n (x · z), λ _ y w. (adds n (y · z) w, λ _ u. (is (n · u) (x · w), λ _. (is_not_zero n, λ _. adds x y u))))

pub reduce_holds : Holds Reduce Reduce_claim
reduce_holds = decide Reduce Reduce_claim tt

-- both norms zero: r a b m, c d n, t = sign (b*b - d*d), e = sign (N(x) - N(y)), q = sign (a*a - c*c), g = sign (N(x) + N(y)),
-- z = sign ((ac)^2 - (bdr)^2), j = twice sign (ac - bdr), h = sign N(x + y)
abbrev pub Flat : List Step
Flat = any ∷ given ∷ any ∷ any ∷ any ∷ given ∷ given ∷ any ∷ any ∷ any ∷ given ∷ given ∷ any ∷ given ∷ any ∷ given ∷ any ∷ given ∷ given ∷ any ∷ given
    ∷ any ∷ given ∷ any ∷ given ∷ any ∷ given ∷ []

abbrev pub Flat_claim : Claim Flat
Flat_claim r = (
  is_not_minus r,
  λ _ a b m. (
    adds (a · a) (opposite (b · b · r)) m,
    λ _. (
      is m Zero,
      λ _ c d n. (
        adds (c · c) (opposite (d · d · r)) n,
        λ _. (
          is n Zero,
          λ _ t. (
            adds (b · b) (opposite (d · d)) t,
            λ _ e. (
              adds m (opposite n) e,
              λ _ q. (
                adds (t · r) e q,
                λ _. (
                  adds (a · a) (opposite (c · c)) q,
                  λ _ g. (
                    adds m n g,
                    λ _ z. (
                      adds (m · (c · c)) (b · b · r · n) z,
                      λ _ j. (
                        adds (pick z (a · c) (opposite (b · d · r))) (pick z (a · c) (opposite (b · d · r))) j,
                        λ _ h. (
                          adds g j h,
                          λ _.
                              adds (pick m a (b · r)) (pick n c (d · r)) (pick h (pick q a c) (pick t b d · r)),
                        ),
                      ),
                    ),
                  ),
                ),
              ),
            ),
          ),
        ),
      ),
    ),
  ),
)

pub flat_holds : Holds Flat Flat_claim
flat_holds = decide Flat Flat_claim tt

-- a pair whose second part has the sign zero
pub table_zero : (a r m n : Sign) → sign_of_root_sum a Zero r m n ≡ a
table_zero Minus r m n = refl
table_zero Zero r m n = refl
table_zero Plus r m n = refl

-- the negative: r a b m
abbrev Negated : Claim (any ∷ any ∷ any ∷ any ∷ [])
Negated r a b m = is (pick m (opposite a) (opposite b · r)) (opposite (pick m a (b · r)))

pub negated : (r a b m : Sign) → pick m (opposite a) (opposite b · r) ≡ opposite (pick m a (b · r))
negated r a b m = is-eq (pick m (opposite a) (opposite b · r)) (opposite (pick m a (b · r))) (decide (any ∷ any ∷ any ∷ any ∷ []) Negated tt r a b m)
