-- A monomial with y in the place of x, where y does not stand in it: the power of y put in, in its place, among the other powers.
use Rattle.std.proofs.Common.{◌≡◌, refl, sym, ap, subst, ◌∙◌, ℕ, ◌+◌, ◌<◌, ◌≤◌, eqb, ltb, Bool, true, false, cond, ◌||◌, [], ◌∷◌, arith}
use Rattle.std.proofs.lemmas.Bool.{eqb-true}
use Rattle.std.proofs.lemmas.Bool.Decides.{nat_tests}
use Rattle.std.specs.declared.cmp.Ordering.TheVariants.{Less, Equal, Greater}
use Rattle.std.specs.Ordering.{nat_cmp}
use Rattle.std.specs.Cmp.{tied_itself}
use Rattle.std.specs.FinMap.Entries.{by_order}
use Rattle.std.proofs.lemmas.Cmp.{ranked}
use Rattle.qe_poly.specs.declared.monomial.Var.{Var}
use Rattle.qe_poly.specs.declared.monomial.Power.{Power}
use Rattle.qe_poly.specs.Monomial.{Monomial, IsMonomial, IsAbove, is_high, power, times, times_power, monomial_cmp, in_turn}
use Rattle.qe_poly.specs.Coefficients.{exponent_of, without}
use Rattle.qe_poly.specs.Renamed.{renamed_var, renamed_monomial}
use Rattle.qe_poly.specs.Occurs.{occurs_in}
use Rattle.qe_poly.proofs.Order.{turn_total}
use Rattle.qe_poly.proofs.Parts.{nat_less, nat_greater, above_lower, is_high-without, without-less, tie_no_way}
use Rattle.qe_poly.proofs.Products.{IsMonomial-times}
use Rattle.qe_ring.proofs.Bools.{neither, both_fail}

positive_test : (i : ℕ) → 0 < i → eqb i 0 ≡ false
positive_test i more = grind (arith, nat_tests)

apart_back : (i j : ℕ) → eqb i j ≡ false → eqb j i ≡ false
apart_back i j apart = grind (arith, nat_tests)

not_tied : (i j : ℕ) → eqb i j ≡ false → nat_cmp j i ≡ Equal → eqb i j ≡ true
not_tied i j apart tie = grind (arith, nat_tests, ranked j i Equal (sym tie))

no_test : {A : Type 0} {b : Bool} → b ≡ true → b ≡ false → A
no_test p q = absurd (cc)

-- a power before a monomial that begins after it
power_first : (a : Power) (m : Monomial) → IsAbove a.var.0 m → times_power a (times []) m ≡ a ∷ m
power_first a [] above = refl
power_first a (b ∷ m) above =
    ap (λ r. by_order r (a ∷ b ∷ m) (record { var = a.var; exponent = a.exponent + b.exponent } ∷ m) (b ∷ times_power a (times []) m)) (nat_less a.var.0 b.var.0 above)

times_first : (v : Var) (e : ℕ) (m : Monomial) → 0 < e → IsAbove v.0 m → times (power v e) m ≡ record { var = v; exponent = e } ∷ m
times_first v e m more above = ap (λ b. times (cond b [] (record { var = v; exponent = e } ∷ [])) m) (positive_test e more) ∙ power_first (record { var = v; exponent = e }) m above

-- ---- the power of y among powers of others

module _ (y : Var) where
  abbrev put : ℕ → Monomial → Monomial
  put e m = times_power (record { var = y; exponent = e }) (times []) m

  above_put : (x e : ℕ) (m : Monomial) → x < y.0 → IsAbove x m → IsAbove x (put e m)
  above_put x e [] less above = less
  above_put x e (b ∷ m) less above =
      elim (nat_cmp y.0 b.var.0) as (λ r. IsAbove x (by_order r (record { var = y; exponent = e } ∷ b ∷ m) (record { var = y; exponent = e + b.exponent } ∷ m) (b ∷ put e m))) [ Less ↦ less | Equal ↦ less | Greater ↦ above ]

  -- by the place of y before or after the first power
  put_cases : (e : ℕ) (b : Power) (m : Monomial) (P : Monomial → Type 0) → eqb b.var.0 y.0 ≡ false → (y.0 < b.var.0 → P (record { var = y; exponent = e } ∷ b ∷ m)) → (b.var.0 < y.0 → P (b ∷ put e m)) → P (put e (b ∷ m))
  put_cases e b m P apart before after =
      elim (nat_cmp y.0 b.var.0) as (λ r. r ≡ nat_cmp y.0 b.var.0 → P (by_order r (record { var = y; exponent = e } ∷ b ∷ m) (record { var = y; exponent = e + b.exponent } ∷ m) (b ∷ put e m))) [
        | Less ↦ λ order. before (ranked y.0 b.var.0 Less order)
        | Equal ↦ λ order. no_test (not_tied b.var.0 y.0 apart (sym order)) apart
        | Greater ↦ λ order. after (ranked y.0 b.var.0 Greater order)
      ] refl

  exponent_put : (e : ℕ) (m : Monomial) → occurs_in y.0 m ≡ false → exponent_of y.0 (put e m) ≡ e
  exponent_put e [] none = ap (λ b. cond b e 0) (same y.0)
    where
      same : (i : ℕ) → eqb i i ≡ true
      same i = grind (arith, nat_tests)
  exponent_put e (b ∷ m) none =
      let parts = neither (eqb b.var.0 y.0) (occurs_in y.0 m) none in
      put_cases e b m (λ k. exponent_of y.0 k ≡ e) parts.0 (λ less. ap (λ t. cond t e (exponent_of y.0 (b ∷ m))) (same y.0))
      (λ more. ap (λ t. cond t b.exponent (exponent_of y.0 (put e m))) parts.0 ∙ exponent_put e m parts.1)
    where
      same : (i : ℕ) → eqb i i ≡ true
      same i = grind (arith, nat_tests)

  without_put : (e : ℕ) (m : Monomial) → occurs_in y.0 m ≡ false → without y.0 (put e m) ≡ m
  without_put e [] none = ap (λ b. cond b [] (record { var = y; exponent = e } ∷ [])) (same y.0)
    where
      same : (i : ℕ) → eqb i i ≡ true
      same i = grind (arith, nat_tests)
  without_put e (b ∷ m) none =
      let parts = neither (eqb b.var.0 y.0) (occurs_in y.0 m) none in
      put_cases e b m (λ k. without y.0 k ≡ b ∷ m) parts.0 (λ less. ap (λ t. cond t (b ∷ m) (record { var = y; exponent = e } ∷ without y.0 (b ∷ m))) (same y.0))
      (λ more. ap (λ t. cond t (put e m) (b ∷ without y.0 (put e m))) parts.0 ∙ ap (λ k. b ∷ k) (without_put e m parts.1))
    where
      same : (i : ℕ) → eqb i i ≡ true
      same i = grind (arith, nat_tests)

  high_put : (e : ℕ) (m : Monomial) → e ≤ 65535 → occurs_in y.0 m ≡ false → is_high m ≡ false → is_high (put e m) ≡ false
  high_put e [] low none plain = small e low
    where
      small : (i : ℕ) → i ≤ 65535 → (ltb 65535 i || false) ≡ false
      small i low = ap (λ b. b || false) (test i low)
        where
          test : (i : ℕ) → i ≤ 65535 → ltb 65535 i ≡ false
          test i low = grind (arith, nat_tests)
  high_put e (b ∷ m) low none plain =
      let parts = neither (eqb b.var.0 y.0) (occurs_in y.0 m) none in
      let highs = neither (ltb 65535 b.exponent) (is_high m) plain in
      put_cases e b m (λ k. is_high k ≡ false) parts.0 (λ less. ap (λ t. t || is_high (b ∷ m)) (test e low) ∙ plain)
      (λ more. ap (λ t. t || is_high (put e m)) highs.0 ∙ high_put e m low parts.1 highs.1)
    where
      test : (i : ℕ) → i ≤ 65535 → ltb 65535 i ≡ false
      test i low = grind (arith, nat_tests)

  -- ---- the same of any exponent, zero too

  free_exponent : (m : Monomial) → occurs_in y.0 m ≡ false → exponent_of y.0 m ≡ 0
  free_exponent [] none = refl
  free_exponent (b ∷ m) none =
      let parts = neither (eqb b.var.0 y.0) (occurs_in y.0 m) none in
      ap (λ t. cond t b.exponent (exponent_of y.0 m)) parts.0 ∙ free_exponent m parts.1

  free_without : (m : Monomial) → occurs_in y.0 m ≡ false → without y.0 m ≡ m
  free_without [] none = refl
  free_without (b ∷ m) none =
      let parts = neither (eqb b.var.0 y.0) (occurs_in y.0 m) none in
      ap (λ t. cond t m (b ∷ without y.0 m)) parts.0 ∙ ap (λ k. b ∷ k) (free_without m parts.1)

  is_zero : (e : ℕ) → eqb e 0 ≡ true → 0 ≡ e
  is_zero e test = sym (eqb-true e 0 test)

  -- a fact of `times (power y e) m` by whether e is zero
  by_exponent : (e : ℕ) (m : Monomial) (P : Monomial → Type 0) → (0 ≡ e → P m) → P (put e m) → P (times (power y e) m)
  by_exponent e m P zero more = elim (eqb e 0) as (λ b. eqb e 0 ≡ b → P (times (cond b [] (record { var = y; exponent = e } ∷ [])) m)) [ true ↦ λ test. zero (is_zero e test) | false ↦ λ test. more ] refl

  pub exponent_times : (e : ℕ) (m : Monomial) → occurs_in y.0 m ≡ false → exponent_of y.0 (times (power y e) m) ≡ e
  exponent_times e m none = by_exponent e m (λ k. exponent_of y.0 k ≡ e) (λ zero. free_exponent m none ∙ zero) (exponent_put e m none)

  pub without_times : (e : ℕ) (m : Monomial) → occurs_in y.0 m ≡ false → without y.0 (times (power y e) m) ≡ m
  without_times e m none = by_exponent e m (λ k. without y.0 k ≡ m) (λ zero. free_without m none) (without_put e m none)

  high_times : (e : ℕ) (m : Monomial) → e ≤ 65535 → occurs_in y.0 m ≡ false → is_high m ≡ false → is_high (times (power y e) m) ≡ false
  high_times e m low none plain = by_exponent e m (λ k. is_high k ≡ false) (λ zero. plain) (high_put e m low none plain)

-- ---- y in the place of x

stands_without : (x y : ℕ) (m : Monomial) → occurs_in y m ≡ false → occurs_in y (without x m) ≡ false
stands_without x y [] none = refl
stands_without x y (a ∷ m) none =
    let parts = neither (eqb a.var.0 y) (occurs_in y m) none in
    elim (eqb a.var.0 x) as (λ b. occurs_in y (cond b m (a ∷ without x m)) ≡ false) [ true ↦ parts.1 | false ↦ both_fail (eqb a.var.0 y) (occurs_in y (without x m)) parts.0 (stands_without x y m parts.1) ]

above_without : (z x : ℕ) (m : Monomial) → IsMonomial m → IsAbove z m → IsAbove z (without x m)
above_without z x [] monomial above = tt
above_without z x (a ∷ m) monomial above = elim (eqb a.var.0 x) as (λ b. IsAbove z (cond b m (a ∷ without x m))) [ true ↦ above_lower z a.var.0 m above monomial.1 | false ↦ above ]

module _ (x y : Var) where
  -- where x does not stand nothing changes
  unchanged : (m : Monomial) → IsMonomial m → IsAbove x.0 m → renamed_monomial x y m ≡ m
  unchanged [] monomial above = refl
  unchanged (a ∷ m) monomial above =
      (λ i. times (power (cond (apart x.0 a.var.0 above i) y a.var) a.exponent) (unchanged m monomial.2 (above_lower x.0 a.var.0 m above monomial.1) i)) ∙ times_first a.var a.exponent m monomial.0 monomial.1
    where
      apart : (i j : ℕ) → i < j → eqb i j ≡ false
      apart i j less = grind (arith, nat_tests)

  -- a power before the power of y among later powers
  past : (a : Power) (e : ℕ) (m : Monomial) → 0 < a.exponent → IsAbove a.var.0 m → eqb a.var.0 y.0 ≡ false → times (power a.var a.exponent) (times (power y e) m) ≡ times (power y e) (a ∷ m)
  past a e m more above apart =
      by_zero (eqb e 0) refl
    where
      first : (k : Monomial) → IsAbove a.var.0 k → times (power a.var a.exponent) k ≡ a ∷ k
      first k after = times_first a.var a.exponent k more after

      before_y : y.0 < a.var.0 → times (power a.var a.exponent) (put y e m) ≡ record { var = y; exponent = e } ∷ a ∷ m
      before_y less =
          ap (times (power a.var a.exponent)) (power_first (record { var = y; exponent = e }) m (above_lower y.0 a.var.0 m less above))
          ∙ (ap (λ t. times (cond t [] (a ∷ [])) (record { var = y; exponent = e } ∷ m)) (positive_test a.exponent more)
          ∙ (ap (λ r. by_order r (a ∷ record { var = y; exponent = e } ∷ m) (record { var = a.var; exponent = a.exponent + e } ∷ m) (record { var = y; exponent = e } ∷ times_power a (times []) m)) (nat_greater a.var.0 y.0 less)
          ∙ ap (λ k. record { var = y; exponent = e } ∷ k) (power_first a m above)))

      by_zero : (t : Bool) → eqb e 0 ≡ t → times (power a.var a.exponent) (times (cond t [] (record { var = y; exponent = e } ∷ [])) m) ≡ times (cond t [] (record { var = y; exponent = e } ∷ [])) (a ∷ m)
      by_zero true test = first m above
      by_zero false test =
          put_cases y e a m (λ k. times (power a.var a.exponent) (put y e m) ≡ k) apart before_y (λ less. first (put y e m) (above_put y a.var.0 e m less above))

  pub renamed_is : (m : Monomial) → IsMonomial m → occurs_in y.0 m ≡ false → times (power y (exponent_of x.0 m)) (without x.0 m) ≡ renamed_monomial x y m
  renamed_is [] monomial none = refl
  renamed_is (a ∷ m) monomial none = by_test (λ h. renamed_is m monomial.2 h) (eqb a.var.0 x.0) refl
    where
      parts : (eqb a.var.0 y.0 ≡ false) × (occurs_in y.0 m ≡ false)
      parts = neither (eqb a.var.0 y.0) (occurs_in y.0 m) none

      turned : (b : Bool) → eqb a.var.0 x.0 ≡ b → eqb x.0 a.var.0 ≡ b
      turned true same = (let e = eqb-true a.var.0 x.0 same in itself x.0 a.var.0 (sym e))
        where
          itself : (i j : ℕ) → i ≡ j → eqb i j ≡ true
          itself i j e = grind (arith, nat_tests)
      turned false apart = apart_back a.var.0 x.0 apart

      by_test : (occurs_in y.0 m ≡ false → times (power y (exponent_of x.0 m)) (without x.0 m) ≡ renamed_monomial x y m) → (b : Bool) → eqb a.var.0 x.0 ≡ b
          → times (power y (cond b a.exponent (exponent_of x.0 m))) (cond b m (a ∷ without x.0 m)) ≡ times (power (cond (eqb x.0 a.var.0) y a.var) a.exponent) (renamed_monomial x y m)
      by_test again true same =
          ap (times (power y a.exponent)) (sym (unchanged m monomial.2 (subst (λ i. IsAbove i m) (eqb-true a.var.0 x.0 same) monomial.1)))
          ∙ ap (λ t. times (power (cond t y a.var) a.exponent) (renamed_monomial x y m)) (sym (turned true same))
      by_test again false apart =
          sym (past a (exponent_of x.0 m) (without x.0 m) monomial.0 (above_without a.var.0 x.0 m monomial.2 monomial.1) parts.0)
          ∙ (ap (times (power a.var a.exponent)) (again parts.1)
          ∙ ap (λ t. times (power (cond t y a.var) a.exponent) (renamed_monomial x y m)) (sym (turned false apart)))

  exponent_low : (m : Monomial) → is_high m ≡ false → exponent_of x.0 m ≤ 65535
  exponent_low [] low = omega arith
  exponent_low (a ∷ m) low = elim (eqb a.var.0 x.0) as (λ b. cond b a.exponent (exponent_of x.0 m) ≤ 65535) [ true ↦ small a.exponent highs.0 | false ↦ exponent_low m highs.1 ]
    where
      highs : (ltb 65535 a.exponent ≡ false) × (is_high m ≡ false)
      highs = neither (ltb 65535 a.exponent) (is_high m) low

      small : (i : ℕ) → ltb 65535 i ≡ false → i ≤ 65535
      small i test = grind (arith, nat_tests)

  pub renamed_low : (m : Monomial) → is_high m ≡ false → occurs_in y.0 m ≡ false → is_high (times (power y (exponent_of x.0 m)) (without x.0 m)) ≡ false
  renamed_low m low none = high_times y (exponent_of x.0 m) (without x.0 m) (exponent_low m low) (stands_without x.0 y.0 m none) (is_high-without x.0 m low)

  IsMonomial-power : (v : Var) (e : ℕ) → IsMonomial (power v e)
  IsMonomial-power v e = elim (eqb e 0) as (λ b. eqb e 0 ≡ b → IsMonomial (cond b [] (record { var = v; exponent = e } ∷ []))) [ true ↦ λ zero. tt | false ↦ λ more. (above e more, tt, tt) ] refl
    where
      above : (i : ℕ) → eqb i 0 ≡ false → 0 < i
      above i test = grind (arith, nat_tests)

  pub IsMonomial-renamed : (m : Monomial) → IsMonomial (renamed_monomial x y m)
  IsMonomial-renamed [] = tt
  IsMonomial-renamed (a ∷ m) = IsMonomial-times (power (renamed_var x y a.var) a.exponent) (renamed_monomial x y m) (IsMonomial-power (renamed_var x y a.var) a.exponent) (IsMonomial-renamed m)

  -- different monomials stay different
  pub renamed_apart : (m k : Monomial) → IsMonomial m → IsMonomial k → occurs_in y.0 m ≡ false → occurs_in y.0 k ≡ false → in_turn m k ≡ Less → renamed_monomial x y m ≡ renamed_monomial x y k → ⊥
  renamed_apart m k left right none nil less same =
      let put_same : times (power y (exponent_of x.0 m)) (without x.0 m) ≡ times (power y (exponent_of x.0 k)) (without x.0 k) = renamed_is m left none ∙ (same ∙ sym (renamed_is k right nil)) in
      let free_m = stands_without x.0 y.0 m none in
      let free_k = stands_without x.0 y.0 k nil in
      let exponents : exponent_of x.0 m ≡ exponent_of x.0 k = sym (exponent_times y (exponent_of x.0 m) (without x.0 m) free_m) ∙ (ap (exponent_of y.0) put_same ∙ exponent_times y (exponent_of x.0 k) (without x.0 k) free_k) in
      let rests : without x.0 m ≡ without x.0 k = sym (without_times y (exponent_of x.0 m) (without x.0 m) free_m) ∙ (ap (without y.0) put_same ∙ without_times y (exponent_of x.0 k) (without x.0 k) free_k) in
      tie_no_way (sym (ap (λ j. monomial_cmp j (without x.0 m)) (sym rests) ∙ tied_itself turn_total (without x.0 m)) ∙ without-less x.0 k m right left (sym exponents) less)

  -- ---- in the code: p is the power of y and k the rest

  pub exponent_low_from : (m : Monomial) (e : ℕ) → is_high m ≡ false → e ≡ exponent_of x.0 m → e ≤ 65535
  exponent_low_from m e low exponent = (let h = exponent_low m low in omega (arith, exponent))

  module _ (m p k : Monomial) (e : ℕ) (monomial : IsMonomial m) (low : is_high m ≡ false) (exponent : e ≡ exponent_of x.0 m) (power_is : p ≡ power y e) (rest : k ≡ without x.0 m) (none : occurs_in y.0 m ≡ false) where
    product_is : times p k ≡ times (power y (exponent_of x.0 m)) (without x.0 m)
    product_is = λ i. times ((power_is ∙ ap (power y) exponent) i) (rest i)

    pub never_high : is_high (times p k) ≡ true → ⊥
    never_high high = no_test high (ap is_high product_is ∙ renamed_low m low none)

    pub made_is : times p k ≡ renamed_monomial x y m
    made_is = product_is ∙ renamed_is m monomial none
