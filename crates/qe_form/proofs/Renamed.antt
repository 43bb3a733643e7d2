-- A polynomial with y in the place of x: its variables, and its value at a point.
use Rattle.std.proofs.Common.{ℕ, ◌≡◌, ◌≢◌, ◌∙◌, ◌⊎◌, ◌&&◌, not, inl, inr, refl, sym, ap, subst, Bool, true, false, cond, eqb, [], ◌∷◌, map, arith}
use Rattle.std.proofs.lemmas.Bool.{eqb-true}
use Rattle.std.proofs.lemmas.Bool.Decides.{nat_tests}
use Rattle.qe_ring.proofs.Bools.{no_way}
use Rattle.qe_ring.specs.Ring.{IsRing}
use Rattle.qe_tower.specs.Number.{sign_of, Equal}
use Rattle.qe_tower.specs.Point.{Point, IsPoint, number_at}
use Rattle.qe_tower.proofs.ValidNumbers.{valid_operations, ValidEqual, valid_ordered}
use Rattle.qe_poly.specs.declared.monomial.Var.{Var}
use Rattle.qe_poly.specs.Monomial.{Monomial, power}
use Rattle.qe_poly.specs.Polynomial.{Polynomial}
use Rattle.qe_poly.specs.Value as ring
use Rattle.qe_poly.specs.Renamed.{renamed_var, renamed_monomial, with_renamed_terms, renamed}
use Rattle.qe_poly.proofs.Values.{value-same}
use Rattle.qe_poly.proofs.RenamedValues.{renamed-value}
use Rattle.qe_form.specs.Value.{value}
use Rattle.qe_poly.specs.Occurs.{OccursIn, OccursInSome, occurs_in_some}
use Rattle.qe_form.specs.Laws.{ValueOfRenamed}
use Rattle.qe_poly.proofs.Occurring.{occurs_collected, occurs_times, occurs_in_some_is, occurs_nowhere}
use Rattle.qe_form.proofs.Values.{valid_whole, whole_numbers, number_at_valid, valid_point, valid_value, value-number, rewritten, with_number}

-- ---- which variables occur

apart_from : (i j : ℕ) → eqb i j ≡ false → j ≢ i
apart_from i j test same = grind (arith, nat_tests)

-- z is the new variable, in the place of the old one, or another that was there
abbrev pub IsFrom : ℕ → ℕ → ℕ → Type 0 → Type 0 → Type 0
IsFrom z x y Old Kept = ((z ≡ y) × Old) ⊎ ((z ≢ x) × Kept)

module _ (x y : Var) (z : ℕ) where
  occurs_power : (v : Var) (n : ℕ) → OccursIn z (power v n) → v.0 ≡ z
  occurs_power v n h =
      elim (eqb n 0) as (λ b. OccursIn z (cond b [] (record { var = v; exponent = n } ∷ [])) → v.0 ≡ z) [ true ↦ λ k. absurd k | false ↦ λ k. elim k [ inl e ↦ e | inr n ↦ absurd n ] ] h

  abbrev From : Type 0 → Type 0 → Type 0
  From Old Kept = IsFrom z x.0 y.0 Old Kept

  weaker : {A B C D : Type 0} → (A → C) → (B → D) → From A B → From C D
  weaker p q h = elim h [ inl k ↦ inl (k.0, p k.1) | inr k ↦ inr (k.0, q k.1) ]

  by_var : (a : ℕ) (b : Bool) → eqb x.0 a ≡ b → (v : Var) → v.0 ≡ a → (cond b y v).0 ≡ z → From (a ≡ x.0) (a ≡ z)
  by_var a true same v is e = inl (sym e, sym (eqb-true x.0 a same))
  by_var a false apart v is e = inr ((λ k. apart_from x.0 a apart (sym is ∙ (e ∙ k))), sym is ∙ e)

  occurs_renamed_monomial : (m : Monomial) → OccursIn z (renamed_monomial x y m) → From (OccursIn x.0 m) (OccursIn z m)
  occurs_renamed_monomial [] h = absurd h
  occurs_renamed_monomial (a ∷ m) h =
      elim (occurs_times z (power (renamed_var x y a.var) a.exponent) (renamed_monomial x y m) h) [
        | inl k ↦ weaker inl inl (by_var a.var.0 (eqb x.0 a.var.0) refl a.var refl (occurs_power (renamed_var x y a.var) a.exponent k))
        | inr k ↦ weaker inr inr (occurs_renamed_monomial m k)
      ]

  occurs_renamed_terms : (q : Polynomial) → OccursInSome z (map (λ t. (renamed_monomial x y t.0, t.1)) q) → From (OccursInSome x.0 q) (OccursInSome z q)
  occurs_renamed_terms [] h = absurd h
  occurs_renamed_terms (t ∷ ts) (inl h) = weaker inl inl (occurs_renamed_monomial t.0 h)
  occurs_renamed_terms (t ∷ ts) (inr h) = weaker inr inr (occurs_renamed_terms ts h)

  pub occurs_renamed : (q : Polynomial) → occurs_in_some y.0 q ≡ false → OccursInSome z (renamed x y q) → From (OccursInSome x.0 q) (OccursInSome z q)
  occurs_renamed q none h =
      elim (occurs_in_some x.0 q) as (λ b. occurs_in_some x.0 q ≡ b → OccursInSome z (cond (b && not (occurs_in_some y.0 q)) (with_renamed_terms x y q) q) → From (OccursInSome x.0 q) (OccursInSome z q)) [
        | true ↦ λ some k. occurs_renamed_terms q (occurs_collected z _ (subst (λ t. OccursInSome z (cond (not t) (with_renamed_terms x y q) q)) none k))
        | false ↦ λ free k. inr (λ same. no_way (sym free ∙ (occurs_in_some_is x.0 q).1 (subst (λ i. OccursInSome i q) same k)), k)
      ] refl h

-- ---- the value

abbrev R : IsRing valid_operations ValidEqual
R = valid_ordered.ring

module _ (x y : Var) (q : Polynomial) (p : Point) (valid : IsPoint p) (none : occurs_in_some y.0 q ≡ false) where
  -- the point where x has the number of y
  abbrev moved : Point
  moved = (x.0, number_at p y.0) ∷ p

  valid_moved : IsPoint moved
  valid_moved = (number_at_valid p valid y.0, valid)

  same_values : ValidEqual (valid_value p valid (renamed x y q)) (valid_value moved valid_moved q)
  same_values = R.then (valid_value p valid (renamed x y q)) (ring.value valid_operations valid_whole (ring.updated (valid_point p valid) x.0 (valid_point p valid y.0)) q) (valid_value moved valid_moved q)
      (renamed-value valid_operations ValidEqual R valid_whole whole_numbers (valid_point p valid) x y q none)
      (value-same valid_operations ValidEqual R (ring.updated (valid_point p valid) x.0 (valid_point p valid y.0)) (valid_point moved valid_moved)
      (λ z. R.back (valid_point moved valid_moved z) (ring.updated (valid_point p valid) x.0 (valid_point p valid y.0) z) (with_number p valid x.0 (number_at p y.0) (number_at_valid p valid y.0) z)) valid_whole q)

  pub same_value : Equal (value (renamed x y q) p) (value q moved)
  same_value = rewritten (value-number p valid (renamed x y q)) (value-number moved valid_moved q) same_values

  -- the sign is that where x has the number of y
  pub same_sign : sign_of (value (renamed x y q) p) ≡ sign_of (value q moved)
  same_sign = sym (ap sign_of (value-number p valid (renamed x y q)))
      ∙ (valid_ordered.sign-same (valid_value p valid (renamed x y q)) (valid_value moved valid_moved q) same_values ∙ ap sign_of (value-number moved valid_moved q))

pub value_of_renamed : ValueOfRenamed
value_of_renamed x y q p valid none = same_value x y q p valid (occurs_nowhere y.0 q none)
