-- What a walk has met: the variables that are taken, and how a quantifier adds to them.
use Rattle.std.proofs.Common.{ℕ, ◌+◌, ◌<◌, ◌≤◌, Bool, true, false, cond, ◌&&◌, ltb, ◌≡◌, ◌∙◌, inl, inr, refl, sym, [], ◌∷◌, length, get_or, length-append, length-set, get_or-set_same, get_or-set_other, arith}
use Rattle.std.proofs.lemmas.Bool.{cases_eq}
use Rattle.std.proofs.lemmas.Bool.Decides.{nat_tests}
use Rattle.std.specs.Prelude.{unwrap_or, slice_get}
use Rattle.qe_norm.specs.Numbering.{Walked, is_copy, new_variable, named_again, met_first, met_after}

no_way : {A : Type 0} {b : Bool} → b ≡ true → b ≡ false → A
no_way e f = absurd (cc)

-- n variables stand in the formula that is read, of which its quantifiers bind those that are Bound
module _ (n : ℕ) (Bound : ℕ → Type 0) (below : (z : ℕ) → Bound z → z < n) where
  abbrev pub is_met : Walked → ℕ → Bool
  is_met w z = get_or w.met z false

  pub record IsWalked (w : Walked) : Type 0 where
    pub met : length w.met ≡ n
    pub names : n ≤ length w.names

  -- the variable is taken: it has a name, and if a quantifier of the formula binds it, this was met
  pub record IsTaken (w : Walked) (z : ℕ) : Type 0 where
    pub named : z < length w.names
    pub met : Bound z → is_met w z ≡ true

  -- from w to v the walk met at most k quantifiers
  pub record Step (w v : Walked) (k : ℕ) : Type 0 where
    pub walked : IsWalked v
    pub keeps : (z : ℕ) → IsTaken w z → IsTaken v z
    pub longer : length w.names ≤ length v.names
    pub grows : length v.names ≤ length w.names + k

  pub step_none : (w : Walked) (k : ℕ) → IsWalked w → Step w w k
  step_none w k walked = record { walked = walked; keeps = λ z t. t; longer = omega arith; grows = omega arith }

  pub step_then : (w v u : Walked) (j k : ℕ) → Step w v j → Step v u k → Step w u (j + k)
  step_then w v u j k s t = record {
    walked = t.walked;
    keeps = λ z h. t.keeps z (s.keeps z h);
    longer = (let a = s.longer in let b = t.longer in omega arith);
    grows = (let a = s.grows in let b = t.grows in omega arith);
  }

  -- the next variable is new to w, and taken in v
  pub record IsNew (w v : Walked) (z : ℕ) : Type 0 where
    pub taken : IsTaken v z
    pub fresh : IsTaken w z → ⊥

  room_holds : (i : ℕ) → i < 4294967295 → ltb i 4294967295 ≡ true
  room_holds i room = grind (arith, nat_tests)

  and_true : (a b : Bool) → b ≡ true → (a && b) ≡ a
  and_true true b e = e
  and_true false b e = refl

  pub copy_is : (w : Walked) (x : ℕ) → length w.names < 4294967295 → is_copy w x ≡ is_met w x
  copy_is w x room = and_true (is_met w x) (ltb (length w.names) 4294967295) (room_holds (length w.names) room)

  module _ (w : Walked) (x : ℕ) (walked : IsWalked w) (is_bound : Bound x) where
    one_more : length (named_again w x).names ≡ length w.names + 1
    one_more = length-append w.names (unwrap_or (slice_get w.names x) [] ∷ [])

    copied_step : Step w (named_again w x) 1
    copied_step = record {
      walked = record { met = walked.met; names = omega (arith, one_more, walked.names) };
      keeps = λ z t. record { named = omega (arith, one_more, t.named); met = t.met };
      longer = omega (arith, one_more);
      grows = omega (arith, one_more);
    }

    copied_new : IsNew w (named_again w x) (length w.names)
    copied_new = record {
      taken = record { named = omega (arith, one_more); met = λ b. absurd (let h = below (length w.names) b in let k = walked.names in omega arith) };
      fresh = λ t. (let h = t.named in omega arith);
    }

    within_met : x < length w.met
    within_met = (let h = below x is_bound in let k = walked.met in omega arith)

    met_more : (z : ℕ) → is_met w z ≡ true → is_met (met_first w x) z ≡ true
    met_more z h = elim (cases_eq z x) [ inl e ↦ rw e (get_or-set_same w.met x true false within_met) | inr e ↦ get_or-set_other w.met x z true false e ∙ h ]

    begun_step : Step w (met_first w x) 1
    begun_step = record {
      walked = record { met = length-set w.met x true ∙ walked.met; names = walked.names };
      keeps = λ z t. record { named = t.named; met = λ b. met_more z (t.met b) };
      longer = omega arith;
      grows = omega arith;
    }

    begun_new : is_met w x ≡ false → IsNew w (met_first w x) x
    begun_new none = record {
      taken = record { named = (let h = below x is_bound in let k = walked.names in omega arith); met = λ b. get_or-set_same w.met x true false within_met };
      fresh = λ t. no_way (t.met is_bound) none;
    }

    by_test : (b : Bool) → is_copy w x ≡ b → length w.names < 4294967295 → Step w (cond b (named_again w x) (met_first w x)) 1 × IsNew w (cond b (named_again w x) (met_first w x)) (cond b (length w.names) x)
    by_test true test room = (copied_step, copied_new)
    by_test false test room = (begun_step, begun_new (sym (copy_is w x room) ∙ test))

    -- a quantifier is met: its variable was not taken before, and is taken then
    pub after_step : length w.names < 4294967295 → Step w (met_after w x) 1 × IsNew w (met_after w x) (new_variable w x)
    after_step room = by_test (is_copy w x) refl room
