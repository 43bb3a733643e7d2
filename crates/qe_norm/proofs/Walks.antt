-- A walk through a normal form gives its quantifiers variables of their own, and keeps truth and falsity: a bound variable is
-- renamed to one that is free nowhere.
use Rattle.std.proofs.Common.{ℕ, ◌+◌, ◌<◌, Bool, true, false, cond, eqb, ◌≡◌, ◌≢◌, ◌∙◌, ◌⊎◌, inl, inr, refl, sym, ap, subst, List, [], ◌∷◌, ◌++◌, length, length-append, Some, if◌then◌else◌, arith}
use Rattle.std.proofs.lemmas.Bool.{cases_eq}
use Rattle.std.specs.Prelude.{unwrap_or, slice_get}
use Rattle.qe_tower.specs.Number.{Number, IsNumber}
use Rattle.qe_tower.specs.Point.{Point, IsPoint, look_up, or_zero, number_at}
use Rattle.qe_form.specs.declared.form.Atom as atom
use Rattle.qe_form.specs.Formula.{Formula, Formulas, True, False, Atom, And, Or, Not, Implies, Iff, Ex, All, no_more, more}
use Rattle.qe_form.specs.Truth.{has_sign, Is, EachIs, SomeIs}
use Rattle.qe_form.specs.Same.{IsFree, IsFreeInSome}
use Rattle.qe_form.specs.Numbered.{binders, binders_each}
use Rattle.qe_form.specs.Measures as measures
use Rattle.qe_form.proofs.FreeReads.{truth_reads}
use Rattle.qe_norm.specs.declared.walk.Renaming.{Renaming}
use Rattle.qe_norm.specs.Numbering.{Walked, is_copy, new_variable, named_again, met_first, met_after, to_copy, within, numbered, numbered_each}
use Rattle.qe_norm.proofs.Numbers.{eqb_itself, eqb_apart}
use Rattle.qe_norm.proofs.Binders.{in_either, in_left, in_right, Binds, BindsIn, IsReady, AreReady}
use Rattle.qe_norm.proofs.Outwards.{IsApart, AreApart}
use Rattle.qe_norm.proofs.Steps.{IsWalked, IsTaken, Step, IsNew, step_none, step_then, after_step}
use Rattle.qe_norm.proofs.Renamings.{image, IsSource, Rising, rising_more, rising_push, source_push, image_cases, image_stays, image_push, occurs_from, seen, seen_push, with_one, seen_other, avoids_above, avoids_below, seen_sign}

-- n variables stand in the formula that is read, of which its quantifiers bind those that are Bound
module _ (n : ℕ) (Bound : ℕ → Type 0) (below : (z : ℕ) → Bound z → z < n) where
  -- what is asked of a formula under renamings, and of what was met before it
  pub record Fits (f : Formula) (rs : List Renaming) (w : Walked) : Type 0 where
    pub walked : IsWalked n Bound below w
    pub room : length w.names + measures.count f < 4294967295
    pub rising : Rising n rs (length w.names)
    pub sources : (z : ℕ) → IsSource z rs → z < n
    pub small : (z : ℕ) → IsFree z f → z < n
    pub bound : (z : ℕ) → Binds z f → Bound z
    pub unmet : (z : ℕ) → Binds z f → IsSource z rs → ⊥
    pub taken : (z : ℕ) → IsFree z f → IsTaken n Bound below w (image rs z)
    pub ready : IsReady f

  -- what is known of the formula g that is made of it, and of what is met after it
  pub record Made (f : Formula) (rs : List Renaming) (w : Walked) (g : Formula) (v : Walked) : Type 0 where
    pub step : Step n Bound below w v (measures.count f)
    pub new : (z : ℕ) → Binds z g → IsNew n Bound below w v z
    pub ready : IsReady g
    pub apart : IsApart g
    pub truth : (b : Bool) (p : Point) → IsPoint p → Is f b (seen rs p) → Is g b p
    pub free : (z : ℕ) → IsFree z g → (u : ℕ) × IsFree u f × (z ≡ image rs u)
    pub count : measures.count g ≡ measures.count f

  -- the same of parts in order
  pub record MadeEach (fs : Formulas) (rs : List Renaming) (w : Walked) (gs : Formulas) (v : Walked) : Type 0 where
    pub step : Step n Bound below w v (measures.count_each fs)
    pub new : (z : ℕ) → BindsIn z gs → IsNew n Bound below w v z
    pub ready : AreReady gs
    pub apart : AreApart gs
    pub each : (b : Bool) (p : Point) → IsPoint p → EachIs fs b (seen rs p) → EachIs gs b p
    pub some : (b : Bool) (p : Point) → IsPoint p → SomeIs fs b (seen rs p) → SomeIs gs b p
    pub free : (z : ℕ) → IsFreeInSome z gs → (u : ℕ) × IsFreeInSome u fs × (z ≡ image rs u)
    pub count : measures.count_each gs ≡ measures.count_each fs

  -- ---- constants and atoms

  made_true : (rs : List Renaming) (w : Walked) → Fits True rs w → Made True rs w True w
  made_true rs w f = record {
    step = step_none n Bound below w 1 f.walked;
    new = λ z h. absurd h;
    ready = tt;
    apart = tt;
    truth = λ b p valid t. t;
    free = λ z h. absurd h;
    count = refl;
  }

  made_false : (rs : List Renaming) (w : Walked) → Fits False rs w → Made False rs w False w
  made_false rs w f = record {
    step = step_none n Bound below w 1 f.walked;
    new = λ z h. absurd h;
    ready = tt;
    apart = tt;
    truth = λ b p valid t. t;
    free = λ z h. absurd h;
    count = refl;
  }

  made_atom : (a : atom.Atom) (rs : List Renaming) (w : Walked) → Fits (Atom a) rs w → Made (Atom a) rs w (numbered (Atom a) rs w).0 w
  made_atom a rs w f = record {
    step = step_none n Bound below w 1 f.walked;
    new = λ z h. absurd h;
    ready = tt;
    apart = tt;
    truth = λ b p valid t. ap (has_sign a.signs) (seen_sign a.poly n rs (length w.names) f.rising f.small p valid) ∙ t;
    free = λ z o. occurs_from a.poly n rs (length w.names) f.rising f.small z o;
    count = refl;
  }

  -- ---- quantifiers

  module _ (x : ℕ) (f : Formula) (rs : List Renaming) (w : Walked) (fits : Fits (Ex x f) rs w) where
    is_bound : Bound x
    is_bound = fits.bound x (inl refl)

    x_small : x < n
    x_small = below x is_bound

    not_source : IsSource x rs → ⊥
    not_source = fits.unmet x (inl refl)

    here : length w.names < 4294967295
    here = (let h = fits.room in omega arith)

    stepped : Step n Bound below w (met_after w x) 1 × IsNew n Bound below w (met_after w x) (new_variable w x)
    stepped = after_step n Bound below w x fits.walked is_bound here

    -- x ends at its new variable
    image_x : image (within w x rs) x ≡ new_variable w x
    image_x = elim (is_copy w x) as (λ b. image (cond b (rs ++ to_copy w x ∷ []) rs) x ≡ cond b (length w.names) x) [
      | true ↦ image_push rs (to_copy w x) x ∙ ap (λ i. cond (eqb x i) (length w.names) i) (image_stays rs x not_source) ∙ ap (λ b. cond b (length w.names) x) (eqb_itself x)
      | false ↦ image_stays rs x not_source
    ]

    not_x : (z : ℕ) → z ≢ x → x ≡ image rs z → ⊥
    not_x z apart same = elim (image_cases n rs (length w.names) z fits.rising) [ inl e ↦ apart (sym (same ∙ e)) | inr h ↦ absurd (let k = x_small in let d = same in omega arith) ]

    -- and any other where it ended before
    image_other : (z : ℕ) → z ≢ x → image (within w x rs) z ≡ image rs z
    image_other z apart = elim (is_copy w x) as (λ b. image (cond b (rs ++ to_copy w x ∷ []) rs) z ≡ image rs z) [
      | true ↦ image_push rs (to_copy w x) z ∙ ap (λ b. cond b (length w.names) (image rs z)) (eqb_apart x (image rs z) (not_x z apart))
      | false ↦ refl
    ]

    body_rising : Rising n (within w x rs) (length (met_after w x).names)
    body_rising = elim (is_copy w x) as (λ b. Rising n (cond b (rs ++ to_copy w x ∷ []) rs)
        (length (cond {A = Walked} b (named_again w x) (met_first w x)).names)) [
          | true ↦ rising_push n rs (to_copy w x) (length w.names) _ refl (let e = length-append w.names (unwrap_or (slice_get w.names x) [] ∷ []) in omega arith) fits.rising
          | false ↦ fits.rising
        ]

    body_source : (z : ℕ) → IsSource z (within w x rs) → IsSource z rs ⊎ (x ≡ z)
    body_source z = elim (is_copy w x) as (λ b. IsSource z (cond b (rs ++ to_copy w x ∷ []) rs) → IsSource z rs ⊎ (x ≡ z)) [ true ↦ λ s. source_push z rs (to_copy w x) s | false ↦ λ s. inl s ]

    pub body_small : (z : ℕ) → IsFree z f → z < n
    body_small z o = elim (cases_eq z x) [ inl e ↦ (let k = x_small in let d = e in omega arith) | inr e ↦ fits.small z (e, o) ]

    pub body_fits : Fits f (within w x rs) (met_after w x)
    body_fits = record {
      walked = stepped.0.walked;
      room = (let h = fits.room in let k = stepped.0.grows in omega arith);
      rising = body_rising;
      sources = λ z s. elim (body_source z s) [ inl h ↦ fits.sources z h | inr e ↦ (let k = x_small in let d = e in omega arith) ];
      small = body_small;
      bound = λ z h. fits.bound z (inr h);
      unmet = λ z h s. elim (body_source z s) [ inl k ↦ fits.unmet z (inr h) k | inr e ↦ fits.ready.0 (subst (λ i. Binds i f) (sym e) h) ];
      taken = λ z o. elim (cases_eq z x) [
        | inl e ↦ subst (λ i. IsTaken n Bound below (met_after w x) i) (sym (ap (image (within w x rs)) e ∙ image_x)) stepped.1.taken
        | inr e ↦ subst (λ i. IsTaken n Bound below (met_after w x) i) (sym (image_other z e)) (stepped.0.keeps (image rs z) (fits.taken z (e, o)))
      ];
      ready = fits.ready.1;
    }

    -- the new variable with a number is seen as x with that number
    module _ (u : Number) (p : Point) (z : ℕ) (z_small : z < n) where
      abbrev wanted : Number
      wanted = with_one x u (number_at (seen rs p) z) z

      seen_copied : number_at (seen (rs ++ to_copy w x ∷ []) ((length w.names, u) ∷ p)) z ≡ wanted
      seen_copied =
          let itself : number_at ((length w.names, u) ∷ p) (length w.names) ≡ u = ap (λ b. or_zero (if b then Some u else look_up p (length w.names))) (eqb_itself (length w.names)) in
          let apart : eqb (length w.names) z ≡ false = eqb_apart (length w.names) z (λ e. (let k = fits.walked.names in let d = e in omega arith)) in
          ap (λ q. number_at q z) (seen_push rs (to_copy w x) ((length w.names, u) ∷ p))
          ∙ ap (λ i. number_at (seen rs ((x, i) ∷ (length w.names, u) ∷ p)) z) itself
          ∙ seen_other rs x u ((length w.names, u) ∷ p) (avoids_below n rs (length w.names) x fits.rising x_small not_source) z
          ∙ ap (λ i. with_one x u i z)
          (seen_other rs (length w.names) u p (avoids_above n rs (length w.names) (length w.names) fits.rising (omega arith) (λ y s. (let h = fits.sources y s in let k = fits.walked.names in omega arith))) z
          ∙ ap (λ b. cond b u (number_at (seen rs p) z)) apart)

      seen_within : number_at (seen (within w x rs) ((new_variable w x, u) ∷ p)) z ≡ wanted
      seen_within = elim (is_copy w x) as (λ b. number_at (seen (cond b (rs ++ to_copy w x ∷ []) rs) ((cond b (length w.names) x, u) ∷ p)) z ≡ wanted) [
        | true ↦ seen_copied
        | false ↦ seen_other rs x u p (avoids_below n rs (length w.names) x fits.rising x_small not_source) z
      ]

      seen_x : number_at ((x, u) ∷ seen rs p) z ≡ wanted
      seen_x = elim (eqb x z) as (λ b. or_zero (if b then Some u else look_up (seen rs p) z) ≡ cond b u (or_zero (look_up (seen rs p) z))) [ true ↦ refl | false ↦ refl ]

      pub seen_alike : number_at ((x, u) ∷ seen rs p) z ≡ number_at (seen (within w x rs) ((new_variable w x, u) ∷ p)) z
      seen_alike = seen_x ∙ sym seen_within

    module _ (g : Formula) (v : Walked) (made : Made f (within w x rs) (met_after w x) g v) where
      -- the body at a number
      body_truth : (b : Bool) (u : Number) → IsNumber u → (p : Point) → IsPoint p → Is f b ((x, u) ∷ seen rs p) → Is g b ((new_variable w x, u) ∷ p)
      body_truth b u k p valid t =
          made.truth b ((new_variable w x, u) ∷ p) (k, valid) (truth_reads f b ((x, u) ∷ seen rs p) (seen (within w x rs) ((new_variable w x, u) ∷ p)) (λ z o. seen_alike u p z (body_small z o)) t)

      own_variable : Binds (new_variable w x) g → ⊥
      own_variable h = (made.new (new_variable w x) h).fresh stepped.1.taken

      quantified_new : (z : ℕ) → (z ≡ new_variable w x) ⊎ Binds z g → IsNew n Bound below w v z
      quantified_new z h =
          elim h [
            | inl e ↦ subst (λ i. IsNew n Bound below w v i) (sym e) (record { taken = made.step.keeps (new_variable w x) stepped.1.taken; fresh = stepped.1.fresh })
            | inr k ↦ (let m = made.new z k in record { taken = m.taken; fresh = λ t. m.fresh (stepped.0.keeps z t) })
          ]

      quantified_free : (z : ℕ) → (z ≡ new_variable w x → ⊥) × IsFree z g → (u : ℕ) × ((u ≡ x → ⊥) × IsFree u f) × (z ≡ image rs u)
      quantified_free z o =
          let h = made.free z o.1 in
          elim (cases_eq h.0 x) [
            | inl e ↦ absurd (o.0 (h.2 ∙ (ap (image (within w x rs)) e ∙ image_x)))
            | inr e ↦ (h.0, (e, h.1), h.2 ∙ image_other h.0 e)
          ]

      quantified_step : Step n Bound below w v (1 + measures.count f)
      quantified_step = step_then n Bound below w (met_after w x) v 1 (measures.count f) stepped.0 made.step

      ex_truth : (b : Bool) (p : Point) → IsPoint p → Is (Ex x f) b (seen rs p) → Is (Ex (new_variable w x) g) b p
      ex_truth true p valid t = (t.0, t.1, body_truth true t.0 t.1 p valid t.2)
      ex_truth false p valid t = λ u k. body_truth false u k p valid (t u k)

      all_truth : (b : Bool) (p : Point) → IsPoint p → Is (All x f) b (seen rs p) → Is (All (new_variable w x) g) b p
      all_truth true p valid t = λ u k. body_truth true u k p valid (t u k)
      all_truth false p valid t = (t.0, t.1, body_truth false t.0 t.1 p valid t.2)

      made_ex : Made (Ex x f) rs w (Ex (new_variable w x) g) v
      made_ex = record {
        step = quantified_step;
        new = quantified_new;
        ready = (own_variable, made.ready);
        apart = (own_variable, made.apart);
        truth = ex_truth;
        free = quantified_free;
        count = ap (λ i. 1 + i) made.count;
      }

      made_all : Made (All x f) rs w (All (new_variable w x) g) v
      made_all = record {
        step = quantified_step;
        new = quantified_new;
        ready = (own_variable, made.ready);
        apart = (own_variable, made.apart);
        truth = all_truth;
        free = quantified_free;
        count = ap (λ i. 1 + i) made.count;
      }

  -- what is asked of All is what is asked of Ex
  pub as_ex : (x : ℕ) (f : Formula) (rs : List Renaming) (w : Walked) → Fits (All x f) rs w → Fits (Ex x f) rs w
  as_ex x f rs w h = record {
    walked = h.walked;
    room = h.room;
    rising = h.rising;
    sources = h.sources;
    small = h.small;
    bound = h.bound;
    unmet = h.unmet;
    taken = h.taken;
    ready = h.ready;
  }

  -- what is asked of Or is what is asked of And
  pub as_and : (fs : Formulas) (rs : List Renaming) (w : Walked) → Fits (Or fs) rs w → Fits (And fs) rs w
  as_and fs rs w h = record {
    walked = h.walked;
    room = h.room;
    rising = h.rising;
    sources = h.sources;
    small = h.small;
    bound = h.bound;
    unmet = h.unmet;
    taken = h.taken;
    ready = h.ready;
  }

  -- ---- parts in order

  made_none : (rs : List Renaming) (w : Walked) → Fits (And no_more) rs w → MadeEach no_more rs w no_more w
  made_none rs w f = record {
    step = step_none n Bound below w 0 f.walked;
    new = λ z h. absurd h;
    ready = tt;
    apart = tt;
    each = λ b p valid t. t;
    some = λ b p valid t. t;
    free = λ z h. absurd h;
    count = refl;
  }

  module _ (f : Formula) (fs : Formulas) (rs : List Renaming) (w : Walked) (fits : Fits (And (more f fs)) rs w) where
    pub first_fits : Fits f rs w
    first_fits = record {
      walked = fits.walked;
      room = (let h = fits.room in omega arith);
      rising = fits.rising;
      sources = fits.sources;
      small = λ z o. fits.small z (inl o);
      bound = λ z h. fits.bound z (in_left z (binders f) (binders_each fs) h);
      unmet = λ z h. fits.unmet z (in_left z (binders f) (binders_each fs) h);
      taken = λ z o. fits.taken z (inl o);
      ready = fits.ready.0;
    }

    module _ (g : Formula) (v : Walked) (first : Made f rs w g v) where
      pub rest_fits : Fits (And fs) rs v
      rest_fits = record {
        walked = first.step.walked;
        room = (let h = fits.room in let k = first.step.grows in omega arith);
        rising = rising_more n rs (length w.names) (length v.names) first.step.longer fits.rising;
        sources = fits.sources;
        small = λ z o. fits.small z (inr o);
        bound = λ z h. fits.bound z (in_right z (binders f) (binders_each fs) h);
        unmet = λ z h. fits.unmet z (in_right z (binders f) (binders_each fs) h);
        taken = λ z o. first.step.keeps (image rs z) (fits.taken z (inr o));
        ready = fits.ready.1;
      }

      module _ (gs : Formulas) (u : Walked) (rest : MadeEach fs rs v gs u) where
        taken_before : (z y : ℕ) → z ≡ image rs y → IsTaken n Bound below w (image rs y) → IsTaken n Bound below w z
        taken_before z y e t = subst (λ i. IsTaken n Bound below w i) (sym e) t

        first_apart : (z : ℕ) → Binds z g → (IsFreeInSome z gs ⊎ BindsIn z gs) → ⊥
        first_apart z h o =
            elim o [
              | inl k ↦ (let e = rest.free z k in (first.new z h).fresh (taken_before z e.0 e.2 (fits.taken e.0 (inr e.1))))
              | inr k ↦ (rest.new z k).fresh (first.new z h).taken
            ]

        rest_apart : (z : ℕ) → BindsIn z gs → IsFree z g → ⊥
        rest_apart z h o = (let e = first.free z o in (rest.new z h).fresh (first.step.keeps z (taken_before z e.0 e.2 (fits.taken e.0 (inl e.1)))))

        more_new : (z : ℕ) → BindsIn z (more g gs) → IsNew n Bound below w u z
        more_new z h =
            elim (in_either z (binders g) (binders_each gs) h) [
              | inl k ↦ (let m = first.new z k in record { taken = rest.step.keeps z m.taken; fresh = m.fresh })
              | inr k ↦ (let m = rest.new z k in record { taken = m.taken; fresh = λ t. m.fresh (first.step.keeps z t) })
            ]

        more_free : (z : ℕ) → IsFree z g ⊎ IsFreeInSome z gs → (y : ℕ) × (IsFree y f ⊎ IsFreeInSome y fs) × (z ≡ image rs y)
        more_free z o = elim o [ inl k ↦ (let e = first.free z k in (e.0, inl e.1, e.2)) | inr k ↦ (let e = rest.free z k in (e.0, inr e.1, e.2)) ]

        made_more : MadeEach (more f fs) rs w (more g gs) u
        made_more = record {
          step = step_then n Bound below w v u (measures.count f) (measures.count_each fs) first.step rest.step;
          new = more_new;
          ready = (first.ready, rest.ready);
          apart = (first.apart, rest.apart, (first_apart, rest_apart));
          each = λ b p valid t. (first.truth b p valid t.0, rest.each b p valid t.1);
          some = λ b p valid t. elim t [ inl h ↦ inl (first.truth b p valid h) | inr h ↦ inr (rest.some b p valid h) ];
          free = more_free;
          count = (let a = first.count in let b = rest.count in omega arith);
        }

  and_truth : (fs : Formulas) (rs : List Renaming) (w : Walked) (gs : Formulas) (v : Walked) → MadeEach fs rs w gs v → (b : Bool) (p : Point) → IsPoint p → Is (And fs) b (seen rs p) → Is (And gs) b p
  and_truth fs rs w gs v made true p valid t = made.each true p valid t
  and_truth fs rs w gs v made false p valid t = made.some false p valid t

  or_truth : (fs : Formulas) (rs : List Renaming) (w : Walked) (gs : Formulas) (v : Walked) → MadeEach fs rs w gs v → (b : Bool) (p : Point) → IsPoint p → Is (Or fs) b (seen rs p) → Is (Or gs) b p
  or_truth fs rs w gs v made true p valid t = made.some true p valid t
  or_truth fs rs w gs v made false p valid t = made.each false p valid t

  made_and : (fs : Formulas) (rs : List Renaming) (w : Walked) (gs : Formulas) (v : Walked) → MadeEach fs rs w gs v → Made (And fs) rs w (And gs) v
  made_and fs rs w gs v made = record {
    step = made.step;
    new = made.new;
    ready = made.ready;
    apart = made.apart;
    truth = and_truth fs rs w gs v made;
    free = made.free;
    count = made.count;
  }

  made_or : (fs : Formulas) (rs : List Renaming) (w : Walked) (gs : Formulas) (v : Walked) → MadeEach fs rs w gs v → Made (Or fs) rs w (Or gs) v
  made_or fs rs w gs v made = record {
    step = made.step;
    new = made.new;
    ready = made.ready;
    apart = made.apart;
    truth = or_truth fs rs w gs v made;
    free = made.free;
    count = made.count;
  }

  -- ---- the whole formula

  mutual
    pub made : (f : Formula) (rs : List Renaming) (w : Walked) → Fits f rs w → Made f rs w (numbered f rs w).0 (numbered f rs w).1
    made True rs w fits = made_true rs w fits
    made False rs w fits = made_false rs w fits
    made (Atom a) rs w fits = made_atom a rs w fits
    made (And fs) rs w fits = made_and fs rs w _ _ (made_each fs rs w fits)
    made (Or fs) rs w fits = made_or fs rs w _ _ (made_each fs rs w (as_and fs rs w fits))
    made (Not f) rs w fits = absurd fits.ready
    made (Implies f g) rs w fits = absurd fits.ready
    made (Iff f g) rs w fits = absurd fits.ready
    made (Ex x f) rs w fits = made_ex x f rs w fits _ _ (made f (within w x rs) (met_after w x) (body_fits x f rs w fits))
    made (All x f) rs w fits = made_all x f rs w (as_ex x f rs w fits) _ _ (made f (within w x rs) (met_after w x) (body_fits x f rs w (as_ex x f rs w fits)))

    made_each : (fs : Formulas) (rs : List Renaming) (w : Walked) → Fits (And fs) rs w → MadeEach fs rs w (numbered_each fs rs w).0 (numbered_each fs rs w).1
    made_each no_more rs w fits = made_none rs w fits
    made_each (more f fs) rs w fits =
        let first = made f rs w (first_fits f fs rs w fits) in
        made_more f fs rs w fits _ _ first _ _ (made_each fs rs (numbered f rs w).1 (rest_fits f fs rs w fits _ _ first))
