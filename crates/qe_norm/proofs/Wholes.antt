-- The prenex form keeps truth and falsity, is the same where the core is decided, and is well numbered.
use Rattle.std.proofs.Common.{ℕ, ◌+◌, ◌^◌, ◌<◌, ◌≤◌, Bool, true, false, cond, ◌&&◌, ltb, ◌≡◌, ◌∙◌, ◌⊎◌, inl, inr, refl, sym, ap, subst, List, [], ◌∷◌, ◌++◌, length, get_or-set_other, arith}
use Rattle.std.proofs.lemmas.List.{length-replicate, get_or-replicate}
use Rattle.std.specs.Prelude.{nat_eq}
use Rattle.std.specs.List.{IsDistinct, Contains, All}
use Rattle.qe_form.specs.Formula.{Formula, Formulas, True, False, Atom, And, Or, Not, Implies, Iff, Ex, All as ForAll, no_more, more}
use Rattle.qe_form.specs.Tree.{tree}
use Rattle.qe_form.specs.Same.{IsFree, IsFreeInSome, Same}
use Rattle.qe_form.specs.Measures.{count}
use Rattle.qe_form.specs.Plain.{IsPlain}
use Rattle.qe_form.specs.Numbered as input_names
use Rattle.qe_form.specs.Numbered.{Occurs, OccursInOne, binders, binders_each}
use Rattle.qe_form.specs.Preserved.{Preserves, IsDecided, HasDecidedCore}
use Rattle.qe_form.specs.Holds.{HoldAlike}
use Rattle.qe_form.proofs.Sameness.{same_is_preorder, same_is_kept}
use Rattle.qe_form.proofs.Preservation.{preserves_is_same}
use Rattle.qe_norm.specs.declared.blocks.Prenex.{Prenex}
use Rattle.qe_norm.specs.declared.polarity.Polarity.{Polarity}
use Rattle.qe_norm.specs.declared.polarity.Polarity.TheVariants.{Positive, Negative}
use Rattle.qe_norm.specs.Polarity.{flipped, existential}
use Rattle.qe_norm.specs.NormalForm.{normal_form}
use Rattle.qe_norm.specs.Numbering.{Walked, is_copy, named_again, met_first, to_copy, numbered, start}
use Rattle.qe_norm.specs.Blocks.{prefix, matrix}
use Rattle.qe_form.specs.Blocks.{QuantifierKind, exists, for_all, under_one, under_blocks, bound_by}
use Rattle.qe_norm.specs.Prenex.{numbered_form, prenex_size, IsPrenexOf, stands_for, IsWellNumbered}
use Rattle.qe_norm.proofs.Opened.{normal_form_is, free_normal, normal_is_same, decided_normal}
use Rattle.qe_norm.proofs.Binders.{in_either, contained, contains, Binds, BindsIn, nested, binds_normal, ready}
use Rattle.qe_norm.proofs.Steps.{IsTaken, is_met}
use Rattle.qe_norm.proofs.Outwards.{under, vars_of, vars_of_prefix, prefix_binds, free_under, free_prenex, outwards}
use Rattle.qe_norm.proofs.Walks.{Fits, Made, made, body_fits, as_ex}
use Rattle.qe_norm.proofs.Negatives.{chain, turned}
use Rattle.qe_norm.proofs.NormalHolds.{normal_form_holds}
use Rattle.qe_norm.proofs.OutwardsHold.{outwards_hold}
use Rattle.qe_norm.proofs.WalksHold.{walk_holds}
use Rattle.qe_norm.proofs.Grouping.{under_grouped, bound_by_grouped, few_grouped, short_grouped}
use Rattle.qe_norm.proofs.Matrices.{own_binders, occurs_under, occurs_matrix, plain_matrix, count_parts}

-- ---- what occurs in the formula that is read

mutual
  binds_occurs : (f : Formula) (x : ℕ) → Binds x f → Occurs x f
  binds_occurs True x h = h
  binds_occurs False x h = h
  binds_occurs (Atom a) x h = absurd h
  binds_occurs (And fs) x h = bind_occurs fs x h
  binds_occurs (Or fs) x h = bind_occurs fs x h
  binds_occurs (Not f) x h = binds_occurs f x h
  binds_occurs (Implies f g) x h = elim (in_either x (binders f) (binders g) h) [ inl k ↦ inl (binds_occurs f x k) | inr k ↦ inr (binds_occurs g x k) ]
  binds_occurs (Iff f g) x h = elim (in_either x (binders f) (binders g) h) [ inl k ↦ inl (binds_occurs f x k) | inr k ↦ inr (binds_occurs g x k) ]
  binds_occurs (Ex y f) x h = elim h [ inl e ↦ inl e | inr k ↦ inr (binds_occurs f x k) ]
  binds_occurs (ForAll y f) x h = elim h [ inl e ↦ inl e | inr k ↦ inr (binds_occurs f x k) ]

  bind_occurs : (fs : Formulas) (x : ℕ) → BindsIn x fs → OccursInOne x fs
  bind_occurs no_more x h = h
  bind_occurs (more f fs) x h = elim (in_either x (binders f) (binders_each fs) h) [ inl k ↦ inl (binds_occurs f x k) | inr k ↦ inr (bind_occurs fs x k) ]

mutual
  pub free_occurs : (f : Formula) (x : ℕ) → IsFree x f → Occurs x f
  free_occurs True x h = h
  free_occurs False x h = h
  free_occurs (Atom a) x h = h
  free_occurs (And fs) x h = frees_occur fs x h
  free_occurs (Or fs) x h = frees_occur fs x h
  free_occurs (Not f) x h = free_occurs f x h
  free_occurs (Implies f g) x h = elim h [ inl k ↦ inl (free_occurs f x k) | inr k ↦ inr (free_occurs g x k) ]
  free_occurs (Iff f g) x h = elim h [ inl k ↦ inl (free_occurs f x k) | inr k ↦ inr (free_occurs g x k) ]
  free_occurs (Ex y f) x h = inr (free_occurs f x h.1)
  free_occurs (ForAll y f) x h = inr (free_occurs f x h.1)

  frees_occur : (fs : Formulas) (x : ℕ) → IsFreeInSome x fs → OccursInOne x fs
  frees_occur no_more x h = h
  frees_occur (more f fs) x h = elim h [ inl k ↦ inl (free_occurs f x k) | inr k ↦ inr (frees_occur fs x k) ]

-- ---- a walk without renamings

module _ (n : ℕ) (Bound : ℕ → Type 0) (below : (z : ℕ) → Bound z → z < n) where
  -- the formula with its quantifiers outside, as the walk finds them
  abbrev outside : Formula → Walked → Formula
  outside f w = under (prefix (numbered f [] w).0) (matrix (numbered f [] w).0)

  pub outside_preserves : (f : Formula) (w : Walked) → Fits n Bound below f [] w → Preserves f (outside f w)
  outside_preserves f w fits =
      let m = made n Bound below f [] w fits in
      let g = (numbered f [] w).0 in record {
        free = λ x o. (let h = m.free x (free_prenex g x m.ready o) in subst (λ z. IsFree z f) (sym h.2) h.1);
        keeps = λ p valid gives b t. outwards g m.ready m.apart b p (m.truth b p valid t);
      }

  -- no quantifier of the formula was met
  abbrev AreNew : Formula → Walked → Type 0
  AreNew f w = (z : ℕ) → Binds z f → is_met n Bound below w z ≡ false

  no_copy : (w : Walked) (x : ℕ) → is_met n Bound below w x ≡ false → is_copy w x ≡ false
  no_copy w x e = ap (λ b. b && ltb (length w.names) 4294967295) e

  module _ (x : ℕ) (f : Formula) (w : Walked) (fits : Fits n Bound below (Ex x f) [] w) (new : AreNew (Ex x f) w) where
    copy : is_copy w x ≡ false
    copy = no_copy w x (new x (inl refl))

    -- after the quantifier for x, which was not met before
    rest_fits : Fits n Bound below f [] (met_first w x)
    rest_fits = subst (λ b. Fits n Bound below f (cond b ([] ++ to_copy w x ∷ []) [])
        (cond {A = Walked} b (named_again w x) (met_first w x))) copy (body_fits n Bound below x f [] w fits)

    rest_new : AreNew f (met_first w x)
    rest_new z h = get_or-set_other w.met x z true false (λ e. fits.ready.0 (subst (λ i. Binds i f) e h)) ∙ new z (inr h)

    -- with the test of a copy decided
    abbrev at : QuantifierKind → Bool → Formula
    at k b = (let r = numbered f (cond b ([] ++ to_copy w x ∷ []) []) (cond {A = Walked} b (named_again w x) (met_first w x)) in
        under_one k (cond b (length w.names) x) (under (prefix r.0) (matrix r.0)))

    under_ex : Same f (outside f (met_first w x)) → Same (Ex x f) (outside (Ex x f) w)
    under_ex s = subst (λ b. Same (Ex x f) (at exists b)) (sym copy) (same_is_kept.under_ex x f (outside f (met_first w x)) s)

    under_all : Same f (outside f (met_first w x)) → Same (ForAll x f) (outside (ForAll x f) w)
    under_all s = subst (λ b. Same (ForAll x f) (at for_all b)) (sym copy) (same_is_kept.under_all x f (outside f (met_first w x)) s)

  of_decided : (f : Formula) (w : Walked) → Fits n Bound below f [] w → IsDecided f → Same f (outside f w)
  of_decided f w fits settled = preserves_is_same f (outside f w) settled (outside_preserves f w fits)

  quantified_core : (b : Polarity) (x : ℕ) (f : Formula) (w : Walked) → Fits n Bound below (existential b x f) [] w → AreNew (existential b x f) w
      → ((v : Walked) → Fits n Bound below f [] v → AreNew f v → Same f (outside f v)) → Same (existential b x f) (outside (existential b x f) w)
  quantified_core Positive x f w fits new again = under_ex x f w fits new (again _ (rest_fits x f w fits new) (rest_new x f w fits new))
  quantified_core Negative x f w fits new again =
      under_all x f w (as_ex n Bound below x f [] w fits) new (again _ (rest_fits x f w (as_ex n Bound below x f [] w fits) new) (rest_new x f w (as_ex n Bound below x f [] w fits) new))

  -- where the core is decided, the prenex form of the normal form is the same as it
  same_core : (b : Polarity) (f : Formula) → HasDecidedCore f → (w : Walked) → Fits n Bound below (normal_form b f) [] w → AreNew (normal_form b f) w → Same (normal_form b f) (outside (normal_form b f) w)
  same_core b True h w fits new = of_decided _ w fits (decided_normal b True h)
  same_core b False h w fits new = of_decided _ w fits (decided_normal b False h)
  same_core b (Atom a) h w fits new = of_decided _ w fits (decided_normal b (Atom a) h)
  same_core b (And fs) h w fits new = of_decided _ w fits (decided_normal b (And fs) h)
  same_core b (Or fs) h w fits new = of_decided _ w fits (decided_normal b (Or fs) h)
  same_core b (Implies f g) h w fits new = of_decided _ w fits (decided_normal b (Implies f g) h)
  same_core b (Iff f g) h w fits new = of_decided _ w fits (decided_normal b (Iff f g) h)
  same_core b (Not f) h w fits new = by_side h (λ k. same_core (flipped b) f k w fits new)
    where
      by_side : IsDecided (Not f) ⊎ HasDecidedCore f → (HasDecidedCore f → Same (normal_form b (Not f)) (outside (normal_form b (Not f)) w)) → Same (normal_form b (Not f)) (outside (normal_form b (Not f)) w)
      by_side (inl d) again = of_decided _ w fits (decided_normal b (Not f) d)
      by_side (inr k) again = again k
  same_core b (Ex x f) h w fits new = by_side h (λ k v g m. same_core b f k v g m)
    where
      by_side : IsDecided (Ex x f) ⊎ HasDecidedCore f → (HasDecidedCore f → (v : Walked) → Fits n Bound below (normal_form b f) [] v → AreNew (normal_form b f) v → Same (normal_form b f) (outside (normal_form b f) v))
          → Same (normal_form b (Ex x f)) (outside (normal_form b (Ex x f)) w)
      by_side (inl d) again = of_decided _ w fits (decided_normal b (Ex x f) d)
      by_side (inr k) again = quantified_core b x (normal_form b f) w fits new (again k)
  same_core b (ForAll x f) h w fits new = by_side h (λ k v g m. same_core b f k v g m)
    where
      by_side : IsDecided (ForAll x f) ⊎ HasDecidedCore f → (HasDecidedCore f → (v : Walked) → Fits n Bound below (normal_form b f) [] v → AreNew (normal_form b f) v → Same (normal_form b f) (outside (normal_form b f) v))
          → Same (normal_form b (ForAll x f)) (outside (normal_form b (ForAll x f)) w)
      by_side (inl d) again = of_decided _ w fits (decided_normal b (ForAll x f) d)
      by_side (inr k) again = quantified_core (flipped b) x (normal_form b f) w fits new (again k)

-- ---- the whole

module _ (f : Formula) (names : List (List ℕ)) (well : input_names.IsWellNumbered f names) (few : length names < 2 ^ 31) (within_size : prenex_size f ≤ 65536) where
  abbrev n : ℕ
  n = length names

  abbrev Bound : ℕ → Type 0
  Bound z = Binds z f

  below : (z : ℕ) → Bound z → z < n
  below z h = well.below z (binds_occurs f z h)

  abbrev nf : Formula
  nf = normal_form Positive f

  -- the formula that the walk makes, and what is met after it
  abbrev g : Formula
  g = (numbered_form f names).0

  abbrev last : Walked
  last = (numbered_form f names).1

  fits : Fits n Bound below nf [] (start names)
  fits = record {
    walked = record { met = length-replicate n false; names = omega arith };
    room = (let small : length names < 2147483648 = few in omega (arith, within_size));
    rising = omega arith;
    sources = λ z s. absurd s;
    small = λ z o. well.below z (free_occurs f z (free_normal Positive f z o));
    bound = λ z h. binds_normal Positive f z h;
    unmet = λ z h s. absurd s;
    taken = λ z o. record {
      named = well.below z (free_occurs f z (free_normal Positive f z o));
      met = λ b. absurd (well.bound z (contains (binders f) z b) (free_normal Positive f z o));
    };
    ready = ready Positive f (nested f well.own);
  }

  result : Made n Bound below nf [] (start names) g last
  result = made n Bound below nf [] (start names) fits

  module _ (p : Prenex) (is : IsPrenexOf f names p) where
    stands : stands_for p ≡ under (prefix g) (matrix g)
    stands = (λ i. under_blocks (is.blocks i) (is.matrix i)) ∙ under_grouped (prefix g) (matrix g)

    pub keeps : Preserves f (stands_for p)
    keeps = subst (λ h. Preserves f h) (sym stands) (
        let s = outside_preserves n Bound below nf (start names) fits in record {
          free = λ x o. free_normal Positive f x (s.free x o);
          keeps = λ q valid gives b t. s.keeps q valid (λ x o. gives x (free_normal Positive f x o)) b ((normal_form_is Positive f b q).1 t);
        })

    pub same : HasDecidedCore f → Same f (stands_for p)
    same core = subst (λ h. Same f h) (sym stands)
        (same_is_preorder.transitive f nf (under (prefix g) (matrix g)) (normal_is_same f) (same_core n Bound below Positive f core (start names) fits (λ z h. get_or-replicate n z false false (below z (binds_normal Positive f z h)))))

    pub holds : HoldAlike f (stands_for p)
    holds = subst (λ h. HoldAlike f h) (sym stands)
        (λ q valid. chain (turned (normal_form_holds Positive f q)) (chain (walk_holds n Bound below nf [] (start names) fits q valid) (outwards_hold g result.ready result.apart q)))

    named : (z : ℕ) → IsFree z g ⊎ Binds z g → z < length last.names
    named z h =
        elim h [
          | inl o ↦ (let e = result.free z o in (result.step.keeps z (subst (λ i. IsTaken n Bound below (start names) i) (sym e.2) (fits.taken e.0 e.1))).named)
          | inr k ↦ (result.new z k).taken.named
        ]

    counted : length (prefix g) + count (matrix g) ≤ 65536
    counted = (let a = count_parts g result.ready in let b = result.count in omega (arith, within_size))

    pub well_numbered : IsWellNumbered p
    well_numbered = record {
      below = λ x o. (
          let under_is = subst (λ h. Occurs x h) stands o in
          let at : x < length last.names = elim (occurs_under (prefix g) (matrix g) x under_is) [ inl i ↦ named x (inr (prefix_binds g x result.ready i)) | inr k ↦ named x (occurs_matrix g x result.ready k) ] in
          subst (λ ns. x < length ns) (sym is.names) at);
      own = subst (λ ns. IsDistinct nat_eq ns) (sym (ap bound_by is.blocks ∙ bound_by_grouped (prefix g))) (subst (λ ns. IsDistinct nat_eq ns) (sym (vars_of_prefix g result.ready)) (own_binders g result.ready result.apart));
      bound = λ x c o. (free_under (prefix g) (matrix g) x (subst (λ h. IsFree x h) stands o)).0 (contained (vars_of (prefix g)) x (subst (λ ns. Contains ns x) (ap bound_by is.blocks ∙ bound_by_grouped (prefix g)) c));
      short = subst (λ bs. All (λ b. length b.vars ≤ 65536) bs) (sym is.blocks) (short_grouped (prefix g) 65536 (let h = counted in omega arith));
      few = (let e = ap length is.blocks in let h = few_grouped (prefix g) in let k = counted in omega arith);
    }

    pub plain : IsPlain (tree p.matrix)
    plain = subst (λ h. IsPlain h) (sym is.matrix) (plain_matrix g result.ready)

    pub small : count (tree p.matrix) ≤ 65536
    small = (let e = ap count is.matrix in let h = counted in omega arith)
