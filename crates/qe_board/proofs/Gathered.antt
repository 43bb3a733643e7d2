-- Leaves, the first failure and a path, found among first places one after another.
use Rattle.std.proofs.Common.{ℕ, zero, suc, ◌<◌, ◌≡◌, ◌∙◌, refl, sym, ap, subst, Bool, true, false, cond, eqb, List, [], ◌∷◌, ◌++◌, length, map, Option, Some, None, append_assoc, append-nil, arith}
use Rattle.std.specs.Option.{option_map, is_none}
use Rattle.std.proofs.lemmas.List.{map-append}
use Rattle.std.proofs.lemmas.Bool.Decides.{nat_tests}
use Rattle.qe_board.specs.State.{Key, Condition, waiting, held, expanded, leaf, failed, dropped, Entry, at}
use Rattle.qe_board.specs.Recorded.{Spot, spot_at, is_leaf, has_failed, spots, spots_from, key_at, leaf_spots, failed_spot, AreWithin, LinksFall}
use Rattle.qe_board.specs.declared.visits.Place.{Place}
use Rattle.qe_board.specs.Visited.{spot_of}
use Rattle.qe_board.proofs.Linked.{first_inside, all_inside}

-- the first of two
abbrev pub or_else : Option Spot → Option Spot → Option Spot
or_else (Some s) o = Some s
or_else None o = o

turned : (m n : ℕ) (b : Bool) → eqb m n ≡ b → eqb n m ≡ b
turned m n true is = grind (arith, nat_tests)
turned m n false is = grind (arith, nat_tests)

own_leaf : {F : Type 0} (c : Condition F) → is_leaf c ≡ true → has_failed c ≡ false
own_leaf leaf h = refl
own_leaf waiting h = absurd (cc)
own_leaf (held w) h = absurd (cc)
own_leaf (expanded ls) h = absurd (cc)
own_leaf (failed f) h = absurd (cc)
own_leaf dropped h = absurd (cc)

leaf_not_failed : {F : Type 0} (n : ℕ) (es : List (Entry F)) → at is_leaf n es ≡ true → at has_failed n es ≡ false
leaf_not_failed n [] h = absurd (cc)
leaf_not_failed zero (e ∷ es) h = own_leaf e.condition h
leaf_not_failed (suc n) (e ∷ es) h = leaf_not_failed n es h

module _ {F : Type 0} (es : List (Entry F)) where
  -- what was found, and what is still to be found in the rest, is what is found in all
  pub record IsFound (all : List Spot) (ls : List Place) (fault : Option Place) (rest : List Place) : Type 0 where
    pub leaves_are : map spot_of ls ++ leaf_spots es (map spot_of rest) ≡ leaf_spots es all
    pub failed_is : or_else (option_map spot_of fault) (failed_spot es (map spot_of rest)) ≡ failed_spot es all
    pub within : AreWithin (length es) (map spot_of rest)

  pub spots_inside : (height : Key → ℕ) → LinksFall height es → 0 < length es → AreWithin (length es) (spots height es)
  spots_inside height falls some = first_inside (length es) [] (spots_from es (height (key_at 0 es)) [] 0) (all_inside height es falls (height (key_at 0 es)) [] 0 some)

  pub nothing_found : (all : List Spot) (places : List Place) → map spot_of places ≡ all → AreWithin (length es) all → IsFound all [] None places
  nothing_found all places are inside = record {
    leaves_are = ap (leaf_spots es) are;
    failed_is = ap (failed_spot es) are;
    within = subst (AreWithin (length es)) (sym are) inside;
  }

  module _ (all : List Spot) (ls : List Place) (fault : Option Place) (p : Place) (rest : List Place) (found : IsFound all ls fault (p ∷ rest)) where
    pub next_within : p.entry < length es
    next_within = found.within.0

    failed_next : (b : Bool) → at has_failed p.entry es ≡ b → or_else (option_map spot_of fault) (cond b (Some (spot_of p)) (failed_spot es (map spot_of rest))) ≡ failed_spot es all
    failed_next b is = ap (λ b. or_else (option_map spot_of fault) (cond b (Some (spot_of p)) (failed_spot es (map spot_of rest)))) (sym is) ∙ found.failed_is

    leaves_next : (b : Bool) → at is_leaf p.entry es ≡ b → map spot_of ls ++ cond b (spot_of p ∷ leaf_spots es (map spot_of rest)) (leaf_spots es (map spot_of rest)) ≡ leaf_spots es all
    leaves_next b is = ap (λ b. map spot_of ls ++ cond b (spot_of p ∷ leaf_spots es (map spot_of rest)) (leaf_spots es (map spot_of rest))) (sym is) ∙ found.leaves_are

    -- a leaf
    pub found_leaf : at is_leaf p.entry es ≡ true → (new : List Place) → new ≡ ls ++ p ∷ [] → IsFound all new fault rest
    found_leaf is new more = record {
      leaves_are = ap (λ ks. map spot_of ks ++ leaf_spots es (map spot_of rest)) more
          ∙ (ap (λ ks. ks ++ leaf_spots es (map spot_of rest)) (map-append spot_of ls (p ∷ [])) ∙ (append_assoc (map spot_of ls) (spot_of p ∷ []) (leaf_spots es (map spot_of rest)) ∙ leaves_next true is));
      failed_is = failed_next false (leaf_not_failed p.entry es is);
      within = found.within.1;
    }

    -- the first that fault
    pub found_failed : at is_leaf p.entry es ≡ false → is_none fault ≡ true → at has_failed p.entry es ≡ true → IsFound all ls (Some p) rest
    found_failed other none is = record {
      leaves_are = leaves_next false other;
      failed_is = by_failed fault none (failed_next true is);
      within = found.within.1;
    }
      where
        by_failed : (o : Option Place) → is_none o ≡ true → or_else (option_map spot_of o) (Some (spot_of p)) ≡ failed_spot es all → Some (spot_of p) ≡ failed_spot es all
        by_failed None h same = same
        by_failed (Some x) h same = absurd (cc)

    -- one of no matter
    pub found_none : at is_leaf p.entry es ≡ false → is_none fault ≡ false → IsFound all ls fault rest
    found_none other some = record {
      leaves_are = leaves_next false other;
      failed_is = by_failed fault some found.failed_is;
      within = found.within.1;
    }
      where
        by_failed : (o : Option Place) → is_none o ≡ false → or_else (option_map spot_of o) (failed_spot es (map spot_of (p ∷ rest))) ≡ failed_spot es all → or_else (option_map spot_of o) (failed_spot es (map spot_of rest)) ≡ failed_spot es all
        by_failed None h same = absurd (cc)
        by_failed (Some x) h same = same

    pub found_other : at is_leaf p.entry es ≡ false → at has_failed p.entry es ≡ false → IsFound all ls fault rest
    found_other other is = record {
      leaves_are = leaves_next false other;
      failed_is = failed_next false is;
      within = found.within.1;
    }

  or_none : (o : Option Spot) → or_else o None ≡ o
  or_none None = refl
  or_none (Some s) = refl

  -- the rest is empty
  pub found_leaves : (all : List Spot) (ls : List Place) (fault : Option Place) (rest : List Place) → rest ≡ [] → IsFound all ls fault rest → map spot_of ls ≡ leaf_spots es all
  found_leaves all ls fault rest none found = sym (append-nil (map spot_of ls)) ∙ (ap (λ ps. map spot_of ls ++ leaf_spots es (map spot_of ps)) (sym none) ∙ found.leaves_are)

  pub found_failure : (all : List Spot) (ls : List Place) (fault : Option Place) (rest : List Place) → rest ≡ [] → IsFound all ls fault rest → option_map spot_of fault ≡ failed_spot es all
  found_failure all ls fault rest none found = sym (or_none (option_map spot_of fault)) ∙ (ap (λ ps. or_else (option_map spot_of fault) (failed_spot es (map spot_of ps))) (sym none) ∙ found.failed_is)

-- ---- a path

pub path_here : (n : ℕ) (p : Place) (rest : List Spot) (all : List Spot) → spot_at n (spot_of p ∷ rest) ≡ spot_at n all → eqb p.entry n ≡ true → ◌≡◌ {A = Option (List ℕ)} (Some p.path) (option_map (λ s. s.path) (spot_at n all))
path_here n p rest all same is =
    ap (λ b. option_map (λ s. s.path) (cond b (Some (spot_of p)) (spot_at n rest))) (sym (turned p.entry n true is)) ∙ ap (option_map (λ s. s.path)) same

pub path_later : (n : ℕ) (p : Place) (rest : List Spot) (all : List Spot) → spot_at n (spot_of p ∷ rest) ≡ spot_at n all → eqb p.entry n ≡ false → spot_at n rest ≡ spot_at n all
path_later n p rest all same is = ap (λ b. cond b (Some (spot_of p)) (spot_at n rest)) (sym (turned p.entry n false is)) ∙ same
