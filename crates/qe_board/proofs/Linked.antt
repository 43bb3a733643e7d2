-- Spots and links: what is met, the first spots of a list, and what lies below an entry.
use Rattle.std.proofs.Common.{ℕ, zero, suc, ◌≤◌, ◌<◌, ◌≡◌, ◌∙◌, ◌⊎◌, inl, inr, ◌↔◌, refl, sym, ap, subst, true, false, cond, eqb, List, [], ◌∷◌, ◌++◌, length, map, flat_map, Some, arith}
use Rattle.std.specs.Prelude.{IsTrue, IsSome}
use Rattle.std.proofs.lemmas.Bool.{eqb-true}
use Rattle.std.proofs.lemmas.Bool.Decides.{nat_tests}
use Rattle.qe_ring.proofs.Bools.{either_tells, never_tells}
use Rattle.qe_board.specs.State.{Key, Link, Entry}
use Rattle.qe_board.specs.Visited.{standing}
use Rattle.qe_board.specs.Recorded.{Spot, AreWithin, is_met, first_spots, spot_at, links_at, key_at, spots_from, GoBelow, LinksFall}

-- ---- numbers in a list

abbrev pub IsIn : ℕ → List ℕ → Type 0
IsIn n [] = ⊥
IsIn n (m ∷ ms) = (n ≡ m) ⊎ IsIn n ms

abbrev pub Within : List ℕ → List ℕ → Type 0
Within ms ns = (n : ℕ) → IsIn n ms → IsIn n ns

eqb_tells : (n m : ℕ) → IsTrue (eqb n m) ↔ (n ≡ m)
eqb_tells n m = (eqb-true n m, λ e. grind (arith, nat_tests))

pub met_tells : (n : ℕ) (ms : List ℕ) → IsTrue (is_met n ms) ↔ IsIn n ms
met_tells n [] = never_tells
met_tells n (m ∷ ms) = either_tells (eqb n m) (is_met n ms) (eqb_tells n m) (met_tells n ms)

pub in_append : (n : ℕ) (ms ns : List ℕ) → IsIn n (ms ++ ns) → IsIn n ms ⊎ IsIn n ns
in_append n [] ns h = inr h
in_append n (m ∷ ms) ns (inl e) = inl (inl e)
in_append n (m ∷ ms) ns (inr h) = elim (in_append n ms ns h) [ inl l ↦ inl (inr l) | inr r ↦ inr r ]

pub in_left : (n : ℕ) (ms ns : List ℕ) → IsIn n ms → IsIn n (ms ++ ns)
in_left n [] ns h = absurd h
in_left n (m ∷ ms) ns (inl e) = inl e
in_left n (m ∷ ms) ns (inr h) = inr (in_left n ms ns h)

pub in_right : (n : ℕ) (ms ns : List ℕ) → IsIn n ns → IsIn n (ms ++ ns)
in_right n [] ns h = h
in_right n (m ∷ ms) ns h = inr (in_right n ms ns h)

pub within_append : (ms ns more : List ℕ) → Within ms ns → Within (ms ++ more) (ns ++ more)
within_append ms ns more within n h = elim (in_append n ms more h) [ inl l ↦ in_left n ns more (within n l) | inr r ↦ in_right n ns more r ]

-- ---- first spots

pub standing_append : (ss ts : List Spot) → standing (ss ++ ts) ≡ standing ss ++ standing ts
standing_append [] ts = refl
standing_append (s ∷ ss) ts = ap (λ ns. s.entry ∷ ns) (standing_append ss ts)

pub by_met : (P : List Spot → Type 0) (met : List ℕ) (s : Spot) (ss : List Spot) → (is_met s.entry met ≡ true → P (first_spots met ss)) → (is_met s.entry met ≡ false → P (s ∷ first_spots (met ++ s.entry ∷ []) ss))
    → P (first_spots met (s ∷ ss))
by_met P met s ss old new = elim (is_met s.entry met) as (λ b. is_met s.entry met ≡ b → P (cond b (first_spots met ss) (s ∷ first_spots (met ++ s.entry ∷ []) ss))) [ true ↦ old | false ↦ new ] refl

pub new_first : (met : List ℕ) (s : Spot) (ss : List Spot) → is_met s.entry met ≡ false → first_spots met (s ∷ ss) ≡ s ∷ first_spots (met ++ s.entry ∷ []) ss
new_first met s ss new = ap (λ b. cond b (first_spots met ss) (s ∷ first_spots (met ++ s.entry ∷ []) ss)) new

-- spots whose entries are all met give no first spots
pub met_skipped : (met : List ℕ) (ss ts : List Spot) → Within (standing ss) met → first_spots met (ss ++ ts) ≡ first_spots met ts
met_skipped met [] ts known = refl
met_skipped met (s ∷ ss) ts known =
    ap (λ b. cond b (first_spots met (ss ++ ts)) (s ∷ first_spots (met ++ s.entry ∷ []) (ss ++ ts))) ((met_tells s.entry met).1 (known s.entry (inl refl)))
    ∙ met_skipped met ss ts (λ n i. known n (inr i))

-- each entry that comes is met, or has a first spot
pub first_has : (met : List ℕ) (ss : List Spot) → (n : ℕ) → IsIn n (standing ss) → IsIn n met ⊎ IsIn n (standing (first_spots met ss))
first_has met [] n h = absurd h
first_has met (s ∷ ss) n h = by_met (λ ts. IsIn n met ⊎ IsIn n (standing ts)) met s ss
    (λ old. elim h [ inl e ↦ inl (subst (λ x. IsIn x met) (sym e) ((met_tells s.entry met).0 old)) | inr later ↦ first_has met ss n later ])
    (λ new. elim h [
      | inl e ↦ inr (inl e)
      | inr later ↦ elim (first_has (met ++ s.entry ∷ []) ss n later) [
        | inl m ↦ elim (in_append n met (s.entry ∷ []) m) [ inl l ↦ inl l | inr r ↦ elim r [ inl e ↦ inr (inl e) | inr none ↦ absurd none ] ]
        | inr k ↦ inr (inr k)
      ]
    ])

-- an entry that stands somewhere has a spot
pub some_spot : (n : ℕ) (ss : List Spot) → IsIn n (standing ss) → IsSome (spot_at n ss)
some_spot n [] h = absurd h
some_spot n (s ∷ ss) h = elim (eqb n s.entry) as (λ b. eqb n s.entry ≡ b → IsSome (cond b (Some s) (spot_at n ss))) [
  | true ↦ λ same. refl
  | false ↦ λ other. elim h [ inl e ↦ absurd (let same = (eqb_tells n s.entry).1 e in cc) | inr later ↦ some_spot n ss later ]
] refl

pub inside_append : (len : ℕ) (ss ts : List Spot) → AreWithin len ss → AreWithin len ts → AreWithin len (ss ++ ts)
inside_append len [] ts h k = k
inside_append len (s ∷ ss) ts h k = (h.0, inside_append len ss ts h.1 k)

pub first_inside : (len : ℕ) (met : List ℕ) (ss : List Spot) → AreWithin len ss → AreWithin len (first_spots met ss)
first_inside len met [] h = tt
first_inside len met (s ∷ ss) h = by_met (AreWithin len) met s ss (λ old. first_inside len met ss h.1) (λ new. (h.0, first_inside len (met ++ s.entry ∷ []) ss h.1))

-- ---- what lies below an entry

-- all that is linked to is in the list
abbrev pub LinksIn : List Link → List ℕ → Type 0
LinksIn [] ms = Unit {0}
LinksIn (l ∷ ls) ms = IsIn l.entry ms × LinksIn ls ms

pub links_within : (ls : List Link) (ms ns : List ℕ) → Within ms ns → LinksIn ls ms → LinksIn ls ns
links_within [] ms ns within h = tt
links_within (l ∷ ls) ms ns within h = (within l.entry h.0, links_within ls ms ns within h.1)

module _ {F : Type 0} (height : Key → ℕ) (es : List (Entry F)) (falls : LinksFall height es) where
  abbrev pub high : ℕ → ℕ
  high n = height (key_at n es)

  abbrev pub Below : ℕ → List Link → Type 0
  Below = GoBelow height es

  abbrev pub spots_each : ℕ → List ℕ → List Link → List Spot
  spots_each depth path ls = flat_map (λ l. spots_from es depth (path ++ l.point ∷ []) l.entry) ls

  -- the entries there do not depend on the path
  pub same_standing : (depth : ℕ) (path other : List ℕ) (n : ℕ) → standing (spots_from es depth path n) ≡ standing (spots_from es depth other n)
  same_standing zero path other n = refl
  same_standing (suc depth) path other n = ap (λ ms. n ∷ ms) (same_each (same_standing depth) (links_at n es))
    where
      same_each : ((path other : List ℕ) (m : ℕ) → standing (spots_from es depth path m) ≡ standing (spots_from es depth other m)) → (ls : List Link)
          → standing (spots_each depth path ls) ≡ standing (spots_each depth other ls)
      same_each again [] = refl
      same_each again (l ∷ ls) =
          standing_append (spots_from es depth (path ++ l.point ∷ []) l.entry) (spots_each depth path ls)
          ∙ ((λ i. again (path ++ l.point ∷ []) (other ++ l.point ∷ []) l.entry i ++ same_each again ls i)
          ∙ sym (standing_append (spots_from es depth (other ++ l.point ∷ []) l.entry) (spots_each depth other ls)))

  -- where no link goes deeper, more steps give no more spots
  each_deep : (d e : ℕ) (path : List ℕ) → ((p : List ℕ) (n : ℕ) → high n ≤ d → high n ≤ e → spots_from es d p n ≡ spots_from es e p n)
      → (bound : ℕ) (ls : List Link) → Below bound ls → bound ≤ suc d → bound ≤ suc e → spots_each d path ls ≡ spots_each e path ls
  each_deep d e path again bound [] below one two = refl
  each_deep d e path again bound (l ∷ ls) below one two =
      let less = below.1 in
      λ i. again (path ++ l.point ∷ []) l.entry (omega (arith, less, one)) (omega (arith, less, two)) i ++ each_deep d e path again bound ls below.2 one two i

  no_links : (ls : List Link) (d : ℕ) (path : List ℕ) → Below 0 ls → spots_each d path ls ≡ []
  no_links [] d path below = refl
  no_links (l ∷ ls) d path below = absurd (let less = below.1 in omega (arith, less))

  below_zero : (n : ℕ) → high n ≤ 0 → Below 0 (links_at n es)
  below_zero n low = let none : high n ≡ 0 = omega (arith, low) in subst (λ b. Below b (links_at n es)) none (falls n)

  pub deep_enough : (d e : ℕ) (path : List ℕ) (n : ℕ) → high n ≤ d → high n ≤ e → spots_from es d path n ≡ spots_from es e path n
  deep_enough zero zero path n one two = refl
  deep_enough zero (suc e) path n one two = ap (λ ss. record { path = path; entry = n } ∷ ss) (sym (no_links (links_at n es) e path (below_zero n one)))
  deep_enough (suc d) zero path n one two = ap (λ ss. record { path = path; entry = n } ∷ ss) (no_links (links_at n es) d path (below_zero n two))
  deep_enough (suc d) (suc e) path n one two = ap (λ ss. record { path = path; entry = n } ∷ ss) (each_deep d e path (λ p m. deep_enough d e p m) (high n) (links_at n es) (falls n) one two)

  -- all spots from an entry on
  abbrev pub from : List ℕ → ℕ → List Spot
  from path n = spots_from es (high n) path n

  abbrev pub from_each : List ℕ → List Link → List Spot
  from_each path ls = flat_map (λ l. from (path ++ l.point ∷ []) l.entry) ls

  from_links : (d : ℕ) (path : List ℕ) (bound : ℕ) (ls : List Link) → Below bound ls → bound ≤ suc d → spots_each d path ls ≡ from_each path ls
  from_links d path bound [] below most = refl
  from_links d path bound (l ∷ ls) below most =
      let less = below.1 in
      λ i. deep_enough d (high l.entry) (path ++ l.point ∷ []) l.entry (omega (arith, less, most)) (omega arith) i ++ from_links d path bound ls below.2 most i

  -- the entry itself, and all from what it links to on
  pub from_is : (path : List ℕ) (n : ℕ) → from path n ≡ record { path = path; entry = n } ∷ from_each path (links_at n es)
  from_is path n =
      deep_enough (high n) (suc (high n)) path n (omega arith) (omega arith)
      ∙ ap (λ ss. record { path = path; entry = n } ∷ ss) (from_links (high n) path (high n) (links_at n es) (falls n) (omega arith))

  pub stands_first : (path : List ℕ) (n : ℕ) → IsIn n (standing (from path n))
  stands_first path n = subst (λ ss. IsIn n (standing ss)) (sym (from_is path n)) (inl refl)

  -- what is closed under links has all that lies below
  abbrev pub ClosedBelow : ℕ → List ℕ → Type 0
  ClosedBelow bound ms = (n : ℕ) → IsIn n ms → high n ≤ bound → LinksIn (links_at n es) ms

  each_within : (d : ℕ) (path : List ℕ) (bound : ℕ) (ms : List ℕ) → ((p : List ℕ) (n : ℕ) → IsIn n ms → high n ≤ bound → Within (standing (spots_from es d p n)) ms)
      → (top : ℕ) → top ≤ suc bound → (ls : List Link) → Below top ls → LinksIn ls ms → Within (standing (spots_each d path ls)) ms
  each_within d path bound ms again top most [] below inside n h = absurd h
  each_within d path bound ms again top most (l ∷ ls) below inside n h =
      let less = below.1 in
      elim (in_append n (standing (spots_from es d (path ++ l.point ∷ []) l.entry)) (standing (spots_each d path ls))
      (subst (IsIn n) (standing_append (spots_from es d (path ++ l.point ∷ []) l.entry) (spots_each d path ls)) h)) [
        | inl here ↦ again (path ++ l.point ∷ []) l.entry inside.0 (omega (arith, less, most)) n here
        | inr later ↦ each_within d path bound ms again top most ls below.2 inside.1 n later
      ]

  pub all_within : (d : ℕ) (path : List ℕ) (bound : ℕ) (ms : List ℕ) → ClosedBelow bound ms → (n : ℕ) → IsIn n ms → high n ≤ bound → Within (standing (spots_from es d path n)) ms
  all_within zero path bound ms closed n inside low m h = elim h [ inl e ↦ subst (λ x. IsIn x ms) (sym e) inside | inr none ↦ absurd none ]
  all_within (suc d) path bound ms closed n inside low m h = elim h [
    | inl e ↦ subst (λ x. IsIn x ms) (sym e) inside
    | inr later ↦ each_within d path bound ms (λ p k. all_within d p bound ms closed k) (high n) (omega (arith, low)) (links_at n es) (falls n) (closed n inside low) m later
  ]

  -- what lies below is closed under links
  links_in_each : (path : List ℕ) (ls : List Link) → LinksIn ls (standing (from_each path ls))
  links_in_each path [] = tt
  links_in_each path (l ∷ ls) =
      let here = from (path ++ l.point ∷ []) l.entry in let rest = from_each path ls in (
        subst (IsIn l.entry) (sym (standing_append here rest)) (in_left l.entry (standing here) (standing rest) (stands_first (path ++ l.point ∷ []) l.entry)),
        links_within ls (standing rest) (standing (here ++ rest)) (λ n h. subst (IsIn n) (sym (standing_append here rest)) (in_right n (standing here) (standing rest) h)) (links_in_each path ls),
      )

  abbrev Closed : List ℕ → Type 0
  Closed ms = (n : ℕ) → IsIn n ms → LinksIn (links_at n es) ms

  each_closed : (path : List ℕ) (bound : ℕ) → ((p : List ℕ) (n : ℕ) → high n < bound → Closed (standing (from p n))) → (ls : List Link) → Below bound ls → Closed (standing (from_each path ls))
  each_closed path bound again [] below n h = absurd h
  each_closed path bound again (l ∷ ls) below n h =
      let here = from (path ++ l.point ∷ []) l.entry in let rest = from_each path ls in
      elim (in_append n (standing here) (standing rest) (subst (IsIn n) (standing_append here rest) h)) [
        | inl i ↦ links_within (links_at n es) (standing here) (standing (here ++ rest)) (λ m j. subst (IsIn m) (sym (standing_append here rest)) (in_left m (standing here) (standing rest) j)) (again (path ++ l.point ∷ []) l.entry below.1 n i)
        | inr i ↦ links_within (links_at n es) (standing rest) (standing (here ++ rest)) (λ m j. subst (IsIn m) (sym (standing_append here rest)) (in_right m (standing here) (standing rest) j)) (each_closed path bound again ls below.2 n i)
      ]

  closed_to : (bound : ℕ) (path : List ℕ) (n : ℕ) → high n < bound → Closed (standing (from path n))
  closed_to zero path n low m h = absurd (omega (arith, low))
  closed_to (suc bound) path n low m h =
      let rest = from_each path (links_at n es) in
      subst (λ ss. LinksIn (links_at m es) (standing ss)) (sym (from_is path n))
      (links_within (links_at m es) (standing rest) (n ∷ standing rest) (λ k i. inr i)
      (elim (subst (λ ss. IsIn m (standing ss)) (from_is path n) h) [
        | inl e ↦ subst (λ k. LinksIn (links_at k es) (standing rest)) (sym e) (links_in_each path (links_at n es))
        | inr i ↦ each_closed path (high n) (λ p k less. closed_to bound p k (omega (arith, less, low))) (links_at n es) (falls n) m i
      ]))

  -- each stands at an entry
  each_inside : (d : ℕ) (path : List ℕ) → ((p : List ℕ) (n : ℕ) → n < length es → AreWithin (length es) (spots_from es d p n)) → (bound : ℕ) (ls : List Link) → Below bound ls → AreWithin (length es) (spots_each d path ls)
  each_inside d path again bound [] below = tt
  each_inside d path again bound (l ∷ ls) below = inside_append (length es) (spots_from es d (path ++ l.point ∷ []) l.entry) (spots_each d path ls) (again (path ++ l.point ∷ []) l.entry below.0) (each_inside d path again bound ls below.2)

  pub all_inside : (d : ℕ) (path : List ℕ) (n : ℕ) → n < length es → AreWithin (length es) (spots_from es d path n)
  all_inside zero path n less = (less, tt)
  all_inside (suc d) path n less = (less, each_inside d path (λ p m few. all_inside d p m few) (high n) (links_at n es) (falls n))

  pub from_closed : (path : List ℕ) (n : ℕ) → Closed (standing (from path n))
  from_closed path n = closed_to (suc (high n)) path n (omega arith)
