-- The visits of the code, one after another.
use Rattle.std.proofs.Common.{ℕ, zero, suc, ◌<◌, ◌≤◌, ◌≡◌, ◌∙◌, refl, sym, ap, subst, List, [], ◌∷◌, ◌++◌, length, map, reverse, get_or, arith}
use Rattle.std.proofs.lemmas.List.{map-append, reverse-append, reverse-reverse}
use Rattle.qe_board.specs.Recorded.{Spot}
use Rattle.qe_board.specs.declared.visits.Place.{Place}
use Rattle.qe_board.specs.declared.visits.Upcoming.{Upcoming}
use Rattle.qe_board.specs.declared.entries.Link as code
use Rattle.qe_board.specs.Shown.{link_of}
use Rattle.qe_board.specs.Visited.{spot_of, standing, spots_below, path_at, upcoming, spots_ahead, AreBehind}

-- the last is the first of those in reverse
pub popped : {A : Type 0} (old new : List A) (x : A) → old ≡ new ++ x ∷ [] → reverse old ≡ x ∷ reverse new
popped old new x is = ap reverse is ∙ reverse-append new (x ∷ [])

-- the path of a visit
pub path_of : (ps : List Place) (n : ℕ) (p : Place) → n < length ps → p ≡ get_or ps n p → path_at n (map spot_of ps) ≡ p.path
path_of [] n p within is = absurd (omega (arith, within))
path_of (q ∷ ps) zero p within is = ap (λ x. x.path) (sym is)
path_of (q ∷ ps) (suc n) p within is = path_of ps n p (omega (arith, within)) is

-- the one that is taken is by an earlier visit
pub next_behind : (old new : List Upcoming) (u : Upcoming) (n : ℕ) → old ≡ new ++ u ∷ [] → AreBehind n (reverse old) → u.from < n
next_behind old new u n is behind = (subst (AreBehind n) (popped old new u is) behind).0

behind_more : (m n : ℕ) (us : List Upcoming) → m ≤ n → AreBehind m us → AreBehind n us
behind_more m n [] less behind = tt
behind_more m n (u ∷ us) less behind = (let first = behind.0 in omega (arith, less, first), behind_more m n us less behind.1)

behind_append : (n : ℕ) (us ws : List Upcoming) → AreBehind n us → AreBehind n ws → AreBehind n (us ++ ws)
behind_append n [] ws a b = b
behind_append n (u ∷ us) ws a b = (a.0, behind_append n us ws a.1 b)

behind_links : (n : ℕ) (ls : List code.Link) → AreBehind (suc n) (map (upcoming n) ls)
behind_links n [] = tt
behind_links n (l ∷ ls) = (omega arith, behind_links n ls)

-- ---- a visit

-- a path stays where there are more spots
path_stays : (ss ts : List Spot) (n : ℕ) → n < length ss → path_at n (ss ++ ts) ≡ path_at n ss
path_stays [] ts n within = absurd (omega (arith, within))
path_stays (s ∷ ss) ts zero within = refl
path_stays (s ∷ ss) ts (suc n) within = path_stays ss ts n (omega (arith, within))

path_last : (ss : List Spot) (t : Spot) → path_at (length ss) (ss ++ t ∷ []) ≡ t.path
path_last [] t = refl
path_last (s ∷ ss) t = path_last ss t

ahead_stays : (ss ts : List Spot) (us : List Upcoming) → AreBehind (length ss) us → spots_ahead (ss ++ ts) us ≡ spots_ahead ss us
ahead_stays ss ts [] behind = refl
ahead_stays ss ts (u ∷ us) behind = λ i. record { path = path_stays ss ts u.from behind.0 i ++ u.link.point ∷ []; entry = u.link.entry } ∷ ahead_stays ss ts us behind.1 i

ahead_links : (ss : List Spot) (t : Spot) (ls : List code.Link) → spots_ahead (ss ++ t ∷ []) (map (upcoming (length ss)) ls) ≡ spots_below t.path (map link_of ls)
ahead_links ss t [] = refl
ahead_links ss t (l ∷ ls) = λ i. record { path = path_last ss t i ++ l.point ∷ []; entry = l.entry } ∷ ahead_links ss t ls i

length_spots : (ps : List Place) → length (map spot_of ps) ≡ length ps
length_spots [] = refl
length_spots (p ∷ ps) = ap suc (length_spots ps)

reversed : {A : Type 0} (us ws : List A) → reverse (us ++ reverse ws) ≡ ws ++ reverse us
reversed us ws = reverse-append us (reverse ws) ∙ ap (λ xs. xs ++ reverse us) (reverse-reverse ws)

module _ (ps : List Place) (p : Place) (us new : List Upcoming) (ls : List code.Link) (n : ℕ) (number : n ≡ length ps) (is : new ≡ us ++ reverse (map (upcoming n) ls)) (behind : AreBehind (length ps) (reverse us)) where
  todo_is : reverse new ≡ map (upcoming n) ls ++ reverse us
  todo_is = ap reverse is ∙ reversed us (map (upcoming n) ls)

  pub visited_todo : spots_ahead (map spot_of (ps ++ p ∷ [])) (reverse new) ≡ spots_below p.path (map link_of ls) ++ spots_ahead (map spot_of ps) (reverse us)
  visited_todo =
      let long = length_spots ps in
      (λ i. spots_ahead (map-append spot_of ps (p ∷ []) i) (todo_is i))
      ∙ (map-append (λ u. record { path = path_at u.from (map spot_of ps ++ spot_of p ∷ []) ++ u.link.point ∷ []; entry = u.link.entry }) (map (upcoming n) ls) (reverse us)
      ∙ (λ i. (ap (λ k. spots_ahead (map spot_of ps ++ spot_of p ∷ []) (map (upcoming k) ls)) (number ∙ sym long) ∙ ahead_links (map spot_of ps) (spot_of p) ls) i
      ++ ahead_stays (map spot_of ps) (spot_of p ∷ []) (reverse us) (subst (λ k. AreBehind k (reverse us)) (sym long) behind) i))

  pub visited_behind : AreBehind (length (ps ++ p ∷ [])) (reverse new)
  visited_behind =
      let long : length (ps ++ p ∷ []) ≡ suc (length ps) = one_more ps in
      subst (λ k. AreBehind k (reverse new)) (sym long) (subst (AreBehind (suc (length ps))) (sym todo_is)
      (behind_append (suc (length ps)) (map (upcoming n) ls) (reverse us) (subst (λ k. AreBehind (suc k) (map (upcoming n) ls)) number (behind_links n ls)) (behind_more (length ps) (suc (length ps)) (reverse us) (omega arith) behind)))
    where
      one_more : (qs : List Place) → length (qs ++ p ∷ []) ≡ suc (length qs)
      one_more [] = refl
      one_more (q ∷ qs) = ap suc (one_more qs)

-- one place more
pub spots_more : (ps new : List Place) (p : Place) → new ≡ ps ++ p ∷ [] → map spot_of new ≡ map spot_of ps ++ spot_of p ∷ []
spots_more ps new p is = ap (map spot_of) is ∙ map-append spot_of ps (p ∷ [])

pub standing_more : (ps new : List Place) (p : Place) → new ≡ ps ++ p ∷ [] → standing (map spot_of new) ≡ standing (map spot_of ps) ++ p.entry ∷ []
standing_more ps new p is = ap standing (spots_more ps new p is) ∙ map-append (λ s. s.entry) (map spot_of ps) (spot_of p ∷ [])
