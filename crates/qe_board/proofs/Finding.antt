-- The visits come by the first spots of all entries.
use Rattle.std.proofs.Common.{ℕ, ◌<◌, ◌≡◌, ◌∙◌, refl, sym, ap, subst, false, List, [], ◌∷◌, ◌++◌, length, flat_map}
use Rattle.qe_board.specs.State.{Key, Link, Entry}
use Rattle.qe_board.specs.Recorded.{Spot, is_met, spots, spots_from, key_at, links_at, AreWithin, GoBelow, LinksFall}
use Rattle.qe_board.specs.declared.visits.Place.{Place}
use Rattle.qe_board.specs.declared.visits.Ahead.TheVariants.{End, Met, New}
use Rattle.qe_board.specs.Visited.{Progression, spot_of, standing, spots_below, IsAhead}
use Rattle.qe_board.proofs.Linked.{inside_append}
use Rattle.qe_board.proofs.Searched.{Searching, starts, ends, skips, visits, less_visited, less_skipped}

module _ {F : Type 0} (height : Key → ℕ) (es : List (Entry F)) where
  -- the first spots so far, and what is still to come, all of entries
  pub record IsFinding (p : Progression) : Type 0 where
    pub falls : LinksFall height es
    pub search : Searching height es falls p.done p.todo
    pub within : AreWithin (length es) p.todo

  -- how many spots are still to come, with repeats
  abbrev pub left_to_find : Progression → ℕ
  left_to_find p = length (flat_map (λ t. spots_from es (height (key_at t.entry es)) t.path t.entry) p.todo)

  links_inside : (bound : ℕ) (path : List ℕ) (ls : List Link) → GoBelow height es bound ls → AreWithin (length es) (spots_below path ls)
  links_inside bound path [] below = tt
  links_inside bound path (l ∷ ls) below = (below.0, links_inside bound path ls below.2)

  -- a visit of the next one, which is new
  visited : (falls : LinksFall height es) (done : List Spot) (t : Spot) (todo : List Spot) (ls : List Link) → Searching height es falls done (t ∷ todo) → AreWithin (length es) todo → is_met t.entry (standing done) ≡ false → ls ≡ links_at t.entry es
      → (new : Progression) → new ≡ record { done = done ++ t ∷ []; todo = spots_below t.path ls ++ todo } → IsFinding new
  visited falls done t todo ls search inside fresh links new is =
      subst IsFinding (sym (is ∙ (λ i. record { done = done ++ t ∷ []; todo = spots_below t.path (links i) ++ todo }))) (record {
        falls = falls;
        search = visits height es falls done t todo fresh search;
        within = inside_append (length es) (spots_below t.path (links_at t.entry es)) todo (links_inside (height (key_at t.entry es)) t.path (links_at t.entry es) (falls t.entry)) inside;
      })

  abbrev root : Spot
  root = record { path = []; entry = 0 }

  pub finding_root : LinksFall height es → (ls : List Link) → ls ≡ links_at 0 es → (new : Progression) → new ≡ record { done = [] ++ root ∷ []; todo = spots_below [] ls ++ [] } → IsFinding new
  finding_root falls ls links new is = visited falls [] root [] ls (starts height es falls) tt refl links new is

  module _ (old mid : Progression) (so_far : IsFinding old) where
    pub finding_met : IsAhead old mid Met → IsFinding mid
    finding_met next =
        let was : Searching height es so_far.falls old.done (next.0 ∷ mid.todo) = subst (Searching height es so_far.falls old.done) next.1 so_far.search in
        record {
          falls = so_far.falls;
          search = subst (λ d. Searching height es so_far.falls d mid.todo) (sym next.3) (skips height es so_far.falls old.done next.0 mid.todo next.2 was);
          within = (subst (AreWithin (length es)) next.1 so_far.within).1;
        }

    pub less_met : IsAhead old mid Met → left_to_find mid < left_to_find old
    less_met next = subst (λ ss. left_to_find mid < left_to_find (record { done = old.done; todo = ss })) (sym next.1) (less_skipped height es so_far.falls next.0 mid.todo)

    module _ (p : Place) (next : IsAhead old mid (New p)) where
      pub new_within : p.entry < length es
      new_within = (subst (AreWithin (length es)) next.0 so_far.within).0

      pub new_fresh : is_met p.entry (standing mid.done) ≡ false
      new_fresh = ap (λ d. is_met p.entry (standing d)) next.2 ∙ next.1

      module _ (ls : List Link) (links : ls ≡ links_at p.entry es) (new : Progression) (is : new ≡ record { done = mid.done ++ spot_of p ∷ []; todo = spots_below p.path ls ++ mid.todo }) where
        pub finding_new : IsFinding new
        finding_new =
            visited so_far.falls mid.done (spot_of p) mid.todo ls
            (subst (λ d. Searching height es so_far.falls d (spot_of p ∷ mid.todo)) (sym next.2) (subst (Searching height es so_far.falls old.done) next.0 so_far.search))
            (subst (AreWithin (length es)) next.0 so_far.within).1 new_fresh links new is

        pub less_new : left_to_find new < left_to_find old
        less_new =
            subst (λ q. left_to_find q < left_to_find old) (sym (is ∙ (λ i. record { done = mid.done ++ spot_of p ∷ []; todo = spots_below p.path (links i) ++ mid.todo })))
            (subst (λ ss. length (flat_map (λ t. spots_from es (height (key_at t.entry es)) t.path t.entry) (spots_below p.path (links_at p.entry es) ++ mid.todo)) < left_to_find (record { done = old.done; todo = ss })) (sym next.0)
            (less_visited height es so_far.falls (spot_of p) mid.todo))

    pub finding_ends : IsAhead old mid End → mid.done ≡ spots height es
    finding_ends next =
        ap (λ q. q.done) next.1 ∙ sym (ends height es so_far.falls old.done (subst (Searching height es so_far.falls old.done) next.0 so_far.search))
