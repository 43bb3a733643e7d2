-- The search, depth first, that passes over entries it has met: it comes by the first spots of all entries, in their order.
use Rattle.std.proofs.Common.{ℕ, ◌<◌, ◌≡◌, ◌∙◌, inl, inr, refl, sym, ap, subst, true, false, List, [], ◌∷◌, ◌++◌, append_assoc, append-nil, length, length-append, map, flat_map, arith}
use Rattle.qe_board.specs.State.{Key, Link, Entry}
use Rattle.qe_board.specs.Visited.{standing, spots_below}
use Rattle.qe_board.specs.Recorded.{Spot, is_met, first_spots, links_at, spots, LinksFall}
use Rattle.qe_board.proofs.Linked.{IsIn, Within, met_tells, in_append, in_left, in_right, within_append, standing_append, new_first, met_skipped, links_within, high, Below, from, from_each, from_is, ClosedBelow, all_within, from_closed}

module _ {F : Type 0} (height : Key → ℕ) (es : List (Entry F)) (falls : LinksFall height es) where
  abbrev here : List ℕ → ℕ → List Spot
  here = from height es falls

  abbrev up_to : ℕ → ℕ
  up_to = high height es falls

  -- all spots from those to come on
  abbrev pub ahead : List Spot → List Spot
  ahead todo = flat_map (λ t. here t.path t.entry) todo

  -- Those met that are no higher than the next one to come have all that they link to among the met; and so on, once all below that is met too.
  abbrev pub Ready : List ℕ → List Spot → Type 0
  Ready met [] = Unit {0}
  Ready met (t ∷ todo) = ClosedBelow height es falls (up_to t.entry) met × Ready (met ++ standing (here t.path t.entry)) todo

  pub record Searching (done todo : List Spot) : Type 0 where
    pub first : spots height es ≡ done ++ first_spots (standing done) (ahead todo)
    pub ready : Ready (standing done) todo

  pub starts : Searching [] (record { path = []; entry = 0 } ∷ [])
  starts = record {
    first = ap (first_spots []) (sym (append-nil (here [] 0)));
    ready = ((λ n none. absurd none), tt);
  }

  pub ends : (done : List Spot) → Searching done [] → spots height es ≡ done
  ends done s = s.first ∙ append-nil done

  -- ---- the same met, in another order

  same_closed : (h : ℕ) (ms ns : List ℕ) → Within ms ns → Within ns ms → ClosedBelow height es falls h ms → ClosedBelow height es falls h ns
  same_closed h ms ns one two closed n inside low = links_within (links_at n es) ms ns one (closed n (two n inside) low)

  same_ready : (ms ns : List ℕ) → Within ms ns → Within ns ms → (todo : List Spot) → Ready ms todo → Ready ns todo
  same_ready ms ns one two [] ready = tt
  same_ready ms ns one two (t ∷ todo) ready =
      let more = standing (here t.path t.entry) in
      (same_closed (up_to t.entry) ms ns one two ready.0, same_ready (ms ++ more) (ns ++ more) (within_append ms ns more one) (within_append ns ms more two) todo ready.1)

  -- ---- an entry that is met

  all_met : (met : List ℕ) (t : Spot) (todo : List Spot) → Ready met (t ∷ todo) → IsIn t.entry met → Within (standing (here t.path t.entry)) met
  all_met met t todo ready known = all_within height es falls (up_to t.entry) t.path (up_to t.entry) met ready.0 t.entry known (omega arith)

  pub skips : (done : List Spot) (t : Spot) (todo : List Spot) → is_met t.entry (standing done) ≡ true → Searching done (t ∷ todo) → Searching done todo
  skips done t todo found s =
      let below = all_met (standing done) t todo s.ready ((met_tells t.entry (standing done)).0 found) in
      let more = standing (here t.path t.entry) in
      record {
        first = s.first ∙ ap (λ ss. done ++ ss) (met_skipped (standing done) (here t.path t.entry) (ahead todo) below);
        ready = same_ready (standing done ++ more) (standing done) (λ n h. elim (in_append n (standing done) more h) [ inl l ↦ l | inr r ↦ below n r ]) (λ n h. in_left n (standing done) more h) todo s.ready.1;
      }

  -- ---- a new entry

  abbrev pub next_spots : Spot → List Spot → List Spot
  next_spots t todo = spots_below t.path (links_at t.entry es) ++ todo

  ahead_links : (path : List ℕ) (ls : List Link) (todo : List Spot) → ahead (spots_below path ls ++ todo) ≡ from_each height es falls path ls ++ ahead todo
  ahead_links path [] todo = refl
  ahead_links path (l ∷ ls) todo =
      ap (λ ss. here (path ++ l.point ∷ []) l.entry ++ ss) (ahead_links path ls todo)
      ∙ sym (append_assoc (here (path ++ l.point ∷ []) l.entry) (from_each height es falls path ls) (ahead todo))

  ahead_first : (t : Spot) (todo : List Spot) → ahead (t ∷ todo) ≡ t ∷ ahead (next_spots t todo)
  ahead_first t todo =
      ap (λ ss. ss ++ ahead todo) (from_is height es falls t.path t.entry)
      ∙ ap (λ ss. t ∷ ss) (sym (ahead_links t.path (links_at t.entry es) todo))

  closed_more : (h : ℕ) (met : List ℕ) (path : List ℕ) (n : ℕ) → ClosedBelow height es falls h met → ClosedBelow height es falls h (met ++ standing (here path n))
  closed_more h met path n closed m inside low =
      let more = standing (here path n) in
      elim (in_append m met more inside) [
        | inl l ↦ links_within (links_at m es) met (met ++ more) (λ k i. in_left k met more i) (closed m l low)
        | inr r ↦ links_within (links_at m es) more (met ++ more) (λ k i. in_right k met more i) (from_closed height es falls path n m r)
      ]

  closed_one : (h : ℕ) (met : List ℕ) (n : ℕ) → h < up_to n → ClosedBelow height es falls (up_to n) met → ClosedBelow height es falls h (met ++ n ∷ [])
  closed_one h met n less closed m inside low = elim (in_append m met (n ∷ []) inside) [
    | inl l ↦ links_within (links_at m es) met (met ++ n ∷ []) (λ k i. in_left k met (n ∷ []) i) (closed m l (omega (arith, low, less)))
    | inr r ↦ elim r [ inl e ↦ absurd (let same = ap up_to e in omega (arith, same, low, less)) | inr none ↦ absurd none ]
  ]

  ready_links : (path : List ℕ) (bound : ℕ) (ls : List Link) → Below height es falls bound ls → (met : List ℕ) → ((h : ℕ) → h < bound → ClosedBelow height es falls h met)
      → (todo : List Spot) → Ready (met ++ standing (from_each height es falls path ls)) todo → Ready met (spots_below path ls ++ todo)
  ready_links path bound [] below met closed todo ready = subst (λ ms. Ready ms todo) (append-nil met) ready
  ready_links path bound (l ∷ ls) below met closed todo ready =
      let first = here (path ++ l.point ∷ []) l.entry in let rest = from_each height es falls path ls in (
        closed (up_to l.entry) below.1,
        ready_links path bound ls below.2 (met ++ standing first) (λ h less. closed_more h met (path ++ l.point ∷ []) l.entry (closed h less)) todo
            (subst (λ ms. Ready ms todo) (ap (λ ms. met ++ ms) (standing_append first rest) ∙ sym (append_assoc met (standing first) (standing rest))) ready),
      )

  pub visits : (done : List Spot) (t : Spot) (todo : List Spot) → is_met t.entry (standing done) ≡ false → Searching done (t ∷ todo) → Searching (done ++ t ∷ []) (next_spots t todo)
  visits done t todo new s =
      let rest = from_each height es falls t.path (links_at t.entry es) in
      let met : standing (done ++ t ∷ []) ≡ standing done ++ t.entry ∷ [] = standing_append done (t ∷ []) in
      let whole : Ready ((standing done ++ t.entry ∷ []) ++ standing rest) todo =
      subst (λ ms. Ready ms todo) (ap (λ ss. standing done ++ standing ss) (from_is height es falls t.path t.entry) ∙ sym (append_assoc (standing done) (t.entry ∷ []) (standing rest))) s.ready.1 in
      record {
        first = s.first ∙ (ap (λ ss. done ++ ss) (ap (first_spots (standing done)) (ahead_first t todo) ∙ new_first (standing done) t (ahead (next_spots t todo)) new)
            ∙ (sym (append_assoc done (t ∷ []) (first_spots (standing done ++ t.entry ∷ []) (ahead (next_spots t todo))))
            ∙ ap (λ ms. (done ++ t ∷ []) ++ first_spots ms (ahead (next_spots t todo))) (sym met)));
        ready = subst (λ ms. Ready ms (next_spots t todo)) (sym met)
            (ready_links t.path (up_to t.entry) (links_at t.entry es) (falls t.entry) (standing done ++ t.entry ∷ []) (λ h less. closed_one h (standing done) t.entry less s.ready.0) todo whole);
      }

  -- ---- what is left shrinks

  pub less_visited : (t : Spot) (todo : List Spot) → length (ahead (next_spots t todo)) < length (ahead (t ∷ todo))
  less_visited t todo = let e = ap length (ahead_first t todo) in omega (arith, e)

  pub less_skipped : (t : Spot) (todo : List Spot) → length (ahead todo) < length (ahead (t ∷ todo))
  less_skipped t todo =
      let e = ap length (from_is height es falls t.path t.entry) in
      let both = length-append (here t.path t.entry) (ahead todo) in omega (arith, e, both)
