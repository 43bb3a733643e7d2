-- The visits of the code, as spots, and what is still to be visited.
use Rattle.std.specs.Prelude.{ℕ, zero, suc, ◌≡◌, ◌<◌, true, false, List, [], ◌∷◌, ◌++◌, map}
use Rattle.qe_board.specs.State.{Link}
use Rattle.qe_board.specs.Recorded.{Spot, is_met}
use Rattle.qe_board.specs.declared.entries.Link as code
use Rattle.qe_board.specs.declared.visits.Place.{Place}
use Rattle.qe_board.specs.declared.visits.Upcoming.{Upcoming}
use Rattle.qe_board.specs.declared.visits.Ahead.{Ahead}
use Rattle.qe_board.specs.declared.visits.Ahead.TheVariants.{End, Met, New}

abbrev pub spot_of : Place → Spot
spot_of p = record { path = p.path; entry = p.entry }

-- the entries of spots
abbrev pub standing : List Spot → List ℕ
standing ss = map (λ s. s.entry) ss

-- what is linked to, as spots below a path
abbrev pub spots_below : List ℕ → List Link → List Spot
spots_below path ls = map (λ l. record { path = path ++ l.point ∷ []; entry = l.entry }) ls

-- the spots that were visited, and those that are still to be
pub record Progression : Type 0 where
  pub done : List Spot
  pub todo : List Spot

-- the path to the spot with this number
abbrev pub path_at : ℕ → List Spot → List ℕ
path_at n [] = []
path_at zero (s ∷ ss) = s.path
path_at (suc n) (s ∷ ss) = path_at n ss

-- what is to be visited by a link of the visit with this number
abbrev pub upcoming : ℕ → code.Link → Upcoming
upcoming n l = record { from = n; link = l }

-- what a link of a visit leads to
abbrev pub spots_ahead : List Spot → List Upcoming → List Spot
spots_ahead done us = map (λ u. record { path = path_at u.from done ++ u.link.point ∷ []; entry = u.link.entry }) us

-- each is by a visit with a number below this one
abbrev pub AreBehind : ℕ → List Upcoming → Type 0
AreBehind n [] = Unit {0}
AreBehind n (u ∷ us) = (u.from < n) × AreBehind n us

-- what comes next is the first of those that are to be visited
abbrev pub IsAhead : Progression → Progression → Ahead → Type 0
IsAhead old new End = (old.todo ≡ []) × (new ≡ old)
IsAhead old new Met = (s : Spot) × (old.todo ≡ s ∷ new.todo) × (is_met s.entry (standing old.done) ≡ true) × (new.done ≡ old.done)
IsAhead old new (New p) = (old.todo ≡ spot_of p ∷ new.todo) × (is_met p.entry (standing old.done) ≡ false) × (new.done ≡ old.done)
