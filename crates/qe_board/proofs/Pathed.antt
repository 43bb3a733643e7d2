-- Spots in a kept history.
use Rattle.std.proofs.Common.{ℕ, ◌<◌, ◌≡◌, ◌↔◌, refl, sym, subst, Bool, true, false, cond, eqb, List, [], ◌∷◌, length, Option, Some, None, slice_get, arith}
use Rattle.std.specs.Prelude.{IsSome}
use Rattle.std.specs.Option.{option_map}
use Rattle.std.proofs.lemmas.Bool.{eqb-true}
use Rattle.qe_piece.specs.Meaning.{Meaning}
use Rattle.qe_board.specs.State.{Key, State, keys}
use Rattle.qe_board.specs.Tree.{Falls}
use Rattle.qe_board.specs.History.{History, IsKept}
use Rattle.qe_board.specs.Recorded.{Spot, spot_at, spots, AreWithin, LinksFall}
use Rattle.qe_board.specs.Places.{AlwaysSpotted}
use Rattle.qe_board.proofs.Counting.{length_keys}
use Rattle.qe_board.proofs.Spotted.{place_laws}
use Rattle.qe_board.proofs.Gathered.{spots_inside}

some_there : (ks : List Key) (k : Key) → slice_get ks 0 ≡ Some k → 0 < length ks
some_there [] k is = absurd (cc)
some_there (j ∷ ks) k is = omega arith

spot_within : (n len : ℕ) (ss : List Spot) → AreWithin len ss → IsSome (option_map (λ s. s.path) (spot_at n ss)) → n < len
spot_within n len [] within some = absurd (cc)
spot_within n len (s ∷ ss) within some = by_test (eqb n s.entry) refl (spot_within n len ss within.1) some
  where
    by_test : (b : Bool) → eqb n s.entry ≡ b → (IsSome (option_map (λ s. s.path) (spot_at n ss)) → n < len) → IsSome (option_map (λ s. s.path) (cond b (Some s) (spot_at n ss))) → n < len
    by_test true is rest some = subst (λ m. m < len) (sym (eqb-true n s.entry is)) within.0
    by_test false is rest some = rest some

some_mapped : (o : Option Spot) → IsSome o → IsSome (option_map (λ s. s.path) o)
some_mapped (Some s) some = some
some_mapped None some = absurd (cc)

module _ {F : Type 0} (meaning : Key → Meaning F) (is_leaf truth : Key → Bool) (height : Key → ℕ) (falls : Falls meaning is_leaf truth height) (h : History) (s : State F) (capacity : ℕ) (kept : IsKept meaning is_leaf truth h s capacity) where
  always : AlwaysSpotted meaning is_leaf truth height h.limit h.root s
  always = subst (AlwaysSpotted meaning is_leaf truth height h.limit h.root) (sym kept.replayed) ((place_laws meaning is_leaf truth height h.limit falls kept.lawful.some).always h.root h.journal kept.lawful.run)

  pub kept_falls : LinksFall height s.entries
  kept_falls = always.links_fall

  pub kept_some : 0 < length s.entries
  kept_some = subst (λ n. 0 < n) (length_keys s.entries) (some_there (keys s) h.root always.first)

  pub kept_there : (n : ℕ) → IsSome (option_map (λ s. s.path) (spot_at n (spots height s.entries))) ↔ (n < length s.entries)
  kept_there n = (
    spot_within n (length s.entries) (spots height s.entries) (spots_inside s.entries height kept_falls kept_some),
    λ less. some_mapped (spot_at n (spots height s.entries)) (always.each n less),
  )
