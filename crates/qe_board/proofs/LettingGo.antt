-- An entry that is held is let go: a stop is set, where none was, and then it is dropped.
use Rattle.std.proofs.Common.{ℕ, ◌≡◌, ◌∙◌, refl, sym, ap, subst, Bool, true, false, not, ◌&&◌, ◌||◌, [], ◌∷◌, if◌then◌else◌}
use Rattle.qe_piece.specs.Meaning.{Meaning}
use Rattle.qe_board.specs.declared.event.Event.{Event}
use Rattle.qe_board.specs.declared.event.Event.TheVariants.{Drop, Cancel, Starve}
use Rattle.qe_board.specs.State.{Key, State, is_unset, has_true_leaf}
use Rattle.qe_board.specs.Machine.{drop_waiting, effect}
use Rattle.qe_board.specs.History.{History, Holding, grown, state_of}
use Rattle.qe_board.specs.Calls.{IsHeldIn, is_over}
use Rattle.qe_board.specs.Settled.{let_go, LetsGo}
use Rattle.qe_board.proofs.Giving.{held_still, grown_twice, state_after}

-- where it is over, what cancels is that no stop is set
cancels_unset : (a u b : Bool) → b ≡ (a && u) → (a || not u) ≡ true → u ≡ b
cancels_unset true u b is over = sym is
cancels_unset false false b is over = sym is
cancels_unset false true b is over = absurd (cc)

-- where no leaf is true, what starves is the same
starves_unset : (a u b : Bool) → b ≡ (not a && u) → a ≡ false → u ≡ b
starves_unset false u b is none = sym is
starves_unset true u b is none = absurd (cc)

over_there : (a u : Bool) → a ≡ true → (a || not u) ≡ true
over_there true u h = refl
over_there false u h = absurd (cc)

module _ {F : Type 0} (meaning : Key → Meaning F) (is_leaf truth : Key → Bool) where
  abbrev now : History → State F
  now = state_of meaning is_leaf truth

  -- a leaf that is true ends all
  pub true_is_over : (s : State F) → has_true_leaf truth s ≡ true → is_over truth s ≡ true
  true_is_over s h = over_there (has_true_leaf truth s) (is_unset s.stop) h

  pub record Lets (old mid : History) (h : Holding) (e : Event) : Type 0 where
    pub held : IsHeldIn (now mid) h
    pub stopped : is_unset (now mid).stop ≡ false
    pub lets : (new : History) → new ≡ grown mid (Drop h.worker h.entry ∷ []) → LetsGo meaning is_leaf truth old e h new

  -- by an event that drops what waits and sets a stop
  stops : (old mid : History) (h : Holding) (e : Event) → ((s : State F) → (effect meaning is_leaf truth old.limit e s).entries ≡ drop_waiting s.entries) → ((s : State F) → is_unset (effect meaning is_leaf truth old.limit e s).stop ≡ false)
      → IsHeldIn (now old) h → (b : Bool) → is_unset (now old).stop ≡ b → mid ≡ (if b then grown old (e ∷ []) else old) → Lets old mid h e
  stops old mid h e drops set there true unset is =
      let after : now mid ≡ effect meaning is_leaf truth old.limit e (now old) = ap now is ∙ state_after meaning is_leaf truth old e in
      record {
        held = held_still (now old) h (now mid) (ap (λ s. s.entries) after ∙ drops (now old)) there;
        stopped = ap (λ s. is_unset s.stop) after ∙ set (now old);
        lets = λ new more. more ∙ (ap (λ x. grown x (Drop h.worker h.entry ∷ [])) is ∙ (grown_twice old e (Drop h.worker h.entry) ∙ ap (λ u. grown old (let_go u e h)) (sym unset)));
      }
  stops old mid h e drops set there false unset is = record {
    held = subst (λ x. IsHeldIn (now x) h) (sym is) there;
    stopped = ap (λ x. is_unset (now x).stop) is ∙ unset;
    lets = λ new more. more ∙ (ap (λ x. grown x (Drop h.worker h.entry ∷ [])) is ∙ ap (λ u. grown old (let_go u e h)) (sym unset));
  }

  pub cancel_lets : (old mid : History) (h : Holding) (w : ℕ) → IsHeldIn (now old) h → is_over truth (now old) ≡ true → (b : Bool) → b ≡ (has_true_leaf truth (now old) && is_unset (now old).stop)
      → mid ≡ (if b then grown old (Cancel w ∷ []) else old) → Lets old mid h (Cancel w)
  cancel_lets old mid h w there over b cancels is = stops old mid h (Cancel w) (λ s. refl) (λ s. refl) there b (cancels_unset (has_true_leaf truth (now old)) (is_unset (now old).stop) b cancels over) is

  pub starve_lets : (old mid : History) (h : Holding) (w : ℕ) → IsHeldIn (now old) h → has_true_leaf truth (now old) ≡ false → (b : Bool) → b ≡ (not (has_true_leaf truth (now old)) && is_unset (now old).stop)
      → mid ≡ (if b then grown old (Starve w ∷ []) else old) → Lets old mid h (Starve w)
  starve_lets old mid h w there none b starves is = stops old mid h (Starve w) (λ s. refl) (λ s. refl) there b (starves_unset (has_true_leaf truth (now old)) (is_unset (now old).stop) b starves none) is
