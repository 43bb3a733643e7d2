-- What a worker at a container of spots does.
use Rattle.std.specs.Prelude.{ℕ, ◌≡◌, true}
use Rattle.qe_board.specs.declared.settle.Left.{Left}
use Rattle.qe_board.specs.declared.settle.Left.TheVariants.{Truth}
use Rattle.qe_board.specs.State.{State, has_true_leaf}
use Rattle.qe_board.specs.History.{History, Holding, state_of}
use Rattle.qe_board.specs.Calls.{IsHeldIn}
use Rattle.qe_board_tests.specs.Spots.{meaning_of, is_leaf_key, is_true_key}

-- the state of a container of spots
abbrev pub now : History → State ℕ
now h = state_of meaning_of is_leaf_key is_true_key h

-- what other workers hold they still hold
abbrev pub KeepsOthers : History → Holding → History → Type 0
KeepsOthers old h new = (g : Holding) → (g.worker ≡ h.worker → ⊥) → IsHeldIn (now old) g → IsHeldIn (now new) g

-- where it says that a leaf is true, one is
abbrev pub TellsTruth : Left → History → Type 0
TellsTruth Truth new = has_true_leaf is_true_key (now new) ≡ true
TellsTruth left new = Unit {0}
