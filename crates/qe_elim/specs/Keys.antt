-- The nodes of a block as the container of nodes knows them: by their keys.
use Rattle.std.specs.Prelude.{ℕ, ◌≡◌, Bool, true, false, List}
use Rattle.qe_form.specs.Formula.{Formula}
use Rattle.qe_tree.specs.Variables.{remaining}
use Rattle.qe_piece.specs.Meaning.{Meaning}
use Rattle.qe_node.specs.declared.stop.NodeStop.{NodeStop}
use Rattle.qe_node.specs.Node.{Sight}
use Rattle.qe_node.specs.Piece.{is_leaf_node, is_true_node, height_of, meaning_of}
use Rattle.qe_node.specs.key.Code.{sight_key, sight_of}
use Rattle.qe_board.specs.declared.event.Event.{Event}
use Rattle.qe_board.specs.declared.event.Stopping.{Stopping}
use Rattle.qe_board.specs.declared.event.Stopping.TheVariants.{Limit}
use Rattle.qe_board.specs.State.{Key}
use Rattle.qe_board.specs.Machine.{replay}
use Rattle.qe_board.specs.Plain.{IsPlain}

abbrev pub meaning : Key → Meaning NodeStop
meaning k = meaning_of (sight_of k)

abbrev pub is_leaf : Key → Bool
is_leaf k = is_leaf_node (sight_of k)

abbrev pub truth : Key → Bool
truth k = is_true_node (sight_of k)

abbrev pub height : Key → ℕ
height k = height_of (sight_of k)

-- the node of a formula, with those of the variables that occur in it, and its key
abbrev pub node_of : List ℕ → Formula → Sight
node_of vars f = record { vars = remaining vars f; form = f }

abbrev pub key_of : List ℕ → Formula → Key
key_of vars f = sight_key (node_of vars f)

-- ---- the plain run

abbrev pub is_limit : Stopping → Bool
is_limit Limit = true
is_limit s = false

-- the plain run over the tree of this formula, with at most the limit's number of nodes, ends by the limit, or not
pub record EndsPlainly (vars : List ℕ) (f : Formula) (limit : ℕ) (by_limit : Bool) : Type 0 where
  pub journal : List Event
  pub plain : IsPlain meaning is_leaf truth limit (key_of vars f) journal
  pub ends : is_limit (replay meaning is_leaf truth limit (key_of vars f) journal).stop ≡ by_limit
