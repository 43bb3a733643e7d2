-- A node as a piece: all that is asked of it is a function of its key.
use Rattle.std.specs.Prelude.{ℕ, Bool, ◌&&◌, List, map, Result, Ok, Err}
use Rattle.qe_tree.specs.Tree.{is_empty}
use Rattle.qe_piece.specs.Meaning.{Meaning, gives, fails}
use Rattle.qe_node.specs.declared.stop.NodeStop.{NodeStop}
use Rattle.qe_node.specs.Node.{Sight}
use Rattle.qe_node.specs.key.Code.{sight_key}
use Rattle.qe_form.specs.Making.{is_true}
use Rattle.qe_node.specs.Successors.{expansion}
use Rattle.qe_node.specs.Answer.{expansion_of}

-- a node without variables is a leaf, and it is true where its formula is True
abbrev pub is_leaf_node : Sight → Bool
is_leaf_node n = is_empty n.vars

abbrev pub is_true_node : Sight → Bool
is_true_node n = is_empty n.vars && is_true n.form

abbrev pub height_of : Sight → ℕ
height_of n = expansion.height n.vars n.form

-- the successors by their keys
abbrev pub by_keys : Result (List (ℕ × Sight)) NodeStop → Meaning NodeStop
by_keys (Ok list) = gives (map (λ s. record { point = s.0; key = sight_key s.1 }) list)
by_keys (Err s) = fails s

abbrev pub meaning_of : Sight → Meaning NodeStop
meaning_of n = by_keys (expansion_of n)
