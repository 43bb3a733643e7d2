-- That the successors of a node keep its truth.
use Rattle.std.specs.Prelude.{true, ◌↔◌, List, map}
use Rattle.qe_tower.specs.Point.{Point, IsPoint}
use Rattle.qe_form.specs.Formula.{Formula, Or}
use Rattle.qe_form.specs.Tree.{trees_of}
use Rattle.qe_form.specs.Truth.{Is}
use Rattle.qe_tree.specs.Variables.{under_ex}
use Rattle.qe_piece.specs.declared.maker.Next.{Next}
use Rattle.qe_piece.specs.declared.maker.Made.{Made}
use Rattle.qe_piece.specs.declared.maker.Made.TheVariants as made
use Rattle.qe_node.specs.declared.stop.NodeStop.{NodeStop}
use Rattle.qe_node.specs.Node.{Sight}

-- what a node stands for: its formula under `ex` of its variables
abbrev pub node_formula : Sight → Formula
node_formula n = under_ex n.vars n.form

-- At every point of numbers the node's formula is true under `ex` of its variables exactly where
-- the formula of some successor is true under `ex` of the variables of that successor.
abbrev pub TruthIsKept : Sight → List (Next Sight) → Type 0
TruthIsKept n list =
    (p : Point) → IsPoint p
    → Is (node_formula n) true p ↔ Is (Or (trees_of (map (λ s. node_formula s.piece) list))) true p

-- that is so where there are successors
abbrev pub KeepsTruth : Sight → Made Sight NodeStop → Type 0
KeepsTruth n (made.Successors list) = TruthIsKept n list.items
KeepsTruth n (made.Failed s) = Unit {0}
KeepsTruth n made.Stopped = Unit {0}
KeepsTruth n made.OutOfMemory = Unit {0}
