-- Which inputs are answered, and why the others are refused.
use Rattle.std.specs.Prelude.{ℕ, ◌≡◌, ◌≢◌, ◌<◌, ◌≤◌, List}
use Rattle.qe_poly.specs.declared.limit.PolyLimit.{PolyLimit}
use Rattle.qe_poly.specs.declared.limit.PolyLimit.TheVariants as limits
use Rattle.qe_form.specs.Formula.{Formula}
use Rattle.qe_read.specs.declared.fault.ReadFault.{ReadFault}
use Rattle.qe_read.specs.declared.fault.ReadFault.TheVariants as read
use Rattle.qe_read.specs.Names.{Letters}
use Rattle.qe_read.specs.Input.{IsFirstFaultOf}
use Rattle.qe_norm.specs.Prenex.{prenex_size}
use Rattle.qe_tree.specs.Tree.{Step}
use Rattle.qe_tree.specs.Block.{given, stopped}
use Rattle.qe_node.specs.declared.stop.NodeStop.{NodeStop}
use Rattle.qe_node.specs.declared.stop.NodeStop.TheVariants as stop
use Rattle.qe_program.specs.declared.status.Status.{Status}
use Rattle.qe_program.specs.declared.status.Status.TheVariants as status
use Rattle.qe_program.specs.Headline.{Stands}
use Rattle.qe_program.specs.Output.{fault_line, prenex_too_large_line, node_line, node_limit_line}
use Rattle.qe_program.specs.Outcome.{outcome, all_names, EachKeepsLimit, BlockIsWithin, BlockIsBeyond}

-- the prenex form has at most 65,536 atoms, constants and quantifiers, or more
abbrev pub IsSmall : Formula → Type 0
IsSmall f = prenex_size f ≤ 65536

abbrev pub IsLarge : Formula → Type 0
IsLarge f = 65536 < prenex_size f

-- the prenex form is small, elimination gives a formula, and no block's plain run ends by the limit
pub record HasAnswer (limit : ℕ) (f : Formula) (names : List Letters) : Type 0 where
  pub small : IsSmall f
  pub answer : Formula
  pub is_given : outcome f names ≡ given answer
  pub within : EachKeepsLimit limit f names

-- Elimination stops in this block, where this is the first node that fails, and why. The blocks further in
-- gave formulas. No plain run of theirs, nor of this block, ends by the limit.
pub record HasFailingNode (limit : ℕ) (f : Formula) (names all : List Letters) (block : ℕ) (path : List Step) (why : NodeStop) : Type 0 where
  pub small : IsSmall f
  pub all_are : all ≡ all_names f names
  pub stops : outcome f names ≡ stopped block path why
  pub within : BlockIsWithin limit f names block

-- The plain run of this block ends by the limit, so its tree has more nodes. The blocks further in gave formulas, and no
-- plain run of theirs ends by the limit.
pub record HasLargeTree (limit : ℕ) (f : Formula) (names : List Letters) (block most : ℕ) : Type 0 where
  pub small : IsSmall f
  pub most_is : most ≡ limit
  pub beyond : BlockIsBeyond limit f names block

-- the bytes stand for a formula that has an answer
abbrev pub IsAnswered : ℕ → List ℕ → Type 0
IsAnswered limit bytes = Stands bytes (HasAnswer limit)

-- The first fault of an input; that its prenex form is too large; with the names of all variables, the first node of a block that fails,
-- by the steps to it, and why; or a block whose plain run ends by the limit.
pub data Refusal : Type 0 where
  fault : ReadFault → Refusal
  prenex_too_large : Refusal
  node : List Letters → ℕ → List Step → NodeStop → Refusal
  too_many_nodes : ℕ → ℕ → Refusal

-- out of memory is no reason
abbrev pub IsReason : Refusal → Type 0
IsReason (fault f) = f ≢ read.OutOfMemory
IsReason _ = Unit {0}

-- the reason holds of a formula with names
abbrev pub IsSoOf : ℕ → Refusal → Formula → List Letters → Type 0
IsSoOf limit (fault found) f names = ⊥
IsSoOf limit prenex_too_large f names = IsLarge f
IsSoOf limit (node all block path why) f names = HasFailingNode limit f names all block path why
IsSoOf limit (too_many_nodes block most) f names = HasLargeTree limit f names block most

-- the reason holds of the bytes
abbrev pub IsSo : ℕ → List ℕ → Refusal → Type 0
IsSo limit bytes (fault found) = IsFirstFaultOf bytes found
IsSo limit bytes prenex_too_large = Stands bytes (IsSoOf limit prenex_too_large)
IsSo limit bytes (node all block path why) = Stands bytes (IsSoOf limit (node all block path why))
IsSo limit bytes (too_many_nodes block most) = Stands bytes (IsSoOf limit (too_many_nodes block most))

abbrev pub limit_status : PolyLimit → Status
limit_status (limits.Coefficient wide) = status.Overflow
limit_status limits.Exponent = status.TermLimit
limit_status limits.Monomials = status.TermLimit

abbrev pub stop_status : NodeStop → Status
stop_status stop.DegreeExcess = status.DegreeExcess
stop_status (stop.Limit point atom stage limit) = limit_status limit
stop_status (stop.TooLarge point) = status.TooLarge

abbrev pub status_of : Refusal → Status
status_of (fault found) = status.BadInput
status_of prenex_too_large = status.TooLarge
status_of (node all block path why) = stop_status why
status_of (too_many_nodes block most) = status.NodeLimit

abbrev pub refusal_line : Refusal → List ℕ
refusal_line (fault found) = fault_line found
refusal_line prenex_too_large = prenex_too_large_line
refusal_line (node all block path why) = node_line all block path why
refusal_line (too_many_nodes block most) = node_limit_line block most

-- the bytes are refused with this status, and the text says why
pub record IsRefusal (limit : ℕ) (bytes text : List ℕ) (answer : Status) : Type 0 where
  pub why : Refusal
  pub reason : IsReason why
  pub is_so : IsSo limit bytes why
  pub status_is : answer ≡ status_of why
  pub written : text ≡ refusal_line why
