-- The texts that are written.
use Rattle.std.specs.Prelude.{ℕ, List, [], ◌∷◌, ◌++◌, codes, decimal}
use Rattle.std.specs.Fmt.{signed_decimal}
use Rattle.qe_coef.specs.declared.Op.{Op}
use Rattle.qe_coef.specs.declared.Op.TheVariants.{Add, Sub, Mul}
use Rattle.qe_coef.specs.declared.Wide.{Wide}
use Rattle.qe_poly.specs.declared.limit.PolyLimit.{PolyLimit}
use Rattle.qe_poly.specs.declared.limit.PolyLimit.TheVariants as limit
use Rattle.qe_root.specs.declared.stop.Stage.{Stage}
use Rattle.qe_root.specs.declared.stop.Stage.TheVariants as stage
use Rattle.qe_tree.specs.Tree.{Step}
use Rattle.qe_node.specs.declared.stop.NodeStop.{NodeStop}
use Rattle.qe_node.specs.declared.stop.NodeStop.TheVariants as stop
use Rattle.qe_print.specs.Name.{name_text}
use Rattle.qe_print.specs.Formula.{formula_text}
use Rattle.qe_gen.specs.Generated.{input_form, input_names}
use Rattle.qe_read.specs.declared.fault.ReadFault.{ReadFault}
use Rattle.qe_read.specs.declared.fault.ReadFault.TheVariants as read

-- a text with a line feed at its end
abbrev pub line : List ℕ → List ℕ
line text = text ++ 10 ∷ []

-- the generated input with this number
abbrev pub made_line : ℕ → List ℕ
made_line number = line (formula_text input_names (input_form number))

-- what came of the generated input with this number: how many atoms the result has
abbrev pub summary_text : (number count : ℕ) → List ℕ
summary_text number count =
    line (codes "number " ++ decimal number) ++ line (codes "input atoms 16")
    ++ line (codes "blocks 1") ++ line (codes "result atoms " ++ decimal count)

abbrev pub usage_line : List ℕ
usage_line = line (codes "usage: qe [eliminate|answers|summary|make] [--workers W] [--nodes N] [--number K]")

abbrev pub too_long_line : List ℕ
too_long_line = line (codes "input too long: more than 1048576 bytes")

abbrev pub prenex_too_large_line : List ℕ
prenex_too_large_line = line (codes "too large: prenex form")

abbrev pub operation_text : Op → List ℕ
operation_text Add = codes "+"
operation_text Sub = codes "-"
operation_text Mul = codes "*"

-- a kind of fault, and the offset where it is
abbrev pub placed_text : List ℕ → ℕ → List ℕ
placed_text kind place = codes "bad input: " ++ kind ++ codes " at " ++ decimal place

-- the operation that left the range, with its two numbers
abbrev pub wide_text : Wide → List ℕ
wide_text wide = codes ": " ++ signed_decimal wide.left ++ codes " " ++ operation_text wide.op ++ codes " " ++ signed_decimal wide.right

-- the first fault of an input; out of memory is none, and has no text
abbrev pub fault_text : ReadFault → List ℕ
fault_text (read.Syntax p) = placed_text (codes "syntax") p
fault_text (read.Wide p) = placed_text (codes "wide literal") p
fault_text (read.Exponent p) = placed_text (codes "exponent") p
fault_text (read.TooDeep p) = placed_text (codes "too deep") p
fault_text (read.TooMany p) = placed_text (codes "too many atoms") p
fault_text (read.Overflow p wide) = placed_text (codes "overflow") p ++ wide_text wide
fault_text (read.Polynomial p) = placed_text (codes "monomials") p
fault_text read.OutOfMemory = []

abbrev pub fault_line : ReadFault → List ℕ
fault_line fault = line (fault_text fault)

-- ---- why elimination stops

-- the variable of a step, and the number of its test point
abbrev pub step_text : List (List ℕ) → Step → List ℕ
step_text names s = name_text names s.var ++ codes ":" ++ decimal s.point

-- each step with a `/` before it
abbrev pub further_text : List (List ℕ) → List Step → List ℕ
further_text names [] = []
further_text names (s ∷ path) = codes "/" ++ step_text names s ++ further_text names path

-- the steps from the root, joined by `/`
abbrev pub path_text : List (List ℕ) → List Step → List ℕ
path_text names [] = codes "root"
path_text names (s ∷ path) = step_text names s ++ further_text names path

abbrev pub stage_text : Stage → List ℕ
stage_text stage.Guard = codes "guard"
stage_text stage.Root = codes "root"
stage_text stage.Sign = codes "sign"
stage_text stage.Slope = codes "slope"

-- the limit that an operation on polynomials met
abbrev pub limit_text : PolyLimit → List ℕ
limit_text (limit.Coefficient wide) = wide_text wide
limit_text limit.Exponent = codes ": exponent"
limit_text limit.Monomials = codes ": monomials"

abbrev pub limit_cause : PolyLimit → List ℕ
limit_cause (limit.Coefficient wide) = codes "overflow"
limit_cause limit.Exponent = codes "term limit"
limit_cause limit.Monomials = codes "term limit"

-- why a node fails
abbrev pub cause_text : NodeStop → List ℕ
cause_text stop.DegreeExcess = codes "degree excess"
cause_text (stop.Limit point atom stage limit) = limit_cause limit
cause_text (stop.TooLarge point) = codes "too large"

-- where it fails, after the node
abbrev pub site_text : NodeStop → List ℕ
site_text stop.DegreeExcess = []
site_text (stop.Limit point atom stage limit) = codes " point " ++ decimal point ++ codes " stage " ++ stage_text stage ++ codes " atom " ++ decimal atom ++ limit_text limit
site_text (stop.TooLarge point) = codes " point " ++ decimal point

-- the cause, the block, the steps to the node and the site
abbrev pub node_line : List (List ℕ) → ℕ → List Step → NodeStop → List ℕ
node_line names block path why = line (cause_text why ++ codes ": block " ++ decimal block ++ codes " node " ++ path_text names path ++ site_text why)

abbrev pub node_limit_line : ℕ → ℕ → List ℕ
node_limit_line block most = line (codes "node limit: block " ++ decimal block ++ codes " has more than " ++ decimal most ++ codes " nodes")
