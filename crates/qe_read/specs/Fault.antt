-- What is said of a fault that was found.
use Rattle.std.specs.Prelude.{ℕ}
use Rattle.qe_poly.specs.declared.limit.PolyLimit.{PolyLimit}
use Rattle.qe_poly.specs.declared.limit.PolyLimit.TheVariants as limits
use Rattle.qe_syntax.specs.declared.fault.TextFault.{TextFault}
use Rattle.qe_syntax.specs.declared.fault.TextFault.TheVariants as faults
use Rattle.qe_syntax.specs.declared.fault.ParseStop.{ParseStop}
use Rattle.qe_syntax.specs.declared.fault.ParseStop.TheVariants as parse
use Rattle.qe_halt.specs.declared.halt.Halt.{Halt}
use Rattle.qe_halt.specs.declared.halt.Halt.TheVariants as halt
use Rattle.qe_read.specs.declared.value.Met.{Met}
use Rattle.qe_read.specs.declared.fault.ReadFault.{ReadFault}
use Rattle.qe_read.specs.declared.fault.ReadFault.TheVariants as read

-- a fault of the text, with its place
abbrev pub text_fault : TextFault → ℕ → ReadFault
text_fault faults.Syntax p = read.Syntax p
text_fault faults.Wide p = read.Wide p
text_fault faults.Exponent p = read.Exponent p
text_fault faults.TooDeep p = read.TooDeep p
text_fault faults.TooMany p = read.TooMany p

-- a limit that was met, with its place
abbrev pub limit_fault : PolyLimit → ℕ → ReadFault
limit_fault (limits.Coefficient wide) p = read.Overflow p wide
limit_fault limits.Exponent p = read.Exponent p
limit_fault limits.Monomials p = read.Polynomial p

abbrev pub parse_fault : ParseStop → ReadFault
parse_fault (parse.Fault fault p) = text_fault fault p
parse_fault parse.OutOfMemory = read.OutOfMemory

abbrev pub value_fault : Halt Met → ReadFault
value_fault (halt.Limit met) = limit_fault met.limit met.place
value_fault halt.OutOfMemory = read.OutOfMemory
