-- The number of each status.
use Rattle.std.specs.Prelude.{ℕ}
use Rattle.qe_program.specs.declared.status.Status.{Status}
use Rattle.qe_program.specs.declared.status.Status.TheVariants.{Ok, Usage, ReadFault, InputTooLong, BadInput, TooLarge, DegreeExcess, Overflow, TermLimit, NodeLimit, WriteFault, OutOfMemory}

abbrev pub code_of : Status → ℕ
code_of Ok = 0
code_of Usage = 1
code_of ReadFault = 2
code_of InputTooLong = 3
code_of BadInput = 4
code_of TooLarge = 5
code_of DegreeExcess = 6
code_of Overflow = 7
code_of TermLimit = 8
code_of NodeLimit = 9
code_of WriteFault = 10
code_of OutOfMemory = 11
