-- Why a substitution gives no formula, in the words for limits.
use Rattle.std.specs.Prelude.{Option, None, Some}
use Rattle.qe_root.specs.declared.stop.SubstStop.{SubstStop}
use Rattle.qe_root.specs.declared.stop.SubstStop.TheVariants.{OutOfMemory}

-- the limit that a stop tells, and None for out of memory
abbrev pub met_limit : SubstStop → Option SubstStop
met_limit OutOfMemory = None
met_limit met = Some met
