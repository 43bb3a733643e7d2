-- Sources and sinks over a reader or a writer of the system.
use Rattle.std.specs.Prelude.{ℕ}

-- a reader or a writer, and how many of its calls failed
pub record Watched (Stream : Type 0) : Type 0 where
  pub stream : Stream
  pub faults : ℕ
