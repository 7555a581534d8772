-- What contracts see of a source or a sink over a reader or a writer of std.
use Rattle.std.specs.Prelude.{ℕ}

-- the reader or the writer, and how many calls failed
pub record Host (Stream : Type 0) : Type 0 where
  pub stream : Stream
  pub faults : ℕ
