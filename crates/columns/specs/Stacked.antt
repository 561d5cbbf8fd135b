-- The tables so far, as two words of the code.
--
-- Main definition: `stack`.
use Rattle.std.specs.Prelude.{ℕ}
use Rattle.pieces.specs.Tables.{Stack}

abbrev pub stack : ℕ → ℕ → Stack
stack count high = record { count = count; high = high }
