-- 01, the ranges of N and C, which labels, planning and made-up plans all test.
--
-- Main definition: `ranges_fit`.
use Rattle.std.specs.Prelude.{Bool, ℕ, leb}
use Rattle.base.specs.Pick.{both}
use Rattle.base.specs.Exponent.{is_power}

-- "N is the trace length, a power of two, 1..65,536."
abbrev pub longest_trace : ℕ
longest_trace = 65536

abbrev pub trace_fits : ℕ → Bool
trace_fits n = both (leb n longest_trace) (is_power n)

-- "C: copy columns, 1..64."
abbrev pub most_columns : ℕ
most_columns = 64

abbrev pub columns_fit : ℕ → Bool
columns_fit c = both (leb 1 c) (leb c most_columns)

unfoldable pub ranges_fit : ℕ → ℕ → Bool
ranges_fit n c = both (trace_fits n) (columns_fit c)
