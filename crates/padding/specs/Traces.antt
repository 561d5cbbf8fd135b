-- Planning with another trace length: only the range of N reads it.
--
-- Main statement: `other_number`.
use Rattle.std.specs.Prelude.{◌≡◌, true, List, ℕ}
use Rattle.labels.specs.Ranges.{ranges_fit, trace_fits}
use Rattle.parameters.specs.Parameters.{range_number, flag_number, parameters_number}
use Rattle.parameters.specs.declared.parameters.Parameters.{Parameters}
use Rattle.tree.specs.Plan.{plan_number, words_number}
use Rattle.padding.specs.Padding.{with_trace}

ranges_other : (a b c : ℕ) → trace_fits a ≡ true → trace_fits b ≡ true → ranges_fit a c ≡ ranges_fit b c
unfolding ranges_fit
ranges_other a b c p q = rw (p, q)

-- with a trace length in its range planning's number is the same
pub other_number : (a b : ℕ) (p : Parameters) (gs : List ℕ) → trace_fits a ≡ true → trace_fits b ≡ true → plan_number (with_trace a p) gs ≡ plan_number (with_trace b p) gs
unfolding plan_number words_number parameters_number range_number flag_number
other_number a b p gs e f = rw (ranges_other a b p.copy e f)
