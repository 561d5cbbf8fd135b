-- What the tests of an unpadded circuit say, in the code's terms.
--
-- Main definitions: `Capped`, `six_of`, `gate_or`, `Judging`.
use Rattle.std.specs.Prelude.{◌≡◌, List, ℕ, ◌+◌, ◌≤◌, ◌<◌, Option, Some, None, Result, IfOk}
use Rattle.labels.specs.Ranges.{longest_trace}
use Rattle.listing.specs.Listing.{Words}
use Rattle.padding.specs.Padding.{length_of, filler_of, pad_number}
use Rattle.padding.specs.declared.judging.Judged.{Judged}
use Rattle.refusal.specs.declared.Refusal.{Refusal}
use Rattle.refusal.specs.Refusal.{answer_number}

-- a number, or any above 65,536 where it is above
pub record Capped (n r : ℕ) : Type 0 where
  pub same : n ≤ longest_trace → r ≡ n
  pub above : longest_trace < n → longest_trace < r
  pub small : r ≤ longest_trace + 1

abbrev pub six_of : List ℕ → List ℕ → List ℕ → List ℕ → List ℕ → List ℕ → Words
six_of p g r s c t = record { parameters = p; gates = g; rows = r; s_words = s; cells = c; tables = t }

-- the gate that was found, or another number
abbrev pub gate_or : ℕ → Option ℕ → ℕ
gate_or none (Some g) = g
gate_or none None = none

pub record Judging (w : Words) (r : Result Judged Refusal) : Type 0 where
  pub number_is : answer_number r ≡ pad_number w
  pub judged_is : IfOk r (λ j. (j.length ≡ length_of w) × (j.gate ≡ filler_of w.gates))
