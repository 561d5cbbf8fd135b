-- Stretches of label columns that the code fills one after the other.
use Rattle.std.specs.Prelude.{◌≡◌, List, ℕ, ◌+◌, ◌-◌, ◌*◌, ◌/◌, ◌%◌, ◌^◌, ◌≤◌, ◌<◌, length, get_or}
use Rattle.field.specs.Field.{p, fsub, fmul, fpow}
use Rattle.labels.specs.Ranges.{most_columns}
use Rattle.labels.specs.Labels.{domain_generator}

-- row i of column 0
abbrev pub root_power : ℕ → ℕ → ℕ
root_power n i = fpow (domain_generator n) i

-- k times the word as far from the start as i is from `at`
abbrev pub scaled_from : ℕ → ℕ → List ℕ → ℕ → ℕ
scaled_from k at words i = fmul k (get_or words (i - at) 0)

-- p minus the word so many places before
abbrev pub negated_from : ℕ → List ℕ → ℕ → ℕ
negated_from half words i = fsub 0 (get_or words (i - half) 0)

-- N is 1, or even with w to the power of its half p - 1
pub record HalfTurn (n : ℕ) : Type 0 where
  pub even : 0 < n / 2 → n ≡ n / 2 + n / 2
  pub lone : n / 2 ≡ 0 → n ≤ 1
  pub turn : 0 < n / 2 → domain_generator n ^ (n / 2) % p ≡ (p - 1) % p

-- column 0 stands, and there is room for c columns of n rows
pub record ColumnZero (n c : ℕ) (copies : List ℕ) : Type 0 where
  pub some : 1 ≤ c
  pub columns : c ≤ most_columns
  pub room : c * n ≤ length copies
  pub powers : (i : ℕ) → i < n → get_or copies i 0 ≡ root_power n i
