-- What planning and the labels give the columns. The theorems of `Parts` are over any setting that has it; `FromPlan` shows that a planned one does.
--
-- Main definition: `Planned`.
use Rattle.std.specs.Prelude.{◌≡◌, ◌≢◌, true, false, [], ℕ, ◌+◌, ◌≤◌, ◌<◌, length, get_or}
use Rattle.base.specs.Each.{Each}
use Rattle.field.specs.Field.{p}
use Rattle.selector.specs.Markers.{noughts}
use Rattle.selector.specs.PathLaws.{Parted}
use Rattle.pieces.specs.Setting.{Setting, copy_room}

pub record Planned (x : Setting) : Type 0 where
  pub some_rows : 0 < x.trace
  pub fits : (g : ℕ) → g < x.gates → length (x.path g) + x.own g ≤ x.height
  pub digits : (g : ℕ) → g < x.gates → Each (λ (d : ℕ). d < 2) (x.path g)
  -- neither path begins the other
  pub apart : (g h : ℕ) → g < x.gates → h < x.gates → x.placed g ≡ true → x.placed h ≡ true → g ≢ h → Parted (x.path g) (x.path h)
  -- "a dropped gate's is empty", and it has no constants
  pub dropped : (g : ℕ) → g < x.gates → x.placed g ≡ false → (x.path g ≡ []) × (x.own g ≡ 0)
  -- an evaluated gate is placed; where the all-0 path is of kind 1, it is not its path
  pub evaluated-placed : (g : ℕ) → g < x.gates → x.evaluated g ≡ true → x.placed g ≡ true
  pub evaluated-off : x.blocked ≡ false → (g : ℕ) → g < x.gates → x.evaluated g ≡ true → noughts (x.path g) ≡ 0
  pub all_labels : length x.labels ≡ copy_room x
  pub labels_below : (i : ℕ) → i < copy_room x → get_or x.labels i 0 < p
  pub labels_nonzero : (i : ℕ) → i < copy_room x → get_or x.labels i 0 ≢ 0
  pub labels_distinct : (i j : ℕ) → i < copy_room x → j < copy_room x → get_or x.labels i 0 ≡ get_or x.labels j 0 → i ≡ j
