-- Private to the test for a made-up plan: what was met and whether nothing was wrong, as one walk.
--
-- Main definitions: `walk`, `Most`.
use Rattle.std.specs.Prelude.{max, ◌≤◌, Bool}
use Rattle.selector.specs.Walk.{Walk}
use Rattle.tree.specs.declared.made_up.Met.{Met}

abbrev pub walk : Met → Bool → Walk
walk m fine = record { marks = m.marks; fine = fine; degree = m.degree; constants = m.constants }

-- a degree at depth is at most 200
pub record Most (before after : Met) : Type 0 where
  pub small : after.degree ≤ max before.degree 200
