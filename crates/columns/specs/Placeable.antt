-- Cell words that can be placed.
--
-- Main definition: `Placeable`.
use Rattle.std.specs.Prelude.{ℕ, ◌+◌, ◌*◌, ◌<◌}
use Rattle.pieces.specs.Cells.{placeholder, index_of}

-- a cell word is a placeholder, or both words of its variable are among so many scratch words
abbrev pub Placeable : ℕ → ℕ → Type 0
Placeable long w = w < placeholder → 2 * index_of w + 1 < long
