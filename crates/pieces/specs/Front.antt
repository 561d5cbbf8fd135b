-- A piece as a loop meets it: one record after the other.
--
-- Main definition: `front`.
use Rattle.std.specs.Prelude.{List, ℕ, ◌-◌, length, get_or, take, drop, leb}
use Rattle.base.specs.Pick.{pick}
use Rattle.pieces.specs.Records.{Read, whole, cut}

-- the record at the front of some words, as a loop over a piece meets it
unfoldable pub front : (ℕ → ℕ → ℕ) → List ℕ → Read
front size ws =
    pick (leb 2 (length ws))
    (pick (leb (size (get_or ws 0 0) (get_or ws 1 0)) (length ws - 2))
    (whole (get_or ws 0 0) (get_or ws 1 0) (take (size (get_or ws 0 0) (get_or ws 1 0)) (drop 2 ws)))
    cut)
    cut
