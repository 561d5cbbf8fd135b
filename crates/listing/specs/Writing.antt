-- The listing of given sections.
use mathlib.Core.List.{List, [], ◌∷◌, ◌++◌}
use Prim.Native.Nat.{ℕ, ◌/◌}
use Rattle.std.proofs.Math.ListN.{length}
use Rattle.selector.specs.Gates.{gate_words}
use Rattle.pieces.specs.Records.{rows_of, tables_of}
use Rattle.listing.specs.Listing.{Words}

-- "Sections, each after its count"
abbrev pub counted : ℕ → List ℕ → List ℕ → List ℕ
counted n ws rest = n ∷ (ws ++ rest)

unfoldable pub written : Words → List ℕ
written w =
    counted (length w.parameters) w.parameters
    (counted (length w.gates / gate_words) w.gates
    (counted (length (rows_of w.rows)) w.rows
    (counted (length w.s_words) w.s_words
    (counted (length w.cells) w.cells
    (counted (length (tables_of w.tables)) w.tables [])))))
