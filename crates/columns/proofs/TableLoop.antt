-- The loop that writes tables: the records that are left, written from the present buffer, give what the whole piece gives. Assumes nothing.
use mathlib.Core.Path.{◌≡◌, refl, sym, ap, ◌∙◌}
use mathlib.Core.Bool.{true}
use mathlib.Core.List.{List, [], ◌∷◌}
use Prim.Native.Nat.{ℕ, ◌+◌, ◌*◌, ◌≤◌}
use native.Mathlib.Numerals.{add-one}
use native.Mathlib.Omega.{arith}
use lib.ListN.{length, get_or, take, drop}
use Rattle.pieces.specs.Records.{Read, whole, table_size, tables_of}
use Rattle.pieces.specs.Writing.{put_lines}
use Rattle.pieces.specs.Tables.{stack_next, table_fault, tables_fault, entries, table_lines, sum_rows}
use Rattle.pieces.specs.RecordLaws.{Rest, rest_begin, rest_done, Going}
use Rattle.pieces.proofs.LineLaws.{tables_turn, sum_turn, tables_done, sum_done}
use Rattle.columns.specs.Stacked.{stack}

module _ (width trace count high : ℕ) (piece tables₀ : List ℕ) where
  pub record Stacking (tables : List ℕ) (t h i : ℕ) : Type 0 where
    pub within : i ≤ length piece
    pub left : List Read
    pub rest : Rest table_size piece i left
    pub counted : t + length left ≡ count + length (tables_of piece)
    pub stacked : sum_rows high (tables_of piece) ≡ sum_rows h left
    pub long : length tables ≡ length tables₀
    pub fine : tables_fault true width trace (stack t h) left ≡ 0
    pub lines : put_lines (width + 1) trace high (table_lines width count (tables_of piece)) tables₀ ≡ put_lines (width + 1) trace h (table_lines width t left) tables

  pub stacking_begin : tables_fault true width trace (stack count high) (tables_of piece) ≡ 0 → Stacking tables₀ count high 0
  unfolding tables_of
  stacking_begin e =
      record { within = omega arith; left = tables_of piece; rest = rest_begin table_size piece; counted = refl; stacked = refl; long = refl; fine = e; lines = refl }

  module _ (tables : List ℕ) (t h i : ℕ) (w : Stacking tables t h i) where
    pub stacking_next : Going table_size (table_fault true width trace) stack_next piece (stack t h) i w.left → get_or piece i 0 ≡ width → (tables' : List ℕ) → length tables' ≡ length tables
        → tables' ≡ put_lines (width + 1) trace h (entries width (t + 1) (get_or piece (i + 1) 0) (take (width * get_or piece (i + 1) 0) (drop (i + 2) piece))) tables
        → Stacking tables' (t + 1) (h + get_or piece (i + 1) 0) (i + 2 + width * get_or piece (i + 1) 0)
    stacking_next g wide tables' long' wrote =
        let n = get_or piece (i + 1) 0 in
        let cs = take (width * n) (drop (i + 2) piece) in
        let split : w.left ≡ whole width n cs ∷ g.later = rw wide at g.split in
        let j : get_or piece i 0 * n ≡ width * n = ap (λ (k : ℕ). k * n) wide in
        record {
          within = omega (arith, g.two, g.fits, j);
          left = g.later;
          rest = rw wide at g.rest;
          counted = omega (arith, w.counted, ap length split);
          stacked = w.stacked ∙ ap (sum_rows h) split ∙ sum_turn width trace t h width n cs g.later;
          long = long' ∙ w.long;
          fine = rw (add-one t) g.fine;
          lines =
              w.lines ∙ ap (λ (l : List Read). put_lines (width + 1) trace h (table_lines width t l) tables) split
              ∙ tables_turn width trace t h width n cs g.later tables
              ∙ ap (put_lines (width + 1) trace (h + n) (table_lines width (t + 1) g.later)) (sym wrote);
        }

    pub stacking_none : length piece ≤ i → w.left ≡ []
    stacking_none h' = rest_done table_size piece i w.left w.rest h'

    pub stacking_count : length piece ≤ i → t ≡ count + length (tables_of piece)
    stacking_count h' = omega (arith, w.counted, ap length (stacking_none h'))

    pub stacking_high : length piece ≤ i → h ≡ sum_rows high (tables_of piece)
    stacking_high h' = sym (w.stacked ∙ ap (sum_rows h) (stacking_none h') ∙ sum_done h)

    pub stacking_lines : length piece ≤ i → tables ≡ put_lines (width + 1) trace high (table_lines width count (tables_of piece)) tables₀
    stacking_lines h' =
        sym (w.lines ∙ ap (λ (l : List Read). put_lines (width + 1) trace h (table_lines width t l) tables) (stacking_none h') ∙ tables_done width trace t h tables)
