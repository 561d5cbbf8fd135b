-- The loop that sums the rows of whole tables.
--
-- Main definition: `Summing`. Main statements: `summing_begin`, `summing_here`, `summing_next`, `summing_passed`, `summing_done`.
use Rattle.std.specs.Prelude.{◌≡◌, ◌≢◌, List, [], ◌∷◌, ℕ, ◌+◌, ◌*◌, ◌≤◌, ◌<◌, length, drop}
use Rattle.std.proofs.Math.Path.{refl, ap}
use Rattle.std.proofs.Common.{◌∙◌, subst, arith}
use Rattle.std.proofs.Math.ListN.{get_or}
use Rattle.pieces.specs.Records.{Read, whole, cut, table_size, tables_of, read_by}
use Rattle.pieces.specs.Front.{front}
use Rattle.base.specs.Each.{Each}
use Rattle.pieces.specs.RecordLaws.{Whole, Rest, Uncut, uncut, rest_begin, rest-front, rest_whole, rest_done}
use Rattle.pieces.specs.Tables.{table_rows_in, sum_rows}

-- the tables from the word i on, after so many rows
pub record Summing (ws : List ℕ) (sum i : ℕ) : Type 0 where
  pub within : i ≤ length ws
  pub left : List Read
  pub rest : Rest table_size ws i left
  pub all_whole : Each Whole left
  pub same : sum_rows 0 (tables_of ws) ≡ sum_rows sum left

-- a sum only grows
sum_grows : (h : ℕ) (ts : List Read) → h ≤ sum_rows h ts
unfolding sum_rows
sum_grows h [] = omega arith
sum_grows h (t ∷ ts) = omega (arith, sum_grows (h + table_rows_in t) ts)

module _ (ws : List ℕ) where
  pub summing_begin : Each Whole (tables_of ws) → Summing ws 0 0
  unfolding tables_of
  summing_begin a = record { within = omega arith; left = read_by table_size (length ws) ws; rest = rest_begin table_size ws; all_whole = a; same = refl }

  module _ (sum i : ℕ) (s : Summing ws sum i) where
    pub summing_done : length ws ≤ i → sum_rows 0 (tables_of ws) ≡ sum
    unfolding sum_rows
    summing_done h = s.same ∙ ap (sum_rows sum) (rest_done table_size ws i s.left s.rest h)

    not-cut : (t : Read) → Whole t → t ≢ cut
    not-cut cut w e = w
    not-cut (whole a b cs) w e = let z : ◌≡◌ {A = ℕ} 0 1 = cc in omega arith

    pub summing_here : i < length ws → Uncut table_size ws i
    summing_here h =
        let f = rest-front table_size ws i s.left s.rest h in
        let w : Whole (front table_size (drop i ws)) = (subst (Each Whole) f.1 s.all_whole).0 in
        uncut table_size ws i (not-cut (front table_size (drop i ws)) w)

    module _ (u : Uncut table_size ws i) where
      pub summing_next : i + 2 + get_or ws i 0 * get_or ws (i + 1) 0 ≤ length ws → Summing ws (sum + get_or ws (i + 1) 0) (i + 2 + get_or ws i 0 * get_or ws (i + 1) 0)
      unfolding sum_rows
      summing_next h =
          let n = rest_whole table_size ws i s.left s.rest u.two u.fits in
          record {
            within = h;
            left = n.later;
            rest = n.rest;
            all_whole = (subst (Each Whole) n.split s.all_whole).1;
            same = s.same ∙ ap (sum_rows sum) n.split;
          }

      pub summing_passed : sum + get_or ws (i + 1) 0 ≤ sum_rows 0 (tables_of ws)
      unfolding sum_rows
      summing_passed =
          let n = rest_whole table_size ws i s.left s.rest u.two u.fits in
          let e = s.same ∙ ap (sum_rows sum) n.split in
          omega (arith, e, sum_grows (sum + get_or ws (i + 1) 0) n.later)
