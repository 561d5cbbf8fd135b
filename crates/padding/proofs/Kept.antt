-- 02, Change 1: what a padding keeps and what it fills in, and that its listing is read back.
--
-- Main statements: `length_smallest`; `stretched-kept`, `stretched_filled` and from them `s-words-kept`, `s-words_filled`, `cells_kept`, `cells_filled` (each S word and cell); `filler_first`, `kept_rows`
-- (the rows); `padded-read`.
use Rattle.std.specs.Prelude.{◌≡◌, List, [], ◌++◌, ℕ, zero, suc, ◌+◌, ◌-◌, ◌*◌, ◌^◌, ◌≤◌, ◌<◌, ◌≢◌, eqb, length, get_or, replicate}
use Rattle.std.proofs.Common.{sym, ap, ◌∙◌, subst, mul-le-mul, arith, eq-eqb, ne_eqb, length-drop}
use Rattle.std.proofs.Math.Decide.{ℕ_discrete}
use Rattle.std.proofs.lemmas.List.{length-replicate, get_or-replicate}
use Rattle.pieces.specs.Records.{whole, rows_of, tables_of}
use Rattle.base.specs.Pick.{pick}
use Rattle.parameters.specs.Parameters.{parameters_at}
use Rattle.pieces.specs.Cells.{placeholder}
use Rattle.pieces.specs.Tables.{sum_rows}
use Rattle.selector.specs.Gates.{kind_of}
use Rattle.selector.specs.Refusals.{count_of_gates}
use Rattle.base.specs.Each.{Each, each_append}
use Rattle.pieces.specs.RecordLaws.{Whole}
use Rattle.listing.specs.Listing.{Words, read}
use Rattle.listing.specs.Writing.{written}
use Rattle.listing.proofs.Written.{Sound, read-written}
use Rattle.writer.specs.Besides.{besides_upper, besides_lower}
use Rattle.padding.specs.Padding.{given, least, length_of, filler_from, filler_of, stretched, padded, pad_number}
use Rattle.padding.proofs.PaddingLaws.{good, good_columns, length_covers, padded_rows}
use Rattle.padding.specs.Lengths.{power_least}

-- "The length is the smallest power of two not below used rows plus one, the table rows and N." That it is not below them is `length_covers`.
pub length_smallest : (w : Words) (e : ℕ) → length (rows_of w.rows) + 1 ≤ 2 ^ e → sum_rows 0 (tables_of w.tables) ≤ 2 ^ e → given w ≤ 2 ^ e → length_of w ≤ 2 ^ e
unfolding length_of least
length_smallest w e a b c = power_least (least w) e (omega (arith, a, b, c))

-- ---- S words and cells
module _ (fill n l k : ℕ) (ws : List ℕ) (h : n ≤ l) (e : length ws ≡ k * n) where
  abbrev m : ℕ
  m = l - n

  abbrev rest : List ℕ
  rest = replicate (k * m) fill

  whole_column : l ≡ n + m
  whole_column = omega arith

  -- a given word stands in its column and row
  pub stretched-kept : (c r : ℕ) → c < k → r < n → get_or (stretched fill n l k ws) (c * l + r) 0 ≡ get_or ws (c * n + r) 0
  stretched-kept c r p q =
      ap (λ (j : ℕ). get_or (stretched fill n l k ws) (c * j + r) 0) whole_column ∙ besides_upper n m k ws rest e (length-replicate (k * m) fill) c r p q

  -- every other word of a column is the fill
  pub stretched_filled : (c r : ℕ) → c < k → n ≤ r → r < l → get_or (stretched fill n l k ws) (c * l + r) 0 ≡ fill
  stretched_filled c r p q i =
      let b : (c + 1) * m ≤ k * m = mul-le-mul (let z : c + 1 ≤ k = omega arith in z) (let z : m ≤ m = omega arith in z) in
      let s : r ≡ n + (r - n) = omega arith in
      ap (λ (j : ℕ). get_or (stretched fill n l k ws) (c * j + r) 0) whole_column
      ∙ ap (λ (j : ℕ). get_or (stretched fill n l k ws) (c * (n + m) + j) 0) s
      ∙ besides_lower n m k ws rest e (length-replicate (k * m) fill) c (r - n) p (omega arith)
      ∙ get_or-replicate (k * m) (c * m + (r - n)) fill 0 (omega (arith, b))

-- "missing cells 9223372036854775808, missing S words zero": of a circuit that is padded
module _ (w : Words) (z : pad_number w ≡ 0) where
  long : (length w.s_words ≡ (parameters_at w.parameters).specialised * given w) × (length w.cells ≡ (parameters_at w.parameters).copy * given w)
  long = good_columns w (good w z)

  module _ (c r : ℕ) (i : c < (parameters_at w.parameters).specialised) where
    pub s-words-kept : r < given w → get_or (padded w).s_words (c * length_of w + r) 0 ≡ get_or w.s_words (c * given w + r) 0
    s-words-kept q = stretched-kept 0 (given w) (length_of w) (parameters_at w.parameters).specialised w.s_words (length_covers w).1 long.0 c r i q

    pub s-words_filled : given w ≤ r → r < length_of w → get_or (padded w).s_words (c * length_of w + r) 0 ≡ 0
    s-words_filled q u = stretched_filled 0 (given w) (length_of w) (parameters_at w.parameters).specialised w.s_words (length_covers w).1 long.0 c r i q u

  module _ (c r : ℕ) (i : c < (parameters_at w.parameters).copy) where
    pub cells_kept : r < given w → get_or (padded w).cells (c * length_of w + r) 0 ≡ get_or w.cells (c * given w + r) 0
    cells_kept q = stretched-kept placeholder (given w) (length_of w) (parameters_at w.parameters).copy w.cells (length_covers w).1 long.1 c r i q

    pub cells_filled : given w ≤ r → r < length_of w → get_or (padded w).cells (c * length_of w + r) 0 ≡ 9223372036854775808
    cells_filled q u = stretched_filled placeholder (given w) (length_of w) (parameters_at w.parameters).copy w.cells (length_covers w).1 long.1 c r i q u

-- ---- rows: the given records, then those of the missing rows
filler-from : (gs : List ℕ) (k g : ℕ) → ((j : ℕ) → g ≤ j → j < filler_from k g gs → kind_of gs j ≢ 1) × (filler_from k g gs < g + k → kind_of gs (filler_from k g gs) ≡ 1)
unfolding filler_from
filler-from gs zero g = (λ j a b. absurd (omega arith), λ h. absurd (omega arith))
filler-from gs (suc k) g = by (ℕ_discrete (kind_of gs g) 1) (filler-from gs k (suc g))
  where
    by : Dec (kind_of gs g ≡ 1) → ((j : ℕ) → suc g ≤ j → j < filler_from k (suc g) gs → kind_of gs j ≢ 1) × (filler_from k (suc g) gs < suc g + k → kind_of gs (filler_from k (suc g) gs) ≡ 1)
        → ((j : ℕ) → g ≤ j → j < pick (eqb (kind_of gs g) 1) g (filler_from k (suc g) gs) → kind_of gs j ≢ 1) × (pick (eqb (kind_of gs g) 1) g (filler_from k (suc g) gs) < g + suc k → kind_of gs (pick (eqb (kind_of gs g) 1) g (filler_from k (suc g) gs)) ≡ 1)
    by (yes e) r = rw (eq-eqb (kind_of gs g) 1 e) (λ j a b. absurd (omega arith), λ h. e)
    by (no d) r = rw (ne_eqb (kind_of gs g) 1 d) (λ j a b. step j a b (ℕ_discrete g j), λ h. r.1 (omega arith))
      where
        step : (j : ℕ) → g ≤ j → j < filler_from k (suc g) gs → Dec (g ≡ j) → kind_of gs j ≢ 1
        step j a b (yes e) = λ z. d (ap (kind_of gs) e ∙ z)
        step j a b (no n) = r.0 j (omega arith) b

-- "the first kind 1 gate": no gate before it is of kind 1, and it is, unless "no kind 1 gate is listed"
pub filler_first : (gs : List ℕ) → ((j : ℕ) → j < filler_of gs → kind_of gs j ≢ 1) × (filler_of gs < count_of_gates gs → kind_of gs (filler_of gs) ≡ 1)
filler_first gs = let f = filler-from gs (count_of_gates gs) 0 in (λ j h. f.0 j (omega arith) h, λ h. f.1 (omega arith))

-- "Missing rows become those of the first kind 1 gate": the given records, then only those, without constants
pub kept_rows : (w : Words) → Sound w → rows_of (padded w).rows ≡ rows_of w.rows ++ replicate (length_of w - length (rows_of w.rows)) (whole (filler_of w.gates) 0 [])
kept_rows w q = padded_rows w.rows (length_of w - length (rows_of w.rows)) (filler_of w.gates) q.whole_rows

fillers_whole : (m g : ℕ) → Each Whole (replicate m (whole g 0 []))
fillers_whole zero g = tt
fillers_whole (suc m) g = (tt, fillers_whole m g)

-- ---- the padded listing is a listing, and is read back
padded_sound : (w : Words) → Sound w → Sound (padded w)
padded_sound w q =
    let m = length_of w - length (rows_of w.rows) in
    let g = filler_of w.gates in
    record {
      eight-words = omega (arith, length-drop 1 w.parameters, q.eight-words);
      whole_gates = q.whole_gates;
      whole_rows = subst (Each Whole) (sym (kept_rows w q)) (each_append Whole (rows_of w.rows) (replicate m (whole g 0 [])) q.whole_rows (fillers_whole m g));
      whole_tables = q.whole_tables;
    }

pub padded-read : (w : Words) → Sound w → read (written (padded w)) ≡ Rattle.listing.specs.Listing.whole (padded w)
padded-read w q = read-written (padded w) (padded_sound w q)
