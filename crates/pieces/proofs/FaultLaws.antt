-- Laws of the numbers of row, S word and table records: one equation for each cause, and what no fault says.
--
-- Main definitions: `RowFine`, `Alike`, `TableFine`. Main statements: `row_fine`, `rows_room`, `word_fine`, `words_room`, `table_fine`, `tables_room`, `rows_alike`, `no_tables` and the equations.
use Rattle.std.specs.Prelude.{◌≡◌, ◌≢◌, Bool, List, [], ◌∷◌, length, get_or, ltb, leb, eqb}
use Rattle.std.proofs.Math.Path.{refl}
use Rattle.std.proofs.Common.{sym, ap, ◌∙◌, arith}
use Rattle.std.proofs.Math.Bool.{true, false}
use Prim.Native.Nat.{ℕ, suc, ◌+◌, ◌-◌, ◌*◌, ◌≤◌, ◌<◌}
use Rattle.std.proofs.Math.Decide.{dec_le, dec_lt}
use borrow.Author.Tests.{lt-ltb, le-ltb, le-leb, lt-leb, eq-eqb, ne_eqb, ltb-true, leb-true, eqb-true}
use Rattle.base.specs.Pick.{pick, pick-zero}
use Rattle.field.specs.Field.{p}
use Rattle.pieces.specs.Setting.{most_tables}
use Rattle.pieces.specs.Records.{Read, whole, cut, row_size, table_size, all_below}
use Rattle.pieces.specs.Front.{front}
use Rattle.pieces.specs.Rows.{Gates, row_fault, rows_fault}
use Rattle.pieces.specs.SWords.{s_word_fault, s_words_fault}
use Rattle.pieces.specs.Tables.{Stack, stack_next, table_fault, tables_fault, sum_rows}
use Rattle.pieces.specs.RecordLaws.{fault_head, first_same, front_cut, front_whole}

-- ---- rows
pub record RowFine (gs : Gates) (N r g n : ℕ) (cs : List ℕ) : Type 0 where
  pub known : g < gs.many
  pub few : n ≤ gs.own g
  pub free : gs.bar g ≡ false
  pub small : all_below p cs ≡ true
  pub room : r < N

module _ (gs : Gates) (N r : ℕ) where
  pub row_cut : row_fault gs N r cut ≡ 12
  unfolding row_fault
  row_cut = refl

  module _ (g n : ℕ) (cs : List ℕ) where
    pub row_unknown : gs.many ≤ g → row_fault gs N r (whole g n cs) ≡ 12
    unfolding row_fault
    row_unknown h = rw (le-ltb g gs.many h)

    pub row_long : g < gs.many → gs.own g < n → row_fault gs N r (whole g n cs) ≡ 12
    unfolding row_fault
    row_long h k = rw (lt-ltb g gs.many h, lt-leb n (gs.own g) k)

    pub row_barred : g < gs.many → n ≤ gs.own g → gs.bar g ≡ true → row_fault gs N r (whole g n cs) ≡ 23
    unfolding row_fault
    row_barred h k b = rw (lt-ltb g gs.many h, le-leb n (gs.own g) k, b)

    pub row_large : g < gs.many → n ≤ gs.own g → gs.bar g ≡ false → all_below p cs ≡ false → row_fault gs N r (whole g n cs) ≡ 11
    unfolding row_fault
    row_large h k f b = rw (lt-ltb g gs.many h, le-leb n (gs.own g) k, f, b)

    pub row_past : g < gs.many → n ≤ gs.own g → gs.bar g ≡ false → all_below p cs ≡ true → N ≤ r → row_fault gs N r (whole g n cs) ≡ 13
    unfolding row_fault
    row_past h k f b l = rw (lt-ltb g gs.many h, le-leb n (gs.own g) k, f, b, le-ltb r N l)

    pub row_good : RowFine gs N r g n cs → row_fault gs N r (whole g n cs) ≡ 0
    unfolding row_fault
    row_good f = rw (lt-ltb g gs.many f.known, le-leb n (gs.own g) f.few, f.free, f.small, lt-ltb r N f.room)

    pub row_fine : row_fault gs N r (whole g n cs) ≡ 0 → RowFine gs N r g n cs
    unfolding row_fault
    row_fine e =
        let t3 : ℕ = pick (all_below p cs) (pick (ltb r N) 0 13) 11 in
        let t2 : ℕ = pick (gs.bar g) 23 t3 in
        let a = pick-zero (ltb g gs.many) (pick (leb n (gs.own g)) t2 12) 12 (λ q. omega arith) e in
        let b = pick-zero (leb n (gs.own g)) t2 12 (λ q. omega arith) a.1 in
        let f = not-barred (gs.bar g) t3 b.1 in
        let c = pick-zero (all_below p cs) (pick (ltb r N) 0 13) 11 (λ q. omega arith) f.1 in
        let d = pick-zero (ltb r N) 0 13 (λ q. omega arith) c.1 in
        record { known = ltb-true g gs.many a.0; few = leb-true n (gs.own g) b.0; free = f.0; small = c.0; room = ltb-true r N d.0 }
      where
        not-barred : (t : Bool) (m : ℕ) → pick t 23 m ≡ 0 → (t ≡ false) × (m ≡ 0)
        not-barred true m z = absurd (omega arith)
        not-barred false m z = (refl, z)

-- the record at the front of the words, by its first word and by its second: cut short or not, the number is 12
module _ (gs : Gates) (N r : ℕ) (ws : List ℕ) (two : 2 ≤ length ws) where
  row_front : ((cs : List ℕ) → row_fault gs N r (whole (get_or ws 0 0) (get_or ws 1 0) cs) ≡ 12) → row_fault gs N r (front row_size ws) ≡ 12
  row_front h = go (dec_le (get_or ws 1 0) (length ws - 2))
    where
      go : Dec (get_or ws 1 0 ≤ length ws - 2) → row_fault gs N r (front row_size ws) ≡ 12
      go (yes k) = ap (row_fault gs N r) (front_whole row_size ws two k) ∙ h _
      go (no k) = ap (row_fault gs N r) (front_cut row_size ws two (omega arith)) ∙ row_cut gs N r

  pub front_unknown : gs.many ≤ get_or ws 0 0 → row_fault gs N r (front row_size ws) ≡ 12
  front_unknown h = row_front (λ cs. row_unknown gs N r (get_or ws 0 0) (get_or ws 1 0) cs h)

  pub front_long : get_or ws 0 0 < gs.many → gs.own (get_or ws 0 0) < get_or ws 1 0 → row_fault gs N r (front row_size ws) ≡ 12
  front_long h k = row_front (λ cs. row_long gs N r (get_or ws 0 0) (get_or ws 1 0) cs h k)

-- a piece of rows without a fault fits the trace
pub rows_room : (gs : Gates) (N r : ℕ) (ts : List Read) → r ≤ N → rows_fault gs N r ts ≡ 0 → r + length ts ≤ N
rows_room gs N r [] h e = omega arith
rows_room gs N r (cut ∷ ts) h e =
    let f = fault_head (row_fault gs N) (λ r _. suc r) r cut ts e in absurd (omega (arith, f.0, row_cut gs N r))
rows_room gs N r (whole g n cs ∷ ts) h e =
    let f = fault_head (row_fault gs N) (λ r _. suc r) r (whole g n cs) ts e in
    omega (arith, rows_room gs N (suc r) ts (row_fine gs N r g n cs f.0).room f.1)

-- two tellings of the gates that agree on those that are listed
pub record Alike (a b : Gates) : Type 0 where
  pub many_same : a.many ≡ b.many
  pub own_same : (g : ℕ) → g < a.many → a.own g ≡ b.own g
  pub bar_same : (g : ℕ) → g < a.many → a.bar g ≡ b.bar g

row_alike : (a b : Gates) → Alike a b → (N r : ℕ) (t : Read) → row_fault a N r t ≡ row_fault b N r t
unfolding row_fault
row_alike a b e N r cut = refl
row_alike a b e N r (whole g n cs) = go (dec_lt g a.many)
  where
    go : Dec (g < a.many) → row_fault a N r (whole g n cs) ≡ row_fault b N r (whole g n cs)
    go (no h) = row_unknown a N r g n cs (omega arith) ∙ sym (row_unknown b N r g n cs (omega (arith, e.many_same)))
    go (yes h) = rw (e.many_same, e.own_same g h, e.bar_same g h)

-- only listed gates count
pub rows_alike : (a b : Gates) → Alike a b → (N r : ℕ) (ts : List Read) → rows_fault a N r ts ≡ rows_fault b N r ts
rows_alike a b e N r ts = first_same (row_fault a N) (row_fault b N) (λ r _. suc r) (row_alike a b e N) r ts

-- ---- S words
module _ (total k w : ℕ) where
  pub word_fine : s_word_fault total k w ≡ 0 → (k < total) × (w < p)
  unfolding s_word_fault
  word_fine e =
      let a = pick-zero (ltb k total) (pick (ltb w p) 0 11) 13 (λ q. omega arith) e in
      let b = pick-zero (ltb w p) 0 11 (λ q. omega arith) a.1 in
      (ltb-true k total a.0, ltb-true w p b.0)

pub words_room : (total k : ℕ) (ws : List ℕ) → k ≤ total → s_words_fault total k ws ≡ 0 → k + length ws ≤ total
words_room total k [] h e = omega arith
words_room total k (w ∷ ws) h e =
    let f = fault_head (s_word_fault total) (λ k _. suc k) k w ws e in
    omega (arith, words_room total (suc k) ws (word_fine total k w f.0).0 f.1)

-- ---- tables
pub record TableFine (lookup : Bool) (W N : ℕ) (s : Stack) (w n : ℕ) (cs : List ℕ) : Type 0 where
  pub looked : lookup ≡ true
  pub wide : w ≡ W
  pub few : s.count < most_tables
  pub room : s.high + n ≤ N
  pub small : all_below p cs ≡ true

module _ (lookup : Bool) (W N : ℕ) (s : Stack) where
  pub table-cut : table_fault lookup W N s cut ≡ 15
  unfolding table_fault
  table-cut = refl

  pub table_mode : (t : Read) → lookup ≡ false → table_fault lookup W N s t ≡ 15
  unfolding table_fault
  table_mode cut e = refl
  table_mode (whole w n cs) e = rw e

  module _ (w n : ℕ) (cs : List ℕ) where
    pub table_width : lookup ≡ true → w ≢ W → table_fault lookup W N s (whole w n cs) ≡ 15
    unfolding table_fault
    table_width e d = rw (e, ne_eqb w W d)

    pub table-count : lookup ≡ true → w ≡ W → most_tables ≤ s.count → table_fault lookup W N s (whole w n cs) ≡ 15
    unfolding table_fault
    table-count e q h = rw (e, eq-eqb w W q, le-ltb s.count most_tables h)

    pub table_past : lookup ≡ true → w ≡ W → s.count < most_tables → N < s.high + n → table_fault lookup W N s (whole w n cs) ≡ 15
    unfolding table_fault
    table_past e q h l = rw (e, eq-eqb w W q, lt-ltb s.count most_tables h, lt-leb (s.high + n) N l)

    pub table_large : lookup ≡ true → w ≡ W → s.count < most_tables → s.high + n ≤ N → all_below p cs ≡ false → table_fault lookup W N s (whole w n cs) ≡ 11
    unfolding table_fault
    table_large e q h l b = rw (e, eq-eqb w W q, lt-ltb s.count most_tables h, le-leb (s.high + n) N l, b)

    pub table_good : TableFine lookup W N s w n cs → table_fault lookup W N s (whole w n cs) ≡ 0
    unfolding table_fault
    table_good f =
        rw (f.looked, eq-eqb w W f.wide, lt-ltb s.count most_tables f.few, le-leb (s.high + n) N f.room, f.small)

    pub table_fine : table_fault lookup W N s (whole w n cs) ≡ 0 → TableFine lookup W N s w n cs
    unfolding table_fault
    table_fine e =
        let t4 : ℕ = pick (all_below p cs) 0 11 in
        let t3 : ℕ = pick (leb (s.high + n) N) t4 15 in
        let t2 : ℕ = pick (ltb s.count most_tables) t3 15 in
        let a = pick-zero lookup (pick (eqb w W) t2 15) 15 (λ q. omega arith) e in
        let b = pick-zero (eqb w W) t2 15 (λ q. omega arith) a.1 in
        let c = pick-zero (ltb s.count most_tables) t3 15 (λ q. omega arith) b.1 in
        let d = pick-zero (leb (s.high + n) N) t4 15 (λ q. omega arith) c.1 in
        let f = pick-zero (all_below p cs) 0 11 (λ q. omega arith) d.1 in
        record { looked = a.0; wide = eqb-true w W b.0; few = ltb-true s.count most_tables c.0; room = leb-true (s.high + n) N d.0; small = f.0 }

-- the record at the front of the words, by its first words: cut short or not, the number is 15
module _ (lookup : Bool) (W N : ℕ) (s : Stack) (ws : List ℕ) (two : 2 ≤ length ws) where
  pub table-front : ((cs : List ℕ) → table_fault lookup W N s (whole (get_or ws 0 0) (get_or ws 1 0) cs) ≡ 15) → table_fault lookup W N s (front table_size ws) ≡ 15
  table-front h = go (dec_le (get_or ws 0 0 * get_or ws 1 0) (length ws - 2))
    where
      go : Dec (get_or ws 0 0 * get_or ws 1 0 ≤ length ws - 2) → table_fault lookup W N s (front table_size ws) ≡ 15
      go (yes k) = ap (table_fault lookup W N s) (front_whole table_size ws two k) ∙ h _
      go (no k) = ap (table_fault lookup W N s) (front_cut table_size ws two (omega arith)) ∙ table-cut lookup W N s

-- a piece of tables without a fault fits the trace, and 255 tables
pub tables_room : (lookup : Bool) (W N : ℕ) (s : Stack) (ts : List Read) → s.high ≤ N → s.count ≤ most_tables → tables_fault lookup W N s ts ≡ 0
    → (sum_rows s.high ts ≤ N) × (s.count + length ts ≤ most_tables)
unfolding sum_rows
tables_room lookup W N s [] h k e = (h, omega arith)
tables_room lookup W N s (cut ∷ ts) h k e =
    let f = fault_head (table_fault lookup W N) stack_next s cut ts e in absurd (omega (arith, f.0, table-cut lookup W N s))
tables_room lookup W N s (whole w n cs ∷ ts) h k e =
    let f = fault_head (table_fault lookup W N) stack_next s (whole w n cs) ts e in
    let g = table_fine lookup W N s w n cs f.0 in
    let r = tables_room lookup W N (stack_next s (whole w n cs)) ts g.room g.few f.1 in
    (r.0, omega (arith, r.1))

-- without a lookup mode a piece of tables without a fault is empty
pub no_tables : (W N : ℕ) (s : Stack) (ts : List Read) → tables_fault false W N s ts ≡ 0 → ts ≡ []
no_tables W N s [] e = refl
no_tables W N s (t ∷ ts) e =
    let f = fault_head (table_fault false W N) stack_next s t ts e in absurd (omega (arith, f.0, table_mode false W N s t refl))
