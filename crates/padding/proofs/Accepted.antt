-- 02, Change 1: "The padded circuit must meet everything promised of a full one."
--
-- Main statement: `padded_accepted`.
use Rattle.std.specs.Prelude.{◌≡◌, refl, Bool, false, List, [], ◌∷◌, ◌++◌, get_or, take, drop, ltb, eqb}
use Rattle.std.proofs.Common.{sym, ◌∙◌, arith, length-append, set-set}
use Rattle.std.proofs.Math.Path.{ap}
use Rattle.std.proofs.Math.Bool.{true}
use Prim.Native.Nat.{ℕ, zero, suc, ◌+◌, ◌-◌, ◌*◌, ◌≤◌, ◌<◌}
use Rattle.std.proofs.Math.ListN.{length, set, replicate}
use Rattle.std.proofs.lemmas.List.{length-replicate}
use borrow.Author.Tests.{eq-eqb, lt-ltb}
use Rattle.base.specs.Firsts.{first-none, first-zero}
use Rattle.base.specs.Pick.{pick, both, pick-zero, pick_yes}
use Rattle.field.specs.Field.{p}
use Rattle.pieces.specs.Setting.{Setting}
use Rattle.pieces.specs.Opening.{open_state}
use Rattle.pieces.specs.Records.{Read, whole, cut, rows_of, all_below, first_fault}
use Rattle.base.specs.Each.{Each, each_append}
use Rattle.pieces.specs.RecordLaws.{fault_head, fault_later, fault_each}
use Rattle.pieces.specs.Rows.{Gates, gates_of, row_fault, rows_fault, marked}
use Rattle.parameters.specs.Parameters.{parameters_at}
use Rattle.pieces.specs.SWords.{s_word_fault, s_words_fault}
use Rattle.pieces.specs.Cells.{placeholder, index_of, cell_fault, cells_fault}
use Rattle.pieces.specs.Finishing.{complete, all_used}
use Rattle.pieces.proofs.FaultLaws.{row_good, word_fine}
use Rattle.columns.specs.Sections.{contents_number, unpadded_number, unpadded_last, pieces_fault, after_pieces}
use Rattle.listing.specs.Listing.{Words}
use Rattle.listing.proofs.Written.{Sound}
use Rattle.writer.specs.Besides.{besides}
use Rattle.padding.specs.Padding.{given, length_of, padded_setting, filler_of, padded}
use Rattle.padding.proofs.PaddingLaws.{Good, Numbers, length_covers, good_columns, good_numbers, padded-s, padded-c}
use Rattle.padding.proofs.Kept.{filler_first, kept_rows}

-- ---- rows: missing rows have no fault as long as they are below N
same_rows : (gs : Gates) (N r m g : ℕ) → g < gs.many → gs.bar g ≡ false → r + m ≤ N → rows_fault gs N r (replicate m (whole g 0 [])) ≡ 0
unfolding first_fault all_below
same_rows gs N r zero g k b h = refl
same_rows gs N r (suc m) g k b h =
    fault_later (row_fault gs N) (λ r _. suc r) r (whole g 0 []) (replicate m (whole g 0 [])) (row_good gs N r g 0 [] (record { known = k; few = omega arith; free = b; small = refl; room = omega arith }))
    ∙ same_rows gs N (suc r) m g k b (omega arith)

rows_filled : (gs : Gates) (N r m g : ℕ) (rs : List Read) → rows_fault gs N r rs ≡ 0 → g < gs.many → gs.bar g ≡ false → r + length rs + m ≤ N
    → rows_fault gs N r (rs ++ replicate m (whole g 0 [])) ≡ 0
rows_filled gs N r m g [] e k b h = same_rows gs N r m g k b (omega arith)
rows_filled gs N r m g (t ∷ rs) e k b h =
    let f = fault_head (row_fault gs N) (λ r _. suc r) r t rs e in
    fault_later (row_fault gs N) (λ r _. suc r) r t (rs ++ replicate m (whole g 0 [])) f.0 ∙ rows_filled gs N (suc r) m g rs f.1 k b (omega arith)

-- marking a gate again changes nothing
marked_same : (u : List ℕ) (m g : ℕ) → marked u (replicate (suc m) (whole g 0 [])) ≡ set u g 1
unfolding marked
marked_same u zero g = refl
marked_same u (suc m) g = marked_same (set u g 1) m g ∙ set-set u g 1 1

marked_filled : (u : List ℕ) (rs : List Read) (m g : ℕ) → marked u (rs ++ replicate (suc m) (whole g 0 [])) ≡ set (marked u rs) g 1
unfolding marked
marked_filled u [] m g = marked_same u m g
marked_filled u (cut ∷ rs) m g = marked_filled u rs m g
marked_filled u (whole a b cs ∷ rs) m g = marked_filled (set u a 1) rs m g

-- ---- S words and cells: every word is a given one or the fill
each_take : (P : ℕ → Type 0) (n : ℕ) (ws : List ℕ) → Each P ws → Each P (take n ws)
each_take P zero ws a = tt
each_take P (suc n) [] a = tt
each_take P (suc n) (w ∷ ws) (q, a) = (q, each_take P n ws a)

each-drop : (P : ℕ → Type 0) (n : ℕ) (ws : List ℕ) → Each P ws → Each P (drop n ws)
each-drop P zero ws a = a
each-drop P (suc n) [] a = tt
each-drop P (suc n) (w ∷ ws) (q, a) = each-drop P n ws a

each_same : (P : ℕ → Type 0) (n v : ℕ) → P v → Each P (replicate n v)
each_same P zero v q = tt
each_same P (suc n) v q = (q, each_same P n v q)

each-besides : (P : ℕ → Type 0) (n m k : ℕ) (xs ys : List ℕ) → Each P xs → Each P ys → Each P (besides n m k xs ys)
unfolding besides
each-besides P n m zero xs ys a b = tt
each-besides P n m (suc k) xs ys a b =
    each_append P (take n xs) (take m ys ++ besides n m k (drop n xs) (drop m ys)) (each_take P n xs a)
    (each_append P (take m ys) (besides n m k (drop n xs) (drop m ys)) (each_take P m ys b) (each-besides P n m k (drop n xs) (drop m ys) (each-drop P n xs a) (each-drop P m ys b)))

word_in : (total k v : ℕ) → k < total → v < p → s_word_fault total k v ≡ 0
unfolding s_word_fault
word_in total k v h q = rw (lt-ltb k total h, lt-ltb v p q)

words_fine : (total k : ℕ) (ws : List ℕ) → Each (λ (v : ℕ). v < p) ws → k + length ws ≤ total → s_words_fault total k ws ≡ 0
unfolding first_fault
words_fine total k [] a h = refl
words_fine total k (v ∷ ws) (q, a) h =
    fault_later (s_word_fault total) (λ k _. suc k) k v ws (word_in total k v (omega arith) q) ∙ words_fine total (suc k) ws a (omega arith)

-- a cell word by itself
abbrev cell_own : ℕ → ℕ → ℕ
cell_own vars v = pick (ltb v placeholder) (pick (ltb (index_of v) vars) 0 14) 0

cell-own : (total vars k v : ℕ) → cell_fault total vars k v ≡ 0 → cell_own vars v ≡ 0
unfolding cell_fault
cell-own total vars k v e = (pick-zero (ltb k total) (cell_own vars v) 13 (λ z. omega (arith, z)) e).1

cell_in : (total vars k v : ℕ) → k < total → cell_own vars v ≡ 0 → cell_fault total vars k v ≡ 0
unfolding cell_fault
cell_in total vars k v h e = pick_yes (ltb k total) (cell_own vars v) 13 (lt-ltb k total h) ∙ e

cells_fine : (total vars k : ℕ) (ws : List ℕ) → Each (λ (v : ℕ). cell_own vars v ≡ 0) ws → k + length ws ≤ total → cells_fault total vars k ws ≡ 0
unfolding first_fault
cells_fine total vars k [] a h = refl
cells_fine total vars k (v ∷ ws) (q, a) h =
    fault_later (cell_fault total vars) (λ k _. suc k) k v ws (cell_in total vars k v (omega arith) q) ∙ cells_fine total vars (suc k) ws a (omega arith)

-- ---- the padded circuit
module _ (w : Words) (q : Sound w) (g : Good w) where
  abbrev x : Setting
  x = padded_setting w

  abbrev v : Words
  v = padded w

  abbrev f : ℕ
  f = filler_of w.gates

  abbrev m : ℕ
  m = length_of w - length (rows_of w.rows)

  facts : Numbers (length_of w) (parameters_at w.parameters) w.gates x
  facts = good_numbers w g

  long_rows : length (rows_of v.rows) ≡ x.trace
  long_rows =
      let r = ap length (kept_rows w q) in
      omega (arith, r, facts.trace_is, (length_covers w).0, length-append (rows_of w.rows) (replicate m (whole f 0 [])), length-replicate m (whole f 0 []))

  long-s : length v.s_words ≡ x.special * x.trace
  long-s = let c = good_columns w g in padded-s w q c.0 c.1 ∙ sym (ap (λ (n : ℕ). n * x.trace) facts.special_is ∙ ap (λ (n : ℕ). get_or w.parameters 3 0 * n) facts.trace_is)

  long-c : length v.cells ≡ x.copied * x.trace
  long-c = let c = good_columns w g in padded-c w q c.0 c.1 ∙ sym (ap (λ (n : ℕ). n * x.trace) facts.copied_is ∙ ap (λ (n : ℕ). get_or w.parameters 1 0 * n) facts.trace_is)

  -- all numbers of opening, sections and finishing but 19 and 10 are 0
  pub padded_accepted : contents_number x v.rows v.s_words v.cells v.tables ≡ 0
  unfolding contents_number unpadded_number unpadded_last complete
  padded_accepted =
      let a = first-zero _ _ g.own in
      let b = first-zero _ _ a.1 in
      let f₁ = first-zero _ _ b.0 in
      let f₂ = first-zero _ _ f₁.1 in
      let f₃ = first-zero _ _ f₂.1 in
      let R : rows_fault (gates_of x) x.trace 0 (rows_of v.rows) ≡ 0 =
      ap (rows_fault (gates_of x) x.trace 0) (kept_rows w q) ∙ rows_filled (gates_of x) x.trace 0 m f (rows_of w.rows) f₁.0 (omega (arith, g.listed, facts.gates_are)) (facts.marker_free f ((filler_first w.gates).1 g.listed)) (omega (arith, facts.trace_is, (length_covers w).0))
      in
      let S : s_words_fault (x.special * x.trace) 0 v.s_words ≡ 0 =
      words_fine (x.special * x.trace) 0 v.s_words
      (each-besides (λ (y : ℕ). y < p) (given w) (length_of w - given w) (get_or w.parameters 3 0) w.s_words (replicate (get_or w.parameters 3 0 * (length_of w - given w)) 0) (fault_each (s_word_fault (x.special * given w)) (λ k _. suc k) (λ (y : ℕ). y < p) (λ k y e. (word_fine (x.special * given w) k y e).1) 0 w.s_words f₂.0) (each_same (λ (y : ℕ). y < p) (get_or w.parameters 3 0 * (length_of w - given w)) 0 (omega arith)))
      (omega (arith, long-s))
      in
      let C : cells_fault (x.copied * x.trace) x.variables 0 v.cells ≡ 0 =
      cells_fine (x.copied * x.trace) x.variables 0 v.cells
      (each-besides (λ (y : ℕ). cell_own x.variables y ≡ 0) (given w) (length_of w - given w) (get_or w.parameters 1 0) w.cells (replicate (get_or w.parameters 1 0 * (length_of w - given w)) placeholder) (fault_each (cell_fault (x.copied * given w) x.variables) (λ k _. suc k) (λ (y : ℕ). cell_own x.variables y ≡ 0) (λ k y e. cell-own (x.copied * given w) x.variables k y e) 0 w.cells f₃.0) (each_same (λ (y : ℕ). cell_own x.variables y ≡ 0) (get_or w.parameters 1 0 * (length_of w - given w)) placeholder refl))
      (omega (arith, long-c))
      in
      let d = pick-zero (both (eqb (length w.s_words) (x.special * given w)) (eqb (length w.cells) (x.copied * given w))) _ 16 (λ z. omega (arith, z)) b.1 in
      let u = pick-zero (all_used x.gates (set (marked open_state.used (rows_of w.rows)) f 1)) 0 17 (λ z. omega (arith, z)) d.1 in
      let k : m ≡ suc (m - 1) = omega (arith, (length_covers w).0) in
      let U : marked open_state.used (rows_of v.rows) ≡ set (marked open_state.used (rows_of w.rows)) f 1 =
      ap (marked open_state.used) (kept_rows w q)
      ∙ ap (λ (n : ℕ). marked open_state.used (rows_of w.rows ++ replicate n (whole f 0 []))) k
      ∙ marked_filled open_state.used (rows_of w.rows) (m - 1) f
      in
      let z₁ : 0 + length (rows_of v.rows) ≡ x.trace = omega (arith, long_rows) in
      let z₂ : 0 + length v.s_words ≡ x.special * x.trace = omega (arith, long-s) in
      let z₃ : 0 + length v.cells ≡ x.copied * x.trace = omega (arith, long-c) in
      let K : complete x (after_pieces v.rows v.s_words v.cells v.tables) ≡ true =
      ap (λ (t : Bool). both t (both (eqb (0 + length v.s_words) (x.special * x.trace)) (eqb (0 + length v.cells) (x.copied * x.trace)))) (eq-eqb (0 + length (rows_of v.rows)) x.trace z₁)
      ∙ ap (λ (t : Bool). both t (eqb (0 + length v.cells) (x.copied * x.trace))) (eq-eqb (0 + length v.s_words) (x.special * x.trace) z₂)
      ∙ eq-eqb (0 + length v.cells) (x.copied * x.trace) z₃
      in
      first-none x.labelled _ a.0
      ∙ first-none (pieces_fault x v.rows v.s_words v.cells v.tables) _ (first-none _ _ R ∙ first-none _ _ S ∙ first-none _ _ C ∙ f₃.1)
      ∙ pick_yes (complete x (after_pieces v.rows v.s_words v.cells v.tables)) _ 16 K
      ∙ pick_yes (all_used x.gates (marked open_state.used (rows_of v.rows))) 0 17 (ap (all_used x.gates) U ∙ u.0)
