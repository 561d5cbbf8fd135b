-- What a padding that is not refused knows of its circuit, and the padded listing's words.
--
-- Main definitions: `Good`, `Numbers`. Main statements: `good`, `length_covers`, `padded_rows`, `plan_fine`, `good_numbers`, `good_columns`; `written-long`, `count_of_rows`, `count_of-tables`, `laid_is`, `room_is`, `padded-long`.
use Rattle.std.specs.Prelude.{◌≡◌, refl, Bool, true, false, List, [], ◌∷◌, ◌++◌, ℕ, zero, suc, ◌+◌, ◌-◌, ◌*◌, ◌/◌, ◌≤◌, ◌<◌, max, length, get_or, take, drop, replicate, leb, ltb, eqb}
use Rattle.std.proofs.Math.Path.{sym, ap}
use Rattle.std.proofs.Common.{◌∙◌, append_assoc, append-nil, arith, length-append, length-drop, get_or-append-add, get_or-drop}
use Rattle.std.proofs.lemmas.List.{length-replicate}
use borrow.Author.Tests.{leb-true, ltb-true, eqb-true, le-leb}
use Rattle.base.specs.Exponent.{exponent_enough}
use Rattle.base.specs.Firsts.{first-zero}
use Rattle.base.specs.Pick.{pick, pick_yes, pick-zero, both, both_true}
use Rattle.labels.specs.Ranges.{longest_trace, most_columns, trace_fits}
use Rattle.labels.specs.RangesLaws.{ranges-fit}
use Rattle.parameters.specs.Parameters.{parameter_words, parameters_at, parameters_number}
use Rattle.parameters.specs.declared.parameters.Parameters.{Parameters}
use Rattle.parameters.specs.ParametersLaws.{in_range}
use Rattle.selector.specs.Gates.{gate_words, kind_of}
use Rattle.selector.specs.Refusals.{count_of_gates}
use Rattle.tree.specs.Plan.{plan_number, planned, words_number}
use Rattle.tree.specs.SoundLaws.{kind_placed}
use Rattle.tree.specs.PlanLaws.{planned-fields}
use Rattle.pieces.specs.Setting.{Setting, barred}
use Rattle.pieces.specs.Records.{Read, whole, cut, read_by, row_size, rows_of, tables_of}
use Rattle.base.specs.Each.{Each}
use Rattle.pieces.specs.RecordLaws.{Whole, read-append}
use Rattle.pieces.specs.Cells.{placeholder}
use Rattle.pieces.specs.Tables.{sum_rows}
use Rattle.columns.specs.Sections.{unpadded_number, unpadded_last}
use Rattle.claim.specs.Statement.{setting_for}
use Rattle.listing.specs.Listing.{Words}
use Rattle.listing.specs.Writing.{written, counted}
use Rattle.listing.proofs.Written.{Sound}
use Rattle.padding.specs.Padding.{given, least, length_of, with_trace, padded_setting, filler_of, fillers, padded, planning_number, pad_number}
use Rattle.padding.specs.PartsLaws.{fillers-long, stretched-long}
use Rattle.padding.specs.Lengths.{one_in_range, power_in_range}
use Rattle.padding.specs.Traces.{other_number}
use Rattle.padding.specs.Parts.{Small, Fitting, laid}
use Rattle.padding.specs.Judging.{six_of}
use Rattle.writer.specs.Hand.{Wrote}

-- ---- a circuit that is not refused
pub record Good (w : Words) : Type 0 where
  pub planned_fine : plan_number (with_trace 1 (parameters_at w.parameters)) w.gates ≡ 0
  pub listed : filler_of w.gates < count_of_gates w.gates
  pub not-long : length_of w ≤ longest_trace
  pub own : unpadded_number (padded_setting w) (given w) (filler_of w.gates) w.rows w.s_words w.cells w.tables ≡ 0

pub good : (w : Words) → pad_number w ≡ 0 → Good w
unfolding pad_number planning_number
good w e =
    let a = first-zero _ _ e in
    let p = pick-zero (leb (given w) longest_trace) _ 1 (λ z. omega (arith, z)) a.0 in
    let f = pick-zero (ltb (filler_of w.gates) (count_of_gates w.gates)) _ 21 (λ z. omega (arith, z)) a.1 in
    let l = pick-zero (leb (length_of w) longest_trace) _ 22 (λ z. omega (arith, z)) f.1 in
    record {
      planned_fine = p.1;
      listed = ltb-true (filler_of w.gates) (count_of_gates w.gates) f.0;
      not-long = leb-true (length_of w) longest_trace l.0;
      own = l.1;
    }

-- the length covers the rows with one more, N and the table rows
pub length_covers : (w : Words) → (length (rows_of w.rows) + 1 ≤ length_of w) × (given w ≤ length_of w) × (sum_rows 0 (tables_of w.tables) ≤ length_of w)
unfolding length_of least
length_covers w =
    let a = length (rows_of w.rows) + 1 in
    let s = sum_rows 0 (tables_of w.tables) in
    let e = exponent_enough (max a (max s (given w))) in
    (omega (arith, e), omega (arith, e), omega (arith, e))

-- ---- the records of missing rows
fillers-read : (f m g : ℕ) → 2 * m ≤ f → read_by row_size f (fillers m g) ≡ replicate m (whole g 0 [])
unfolding read_by fillers
fillers-read zero zero g h = refl
fillers-read zero (suc m) g h = absurd (omega arith)
fillers-read (suc f) zero g h = refl
fillers-read (suc f) (suc m) g h =
    rw (le-leb 0 (length (fillers m g)) (omega arith)) (ap (λ (l : List Read). whole g 0 [] ∷ l) (fillers-read f m g (omega arith)))

pub padded_rows : (ws : List ℕ) (m g : ℕ) → Each Whole (rows_of ws) → rows_of (ws ++ fillers m g) ≡ rows_of ws ++ replicate m (whole g 0 [])
unfolding rows_of
padded_rows ws m g a =
    read-append row_size (length ws) (length (fillers m g)) (length (ws ++ fillers m g)) ws (fillers m g) (omega arith) (omega arith) (omega (arith, length-append ws (fillers m g))) a
    ∙ ap (λ (l : List Read). read_by row_size (length ws) ws ++ l) (fillers-read (length (fillers m g)) m g (omega (arith, fillers-long m g)))

-- ---- a listing's length, and two of its counts
pub written-long : (w : Words) → length (written w) ≡ 6 + length w.parameters + length w.gates + length w.rows + length w.s_words + length w.cells + length w.tables
unfolding written
written-long w =
    let t = counted (length (tables_of w.tables)) w.tables [] in
    let c = counted (length w.cells) w.cells t in
    let s = counted (length w.s_words) w.s_words c in
    let r = counted (length (rows_of w.rows)) w.rows s in
    let g = counted (length w.gates / gate_words) w.gates r in
    omega (arith, length-append w.parameters g, length-append w.gates r, length-append w.rows s, length-append w.s_words c, length-append w.cells t, length-append w.tables [])

behind : (a b : List ℕ) (x i : ℕ) → i ≡ length a → get_or (a ++ (x ∷ b)) i 0 ≡ x
behind a b x i e = let z : i ≡ length a + 0 = omega (arith, e) in rw z (get_or-append-add a (x ∷ b) 0 0)

pub count_of_rows : (w : Words) → length w.parameters ≡ parameter_words → get_or (written w) (10 + length w.gates) 0 ≡ length (rows_of w.rows)
unfolding written
count_of_rows w e =
    let s = counted (length w.s_words) w.s_words (counted (length w.cells) w.cells (counted (length (tables_of w.tables)) w.tables [])) in
    let n = length (rows_of w.rows) in
    let front = (length w.parameters ∷ w.parameters) ++ (length w.gates / gate_words ∷ w.gates) in
    let l : 10 + length w.gates ≡ length front = omega (arith, e, length-append (length w.parameters ∷ w.parameters) (length w.gates / gate_words ∷ w.gates)) in
    ap (λ (v : List ℕ). get_or v (10 + length w.gates) 0) (sym (append_assoc (length w.parameters ∷ w.parameters) (length w.gates / gate_words ∷ w.gates) (n ∷ (w.rows ++ s))))
    ∙ behind front (w.rows ++ s) n (10 + length w.gates) l

-- the sections before the tables
abbrev front_of : Words → List ℕ
front_of w =
    ((((length w.parameters ∷ w.parameters) ++ (length w.gates / gate_words ∷ w.gates)) ++ (length (rows_of w.rows) ∷ w.rows))
    ++ (length w.s_words ∷ w.s_words))
    ++ (length w.cells ∷ w.cells)

front-tables : (w : Words) → written w ≡ front_of w ++ (length (tables_of w.tables) ∷ w.tables)
unfolding written
front-tables w = simp (append_assoc, append-nil)

pub count_of-tables : (w : Words) (i : ℕ) → i + 1 + length w.tables ≡ length (written w) → get_or (written w) i 0 ≡ length (tables_of w.tables)
count_of-tables w i e =
    let f = front-tables w in
    let t = length (tables_of w.tables) ∷ w.tables in
    rw f (behind (front_of w) w.tables (length (tables_of w.tables)) i (omega (arith, e, ap length f, length-append (front_of w) t)))

-- records are no more than the words
pub rows_few : (ws : List ℕ) → length (rows_of ws) ≤ length ws
unfolding rows_of read_by
rows_few ws = go (length ws) ws
  where
    one : (f : ℕ) (b : Bool) (x : Read) (rs : List Read) → length rs ≤ f → length (pick b (x ∷ rs) (cut ∷ [])) ≤ suc f
    one f true x rs h = omega arith
    one f false x rs h = omega arith

    go : (f : ℕ) (v : List ℕ) → length (read_by row_size f v) ≤ f
    go zero v = omega arith
    go (suc f) [] = omega arith
    go (suc f) (a ∷ []) = omega arith
    go (suc f) (a ∷ (b ∷ v)) = one f (leb b (length v)) (whole a b (take b v)) (read_by row_size f (drop b v)) (go f (drop b v))

-- ---- what is laid down is what is written
-- the counts of S words and cells are those of N
module _ (x : Setting) (n g : ℕ) (r s c t : List ℕ) where
  columns_are : unpadded_number x n g r s c t ≡ 0 → (length s ≡ x.special * n) × (length c ≡ x.copied * n)
  unfolding unpadded_number unpadded_last
  columns_are e =
      let a = first-zero _ _ e in
      let b = first-zero _ _ a.1 in
      let d = pick-zero (both (eqb (length s) (x.special * n)) (eqb (length c) (x.copied * n))) _ 16 (λ z. omega (arith, z)) b.1 in
      let k = both_true (eqb (length s) (x.special * n)) (eqb (length c) (x.copied * n)) d.0 in
      (eqb-true (length s) (x.special * n) k.0, eqb-true (length c) (x.copied * n) k.1)

-- the parameters with another first word
pub first_replaced : (ps : List ℕ) (l : ℕ) → parameters_at (l ∷ drop 1 ps) ≡ with_trace l (parameters_at ps)
first_replaced ps l = λ i. record {
  trace = l;
  copy = get_or-drop 1 ps 0 0 i;
  allowed = get_or-drop 1 ps 1 0 i;
  specialised = get_or-drop 1 ps 2 0 i;
  variables = get_or-drop 1 ps 3 0 i;
  mode = get_or-drop 1 ps 4 0 i;
  width = get_or-drop 1 ps 5 0 i;
  share = get_or-drop 1 ps 6 0 i;
}

module _ (w : Words) (q : Sound w) (s-are : length w.s_words ≡ get_or w.parameters 3 0 * given w) (c-are : length w.cells ≡ get_or w.parameters 1 0 * given w) where
  abbrev l : ℕ
  l = length_of w

  abbrev m : ℕ
  m = l - length (rows_of w.rows)

  abbrev v : Words
  v = padded w

  rows_are : length (rows_of v.rows) ≡ l
  rows_are =
      let e = ap length (padded_rows w.rows m (filler_of w.gates) q.whole_rows) in
      omega (arith, e, length-append (rows_of w.rows) (replicate m (whole (filler_of w.gates) 0 [])), length-replicate m (whole (filler_of w.gates) 0 []), (length_covers w).0)

  pub padded-s : length v.s_words ≡ get_or w.parameters 3 0 * l
  padded-s = stretched-long 0 (given w) l (get_or w.parameters 3 0) w.s_words (length_covers w).1 s-are

  pub padded-c : length v.cells ≡ get_or w.parameters 1 0 * l
  padded-c = stretched-long placeholder (given w) l (get_or w.parameters 1 0) w.cells (length_covers w).1 c-are

  padded-p : length v.parameters ≡ parameter_words
  padded-p = omega (arith, length-drop 1 w.parameters, q.eight-words)

  -- the sections with other counts before them
  laying : ℕ → ℕ → ℕ → ℕ → List ℕ
  laying np nr ns nc =
      (((((np ∷ v.parameters) ++ (length w.gates / gate_words ∷ w.gates)) ++ (nr ∷ v.rows)) ++ (ns ∷ v.s_words)) ++ (nc ∷ v.cells)) ++ (length (tables_of w.tables) ∷ w.tables)

  pub laid_is : laid l (filler_of w.gates) (length (rows_of w.rows)) (length (tables_of w.tables)) w ≡ written v
  unfolding laying
  laid_is =
      sym
      (front-tables v
      ∙ ap (λ (n : ℕ). laying n (length (rows_of v.rows)) (length v.s_words) (length v.cells)) padded-p
      ∙ ap (λ (n : ℕ). laying parameter_words n (length v.s_words) (length v.cells)) rows_are
      ∙ ap (λ (n : ℕ). laying parameter_words l n (length v.cells)) padded-s
      ∙ ap (laying parameter_words l (get_or w.parameters 3 0 * l)) padded-c)

  pub room_is : 6 + parameter_words + length w.gates + length w.rows + 2 * m + get_or w.parameters 3 0 * l + get_or w.parameters 1 0 * l + length w.tables ≡ length (written v)
  room_is = omega (arith, written-long v, padded-p, padded-s, padded-c, length-append w.rows (fillers m (filler_of w.gates)), fillers-long m (filler_of w.gates))

  -- as many words more
  pub padded-long : length (written v) ≡ length (written w) + (2 * m + get_or w.parameters 3 0 * (l - given w) + get_or w.parameters 1 0 * (l - given w))
  padded-long =
      let k = l - given w in
      let e : l ≡ given w + k = omega (arith, (length_covers w).1) in
      let a : get_or w.parameters 3 0 * l ≡ get_or w.parameters 3 0 * given w + get_or w.parameters 3 0 * k = ap (λ (j : ℕ). get_or w.parameters 3 0 * j) e ∙ omega arith in
      let b : get_or w.parameters 1 0 * l ≡ get_or w.parameters 1 0 * given w + get_or w.parameters 1 0 * k = ap (λ (j : ℕ). get_or w.parameters 1 0 * j) e ∙ omega arith in
      omega (arith, written-long v, written-long w, padded-p, padded-s, padded-c, s-are, c-are, a, b, length-append w.rows (fillers m (filler_of w.gates)), fillers-long m (filler_of w.gates), q.eight-words)

-- ---- the parameters are within their ranges
pub ranges_of : (n : ℕ) (ps gs : List ℕ) → plan_number (with_trace n (parameters_at ps)) gs ≡ 0 → (get_or ps 1 0 ≤ most_columns) × (get_or ps 3 0 ≤ most_columns)
unfolding plan_number words_number parameters_number
ranges_of n ps gs e =
    let a = first-zero _ _ e in
    let b = first-zero _ _ a.0 in
    let c = first-zero _ _ b.0 in
    let r = in_range (with_trace n (parameters_at ps)) c.0 in
    ((ranges-fit n (get_or ps 1 0) r.ranges).columns, omega (arith, r.specialised))

-- ---- the same from equal words
pub six_is : (w : Words) (p g r s c t : List ℕ) → p ≡ w.parameters → g ≡ w.gates → r ≡ w.rows → s ≡ w.s_words → c ≡ w.cells → t ≡ w.tables → six_of p g r s c t ≡ w
six_is w p g r s c t e₁ e₂ e₃ e₄ e₅ e₆ = rw (e₁, e₂, e₃, e₄, e₅, e₆)

pub small_as : (l m l' m' : ℕ) (p p' : List ℕ) → l' ≡ l → m' ≡ m → p' ≡ p → Small l m p → Small l' m' p'
small_as l m l' m' p p' a b c s = rw (a, b, c) s

pub fitting_as : (l m l' m' : ℕ) (w w' : Words) (out : List ℕ) → l' ≡ l → m' ≡ m → w' ≡ w → Fitting l m w out → Fitting l' m' w' out
fitting_as l m l' m' w w' out a b c s = rw (a, b, c) s

-- what a call that writes a listing answers is its number and its words
pub wrote_is : (r : Wrote) (n m : ℕ) → r.number ≡ n → r.words ≡ m → r ≡ record { number = n; words = m }
wrote_is r n m a b = rw (← a, ← b)

-- the plan's numbers are the parameters'
pub record Numbers (n : ℕ) (p : Parameters) (gs : List ℕ) (x : Setting) : Type 0 where
  pub trace_is : x.trace ≡ n
  pub gates_are : x.gates ≡ count_of_gates gs
  pub special_is : x.special ≡ p.specialised
  pub copied_is : x.copied ≡ p.copy
  -- no row of a kind 1 gate is turned away
  pub marker_free : (g : ℕ) → kind_of gs g ≡ 1 → barred x g ≡ false

plan_numbers : (n : ℕ) (p : Parameters) (gs : List ℕ) → plan_number (with_trace n p) gs ≡ 0 → Numbers n p gs (setting_for (with_trace n p) gs)
plan_numbers n p gs e =
    let f = planned-fields (with_trace n p) gs e in
    let q = f.parameters in
    record {
      trace_is = ap (λ (y : Parameters). y.trace) q;
      gates_are = f.count;
      special_is = ap (λ (y : Parameters). y.specialised) q;
      copied_is = ap (λ (y : Parameters). y.copy) q;
      marker_free = λ g k. pick_yes ((setting_for (with_trace n p) gs).placed g) _ _ (kind_placed (planned (with_trace n p) gs) g (λ z. omega (arith, z, k, ap (λ (ws : List ℕ). kind_of ws g) f.gates)));
    }

length_in_range : (w : Words) → length_of w ≤ longest_trace → trace_fits (length_of w) ≡ true
unfolding length_of
length_in_range w h = power_in_range (least w) h

pub plan_fine : (w : Words) → Good w → plan_number (with_trace (length_of w) (parameters_at w.parameters)) w.gates ≡ 0
plan_fine w g = other_number (length_of w) 1 (parameters_at w.parameters) w.gates (length_in_range w g.not-long) one_in_range ∙ g.planned_fine

pub good_numbers : (w : Words) → Good w → Numbers (length_of w) (parameters_at w.parameters) w.gates (padded_setting w)
good_numbers w g = plan_numbers (length_of w) (parameters_at w.parameters) w.gates (plan_fine w g)

pub good_columns : (w : Words) → Good w → (length w.s_words ≡ get_or w.parameters 3 0 * given w) × (length w.cells ≡ get_or w.parameters 1 0 * given w)
good_columns w g =
    let x = padded_setting w in
    let k = columns_are x (given w) (filler_of w.gates) w.rows w.s_words w.cells w.tables g.own in
    let p = good_numbers w g in
    (k.0 ∙ ap (λ (n : ℕ). n * given w) p.special_is, k.1 ∙ ap (λ (n : ℕ). n * given w) p.copied_is)
