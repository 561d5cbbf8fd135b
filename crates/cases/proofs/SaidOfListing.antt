-- What the claim says of P8, in numerals: one fact for each part of the permutation and of the rows. Each is drawn from `claim`, so that a part that says nothing, or
-- the contrary, is refused here.
--
-- Main definition: `SaidOfP8`. Main statement: `p8_says`.
use Rattle.std.specs.Prelude.{◌≡◌, refl, ◌⊎◌, true, List, [], ◌∷◌, ℕ, zero, suc, ◌<◌, length, get_or}
use Rattle.std.proofs.Common.{sym, ap, ◌∙◌, inl, inr, arith}
use Rattle.base.specs.Exponent.{exponent_from}
use Rattle.base.specs.Firsts.{or_number}
use Rattle.labels.specs.Labels.{search_number}
use Rattle.labels.proofs.Numerals.{worked_labels}
use Rattle.selector.specs.Gates.{constants_of}
use Rattle.selector.specs.MadeUp.{wanted}
use Rattle.selector.specs.Paths.{path_to, path_of}
use Rattle.pieces.specs.Setting.{counts_fit, stands}
use Rattle.pieces.specs.Records.{Read, whole, cut, read_by, rows_of, tables_of, first_fault, all_below}
use Rattle.pieces.specs.Writing.{put, padded, put_lines}
use Rattle.pieces.specs.Opening.{room_to_open, open_number, fresh}
use Rattle.pieces.specs.Rows.{row_fault, rows_number, row_lines, rows_written, marked}
use Rattle.pieces.specs.SWords.{s_word_fault, s_words_number, s_words_written}
use Rattle.pieces.specs.Cells.{cell_fault, cells_number, room_for_cells, first_seen, seen_again, place_cell, cells_run}
use Rattle.pieces.specs.Tables.{table_fault, tables_number, entries, table_lines, tables_written, sum_rows}
use Rattle.pieces.specs.Finishing.{every_from, complete, all_used, variable_fine, scratch_fine, finish_number, write_back, finish_from}
use Rattle.pieces.specs.Calls.{number, taken, after, run}
use Rattle.columns.specs.Intake.{labels_of}
use Rattle.claim.specs.Statement.{Names, Agrees, Leads, Gap, Before, Permutation, product, RowOf, Right}
use Rattle.claim.specs.Model.{circuit_by, FinishesBy}
use Rattle.program.specs.Program.{lent}
use Rattle.cases.specs.Listed.{parameters, gates, plan, tree, left}
use Rattle.cases.proofs.Listed.{plan-number, plan_known, path_is, found_number}
use Rattle.cases.proofs.Drawn.{drawn}
use Rattle.cases.specs.SaidOfListing.{Named₈, SaidOfP8, calls₈, circuit₈, copies₈, filled₈, labels₈, rows₈, words₈, word₈, x₈, OthersOff}

opens₈ : open_number x₈ lent ≡ 0
unfolding plan lent room_to_open open_number
opens₈ = refl

-- by the sections' rules the finishing is accepted, and the circuit and the words left are these
runs₈ : FinishesBy x₈ calls₈ (fresh x₈ lent) × (circuit_by x₈ calls₈ (fresh x₈ lent) ≡ circuit₈) × ((run x₈ calls₈ (fresh x₈ lent)).store ≡ left)
unfolding plan tree lent exponent_from constants_of path_to wanted or_number stands counts_fit read_by rows_of first_fault all_below put padded put_lines row_fault rows_number row_lines rows_written marked s_word_fault s_words_number s_words_written cell_fault cells_number room_for_cells first_seen seen_again place_cell cells_run tables_of table_fault tables_number tables_written table_lines entries sum_rows every_from complete all_used variable_fine scratch_fine finish_number write_back finish_from number taken after circuit_by left run
runs₈ = (inr (inr (inr (inr (inl (refl, refl))))), refl, refl)

pub found₈ : search_number plan.trace plan.copy ≡ 0
unfolding plan
found₈ = found_number

pub labels_known₈ : labels_of plan.trace plan.copy ≡ labels₈
unfolding plan
labels_known₈ = worked_labels.labels

-- the claim, at P8
right₈ : Right x₈ circuit₈ left
right₈ = drawn parameters gates plan plan-number plan_known (λ g. path_of g tree) path_is labels₈ found₈ labels_known₈ lent calls₈ circuit₈ left opens₈ runs₈.0 runs₈.1 runs₈.2

named₈ : (i v : ℕ) → Names words₈ i v → Named₈ i v
named₈ zero v n = inl (refl, sym n.index)
named₈ (suc zero) v n = inr (inl (refl, sym n.index))
named₈ (suc (suc zero)) v n = inr (inr (refl, sym n.index))
named₈ (suc (suc (suc zero))) v n = absurd (omega (arith, n.plain))
named₈ (suc (suc (suc (suc i)))) v n = absurd (omega (arith, n.here))

cell_1 : Names words₈ 1 1
cell_1 = record { here = omega arith; plain = omega arith; index = refl }

cell_2 : Names words₈ 2 1
cell_2 = record { here = omega arith; plain = omega arith; index = refl }

agrees₈ : Agrees words₈ filled₈
agrees₈ v i j a b = go (named₈ i v a) (named₈ j v b)
  where
    go : Named₈ i v → Named₈ j v → filled₈ i ≡ filled₈ j
    go (inl (e, u)) (inl (f, w)) = rw (e, f)
    go (inl (e, u)) (inr (inl (f, w))) = absurd (omega arith)
    go (inl (e, u)) (inr (inr (f, w))) = absurd (omega arith)
    go (inr (inl (e, u))) (inl (f, w)) = absurd (omega arith)
    go (inr (inl (e, u))) (inr (inl (f, w))) = rw (e, f)
    go (inr (inl (e, u))) (inr (inr (f, w))) = rw (e, f)
    go (inr (inr (e, u))) (inl (f, w)) = absurd (omega arith)
    go (inr (inr (e, u))) (inr (inl (f, w))) = rw (e, f)
    go (inr (inr (e, u))) (inr (inr (f, w))) = rw (e, f)

-- the occurrence before cell 2 is cell 1; before cell 1, the first, it is the last, cell 2
before_2 : (k : Before words₈ labels₈ copies₈ 1 2) → k.to ≡ 1
before_2 k = go (named₈ k.to 1 k.named) k.falls
  where
    go : Named₈ k.to 1 → (((j : ℕ) → j < 2 → Names words₈ j 1 → ⊥) × Gap words₈ 1 k.to (length words₈)) ⊎ ((k.to < 2) × Gap words₈ 1 k.to 2) → k.to ≡ 1
    go (inl (e, u)) f = absurd (omega arith)
    go (inr (inl (e, u))) f = e
    go (inr (inr (e, u))) (inl f) = absurd (f.0 1 (omega arith) cell_1)
    go (inr (inr (e, u))) (inr f) = absurd (omega (arith, f.0))

before_1 : (k : Before words₈ labels₈ copies₈ 1 1) → k.to ≡ 2
before_1 k = go (named₈ k.to 1 k.named) k.falls
  where
    go : Named₈ k.to 1 → (((j : ℕ) → j < 1 → Names words₈ j 1 → ⊥) × Gap words₈ 1 k.to (length words₈)) ⊎ ((k.to < 1) × Gap words₈ 1 k.to 1) → k.to ≡ 2
    go (inl (e, u)) f = absurd (omega arith)
    go (inr (inl (e, u))) (inl f) = absurd (f.1.gap 2 (omega arith) (omega arith) cell_2)
    go (inr (inl (e, u))) (inr f) = absurd (omega (arith, f.0))
    go (inr (inr (e, u))) f = e

-- the rows' records
records₈ : rows_of rows₈ ≡ whole 0 1 (5 ∷ []) ∷ whole 1 0 [] ∷ []
unfolding read_by rows_of
records₈ = refl

row_0 : RowOf rows₈ 0 0
row_0 = record { many = 1; words = 5 ∷ []; record_is = ap (λ (ts : List Read). get_or ts 0 cut) records₈ }

row_1 : RowOf rows₈ 1 1
row_1 = record { many = 0; words = []; record_is = ap (λ (ts : List Read). get_or ts 1 cut) records₈ }

names₈ : (g : ℕ) → RowOf rows₈ 0 g → g ≡ 0
names₈ g o = let e : whole 0 1 (5 ∷ []) ≡ whole g o.many o.words = sym (ap (λ (ts : List Read). get_or ts 0 cut) records₈) ∙ o.record_is in cc

placed₈ : (g : ℕ) → g < 2 → x₈.placed g ≡ true
unfolding plan wanted
placed₈ zero h = refl
placed₈ (suc zero) h = refl
placed₈ (suc (suc g)) h = absurd (omega arith)

ways₈ : (x₈.path 0 ≡ 1 ∷ []) × (x₈.path 1 ≡ 0 ∷ [])
unfolding tree path_to
ways₈ = (refl, refl)

perm₈ : Permutation 4 words₈ labels₈ copies₈
unfolding plan left
perm₈ = right₈.permutation

leads_12 : Leads 4 labels₈ copies₈ 1 2
leads_12 = record { from = omega arith; to = omega arith; holds = refl }

leads_21 : Leads 4 labels₈ copies₈ 2 1
leads_21 = record { from = omega arith; to = omega arith; holds = refl }

apart₈ : (◌≡◌ {A = ℕ} 0 1) ⊎ ((v : ℕ) × Names words₈ 0 v × Names words₈ 1 v) → ⊥
apart₈ (inl e) = omega arith
apart₈ (inr (v, a, b)) = omega (arith, a.index, b.index)

named_0 : (g : ℕ) × RowOf rows₈ 0 g × (g ≡ 0)
unfolding plan
named_0 = let n = right₈.row_named 0 (omega arith) in (n.0, n.2, names₈ n.0 n.2)

digits_0 : (c : ℕ) → c < 2 → word₈ 0 c ≡ get_or (1 ∷ 5 ∷ []) c 0
unfolding plan left tree path_to row_0
digits_0 c h = right₈.row_words 0 0 (omega arith) row_0 c h

owns_0 : product (1 ∷ []) (word₈ 0) 0 ≡ 1
unfolding plan left tree path_to
owns_0 = right₈.own_product 0 0 (omega arith) row_0

owns_1 : product (0 ∷ []) (word₈ 1) 0 ≡ 1
unfolding plan left tree path_to
owns_1 = right₈.own_product 1 1 (omega arith) row_1

others_0 : OthersOff
unfolding plan left tree path_to
others_0 = right₈.other_product 0 0 1 (omega arith) row_0 (placed₈ 0 (omega arith)) (omega arith) (placed₈ 1 (omega arith)) (λ e. omega arith)

others_1 : product (1 ∷ []) (word₈ 1) 0 ≡ 0
unfolding plan left tree path_to
others_1 = right₈.other_product 1 1 0 (omega arith) row_1 (placed₈ 1 (omega arith)) (omega arith) (placed₈ 0 (omega arith)) (λ e. omega arith)

all_rows : length (rows_of rows₈) ≡ 2
unfolding plan
all_rows = right₈.rows_full

all_cells : length words₈ ≡ 4
unfolding plan
all_cells = right₈.cells_full

pub p8_says : SaidOfP8
p8_says =
    record {
      shares = λ f k. (perm₈.keeps f).0 k 1 1 2 cell_1 cell_2;
      filled = (perm₈.keeps filled₈).1 agrees₈;
      to_2 = λ j l. perm₈.exact 1 j 2 l leads_12;
      leads_on = (let t = perm₈.total 1 (omega arith) in (t.0, t.1, perm₈.exact 1 t.0 2 t.1 leads_12));
      from_2 = λ i l. perm₈.one-to-one i 2 1 l leads_21;
      led_to = (let t = perm₈.onto 1 (omega arith) in (t.0, t.1, perm₈.one-to-one t.0 2 1 t.1 leads_21));
      one_cycle = (perm₈.cycles 1 2).1 (inr (1, cell_1, cell_2));
      two_cycles = λ r. apart₈ ((perm₈.cycles 0 1).0 r);
      before-it = (let k = perm₈.before 2 1 cell_2 in k.holds ∙ ap (λ (j : ℕ). get_or labels₈ j 0) (before_2 k));
      the_last = (let k = perm₈.before 1 1 cell_1 in k.holds ∙ ap (λ (j : ℕ). get_or labels₈ j 0) (before_1 k));
      its_own = perm₈.still 3 (omega arith) (omega arith);
      rows_2 = all_rows;
      cells_4 = all_cells;
      gate_0 = named_0;
      path_digit = digits_0 0 (omega arith);
      constant_5 = digits_0 1 (omega arith);
      own_0 = owns_0;
      other_0 = others_0;
      own_1 = owns_1;
      other_1 = others_1;
    }
