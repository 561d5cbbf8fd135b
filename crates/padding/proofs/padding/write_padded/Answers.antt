-- `padding::write_padded` meets its contract: one section after another.
use Rattle.std.proofs.Common.{◌≡◌, ap, ◌∙◌, List, ◌∷◌, ◌++◌, arith, ℕ, ◌+◌, ◌-◌, ◌*◌, ◌/◌, ◌≤◌, drop, length, get_or, length-append, length-drop}
use Rattle.parameters.specs.Parameters.{parameter_words}
use Rattle.selector.specs.Gates.{gate_words}
use Rattle.pieces.specs.Cells.{placeholder}
use Rattle.writer.specs.Put.{put}
use Rattle.padding.specs.Padding.{fillers, stretched}
use Rattle.listing.specs.Listing.{Words}
use Rattle.padding.specs.Judging.{six_of}
use Rattle.padding.specs.Parts.{Fitting}
use Rattle.padding.specs.PartsLaws.{put-after, fillers-long, stretched-long}
use Rattle.padding.proofs.padding.write_padded.Goals as goal

-- what the function is given
record Given : Type 0 where
  long : ℕ
  gate : ℕ
  many : ℕ
  last : ℕ
  w : Words
  out : List ℕ
  fits : Fitting long many w out

-- ---- the sections, and what stands before each
abbrev at : Given → ℕ → ℕ
at s i = get_or s.w.parameters i 0

abbrev F1 : Given → List ℕ
F1 s = parameter_words ∷ (s.long ∷ drop 1 s.w.parameters)

abbrev b2 : Given → List ℕ
b2 s = length s.w.gates / gate_words ∷ s.w.gates

abbrev b3 : Given → List ℕ
b3 s = s.long ∷ (s.w.rows ++ fillers (s.long - s.many) s.gate)

abbrev b4 : Given → List ℕ
b4 s = at s 3 * s.long ∷ stretched 0 (at s 0) s.long (at s 3) s.w.s_words

abbrev b5 : Given → List ℕ
b5 s = at s 1 * s.long ∷ stretched placeholder (at s 0) s.long (at s 1) s.w.cells

abbrev b6 : Given → List ℕ
b6 s = s.last ∷ s.w.tables

abbrev F2 : Given → List ℕ
F2 s = F1 s ++ b2 s

abbrev F3 : Given → List ℕ
F3 s = F2 s ++ b3 s

abbrev F4 : Given → List ℕ
F4 s = F3 s ++ b4 s

abbrev F5 : Given → List ℕ
F5 s = F4 s ++ b5 s

-- ---- their lengths
l1 : (s : Given) → length (F1 s) ≡ 1 + parameter_words
l1 s = omega (arith, length-drop 1 s.w.parameters, s.fits.small.eight-words)

l2 : (s : Given) → length (F2 s) ≡ 2 + parameter_words + length s.w.gates
l2 s = omega (arith, l1 s, length-append (F1 s) (b2 s))

lb3 : (s : Given) → length (b3 s) ≡ 1 + length s.w.rows + 2 * (s.long - s.many)
lb3 s = omega (arith, length-append s.w.rows (fillers (s.long - s.many) s.gate), fillers-long (s.long - s.many) s.gate)

l3 : (s : Given) → length (F3 s) ≡ 3 + parameter_words + length s.w.gates + length s.w.rows + 2 * (s.long - s.many)
l3 s = omega (arith, l2 s, lb3 s, length-append (F2 s) (b3 s))

lb4 : (s : Given) → length (b4 s) ≡ 1 + at s 3 * s.long
lb4 s = omega (arith, stretched-long 0 (at s 0) s.long (at s 3) s.w.s_words s.fits.small.given_in s.fits.s-words_are)

l4 : (s : Given) → length (F4 s) ≡ 4 + parameter_words + length s.w.gates + length s.w.rows + 2 * (s.long - s.many) + at s 3 * s.long
l4 s = omega (arith, l3 s, lb4 s, length-append (F3 s) (b4 s))

lb5 : (s : Given) → length (b5 s) ≡ 1 + at s 1 * s.long
lb5 s = omega (arith, stretched-long placeholder (at s 0) s.long (at s 1) s.w.cells s.fits.small.given_in s.fits.cells_are)

l5 : (s : Given) → length (F5 s) ≡ 5 + parameter_words + length s.w.gates + length s.w.rows + 2 * (s.long - s.many) + at s 3 * s.long + at s 1 * s.long
l5 s = omega (arith, l4 s, lb5 s, length-append (F4 s) (b5 s))

-- ---- the front ones are written, and the next stands behind them
abbrev Done : Given → List ℕ → ℕ → List ℕ → Type 0
Done s front r x = (r ≡ length front) × (x ≡ put 0 front s.out)

next : (s : Given) (front b : List ℕ) (r r' : ℕ) (x y : List ℕ) → Done s front r x → r' ≡ r + length b → y ≡ put r b x → length front + length b ≤ length s.out
    → Done s (front ++ b) r' y
next s front b r r' x y d e p h =
    (omega (arith, d.0, e, length-append front b), put-after 0 front b s.out x y r d.1 (omega (arith, d.0)) p (omega (arith, h)))

pub returns : goal.returns
returns c =
    let a = c.args in
    let s : Given = record { long = a.long; gate = a.gate; many = a.many; last = a.last; w = six_of a.eight.now a.gates.now a.rows.now a.s_words.now a.cells.now a.tables.now; out = a.out.now; fits = c.requires } in
    let f1 = c.put_parameters-at_gates.ensures in
    let done1 : Done s (F1 s) c.put_parameters-at_gates.result c.put_parameters-at_gates.new.out = (omega (arith, f1.0, l1 s), f1.1) in
    let f2 = c.put_counted-at_rows.ensures in
    let done2 : Done s (F2 s) c.put_counted-at_rows.result c.put_counted-at_rows.new.out = next s (F1 s) (b2 s) _ _ _ _ done1 (omega (arith, f2.0)) f2.1 (omega (arith, s.fits.room, l1 s)) in
    let f3 = c.put_row_section-at_s_words.ensures in
    let done3 : Done s (F3 s) c.put_row_section-at_s_words.result c.put_row_section-at_s_words.new.out = next s (F2 s) (b3 s) _ _ _ _ done2 (omega (arith, f3.0, lb3 s)) f3.1 (omega (arith, s.fits.room, l2 s, lb3 s)) in
    let f4 = c.put_column_section-at_cells.ensures in
    let done4 : Done s (F4 s) c.put_column_section-at_cells.result c.put_column_section-at_cells.new.out = next s (F3 s) (b4 s) _ _ _ _ done3 (omega (arith, f4.0, lb4 s)) f4.1 (omega (arith, s.fits.room, l3 s, lb4 s)) in
    let f5 = c.put_column_section-at_tables.ensures in
    let e5 = f5.1 ∙ ap (λ (v : ℕ). put c.put_column_section-at_cells.result (at s 1 * s.long ∷ stretched v (at s 0) s.long (at s 1) s.w.cells) c.put_column_section-at_cells.new.out) c.placeholder-fill.ensures in
    let done5 : Done s (F5 s) c.put_column_section-at_tables.result c.put_column_section-at_tables.new.out = next s (F4 s) (b5 s) _ _ _ _ done4 (omega (arith, f5.0, lb5 s)) e5 (omega (arith, s.fits.room, l4 s, lb5 s)) in
    let f = c.put_counted.ensures in
    (next s (F5 s) (b6 s) c.put_column_section-at_tables.result c.put_counted.result _ _ done5 (omega (arith, f.0)) f.1 (omega (arith, s.fits.room, l5 s))).1
