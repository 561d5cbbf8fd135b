-- `padding::pad_parts` meets its contract: the circuit's number, then 10, then the padded listing.
use Rattle.std.proofs.Common.{ltb-true, ltb-false, ◌≡◌, refl, sym, ap, ◌∙◌, subst, List, ◌≢◌, arith, ℕ, ◌+◌, ◌-◌, ◌<◌, ◌≤◌, length, get_or}
use Rattle.std.specs.Prelude.{Ok, Err}
use Rattle.base.specs.Each.{Each}
use Rattle.refusal.proofs.Passing.{passed_up, nothing_answered, refusal_nonzero}
use Rattle.parameters.specs.Parameters.{parameter_words}
use Rattle.pieces.specs.Records.{rows_of, tables_of}
use Rattle.pieces.specs.RecordLaws.{Whole}
use Rattle.listing.specs.Listing.{Words}
use Rattle.listing.specs.Places.{words_at}
use Rattle.listing.specs.Writing.{written}
use Rattle.listing.proofs.Written.{read_sound}
use Rattle.writer.proofs.HandLaws.{answer-given, answer_refused, answer_short, hand_given, hand_refused, hand_short, handed-long}
use Rattle.writer.specs.Hand.{Wrote}
use Rattle.writer.specs.Put.{put}
use Rattle.writer.specs.PutLaws.{put_front}
use Rattle.padding.specs.Padding.{length_of, filler_of, padded, pad_number}
use Rattle.padding.specs.Judging.{Judging, six_of}
use Rattle.padding.specs.Parts.{Small, Fitting, more_words, laid}
use Rattle.padding.proofs.PaddingLaws.{Good, good, length_covers, good_columns, ranges_of, rows_few, written-long, count_of_rows, count_of-tables, laid_is, room_is, padded-long, six_is, small_as, fitting_as}
use Rattle.padding.proofs.padding.pad_parts.Goals as goal

-- the numbers of a circuit that is not refused are small
small_of : (w : Words) → Good w → length w.parameters ≡ parameter_words → Small (length_of w) (length (rows_of w.rows)) w.parameters
small_of w g e =
    let r = ranges_of 1 w.parameters w.gates g.planned_fine in
    let l = length_covers w in
    record {
      eight-words = e;
      rows_in = omega (arith, l.0);
      given_in = l.1;
      not-long = g.not-long;
      copied = r.0;
      special = r.1;
    }

-- ---- the count of the rows
pub bounds-words-gates : goal.bounds-words-gates
bounds-words-gates c =
    let a = c.args in
    let ws = a.words.now in
    let w = words_at ws a.sections in
    let q = read_sound ws w c.requires in
    let long : length ws ≡ 6 + parameter_words + length w.gates + length w.rows + length w.s_words + length w.cells + length w.tables = omega (arith, ap length q.1, written-long w, q.0.eight-words) in
    omega (arith, long, ap length c.part_of-gates.ensures)

-- ---- the circuit's number
pub judge-requires : goal.judge-requires
judge-requires c =
    let a = c.args in
    let ws = a.words.now in
    let w = words_at ws a.sections in
    let q = read_sound ws w c.requires in
    let long : length ws ≡ 6 + parameter_words + length w.gates + length w.rows + length w.s_words + length w.cells + length w.tables = omega (arith, ap length q.1, written-long w, q.0.eight-words) in
    let m_read = get_or ws (2 + parameter_words + length c.part_of-gates.result.now) 0 in
    let m : m_read ≡ length (rows_of w.rows) =
    ap (λ (n : ℕ). get_or ws (2 + parameter_words + n) 0) (ap length c.part_of-gates.ensures)
    ∙ ap (λ (v : List ℕ). get_or v (2 + parameter_words + length w.gates) 0) q.1
    ∙ count_of_rows w q.0.eight-words in
    let r = c.part_of-rows.ensures in
    record {
      eight_len = (ap length c.part_of-eight.ensures ∙ q.0.eight-words, m ∙ ap (λ (v : List ℕ). length (rows_of v)) (sym r), omega (arith, m, rows_few w.rows, ap length r));
      each = subst (λ (v : List ℕ). Each Whole (tables_of v)) (sym c.part_of-tables.ensures) q.0.whole_tables;
    }

pub returns-in_err-judged : goal.returns-in_err-judged
returns-in_err-judged c =
    let a = c.args in
    let ws = a.words.now in
    let w = words_at ws a.sections in
    let q = read_sound ws w c.requires in
    let long : length ws ≡ 6 + parameter_words + length w.gates + length w.rows + length w.s_words + length w.cells + length w.tables = omega (arith, ap length q.1, written-long w, q.0.eight-words) in
    let m_read = get_or ws (2 + parameter_words + length c.part_of-gates.result.now) 0 in
    let m : m_read ≡ length (rows_of w.rows) =
    ap (λ (n : ℕ). get_or ws (2 + parameter_words + n) 0) (ap length c.part_of-gates.ensures)
    ∙ ap (λ (v : List ℕ). get_or v (2 + parameter_words + length w.gates) 0) q.1
    ∙ count_of_rows w q.0.eight-words in
    let parts = six_of c.part_of-eight.result.now c.part_of-gates.result.now c.part_of-rows.result.now c.part_of-s_words.result.now c.part_of-cells.result.now c.part_of-tables.result.now in
    let same : parts ≡ w = six_is w _ _ _ _ _ _ c.part_of-eight.ensures c.part_of-gates.ensures c.part_of-rows.ensures c.part_of-s_words.ensures c.part_of-cells.ensures c.part_of-tables.ensures in
    let judged : Judging w (Err c.in_err-judged.field-0.0) = subst (λ (v : Words). Judging v (Err c.in_err-judged.field-0.0)) same c.in_err-judged.ensures in
    let new = written (padded w) in
    let o = a.out.now in
    let x = c.in_err-judged.field-0.0 in
    let f = c.from_residual in
    let d : pad_number w ≢ 0 = λ z. refusal_nonzero x (judged.number_is ∙ z) in
    record {
      number = passed_up f.result x f.ensures.1 ∙ judged.number_is ∙ (hand_refused (pad_number w) new o d).0;
      many = nothing_answered 0 f.result x f.ensures.1 ∙ ap (λ (y : Wrote). y.words) (answer_refused (pad_number w) new o d);
      out_after = (hand_refused (pad_number w) new o d).1;
    }

pub words_more-more-requires : goal.words_more-more-requires
words_more-more-requires c =
    let a = c.args in
    let ws = a.words.now in
    let w = words_at ws a.sections in
    let q = read_sound ws w c.requires in
    let long : length ws ≡ 6 + parameter_words + length w.gates + length w.rows + length w.s_words + length w.cells + length w.tables = omega (arith, ap length q.1, written-long w, q.0.eight-words) in
    let m_read = get_or ws (2 + parameter_words + length c.part_of-gates.result.now) 0 in
    let m : m_read ≡ length (rows_of w.rows) =
    ap (λ (n : ℕ). get_or ws (2 + parameter_words + n) 0) (ap length c.part_of-gates.ensures)
    ∙ ap (λ (v : List ℕ). get_or v (2 + parameter_words + length w.gates) 0) q.1
    ∙ count_of_rows w q.0.eight-words in
    let parts = six_of c.part_of-eight.result.now c.part_of-gates.result.now c.part_of-rows.result.now c.part_of-s_words.result.now c.part_of-cells.result.now c.part_of-tables.result.now in
    let same : parts ≡ w = six_is w _ _ _ _ _ _ c.part_of-eight.ensures c.part_of-gates.ensures c.part_of-rows.ensures c.part_of-s_words.ensures c.part_of-cells.ensures c.part_of-tables.ensures in
    let judged : Judging w (Ok c.in_ok-judged.judged) = subst (λ (v : Words). Judging v (Ok c.in_ok-judged.judged)) same c.in_ok-judged.ensures in
    let new = written (padded w) in
    let o = a.out.now in
    let zero : pad_number w ≡ 0 = sym judged.number_is in
    let g = good w zero in
    let small = small_of w g q.0.eight-words in
    small_as (length_of w) (length (rows_of w.rows)) _ _ w.parameters _ judged.judged_is.0 m c.part_of-eight.ensures small

-- ---- a buffer that is too short
pub returns-then-too_short : goal.returns-then-too_short
returns-then-too_short c =
    let a = c.args in
    let ws = a.words.now in
    let w = words_at ws a.sections in
    let q = read_sound ws w c.requires in
    let long : length ws ≡ 6 + parameter_words + length w.gates + length w.rows + length w.s_words + length w.cells + length w.tables = omega (arith, ap length q.1, written-long w, q.0.eight-words) in
    let m_read = get_or ws (2 + parameter_words + length c.part_of-gates.result.now) 0 in
    let m : m_read ≡ length (rows_of w.rows) =
    ap (λ (n : ℕ). get_or ws (2 + parameter_words + n) 0) (ap length c.part_of-gates.ensures)
    ∙ ap (λ (v : List ℕ). get_or v (2 + parameter_words + length w.gates) 0) q.1
    ∙ count_of_rows w q.0.eight-words in
    let parts = six_of c.part_of-eight.result.now c.part_of-gates.result.now c.part_of-rows.result.now c.part_of-s_words.result.now c.part_of-cells.result.now c.part_of-tables.result.now in
    let same : parts ≡ w = six_is w _ _ _ _ _ _ c.part_of-eight.ensures c.part_of-gates.ensures c.part_of-rows.ensures c.part_of-s_words.ensures c.part_of-cells.ensures c.part_of-tables.ensures in
    let judged : Judging w (Ok c.in_ok-judged.judged) = subst (λ (v : Words). Judging v (Ok c.in_ok-judged.judged)) same c.in_ok-judged.ensures in
    let new = written (padded w) in
    let o = a.out.now in
    let zero : pad_number w ≡ 0 = sym judged.number_is in
    let g = good w zero in
    let small = small_of w g q.0.eight-words in
    -- as many words as are asked for
    let more : c.words_more-more.result ≡ more_words (length_of w) (length (rows_of w.rows)) w.parameters =
    c.words_more-more.ensures
    ∙ ap (λ (n : ℕ). more_words n m_read c.part_of-eight.result.now) judged.judged_is.0
    ∙ ap (λ (n : ℕ). more_words (length_of w) n c.part_of-eight.result.now) m
    ∙ ap (more_words (length_of w) (length (rows_of w.rows))) c.part_of-eight.ensures in
    let k = good_columns w g in
    let total : length new ≡ length ws + c.words_more-more.result = omega (arith, padded-long w q.0 k.0 k.1, more, ap length q.1) in
    let h = ltb-true (length o) (length ws + c.words_more-more.result) (sym c.too_short.ensures ∙ c.if-too_short.true) in
    let s : length o < length new = omega (arith, total, h) in
    record {
      number = (hand_short (pad_number w) new o zero s).0;
      many = ap (λ (y : Wrote). y.words) (answer_short (pad_number w) new o zero s);
      out_after = (hand_short (pad_number w) new o zero s).1;
    }

-- ---- the listing
pub overflow_sub-tables_at : goal.overflow_sub-tables_at
overflow_sub-tables_at c =
    let a = c.args in
    let ws = a.words.now in
    let w = words_at ws a.sections in
    let q = read_sound ws w c.requires in
    let long : length ws ≡ 6 + parameter_words + length w.gates + length w.rows + length w.s_words + length w.cells + length w.tables = omega (arith, ap length q.1, written-long w, q.0.eight-words) in
    omega (arith, long)

pub overflow_sub-tables_at-2 : goal.overflow_sub-tables_at-2
overflow_sub-tables_at-2 c =
    let a = c.args in
    let ws = a.words.now in
    let w = words_at ws a.sections in
    let q = read_sound ws w c.requires in
    let long : length ws ≡ 6 + parameter_words + length w.gates + length w.rows + length w.s_words + length w.cells + length w.tables = omega (arith, ap length q.1, written-long w, q.0.eight-words) in
    let tables-long : length c.part_of-tables.result.now ≡ length w.tables = ap length c.part_of-tables.ensures in
    omega (arith, long, tables-long)

pub bounds-words-tables_at : goal.bounds-words-tables_at
bounds-words-tables_at c =
    let a = c.args in
    let ws = a.words.now in
    let w = words_at ws a.sections in
    let q = read_sound ws w c.requires in
    let long : length ws ≡ 6 + parameter_words + length w.gates + length w.rows + length w.s_words + length w.cells + length w.tables = omega (arith, ap length q.1, written-long w, q.0.eight-words) in
    let tables-long : length c.part_of-tables.result.now ≡ length w.tables = ap length c.part_of-tables.ensures in
    omega (arith, long, tables-long)

pub write_padded-requires : goal.write_padded-requires
write_padded-requires c =
    let a = c.args in
    let ws = a.words.now in
    let w = words_at ws a.sections in
    let q = read_sound ws w c.requires in
    let long : length ws ≡ 6 + parameter_words + length w.gates + length w.rows + length w.s_words + length w.cells + length w.tables = omega (arith, ap length q.1, written-long w, q.0.eight-words) in
    let m_read = get_or ws (2 + parameter_words + length c.part_of-gates.result.now) 0 in
    let m : m_read ≡ length (rows_of w.rows) =
    ap (λ (n : ℕ). get_or ws (2 + parameter_words + n) 0) (ap length c.part_of-gates.ensures)
    ∙ ap (λ (v : List ℕ). get_or v (2 + parameter_words + length w.gates) 0) q.1
    ∙ count_of_rows w q.0.eight-words in
    let parts = six_of c.part_of-eight.result.now c.part_of-gates.result.now c.part_of-rows.result.now c.part_of-s_words.result.now c.part_of-cells.result.now c.part_of-tables.result.now in
    let same : parts ≡ w = six_is w _ _ _ _ _ _ c.part_of-eight.ensures c.part_of-gates.ensures c.part_of-rows.ensures c.part_of-s_words.ensures c.part_of-cells.ensures c.part_of-tables.ensures in
    let judged : Judging w (Ok c.in_ok-judged.judged) = subst (λ (v : Words). Judging v (Ok c.in_ok-judged.judged)) same c.in_ok-judged.ensures in
    let new = written (padded w) in
    let o = a.out.now in
    let zero : pad_number w ≡ 0 = sym judged.number_is in
    let g = good w zero in
    let small = small_of w g q.0.eight-words in
    -- as many words as are asked for
    let more : c.words_more-more.result ≡ more_words (length_of w) (length (rows_of w.rows)) w.parameters =
    c.words_more-more.ensures
    ∙ ap (λ (n : ℕ). more_words n m_read c.part_of-eight.result.now) judged.judged_is.0
    ∙ ap (λ (n : ℕ). more_words (length_of w) n c.part_of-eight.result.now) m
    ∙ ap (more_words (length_of w) (length (rows_of w.rows))) c.part_of-eight.ensures in
    let k = good_columns w g in
    let total : length new ≡ length ws + c.words_more-more.result = omega (arith, padded-long w q.0 k.0 k.1, more, ap length q.1) in
    let h = ltb-false (length o) (length ws + c.words_more-more.result) (sym c.too_short.ensures ∙ c.if-too_short.false) in
    let room : length new ≤ length o = omega (arith, total, h) in
    let f : Fitting (length_of w) (length (rows_of w.rows)) w o = record { small = small; s-words_are = k.0; cells_are = k.1; room = omega (arith, room_is w q.0 k.0 k.1, room) } in
    fitting_as (length_of w) (length (rows_of w.rows)) _ _ w _ o judged.judged_is.0 m same f

pub returns : goal.returns
returns c =
    let a = c.args in
    let ws = a.words.now in
    let w = words_at ws a.sections in
    let q = read_sound ws w c.requires in
    let long : length ws ≡ 6 + parameter_words + length w.gates + length w.rows + length w.s_words + length w.cells + length w.tables = omega (arith, ap length q.1, written-long w, q.0.eight-words) in
    let m_read = get_or ws (2 + parameter_words + length c.part_of-gates.result.now) 0 in
    let m : m_read ≡ length (rows_of w.rows) =
    ap (λ (n : ℕ). get_or ws (2 + parameter_words + n) 0) (ap length c.part_of-gates.ensures)
    ∙ ap (λ (v : List ℕ). get_or v (2 + parameter_words + length w.gates) 0) q.1
    ∙ count_of_rows w q.0.eight-words in
    let parts = six_of c.part_of-eight.result.now c.part_of-gates.result.now c.part_of-rows.result.now c.part_of-s_words.result.now c.part_of-cells.result.now c.part_of-tables.result.now in
    let same : parts ≡ w = six_is w _ _ _ _ _ _ c.part_of-eight.ensures c.part_of-gates.ensures c.part_of-rows.ensures c.part_of-s_words.ensures c.part_of-cells.ensures c.part_of-tables.ensures in
    let judged : Judging w (Ok c.in_ok-judged.judged) = subst (λ (v : Words). Judging v (Ok c.in_ok-judged.judged)) same c.in_ok-judged.ensures in
    let new = written (padded w) in
    let o = a.out.now in
    let zero : pad_number w ≡ 0 = sym judged.number_is in
    let g = good w zero in
    let small = small_of w g q.0.eight-words in
    -- as many words as are asked for
    let more : c.words_more-more.result ≡ more_words (length_of w) (length (rows_of w.rows)) w.parameters =
    c.words_more-more.ensures
    ∙ ap (λ (n : ℕ). more_words n m_read c.part_of-eight.result.now) judged.judged_is.0
    ∙ ap (λ (n : ℕ). more_words (length_of w) n c.part_of-eight.result.now) m
    ∙ ap (more_words (length_of w) (length (rows_of w.rows))) c.part_of-eight.ensures in
    let k = good_columns w g in
    let total : length new ≡ length ws + c.words_more-more.result = omega (arith, padded-long w q.0 k.0 k.1, more, ap length q.1) in
    let h = ltb-false (length o) (length ws + c.words_more-more.result) (sym c.too_short.ensures ∙ c.if-too_short.false) in
    let room : length new ≤ length o = omega (arith, total, h) in
    let tables-long : length c.part_of-tables.result.now ≡ length w.tables = ap length c.part_of-tables.ensures in
    let i = length ws - 1 - length c.part_of-tables.result.now in
    let last : get_or ws i 0 ≡ length (tables_of w.tables) = ap (λ (v : List ℕ). get_or v i 0) q.1 ∙ count_of-tables w i (omega (arith, long, tables-long, ap length q.1)) in
    let n = c.in_ok-judged.judged in
    record {
      number = (hand_given (pad_number w) new o zero room).0;
      many = sym total ∙ ap (λ (y : Wrote). y.words) (answer-given (pad_number w) new o zero room);
      out_after =
          c.write_padded.ensures
          ∙ ap (λ (x : ℕ). put 0 (laid x n.gate m_read (get_or ws i 0) parts) o) judged.judged_is.0
          ∙ ap (λ (x : ℕ). put 0 (laid (length_of w) x m_read (get_or ws i 0) parts) o) judged.judged_is.1
          ∙ ap (λ (x : ℕ). put 0 (laid (length_of w) (filler_of w.gates) x (get_or ws i 0) parts) o) m
          ∙ ap (λ (x : ℕ). put 0 (laid (length_of w) (filler_of w.gates) (length (rows_of w.rows)) x parts) o) last
          ∙ ap (λ (v : Words). put 0 (laid (length_of w) (filler_of w.gates) (length (rows_of w.rows)) (length (tables_of w.tables)) v) o) same
          ∙ ap (λ (v : List ℕ). put 0 v o) (laid_is w q.0 k.0 k.1)
          ∙ put_front new o
          ∙ handed-long new o (length new) refl room
          ∙ (hand_given (pad_number w) new o zero room).1;
    }
