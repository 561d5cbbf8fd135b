-- `listing::sections::whole_sections` meets its contract. What each call finds is `Known`: the section that the definition has. A call that finds none is a `late-..` law, since all later sections
-- end further on.
use Rattle.std.proofs.Common.{ℕ, ◌+◌, ◌-◌, ◌≡◌, ◌<◌, length, arith}
use Rattle.selector.specs.Gates.{gate_words}
use Rattle.parameters.specs.Parameters.{parameter_words}
use Rattle.pieces.specs.Records.{row_size, table_size}
use Rattle.listing.specs.Ends.{fixed_end, records_end}
use Rattle.listing.specs.EndLaws.{Known, section_known, section_missing, fixed_past, records_past, late_parameters, wrong_count, late_gates, late_rows, late_s, late_cells, late_tables, found_whole}
use Rattle.listing.specs.declared.sections.Part.{Part}
use Rattle.listing.proofs.sections.whole_sections.Goals as goal

-- where a section that was found ends
abbrev end : Part → ℕ
end p = p.start + p.len

pub returns-in_err-parameters : goal.returns-in_err-parameters
returns-in_err-parameters c =
    let xs = c.args.words.now in
    let at = c.args.at in
    rw c.from_residual.ensures (late_parameters xs at (section_missing _ _ _ c.in_err-parameters.ensures))

pub returns-then-parameters-ne-PARAMETER_WORDS : goal.returns-then-parameters-ne-PARAMETER_WORDS
returns-then-parameters-ne-PARAMETER_WORDS c =
    let xs = c.args.words.now in
    let at = c.args.at in
    let p = c.in_ok-parameters.parameters in
    let kp : Known (length xs) at (fixed_end 1 xs at) p = section_known _ _ _ _ (fixed_past xs at 1) c.in_ok-parameters.ensures in
    wrong_count xs at (end p) kp.end (λ z. omega (arith, kp))

pub returns-in_err-gates : goal.returns-in_err-gates
returns-in_err-gates c =
    let xs = c.args.words.now in
    let at = c.args.at in
    let p = c.in_ok-parameters.parameters in
    let kp : Known (length xs) at (fixed_end 1 xs at) p = section_known _ _ _ _ (fixed_past xs at 1) c.in_ok-parameters.ensures in
    rw c.from_residual-in_err-gates.ensures (late_gates xs at (end p) kp.end (section_missing _ _ _ c.in_err-gates.ensures))

pub returns-in_err-rows : goal.returns-in_err-rows
returns-in_err-rows c =
    let xs = c.args.words.now in
    let at = c.args.at in
    let p = c.in_ok-parameters.parameters in
    let kp : Known (length xs) at (fixed_end 1 xs at) p = section_known _ _ _ _ (fixed_past xs at 1) c.in_ok-parameters.ensures in
    let g = c.in_ok-gates.gates in
    let kg : Known (length xs) (end p) (fixed_end gate_words xs (end p)) g = section_known _ _ _ _ (fixed_past xs (end p) gate_words) c.in_ok-gates.ensures in
    rw c.from_residual-in_err-rows.ensures (late_rows xs at (end p) (end g) kp.end kg.end (section_missing _ _ _ c.in_err-rows.ensures))

pub returns-in_err-s_words : goal.returns-in_err-s_words
returns-in_err-s_words c =
    let xs = c.args.words.now in
    let at = c.args.at in
    let p = c.in_ok-parameters.parameters in
    let kp : Known (length xs) at (fixed_end 1 xs at) p = section_known _ _ _ _ (fixed_past xs at 1) c.in_ok-parameters.ensures in
    let g = c.in_ok-gates.gates in
    let kg : Known (length xs) (end p) (fixed_end gate_words xs (end p)) g = section_known _ _ _ _ (fixed_past xs (end p) gate_words) c.in_ok-gates.ensures in
    let r = c.in_ok-rows.rows in
    let kr : Known (length xs) (end g) (records_end row_size xs (end g)) r = section_known _ _ _ _ (records_past xs (end g) row_size) c.in_ok-rows.ensures in
    rw c.from_residual-in_err-s_words.ensures (late_s xs at (end p) (end g) (end r) kp.end kg.end kr.end (section_missing _ _ _ c.in_err-s_words.ensures))

pub returns-in_err-cells : goal.returns-in_err-cells
returns-in_err-cells c =
    let xs = c.args.words.now in
    let at = c.args.at in
    let p = c.in_ok-parameters.parameters in
    let kp : Known (length xs) at (fixed_end 1 xs at) p = section_known _ _ _ _ (fixed_past xs at 1) c.in_ok-parameters.ensures in
    let g = c.in_ok-gates.gates in
    let kg : Known (length xs) (end p) (fixed_end gate_words xs (end p)) g = section_known _ _ _ _ (fixed_past xs (end p) gate_words) c.in_ok-gates.ensures in
    let r = c.in_ok-rows.rows in
    let kr : Known (length xs) (end g) (records_end row_size xs (end g)) r = section_known _ _ _ _ (records_past xs (end g) row_size) c.in_ok-rows.ensures in
    let s = c.in_ok-s_words.s_words in
    let ks : Known (length xs) (end r) (fixed_end 1 xs (end r)) s = section_known _ _ _ _ (fixed_past xs (end r) 1) c.in_ok-s_words.ensures in
    rw c.from_residual-in_err-cells.ensures (late_cells xs at (end p) (end g) (end r) (end s) kp.end kg.end kr.end ks.end (section_missing _ _ _ c.in_err-cells.ensures))

pub returns-in_err-tables : goal.returns-in_err-tables
returns-in_err-tables c =
    let xs = c.args.words.now in
    let at = c.args.at in
    let p = c.in_ok-parameters.parameters in
    let kp : Known (length xs) at (fixed_end 1 xs at) p = section_known _ _ _ _ (fixed_past xs at 1) c.in_ok-parameters.ensures in
    let g = c.in_ok-gates.gates in
    let kg : Known (length xs) (end p) (fixed_end gate_words xs (end p)) g = section_known _ _ _ _ (fixed_past xs (end p) gate_words) c.in_ok-gates.ensures in
    let r = c.in_ok-rows.rows in
    let kr : Known (length xs) (end g) (records_end row_size xs (end g)) r = section_known _ _ _ _ (records_past xs (end g) row_size) c.in_ok-rows.ensures in
    let s = c.in_ok-s_words.s_words in
    let ks : Known (length xs) (end r) (fixed_end 1 xs (end r)) s = section_known _ _ _ _ (fixed_past xs (end r) 1) c.in_ok-s_words.ensures in
    let q = c.in_ok-cells.cells in
    let kq : Known (length xs) (end s) (fixed_end 1 xs (end s)) q = section_known _ _ _ _ (fixed_past xs (end s) 1) c.in_ok-cells.ensures in
    let m : length xs < records_end table_size xs (end q) = section_missing _ _ _ c.in_err-tables.ensures in
    rw c.from_residual-in_err-tables.ensures (late_tables xs at (end p) (end g) (end r) (end s) (end q) kp.end kg.end kr.end ks.end kq.end (λ z. omega arith))

pub returns-then-tables-words : goal.returns-then-tables-words
returns-then-tables-words c =
    let xs = c.args.words.now in
    let at = c.args.at in
    let p = c.in_ok-parameters.parameters in
    let kp : Known (length xs) at (fixed_end 1 xs at) p = section_known _ _ _ _ (fixed_past xs at 1) c.in_ok-parameters.ensures in
    let g = c.in_ok-gates.gates in
    let kg : Known (length xs) (end p) (fixed_end gate_words xs (end p)) g = section_known _ _ _ _ (fixed_past xs (end p) gate_words) c.in_ok-gates.ensures in
    let r = c.in_ok-rows.rows in
    let kr : Known (length xs) (end g) (records_end row_size xs (end g)) r = section_known _ _ _ _ (records_past xs (end g) row_size) c.in_ok-rows.ensures in
    let s = c.in_ok-s_words.s_words in
    let ks : Known (length xs) (end r) (fixed_end 1 xs (end r)) s = section_known _ _ _ _ (fixed_past xs (end r) 1) c.in_ok-s_words.ensures in
    let q = c.in_ok-cells.cells in
    let kq : Known (length xs) (end s) (fixed_end 1 xs (end s)) q = section_known _ _ _ _ (fixed_past xs (end s) 1) c.in_ok-cells.ensures in
    let t = c.in_ok-tables.tables in
    let kt : Known (length xs) (end q) (records_end table_size xs (end q)) t = section_known _ _ _ _ (records_past xs (end q) table_size) c.in_ok-tables.ensures in
    late_tables xs at (end p) (end g) (end r) (end s) (end q) kp.end kg.end kr.end ks.end kq.end (λ z. omega (arith, kt))

pub returns : goal.returns
returns c =
    let xs = c.args.words.now in
    let at = c.args.at in
    let p = c.in_ok-parameters.parameters in
    let kp : Known (length xs) at (fixed_end 1 xs at) p = section_known _ _ _ _ (fixed_past xs at 1) c.in_ok-parameters.ensures in
    let g = c.in_ok-gates.gates in
    let kg : Known (length xs) (end p) (fixed_end gate_words xs (end p)) g = section_known _ _ _ _ (fixed_past xs (end p) gate_words) c.in_ok-gates.ensures in
    let r = c.in_ok-rows.rows in
    let kr : Known (length xs) (end g) (records_end row_size xs (end g)) r = section_known _ _ _ _ (records_past xs (end g) row_size) c.in_ok-rows.ensures in
    let s = c.in_ok-s_words.s_words in
    let ks : Known (length xs) (end r) (fixed_end 1 xs (end r)) s = section_known _ _ _ _ (fixed_past xs (end r) 1) c.in_ok-s_words.ensures in
    let q = c.in_ok-cells.cells in
    let kq : Known (length xs) (end s) (fixed_end 1 xs (end s)) q = section_known _ _ _ _ (fixed_past xs (end s) 1) c.in_ok-cells.ensures in
    let t = c.in_ok-tables.tables in
    let kt : Known (length xs) (end q) (records_end table_size xs (end q)) t = section_known _ _ _ _ (records_past xs (end q) table_size) c.in_ok-tables.ensures in
    let eight : end p - (at + 1) ≡ parameter_words = omega (arith, kp) in
    found_whole xs at (end p) (end g) (end r) (end s) (end q) (end t) p g r s q t kp.is kg.is kr.is ks.is kq.is kt.is
    (record { parameters = kp.end; gates = kg.end; rows = kr.end; s-words = ks.end; cells = kq.end; tables = kt.end })
    eight (omega arith)
