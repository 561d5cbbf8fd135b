-- `program::program::run_read` meets its contract: the code makes the definition's tests, and the words read are those of the bytes.
use Rattle.std.proofs.Common.{List, length, take, replicate, ◌≡◌, ap, ◌∙◌, arith, ℕ, ◌/◌, ◌%◌, ◌≤◌}
use Rattle.std.proofs.lemmas.List.{length-replicate}
use Rattle.octets.specs.Text.{sink, put}
use Rattle.octets.specs.Words.{words_of, words_read}
use Rattle.octets.specs.WordLaws.{words_whole}
use Rattle.report.specs.Report.{refused_line}
use Rattle.program.specs.Program.{printed, program_text}
use Rattle.program.specs.ProgramLaws.{text-long, text-odd, text-words}
use Rattle.program.proofs.program.run_read.Goals as goal
use Rattle.program.proofs.program.run_read.Goals.{then-bytes-gt-MOST_BYTES-via-then-bytes-gt-MOST_BYTES, then-bytes-gt-MOST_BYTES-via-else-bytes-gt-MOST_BYTES+then-bytes-ne0}

pub returns-then-bytes-gt-MOST_BYTES : goal.returns-then-bytes-gt-MOST_BYTES
returns-then-bytes-gt-MOST_BYTES c =
    let bytes = c.args.bytes.now in
    let text : refused_line 20 ≡ program_text bytes =
    elim c.then-bytes-gt-MOST_BYTES.branch [
      | then-bytes-gt-MOST_BYTES-via-then-bytes-gt-MOST_BYTES w ↦ text-long bytes w.if-bytes-gt-MOST_BYTES.true
      | then-bytes-gt-MOST_BYTES-via-else-bytes-gt-MOST_BYTES+then-bytes-ne0 w ↦ text-odd bytes (omega (arith, w.if-bytes-gt-MOST_BYTES.false)) w.if-bytes-ne0.true
    ] in
    c.put_refused.ensures ∙ ap (put (sink c.args.out.now 0)) text

pub returns : goal.returns
returns c =
    let a = c.args in
    let w = c.read_words-many in
    let n : length a.bytes.now % 8 ≡ 0 = c.if-bytes-ne0.false in
    let h : length a.bytes.now / 8 ≤ length (replicate {A = ℕ} 8192 0) = omega (arith, c.if-bytes-gt-MOST_BYTES.false, length-replicate {A = ℕ} 8192 0) in
    let e : take w.result w.new.words ≡ words_of a.bytes.now = ap (λ (k : ℕ). take k w.new.words) w.ensures.value ∙ ap (take (words_read a.bytes.now (replicate 8192 0))) w.ensures.words_after ∙ words_whole a.bytes.now (replicate 8192 0) h in
    c.run_words.ensures ∙ ap (λ (ws : List ℕ). put (sink a.out.now 0) (printed ws)) e ∙ ap (put (sink a.out.now 0)) (text-words a.bytes.now (omega (arith, c.if-bytes-gt-MOST_BYTES.false)) n)
