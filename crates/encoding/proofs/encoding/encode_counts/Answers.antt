-- `encoding::encode_counts` meets its contract: counts and phase are written, and the marks between them stay.
use Rattle.std.proofs.Common.{drop, length, length-drop, length-set, length-take-le, ◌∙◌, ◌≡◌, refl, sym, arith}
use Rattle.base.specs.Limits.{most_gates}
use Rattle.encoding.specs.Encoding.{marks_at, phase_at, progress_in, used_from}
use Rattle.encoding.proofs.EncodingLaws.{counts_written, progressed_short}
use Rattle.encoding.proofs.encoding.encode_counts.Goals as goal

pub shape_of-words : goal.shape_of-words
shape_of-words c = length-set c.put_words.new.out phase_at c.args.counts.phase ∙ c.put_words.auto.out

pub returns-then-words-ge-STATE_WORDS : goal.returns-then-words-ge-STATE_WORDS
returns-then-words-ge-STATE_WORDS c =
    let marks-long : length (marks_at c.args.words.now) ≡ most_gates = let ws = c.args.words.now in
    length-take-le most_gates (drop used_from ws) (omega (arith, length-drop used_from ws, c.if-words-ge-STATE_WORDS.true)) in
    let a = c.args in
    let k = a.counts in
    counts_written k.rows k.s_words k.cells k.tables k.table_rows k.phase (marks_at a.words.now) a.words.now (marks-long) c.if-words-ge-STATE_WORDS.true
    refl _ (rw c.count_words-tally.ensures at c.put_words.ensures)

pub returns-else-words-ge-STATE_WORDS : goal.returns-else-words-ge-STATE_WORDS
returns-else-words-ge-STATE_WORDS c =
    let a = c.args in
    sym (progressed_short (progress_in a.counts (marks_at a.words.now)) a.words.now c.if-words-ge-STATE_WORDS.false)
