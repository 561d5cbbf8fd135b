-- `encoding::encode_progress` meets its contract: counts, marks and phase are written behind the plan's words.
use Rattle.std.proofs.Common.{rules, length, length-set, ◌∙◌, ◌≡◌, sym}
use Rattle.base.specs.Limits.{most_gates}
use Rattle.encoding.specs.Encoding.{phase_at, progress_in}
use Rattle.encoding.proofs.EncodingLaws.{progress_written, progressed_short}
use Rattle.encoding.proofs.encoding.encode_progress.Goals as goal

pub shape_of-words : goal.shape_of-words
shape_of-words c = length-set c.put_words-then-words-ge-STATE_WORDS.new.out phase_at c.args.counts.phase ∙ c.put_words-then-words-ge-STATE_WORDS.auto.out ∙ c.put_words.auto.out

pub returns-then-words-ge-STATE_WORDS : goal.returns-then-words-ge-STATE_WORDS
returns-then-words-ge-STATE_WORDS c =
    let a = c.args in
    let k = a.counts in
    -- an array by value has its length
    let long : length a.used ≡ most_gates = search rules in
    progress_written k.rows k.s_words k.cells k.tables k.table_rows k.phase a.used a.words.now long c.if-words-ge-STATE_WORDS.true
    _ _ (rw c.count_words.ensures at c.put_words.ensures) c.put_words-then-words-ge-STATE_WORDS.ensures

pub returns-else-words-ge-STATE_WORDS : goal.returns-else-words-ge-STATE_WORDS
returns-else-words-ge-STATE_WORDS c =
    let a = c.args in
    sym (progressed_short (progress_in a.counts a.used) a.words.now c.if-words-ge-STATE_WORDS.false)
