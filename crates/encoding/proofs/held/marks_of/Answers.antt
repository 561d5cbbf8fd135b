-- `held::marks_of` meets its contract: a state's marks are read from their place.
use Rattle.std.proofs.Common.{eq-eqb, ne_eqb, length, replicate, ◌∙◌, sym, eqb}
use Rattle.base.specs.Limits.{most_gates}
use Rattle.base.specs.Pick.{pick_no, pick_yes}
use Rattle.encoding.specs.Encoding.{marks_at, state_length}
use Rattle.encoding.proofs.held.marks_of.Goals as goal

pub returns-then-words-eq-STATE_WORDS : goal.returns-then-words-eq-STATE_WORDS
returns-then-words-eq-STATE_WORDS c =
    let ws = c.args.words.now in
    c.copy_from_slice.ensures.after ∙ sym (pick_yes (eqb (length ws) state_length) (marks_at ws) (replicate most_gates 0) (eq-eqb (length ws) state_length c.if-words-eq-STATE_WORDS.true))

pub returns-else-words-eq-STATE_WORDS : goal.returns-else-words-eq-STATE_WORDS
returns-else-words-eq-STATE_WORDS c =
    let ws = c.args.words.now in
    sym (pick_no (eqb (length ws) state_length) (marks_at ws) (replicate most_gates 0) (ne_eqb (length ws) state_length c.if-words-eq-STATE_WORDS.false))
