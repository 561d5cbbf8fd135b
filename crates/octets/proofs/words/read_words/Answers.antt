-- `octets::words::read_words` meets its contract. The words passed are those of the bytes, and the others are not lent to the loop.
use Rattle.std.proofs.Common.{◌≡◌, [], length, take, drop, length-take-le, drop_of_length-le, append-nil, ◌++◌, arith}
use Rattle.base.specs.Tables.{table}
use Rattle.base.specs.Fills.{Filled, filled_list}
use Rattle.octets.specs.Words.{word_at, words_left}
use Rattle.octets.proofs.words.read_words.Goals as goal

pub returns-clause-words_after : goal.returns-clause-words_after
unfolding words_left
returns-clause-words_after c =
    let a = c.args in
    let m = c.min-many.result in
    let l : length (take m a.words.now) ≡ m = length-take-le m a.words.now (omega arith) in
    let i : c.loop-i.i ≡ m = omega arith in
    let f : Filled (word_at a.bytes.now) 0 m (take m a.words.now) c.loop-i.word-items = rw i at c.loop-i.invariant in
    let t : c.loop-i.word-items ≡ table m (word_at a.bytes.now) ++ drop m (take m a.words.now) = filled_list _ _ _ _ (omega arith) f in
    let d : drop m (take m a.words.now) ≡ [] = drop_of_length-le (take m a.words.now) (omega arith) in
    rw (t, d, append-nil, c.min-many.ensures)
