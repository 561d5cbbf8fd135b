-- `octets::words::read_words` meets its contract. The words passed are those of the bytes, the others as they were.
use Rattle.base.specs.Fills.{Filled}
use Rattle.octets.specs.Words.{word_at}
use Rattle.octets.proofs.words.read_words.Given as goal

abbrev pub invariant-loop-i : goal.invariant-loop-i
invariant-loop-i l = Filled (word_at l.bytes) 0 l.i l.initial.word-items l.word-items
