-- `octets::words::word_at` meets its contract: the eight bytes of a chunk are those of the definition.
use Rattle.std.proofs.Common.{◌∙◌, arith}
use Rattle.octets.proofs.Chunks.{chunk_word}
use Rattle.octets.proofs.words.word_at.Goals as goal

pub returns-in-Some : goal.returns-in-Some
returns-in-Some c =
    let l = c.in-Some.ensures.lookup in
    c.from_le_bytes.ensures ∙ chunk_word c.args.bytes.now c.args.index c.in-Some.word.now (omega (arith, l.3.0, c.as_chunks.ensures.front_len)) (rw c.as_chunks.ensures.front at l.1)
