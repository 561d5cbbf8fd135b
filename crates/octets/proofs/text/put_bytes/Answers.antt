-- `octets::text::put_bytes` meets its contract: what fits is put, and a full buffer takes no more.
use Rattle.std.proofs.Common.{sym, ap, ◌∙◌, ◌+◌, List, ℕ, take, length-take-le, arith}
use Rattle.std.proofs.lemmas.Slice.{put_mid-paste}
use Rattle.octets.specs.Text.{sink}
use Rattle.octets.specs.TextLaws.{put_full, put_part}
use Rattle.octets.proofs.text.put_bytes.Goals as goal

pub returns-then-out-at : goal.returns-then-out-at
returns-then-out-at c = let a = c.args in sym (put_full a.out.now a.at a.text.now c.if-out-at.true)

pub returns : goal.returns
returns c =
    let a = c.args in
    let n = c.min-fit.result in
    ap (λ (l : List ℕ). sink l (a.at + n)) (put_mid-paste a.at _ a.out.now c.copy_from_slice.new.self (take n a.text.now) n c.copy_from_slice.ensures.after (omega arith) (sym (length-take-le n a.text.now (omega arith))))
    ∙ sym (put_part a.out.now a.at a.text.now n (omega arith) c.min-fit.ensures)
