-- `program::program::run_bytes` meets its contract: the two rooms have the lengths of their types, which is enough for every text and shows every input that is too long.
use Rattle.std.proofs.Common.{◌≡◌, sym, subst, List, ℕ, ◌<◌, ◌≤◌, ap, ◌∙◌, min, arith, length, take, take_all}
use Rattle.std.proofs.Math.Decide.{dec_lt}
use Rattle.io.specs.Counts.{IsPrefixLen}
use Rattle.octets.specs.Text.{sink, put}
use Rattle.octets.specs.TextLaws.{put_counts}
use Rattle.report.specs.Lengths.{most_text}
use Rattle.program.specs.Program.{most_bytes, program_text, WholeIn, ReadOf}
use Rattle.program.specs.ProgramLaws.{text-read}
use Rattle.program.specs.Lengths.{whole_in}
use Rattle.program.proofs.program.run_bytes.Goals as goal

-- what both ways of taking the bytes that were read come to
told : (room old new : List ℕ) (many r : ℕ) → most_bytes < length room → most_text ≤ length old → sink new r ≡ put (sink old 0) (program_text (take many room))
    → IsPrefixLen r new × (WholeIn (program_text (take many room)) old new r × ((whole : List ℕ) → ReadOf whole room many → program_text (take many room) ≡ program_text whole))
told room old new many r h k e = (put_counts old new _ r e, (whole_in (take many room) old new r e k, λ whole q. text-read whole room many h q))

-- the bytes that were read, where a number above the room's length counts as that length
taken : (room : List ℕ) (many m : ℕ) → m ≡ min many (length room) → take m room ≡ take many room
taken room many m e = go (dec_lt (length room) many)
  where
    go : Dec (length room < many) → take m room ≡ take many room
    go (yes h) = take_all m room (omega (arith, e, h)) ∙ sym (take_all many room (omega (arith, h)))
    go (no d) = let z : m ≡ many = omega (arith, e, d) in ap (λ (k : ℕ). take k room) z

pub returns : goal.returns
returns c =
    let a = c.args in
    let e = subst (λ (bytes : List ℕ). sink c.run_read.new.out c.run_read.result ≡ put (sink a.out.now 0) (program_text bytes)) (taken a.input.now a.many c.min.result (omega (arith, c.min.ensures, c.told-input))) c.run_read.ensures in
    let both = told a.input.now a.out.now _ a.many _ (omega (arith, c.told-input)) (omega (arith, c.told-out)) e in
    record { prefix_len = both.0; whole_in = both.1.0; by_index = both.1.1 }
