-- `columns::records::all_below` meets its contract: the words that are left are all below p just where all words are, as long as none was found that is not.
use Rattle.std.proofs.Common.{◌≡◌, ◌≤◌, ltb, length, drop}
use Rattle.field.specs.Field.{p}
use Rattle.columns.specs.Section.{all_of}
use Rattle.columns.proofs.records.all_below.Given as goal

abbrev pub invariant-loop-word : goal.invariant-loop-word
invariant-loop-word l = (l.word-index ≤ length l.words) × (all_of (λ w. ltb w p) l.words ≡ all_of (λ w. ltb w p) (drop l.word-index l.words))
