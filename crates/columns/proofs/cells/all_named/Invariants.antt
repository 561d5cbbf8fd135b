-- `columns::cells::all_named` meets its contract: the words that are left are all named just where all words are, as long as none was found that is not.
use Rattle.std.proofs.Common.{◌≡◌, ◌≤◌, length, drop}
use Rattle.columns.specs.Section.{all_of, named}
use Rattle.columns.proofs.cells.all_named.Given as goal

abbrev pub invariant-loop-word : goal.invariant-loop-word
invariant-loop-word l = (l.word-index ≤ length l.words) × (all_of (named l.vars) l.words ≡ all_of (named l.vars) (drop l.word-index l.words))
