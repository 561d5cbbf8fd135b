-- The kinds of calls, and their words.
--
-- Main definitions: `kind_word`, `kind_of`.
use Rattle.std.specs.Prelude.{ℕ, Option, Some, None, eqb}
use Rattle.base.specs.Pick.{pick}
use Rattle.calls.specs.declared.call.Kind.{Kind}
use Rattle.calls.specs.declared.call.Kind.TheVariants.{Rows, SWords, Cells, Tables, Finishing}

-- "its kind (1 rows, 2 S words, 3 cells, 4 tables, 5 finishing)"
abbrev pub kind_word : Kind → ℕ
kind_word Rows = 1
kind_word SWords = 2
kind_word Cells = 3
kind_word Tables = 4
kind_word Finishing = 5

-- the kind of a word, none of any other
abbrev pub kind_of : ℕ → Option Kind
kind_of w =
    pick (eqb w 1) (Some Rows) (pick (eqb w 2) (Some SWords) (pick (eqb w 3) (Some Cells) (pick (eqb w 4) (Some Tables) (pick (eqb w 5) (Some Finishing) None))))
