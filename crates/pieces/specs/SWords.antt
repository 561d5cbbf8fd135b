-- 01, 'Columns by pieces': S words, the words of the specialised constant columns, "column by column".
--
-- Main definitions: `s_word_fault`, `s_words_fault`, `s_words_number`, `s_words_written`, `s_words_state`.
use Rattle.std.specs.Prelude.{List, ℕ, suc, ◌+◌, ◌*◌, length, ltb, leb}
use Rattle.base.specs.Pick.{pick}
use Rattle.field.specs.Field.{p}
use Rattle.pieces.specs.Setting.{Setting, State, constant_room, special_room, stands}
use Rattle.pieces.specs.Records.{first_fault}
use Rattle.pieces.specs.Writing.{put}

-- "for the first faulty word 13 past the section, then 11": of word number k, in a section of `total` words
unfoldable pub s_word_fault : ℕ → ℕ → ℕ → ℕ
s_word_fault total k w = pick (ltb k total) (pick (ltb w p) 0 11) 13

abbrev pub s_words_fault : ℕ → ℕ → List ℕ → ℕ
s_words_fault total = first_fault (s_word_fault total) (λ k _. suc k)

unfoldable pub s_words_number : Setting → State → List ℕ → List ℕ → ℕ
s_words_number x s ws b =
    pick (stands x s) (pick (leb (constant_room x) (length b)) (s_words_fault (special_room x) s.word_count ws) 10) 19

-- "the S columns follow": after K columns of N words
unfoldable pub s_words_written : Setting → State → List ℕ → List ℕ → List ℕ
s_words_written x s ws b = put 1 b (x.height * x.trace + s.word_count) ws

abbrev pub s_words_state : State → List ℕ → State
s_words_state s ws =
    record {
      row_count = s.row_count;
      word_count = s.word_count + length ws;
      cell_count = s.cell_count;
      table_count = s.table_count;
      stacked = s.stacked;
      used = s.used;
      phase = s.phase;
    }
