-- `columns::tables::write_table` meets its contract: the words' columns, and the number's after them.
use Rattle.std.proofs.Common.{◌≡◌, refl, sym, ap, ◌∙◌, List, [], ◌∷◌, ◌++◌, map, arith, ℕ, zero, suc, ◌+◌, ◌*◌, ◌≤◌, drop, replicate, length-append, take_at}
use Rattle.std.proofs.lemmas.List.{get_or_at}
use Rattle.pieces.specs.Writing.{put, padded, put_lines}
use Rattle.pieces.specs.WriteLaws.{padded-length, padded-take}
use Rattle.pieces.specs.Tables.{entries}
use Rattle.pieces.proofs.ClosedForms.{entries-many}
use Rattle.columns.specs.Lines.{cut_lines, column_of, lines-column, lines-padded}
use Rattle.columns.proofs.tables.write_table.Goals as goal

-- the first columns of a table's rows are its words, the last is its number
entries-words : (W t n : ℕ) (cs : List ℕ) → map (padded W) (entries W t n cs) ≡ cut_lines W W n cs
unfolding entries cut_lines
entries-words W t zero cs = refl
entries-words W t (suc n) cs =
    let l = padded-length W cs in
    let e : padded W (padded W cs ++ (t ∷ [])) ≡ padded W cs = padded-take W (padded W cs ++ (t ∷ [])) (omega (arith, length-append (padded W cs) (t ∷ []))) ∙ take_at (padded W cs) (t ∷ []) W l in
    rw (e, entries-words W t n (drop W cs))

entries-number : (W t n : ℕ) (cs : List ℕ) → column_of W (entries W t n cs) ≡ replicate n t
unfolding entries
entries-number W t zero cs = refl
entries-number W t (suc n) cs = rw (get_or_at (padded W cs) t [] 0 W (padded-length W cs), entries-number W t n (drop W cs))

table_is : (W N t r n : ℕ) (cs b : List ℕ) → r + n ≤ N → put_lines (W + 1) N r (entries W t n cs) b ≡ put 1 (put_lines W N r (cut_lines W W n cs) b) (r + W * N) (replicate n t)
table_is W N t r n cs b h =
    lines-column W N r (entries W t n cs) b (omega (arith, entries-many W t n cs))
    ∙ rw (lines-padded W N r (entries W t n cs) b, entries-words W t n cs, entries-number W t n cs)

pub returns : goal.returns
returns c =
    let a = c.args in
    let at = a.high + a.width * a.trace in
    c.write_same.ensures
    ∙ ap (λ (b : List ℕ). put 1 b at (replicate a.rows a.number)) c.write_lines.ensures
    ∙ sym (table_is a.width a.trace a.number a.high a.rows a.words.now a.tables.now c.requires.width_bound.2)
