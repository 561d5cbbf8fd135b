-- The loop that stages rows: the records that are staged are the first lines of the stage, and the rest is what is left. The loop that writes what is staged:
-- the records that are left, from the present row on, give what the whole piece gives. Assumes nothing.
use mathlib.Core.Path.{◌≡◌, refl, sym, ap, ◌∙◌}
use mathlib.Core.Logic.{◌≢◌, ◌⊎◌, ⊎_elim}
use mathlib.Core.List.{List, [], ◌∷◌, ◌++◌, map, map-append}
use Prim.Native.Nat.{ℕ, zero, suc, ◌+◌, ◌-◌, ◌*◌, ◌≤◌, ◌<◌}
use native.Mathlib.Nat.{add-zero, not-suc-le-zero, le_of_suc-le-suc, add-suc, suc-add}
use native.Mathlib.Numerals.{add-one}
use native.Mathlib.Omega.{arith}
use lib.ListN.{length, get_or, set, take, drop, length-append, length-drop}
use lib.Seq.{drop-set-add, drop-drop, append_snoc}
use Rattle.base.specs.Limits.{most_gates}
use Rattle.base.specs.Drops.{drop-none}
use Rattle.pieces.specs.Records.{Read, whole, cut, row_size, read_by, rows_of}
use Rattle.pieces.specs.Writing.{put, padded, put_lines}
use Rattle.pieces.specs.WriteLaws.{padded-length}
use Rattle.pieces.specs.Rows.{Gates, row_fault, rows_fault, row_lines}
use Rattle.pieces.specs.RecordLaws.{Rest, Going, rest_begin, rest_whole, read_fuel, fault_head, going}
use Rattle.pieces.proofs.FaultLaws.{row_cut, row_fine, rows_room}
use Rattle.pieces.proofs.ClosedForms.{lines-append, lines-many}
use Rattle.pieces.proofs.LineLaws.{lines_through, rows_done}
use Rattle.base.specs.Digits.{Spelled}
use Rattle.columns.specs.Lines.{cut_lines, lines-padded}
use Rattle.columns.specs.Placed.{Spells, Stageable, Stages}

-- ---- one line more, after n lines of w words that stand d words apart
padded-set : (w : ℕ) (b : List ℕ) (k x : ℕ) → w ≤ k → padded w (set b k x) ≡ padded w b
unfolding padded
padded-set zero b k x h = refl
padded-set (suc w) [] k x h = refl
padded-set (suc w) (y ∷ b) zero x h = absurd (not-suc-le-zero h)
padded-set (suc w) (y ∷ b) (suc k) x h = ap (λ (l : List ℕ). y ∷ l) (padded-set w b k x (le_of_suc-le-suc h))

put_behind : (w : ℕ) (b : List ℕ) (k : ℕ) (ws : List ℕ) → w ≤ k → padded w (put 1 b k ws) ≡ padded w b
unfolding put
put_behind w b k [] h = refl
put_behind w b k (x ∷ ws) h = put_behind w (set b k x) (k + 1) ws (omega arith) ∙ padded-set w b k x h

put_past : (d : ℕ) (b : List ℕ) (k : ℕ) (ws : List ℕ) → drop d (put 1 b (d + k) ws) ≡ put 1 (drop d b) k ws
unfolding put
put_past d b k [] = refl
put_past d b k (x ∷ ws) =
    let z : d + k + 1 ≡ d + (k + 1) = omega arith in
    ap (λ (i : ℕ). drop d (put 1 (set b (d + k) x) i ws)) z ∙ put_past d (set b (d + k) x) (k + 1) ws ∙ ap (λ (l : List ℕ). put 1 l (k + 1) ws) (drop-set-add d b k x)

put_cons : (x : ℕ) (b : List ℕ) (i : ℕ) (ws : List ℕ) → put 1 (x ∷ b) (suc i) ws ≡ x ∷ put 1 b i ws
unfolding put
put_cons x b i [] = refl
put_cons x b i (w ∷ ws) = let z : suc i + 1 ≡ suc (i + 1) = omega arith in rw z (put_cons x (set b i w) (i + 1) ws)

put_front : (b ws : List ℕ) → length ws ≤ length b → padded (length ws) (put 1 b 0 ws) ≡ ws
unfolding padded put
put_front b [] h = refl
put_front [] (w ∷ ws) h = absurd (not-suc-le-zero h)
put_front (x ∷ b) (w ∷ ws) h =
    ap (padded (suc (length ws))) (put_cons w b 0 ws) ∙ ap (λ (l : List ℕ). w ∷ l) (put_front b ws (le_of_suc-le-suc h))

cut-more : (w d n : ℕ) (b ws : List ℕ) → w ≤ d → length ws ≡ w → d * n + w ≤ length b → cut_lines w d (suc n) (put 1 b (d * n) ws) ≡ cut_lines w d n b ++ (ws ∷ [])
unfolding cut_lines
cut-more w d zero b ws h l room =
    let z : d * 0 ≡ 0 = omega arith in
    rw z (ap (λ (x : List ℕ). x ∷ []) (rw l at (put_front b ws (omega arith))))
cut-more w d (suc n) b ws h l room =
    let z : d * suc n ≡ d + d * n = omega arith in
    let p : padded w (put 1 b (d + d * n) ws) ≡ padded w b = put_behind w b (d + d * n) ws (omega arith) in
    rw (z, p, put_past d b (d * n) ws) (ap (λ (ls : List (List ℕ)). padded w b ∷ ls) (cut-more w d n (drop d b) ws h l (omega (arith, length-drop d b))))

-- ---- records after some: they have no fault either
rows_later : (gs : Gates) (N r : ℕ) (xs ys : List Read) → rows_fault gs N r (xs ++ ys) ≡ 0 → rows_fault gs N (r + length xs) ys ≡ 0
rows_later gs N r [] ys e = rw add-zero e
rows_later gs N r (x ∷ xs) ys e =
    rw (add-suc, ← suc-add) (rows_later gs N (suc r) xs ys (fault_head (row_fault gs N) (λ r _. suc r) r x (xs ++ ys) e).1)

-- those that a loop has still to read are those of the words that are left
rest_rows : (ws : List ℕ) (i : ℕ) (rs : List Read) → Rest row_size ws i rs → rs ≡ rows_of (drop i ws)
unfolding rows_of
rest_rows ws i rs r = r.are ∙ read_fuel row_size r.turns (length (drop i ws)) (drop i ws) (omega (arith, r.enough, length-drop i ws)) (omega arith)

-- ---- staging
module _ (height : ℕ) (bits steps piece : List ℕ) where
  pub record Staging (stage : List ℕ) (rows i : ℕ) : Type 0 where
    pub within : i ≤ length piece
    pub few : rows ≤ 32
    pub far : rows ≤ i
    pub started : rows ≡ 0 → i ≡ 0
    pub read : List Read
    pub left : List Read
    pub rest : Rest row_size piece i left
    pub split : rows_of piece ≡ read ++ left
    pub rows_are : length read ≡ rows
    pub long : length stage ≡ 2048
    pub lines : (gs : Gates) (trace count : ℕ) (path : ℕ → List ℕ) → rows_fault gs trace count (rows_of piece) ≡ 0 → Spells gs.many path bits steps
        → cut_lines height 64 rows stage ≡ map (padded height) (row_lines path read)

  pub staging_begin : (stage : List ℕ) → length stage ≡ 2048 → Staging stage 0 0
  unfolding rows_of cut_lines row_lines
  staging_begin stage long =
      record {
        within = omega arith;
        few = omega arith;
        far = omega arith;
        started = λ z. z;
        read = [];
        left = rows_of piece;
        rest = rest_begin row_size piece;
        split = refl;
        rows_are = refl;
        long = long;
        lines = λ gs trace count path e s. refl;
      }

  -- what is known of the record at the front
  pub record Front (i : ℕ) : Type 0 where
    pub two : i + 1 < length piece
    pub fits : get_or piece (i + 1) 0 ≤ length piece - (i + 2)
    pub known : get_or piece i 0 < most_gates
    pub room : get_or steps (get_or piece i 0) 0 + get_or piece (i + 1) 0 ≤ height

  module _ (stage : List ℕ) (rows i : ℕ) (v : Staging stage rows i) where
    ahead : (gs : Gates) (trace count : ℕ) → rows_fault gs trace count (rows_of piece) ≡ 0 → i < length piece
        → Going row_size (row_fault gs trace) (λ r _. suc r) piece (count + length v.read) i v.left
    ahead gs trace count e h =
        let r = count + length v.read in
        let bad : row_fault gs trace r cut ≢ 0 = λ z. omega (arith, z, row_cut gs trace r) in
        going row_size (row_fault gs trace) (λ r _. suc r) piece r i v.left v.rest bad (rows_later gs trace count v.read v.left (ap (rows_fault gs trace count) (sym v.split) ∙ e)) h

    pub staging_front : Stageable height steps piece → i < length piece → Front i
    staging_front q h =
        let g = ahead q.gates q.trace q.count q.no_fault h in
        let f = row_fine q.gates q.trace (q.count + length v.read) (get_or piece i 0) (get_or piece (i + 1) 0) _ g.good in
        record { two = g.two; fits = g.fits; known = omega (arith, f.known, q.few); room = omega (arith, f.few, q.room.fits (get_or piece i 0) f.known) }

    module _ (t : Front i) (low : rows < 32) (stage' : List ℕ) (long' : length stage' ≡ 2048) where
      abbrev g : ℕ
      g = get_or piece i 0

      abbrev n : ℕ
      n = get_or piece (i + 1) 0

      abbrev cs : List ℕ
      cs = take n (drop (i + 2) piece)

      pub staging_next : height ≤ 64 → ((path : List ℕ) → Spelled path (get_or bits g 0) (get_or steps g 0) → stage' ≡ put 1 stage (64 * rows) (padded height (path ++ cs)))
          → Staging stage' (rows + 1) (i + 2 + n)
      unfolding row_lines
      staging_next short wrote =
          let next = rest_whole row_size piece i v.left v.rest t.two t.fits in
          record {
            within = omega (arith, t.two, t.fits);
            few = omega arith;
            far = omega (arith, v.far);
            started = λ z. absurd (omega (arith, z));
            read = v.read ++ (whole g n cs ∷ []);
            left = next.later;
            rest = next.rest;
            split = v.split ∙ ap (λ (l : List Read). v.read ++ l) next.split ∙ sym (append_snoc v.read (whole g n cs) next.later);
            rows_are = length-append v.read (whole g n cs ∷ []) ∙ ap (λ (k : ℕ). k + 1) v.rows_are;
            long = long';
            lines = line;
          }
        where
          line : (gs : Gates) (trace count : ℕ) (path : ℕ → List ℕ) → rows_fault gs trace count (rows_of piece) ≡ 0 → Spells gs.many path bits steps
              → cut_lines height 64 (rows + 1) stage' ≡ map (padded height) (row_lines path (v.read ++ (whole g n cs ∷ [])))
          line gs trace count path e s =
              let a = ahead gs trace count e (omega (arith, t.two)) in
              let known = (row_fine gs trace (count + length v.read) g n cs a.good).known in
              let l = padded height (path g ++ cs) in
              let w : stage' ≡ put 1 stage (64 * rows) l = wrote (path g) (s.spells g known) in
              let room : 64 * rows + height ≤ length stage = omega (arith, v.long) in
              rw (add-one rows, w, cut-more height 64 rows stage l short (padded-length height (path g ++ cs)) room, v.lines gs trace count path e s, lines-append path v.read (whole g n cs ∷ []))
              (sym (map-append (padded height) (row_lines path v.read) (row_lines path (whole g n cs ∷ []))))

    pub staging_done : (32 ≤ rows) ⊎ (length piece ≤ i) → Stages height bits steps piece stage i rows
    staging_done h =
        record {
          within = v.within;
          few = v.few;
          some = λ p. (⊎_elim (λ k. omega (arith, v.far)) (λ k. omega arith) h, ⊎_elim (λ k. omega arith) (λ k. full p k) h);
          read = v.read;
          split = v.split ∙ ap (λ (l : List Read). v.read ++ l) (rest_rows piece i v.left v.rest);
          rows_are = v.rows_are;
          long = v.long;
          lines = v.lines;
        }
      where
        full : 0 < length piece → length piece ≤ i → 0 < rows
        full p k = go rows refl
          where
            go : (r : ℕ) → rows ≡ r → 0 < rows
            go zero e = absurd (omega (arith, v.started e))
            go (suc r) e = omega arith

-- ---- writing what is staged
rows_in : (gs : Gates) (N r : ℕ) (xs ys : List Read) → rows_fault gs N r (xs ++ ys) ≡ 0 → 0 < length xs → r + length xs ≤ N
rows_in gs N r [] ys e h = absurd (not-suc-le-zero h)
rows_in gs N r (cut ∷ xs) ys e h = absurd (omega (arith, (fault_head (row_fault gs N) (λ r _. suc r) r cut (xs ++ ys) e).0, row_cut gs N r))
rows_in gs N r (whole g n cs ∷ xs) ys e h =
    let f = fault_head (row_fault gs N) (λ r _. suc r) r (whole g n cs) (xs ++ ys) e in
    let room = (row_fine gs N r g n cs f.0).room in
    omega (arith, rows_room gs N r (whole g n cs ∷ xs ++ ys) (omega (arith, room)) e, length-append xs ys)

module _ (height trace count : ℕ) (piece constants₀ bits steps : List ℕ) where
  pub record Writing (constants stage : List ℕ) (row i : ℕ) : Type 0 where
    pub within : i ≤ length piece
    pub long : length constants ≡ length constants₀
    pub staged : length stage ≡ 2048
    pub fine : (gs : Gates) → rows_fault gs trace count (rows_of piece) ≡ 0 → rows_fault gs trace row (rows_of (drop i piece)) ≡ 0
    pub lines : (gs : Gates) (path : ℕ → List ℕ) → rows_fault gs trace count (rows_of piece) ≡ 0 → Spells gs.many path bits steps
        → put_lines height trace count (row_lines path (rows_of piece)) constants₀ ≡ put_lines height trace row (row_lines path (rows_of (drop i piece))) constants

  pub writing_begin : (stage : List ℕ) → length stage ≡ 2048 → Writing constants₀ stage count 0
  writing_begin stage room = record { within = omega arith; long = refl; staged = room; fine = λ gs e. e; lines = λ gs path e s. refl }

  module _ (constants stage : List ℕ) (row i : ℕ) (v : Writing constants stage row i) where
    module _ (stage' : List ℕ) (next rows : ℕ) (p : Stages height bits steps (drop i piece) stage' next rows) where
      later : List Read
      later = rows_of (drop (i + next) piece)

      split : rows_of (drop i piece) ≡ p.read ++ later
      unfolding later
      split = p.split ∙ ap (λ (ws : List ℕ). p.read ++ rows_of ws) (drop-drop next i piece)

      -- the rows are in the trace
      pub writing_room : (gs : Gates) → rows_fault gs trace count (rows_of piece) ≡ 0 → i < length piece → row + rows ≤ trace
      writing_room gs e h =
          let some = (p.some (omega (arith, length-drop i piece))).1 in
          rw p.rows_are at (rows_in gs trace row p.read later (ap (rows_fault gs trace row) (sym split) ∙ v.fine gs e) (omega (arith, some, p.rows_are)))

      pub writing_next : (constants' : List ℕ) → length constants' ≡ length constants → constants' ≡ put_lines height trace row (cut_lines height 64 rows stage') constants
          → Writing constants' stage' (row + rows) (i + next)
      unfolding later
      writing_next constants' long' wrote =
          record {
            within = omega (arith, p.within, length-drop i piece, v.within);
            long = long' ∙ v.long;
            staged = p.long;
            fine = λ gs e. rw p.rows_are at (rows_later gs trace row p.read later (ap (rows_fault gs trace row) (sym split) ∙ v.fine gs e));
            lines = line;
          }
        where
          line : (gs : Gates) (path : ℕ → List ℕ) → rows_fault gs trace count (rows_of piece) ≡ 0 → Spells gs.many path bits steps
              → put_lines height trace count (row_lines path (rows_of piece)) constants₀ ≡ put_lines height trace (row + rows) (row_lines path later) constants'
          line gs path e s =
              let ls = row_lines path p.read in
              let is : constants' ≡ put_lines height trace row ls constants =
              wrote ∙ ap (λ (l : List (List ℕ)). put_lines height trace row l constants) (p.lines gs trace row path (v.fine gs e) s) ∙ sym (lines-padded height trace row ls constants) in
              let many-are : length ls ≡ rows = lines-many path p.read ∙ p.rows_are in
              v.lines gs path e s ∙ ap (λ (l : List Read). put_lines height trace row (row_lines path l) constants) split
              ∙ ap (λ (l : List (List ℕ)). put_lines height trace row l constants) (lines-append path p.read later)
              ∙ lines_through height trace row ls (row_lines path later) constants
              ∙ rw (many-are, is)

    pub writing_lines : length piece ≤ i → (gs : Gates) (path : ℕ → List ℕ) → rows_fault gs trace count (rows_of piece) ≡ 0 → Spells gs.many path bits steps
        → constants ≡ put_lines height trace count (row_lines path (rows_of piece)) constants₀
    unfolding rows_of read_by
    writing_lines h gs path e s =
        sym (v.lines gs path e s ∙ ap (λ (ws : List ℕ). put_lines height trace row (row_lines path (rows_of ws)) constants) (drop-none piece i h) ∙ rows_done path height trace row constants)
