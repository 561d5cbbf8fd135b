-- A listing as words: the inverse of `read`. A call that writes a circuit writes these.
--
-- Main definitions: `written`, `Sound`. Main statements: `read-written` (what is written is read back), `read_sound` (what is read can be written).
use Rattle.std.specs.Prelude.{◌≡◌, refl, false, drop}
use Rattle.std.proofs.Common.{sym, ap, ◌∙◌, subst, not-suc-le-zero, mul-div_cancel, length-drop, take-append-drop, drop_at, take_at}
use Rattle.std.proofs.Math.Bool.{true}
use mathlib.Core.List.{List, [], ◌∷◌, ◌++◌, append_assoc}
use Rattle.std.proofs.Math.Option.{Option, none, some, bind}
use Prim.Native.Nat.{ℕ, zero, suc, ◌+◌, ◌*◌, ◌/◌, ◌≤◌}
use Rattle.std.proofs.Math.Decide.{dec_le, ℕ_discrete}
use native.Mathlib.Omega.{arith}
use Rattle.std.proofs.Math.ListN.{length, length-append, take}
use Rattle.std.proofs.Math.Seq.{length-take-le}
use Rattle.std.proofs.Math.Dec.{leb}
use borrow.Author.Tests.{le-leb, lt-leb, eq-eqb, ne_eqb}
use Rattle.base.specs.Pick.{pick}
use Rattle.parameters.specs.Parameters.{parameter_words}
use Rattle.selector.specs.Gates.{gate_words}
use Rattle.pieces.specs.Records.{whole, cut, read_by, row_size, table_size, rows_of, tables_of}
use Rattle.base.specs.Each.{Each}
use Rattle.pieces.specs.RecordLaws.{Whole}
use Rattle.listing.specs.Listing.{Taken, off, after, records, section, fixed, headed, Words, eight, ended, six_sections, or_twenty, read}
use Rattle.listing.specs.Writing.{counted, written}

-- what a listing can say
pub record Sound (w : Words) : Type 0 where
  pub eight-words : length w.parameters ≡ parameter_words
  pub whole_gates : length w.gates / gate_words * gate_words ≡ length w.gates
  pub whole_rows : Each Whole (rows_of w.rows)
  pub whole_tables : Each Whole (tables_of w.tables)

abbrev split : List ℕ → List ℕ → Option Taken
split ws rest = some (record { front = ws; rest = rest })

-- as many words off the front as there are
off-append : (n : ℕ) (ws rest : List ℕ) → n ≡ length ws → off n (ws ++ rest) ≡ split ws rest
unfolding off
off-append n ws rest e =
    rw (le-leb n (length (ws ++ rest)) (omega (arith, length-append ws rest, e)), take_at ws rest n (sym e), drop_at ws rest n (sym e))

-- a record more in front
more : (long : List ℕ → ℕ) (n : ℕ) (a b rest : List ℕ) → long (a ++ (b ++ rest)) ≡ length a → records long n (b ++ rest) ≡ split b rest
    → records long (suc n) ((a ++ b) ++ rest) ≡ split (a ++ b) rest
unfolding records bind
more long n a b rest e r =
    rw (append_assoc a b rest, off-append (long (a ++ (b ++ rest))) a (b ++ rest) e, r)

-- ---- records that are all as long
fixed_back : (each n : ℕ) (ws rest : List ℕ) → n * each ≡ length ws → records (fixed each) n (ws ++ rest) ≡ split ws rest
unfolding records
fixed_back each zero [] rest e = refl
fixed_back each zero (w ∷ ws) rest e = absurd (omega (arith, e))
fixed_back each (suc n) ws rest e =
    let a = take each ws in
    let b = drop each ws in
    let l : length a ≡ each = length-take-le each ws (omega (arith, e)) in
    let m : n * each ≡ length b = omega (arith, e, length-drop each ws) in
    let s : a ++ b ≡ ws = take-append-drop each ws in
    rw s at (more (fixed each) n a b rest (sym l) (fixed_back each n b rest m))

-- ---- records that say their length
headed_back : (size : ℕ → ℕ → ℕ) (f : ℕ) (ws rest : List ℕ) → length ws ≤ f → Each Whole (read_by size f ws)
    → records (headed size) (length (read_by size f ws)) (ws ++ rest) ≡ split ws rest
unfolding records read_by
headed_back size zero [] rest h w = refl
headed_back size zero (a ∷ ws) rest h w = absurd (not-suc-le-zero h)
headed_back size (suc f) [] rest h w = refl
headed_back size (suc f) (a ∷ []) rest h (w, _) = absurd w
headed_back size (suc f) (a ∷ (b ∷ ws)) rest h w = go (dec_le n (length ws)) w (headed_back size f (drop n ws) rest (omega (arith, length-drop n ws)))
  where
    n : ℕ
    n = size a b

    go : Dec (n ≤ length ws) → Each Whole (pick (leb n (length ws)) (whole a b (take n ws) ∷ read_by size f (drop n ws)) (cut ∷ []))
        → (Each Whole (read_by size f (drop n ws)) → records (headed size) (length (read_by size f (drop n ws))) (drop n ws ++ rest) ≡ split (drop n ws) rest)
        → records (headed size) (length (pick (leb n (length ws)) (whole a b (take n ws) ∷ read_by size f (drop n ws)) (cut ∷ []))) ((a ∷ (b ∷ ws)) ++ rest) ≡ split (a ∷ (b ∷ ws)) rest
    go (yes k) q r =
        let t : leb n (length ws) ≡ true = le-leb n (length ws) k in
        let q' = rw t at q in
        let l : 2 + n ≡ length (a ∷ (b ∷ take n ws)) = omega (arith, length-take-le n ws k) in
        let s : take n ws ++ drop n ws ≡ ws = take-append-drop n ws in
        rw t (rw s at (more (headed size) (length (read_by size f (drop n ws))) (a ∷ (b ∷ take n ws)) (drop n ws) rest l (r q'.1)))
    go (no k) q r =
        let t : leb n (length ws) ≡ false = lt-leb n (length ws) (omega arith) in
        let q' = rw t at q in absurd q'.0

-- ---- what is written is read back
module _ (w : Words) (s : Sound w) where
  abbrev tables-part : List ℕ
  tables-part = counted (length (tables_of w.tables)) w.tables []

  abbrev cells_part : List ℕ
  cells_part = counted (length w.cells) w.cells tables-part

  abbrev s-part : List ℕ
  s-part = counted (length w.s_words) w.s_words cells_part

  abbrev rows_part : List ℕ
  rows_part = counted (length (rows_of w.rows)) w.rows s-part

  abbrev gates-part : List ℕ
  gates-part = counted (length w.gates / gate_words) w.gates rows_part

  plain : (ws rest : List ℕ) → section (fixed 1) (counted (length ws) ws rest) ≡ split ws rest
  unfolding section
  plain ws rest = fixed_back 1 (length ws) ws rest (omega arith)

  gates_back : section (fixed gate_words) gates-part ≡ split w.gates rows_part
  unfolding section
  gates_back = fixed_back gate_words (length w.gates / gate_words) w.gates rows_part s.whole_gates

  rows_back : section (headed row_size) rows_part ≡ split w.rows s-part
  unfolding section rows_of
  rows_back = headed_back row_size (length w.rows) w.rows s-part (omega arith) s.whole_rows

  tables_back : section (headed table_size) tables-part ≡ split w.tables []
  unfolding section tables_of
  tables_back = headed_back table_size (length w.tables) w.tables [] (omega arith) s.whole_tables

  pub read-written : read (written w) ≡ Rattle.listing.specs.Listing.whole w
  unfolding read six_sections written bind
  read-written =
      rw (plain w.parameters gates-part, eq-eqb (length w.parameters) parameter_words s.eight-words, gates_back, rows_back, plain w.s_words cells_part, plain w.cells tables-part, tables_back)

-- ---- what is read can be written
-- a bind that is there came from something that is there
pub record Bound {A B : Type 0} (o : Option A) (f : A → Option B) (b : B) : Type 0 where
  pub from : A
  pub there : o ≡ some from
  pub then : f from ≡ some b

bound : {A B : Type 0} (o : Option A) (f : A → Option B) (b : B) → bind o f ≡ some b → Bound o f b
unfolding bind
bound none f b e = absurd (let z : ◌≡◌ {A = ℕ} 0 1 = cc in omega arith)
bound (some a) f b e = record { from = a; there = refl; then = e }

-- so many words off the front are there, and the rest behind them
off_there : (n : ℕ) (xs : List ℕ) (t : Taken) → off n xs ≡ some t → (n ≤ length xs) × (t ≡ record { front = take n xs; rest = drop n xs })
unfolding off
off_there n xs t e = go (dec_le n (length xs))
  where
    go : Dec (n ≤ length xs) → (n ≤ length xs) × (t ≡ record { front = take n xs; rest = drop n xs })
    go (yes h) = let q = rw (le-leb n (length xs) h) at e in (h, let k : t ≡ record { front = take n xs; rest = drop n xs } = cc in k)
    go (no h) = let q = rw (lt-leb n (length xs) (omega arith)) at e in absurd (let z : ◌≡◌ {A = ℕ} 0 1 = cc in omega arith)

-- one record, and those after it
pub record Onward (long : List ℕ → ℕ) (n : ℕ) (xs : List ℕ) (t : Taken) : Type 0 where
  pub later : Taken
  pub fits : long xs ≤ length xs
  pub rest_read : records long n (drop (long xs) xs) ≡ some later
  pub is : t ≡ record { front = take (long xs) xs ++ later.front; rest = later.rest }

onward_by : (long : List ℕ → ℕ) (n : ℕ) (xs : List ℕ) (t u v : Taken) → off (long xs) xs ≡ some u → records long n u.rest ≡ some v → after u.front v ≡ some t → Onward long n xs t
onward_by long n xs t u v a b c =
    let o = off_there (long xs) xs u a in
    let k : t ≡ record { front = u.front ++ v.front; rest = v.rest } = cc in
    record { later = v; fits = o.0; rest_read = subst (λ (y : Taken). records long n y.rest ≡ some v) o.1 b; is = subst (λ (y : Taken). t ≡ record { front = y.front ++ v.front; rest = v.rest }) o.1 k }

onward : (long : List ℕ → ℕ) (n : ℕ) (xs : List ℕ) (t : Taken) → records long (suc n) xs ≡ some t → Onward long n xs t
unfolding records
onward long n xs t e =
    let a = bound (off (long xs) xs) (λ u. bind (records long n u.rest) (after u.front)) t e in
    let b = bound (records long n a.from.rest) (after a.from.front) t a.then in
    onward_by long n xs t a.from b.from a.there b.there b.then

parts_are : (long : List ℕ → ℕ) (n : ℕ) (xs : List ℕ) (t : Taken) → records long n xs ≡ some t → xs ≡ t.front ++ t.rest
unfolding records
parts_are long zero xs t e = let k : t ≡ record { front = []; rest = xs } = cc in rw k
parts_are long (suc n) xs t e =
    let o = onward long n xs t e in
    let r = parts_are long n (drop (long xs) xs) o.later o.rest_read in
    rw (o.is, append_assoc, ← r) (sym (take-append-drop (long xs) xs))

fixed-many : (each n : ℕ) (xs : List ℕ) (t : Taken) → records (fixed each) n xs ≡ some t → length t.front ≡ n * each
unfolding records
fixed-many each zero xs t e = let k : t ≡ record { front = []; rest = xs } = cc in rw k (omega arith)
fixed-many each (suc n) xs t e =
    let o = onward (fixed each) n xs t e in
    let r = fixed-many each n (drop each xs) o.later o.rest_read in
    rw o.is (omega (arith, length-append (take each xs) o.later.front, length-take-le each xs o.fits, r))

-- records that say their length are whole, and as many as the count
module _ (size : ℕ → ℕ → ℕ) where
  pub record Many (n : ℕ) (front : List ℕ) : Type 0 where
    pub are_whole : (f : ℕ) → length front ≤ f → Each Whole (read_by size f front)
    pub count_is : (f : ℕ) → length front ≤ f → length (read_by size f front) ≡ n

  no_records : Many 0 []
  unfolding read_by
  no_records = record { are_whole = λ f h. none_whole f; count_is = λ f h. none_count f }
    where
      none_whole : (f : ℕ) → Each Whole (read_by size f [])
      none_whole zero = tt
      none_whole (suc f) = tt

      none_count : (f : ℕ) → length (read_by size f []) ≡ 0
      none_count zero = refl
      none_count (suc f) = refl

  one_more : (n a b : ℕ) (cs front : List ℕ) → length cs ≡ size a b → Many n front → Many (suc n) (a ∷ (b ∷ (cs ++ front)))
  unfolding read_by
  one_more n a b cs front e m = record { are_whole = all; count_is = count }
    where
      here : leb (size a b) (length (cs ++ front)) ≡ true
      here = le-leb (size a b) (length (cs ++ front)) (omega (arith, length-append cs front, e))

      behind : drop (size a b) (cs ++ front) ≡ front
      behind = drop_at cs front (size a b) e

      all : (f : ℕ) → length (a ∷ (b ∷ (cs ++ front))) ≤ f → Each Whole (read_by size f (a ∷ (b ∷ (cs ++ front))))
      all zero h = absurd (not-suc-le-zero h)
      all (suc f) h = rw (here, behind) (tt, m.are_whole f (omega (arith, h, length-append cs front)))

      count : (f : ℕ) → length (a ∷ (b ∷ (cs ++ front))) ≤ f → length (read_by size f (a ∷ (b ∷ (cs ++ front)))) ≡ suc n
      count zero h = absurd (not-suc-le-zero h)
      count (suc f) h = rw (here, behind) (ap suc (m.count_is f (omega (arith, h, length-append cs front))))

  headed-many : (n : ℕ) (xs : List ℕ) (t : Taken) → records (headed size) n xs ≡ some t → Many n t.front
  unfolding records
  headed-many zero xs t e = let k : t ≡ record { front = []; rest = xs } = cc in rw k no_records
  headed-many (suc n) xs t e = go xs (onward (headed size) n xs t e) (λ u. headed-many n (drop (headed size xs) xs) u)
    where
      go : (xs : List ℕ) → (o : Onward (headed size) n xs t) → ((u : Taken) → records (headed size) n (drop (headed size xs) xs) ≡ some u → Many n u.front) → Many (suc n) t.front
      go [] o r = absurd (omega (arith, o.fits))
      go (a ∷ []) o r = absurd (omega (arith, o.fits))
      go (a ∷ (b ∷ cs)) o r =
          let l : length (take (size a b) cs) ≡ size a b = length-take-le (size a b) cs (omega (arith, o.fits)) in
          let z : 2 + size a b ≡ suc (suc (size a b)) = omega arith in
          let k : take (2 + size a b) (a ∷ (b ∷ cs)) ++ o.later.front ≡ a ∷ (b ∷ (take (size a b) cs ++ o.later.front)) = rw z in
          rw (o.is, k) (one_more n a b (take (size a b) cs) o.later.front l (r o.later o.rest_read))

-- a section with its count
pub record Section_of (long : List ℕ → ℕ) (xs : List ℕ) (t : Taken) : Type 0 where
  pub count : ℕ
  pub is : xs ≡ counted count t.front t.rest
  pub behind : List ℕ
  pub reads : records long count behind ≡ some t

section_there : (long : List ℕ → ℕ) (xs : List ℕ) (t : Taken) → section long xs ≡ some t → Section_of long xs t
unfolding section
section_there long [] t e = absurd (let z : ◌≡◌ {A = ℕ} 0 1 = cc in omega arith)
section_there long (n ∷ xs) t e = record { count = n; is = ap (λ (l : List ℕ). n ∷ l) (parts_are long n xs t e); behind = xs; reads = e }

plain_there : (xs : List ℕ) (t : Taken) → section (fixed 1) xs ≡ some t → xs ≡ counted (length t.front) t.front t.rest
plain_there xs t e =
    let s = section_there (fixed 1) xs t e in
    let n : s.count ≡ length t.front = omega (arith, fixed-many 1 s.count s.behind t s.reads) in
    s.is ∙ ap (λ (k : ℕ). counted k t.front t.rest) n

gates_there : (xs : List ℕ) (t : Taken) → section (fixed gate_words) xs ≡ some t
    → (xs ≡ counted (length t.front / gate_words) t.front t.rest) × (length t.front / gate_words * gate_words ≡ length t.front)
gates_there xs t e =
    let s = section_there (fixed gate_words) xs t e in
    let m : length t.front ≡ s.count * gate_words = fixed-many gate_words s.count s.behind t s.reads in
    let n : s.count ≡ length t.front / gate_words = rw m (sym (mul-div_cancel s.count (omega arith))) in
    (s.is ∙ ap (λ (k : ℕ). counted k t.front t.rest) n, rw (← n) (sym m))

rows_there : (xs : List ℕ) (t : Taken) → section (headed row_size) xs ≡ some t → (xs ≡ counted (length (rows_of t.front)) t.front t.rest) × Each Whole (rows_of t.front)
unfolding rows_of
rows_there xs t e =
    let s = section_there (headed row_size) xs t e in
    let m = headed-many row_size s.count s.behind t s.reads in
    (s.is ∙ ap (λ (k : ℕ). counted k t.front t.rest) (sym (m.count_is (length t.front) (omega arith))), m.are_whole (length t.front) (omega arith))

tables_there : (xs : List ℕ) (t : Taken) → section (headed table_size) xs ≡ some t → (xs ≡ counted (length (tables_of t.front)) t.front t.rest) × Each Whole (tables_of t.front)
unfolding tables_of
tables_there xs t e =
    let s = section_there (headed table_size) xs t e in
    let m = headed-many table_size s.count s.behind t s.reads in
    (s.is ∙ ap (λ (k : ℕ). counted k t.front t.rest) (sym (m.count_is (length t.front) (omega arith))), m.are_whole (length t.front) (omega arith))

-- eight parameters
eight_there : (o : Option Taken) (p : Taken) → bind o eight ≡ some p → (o ≡ some p) × (length p.front ≡ parameter_words)
unfolding bind
eight_there none p e = absurd (let z : ◌≡◌ {A = ℕ} 0 1 = cc in omega arith)
eight_there (some q) p e = go (ℕ_discrete (length q.front) parameter_words)
  where
    go : Dec (length q.front ≡ parameter_words) → (some q ≡ some p) × (length p.front ≡ parameter_words)
    go (yes k) =
        let r = rw (eq-eqb (length q.front) parameter_words k) at e in
        let h : q ≡ p = cc in
        (r, rw h at k)
    go (no k) = let r = rw (ne_eqb (length q.front) parameter_words k) at e in absurd (let z : ◌≡◌ {A = ℕ} 0 1 = cc in omega arith)

ended_there : (v w : Words) (rest : List ℕ) → ended v rest ≡ some w → (v ≡ w) × (rest ≡ [])
ended_there v w [] e = (let h : v ≡ w = cc in h, refl)
ended_there v w (x ∷ rest) e =
    let r = rw (ne_eqb (length (x ∷ rest)) 0 (λ z. omega (arith, z))) at e in absurd (let z : ◌≡◌ {A = ℕ} 0 1 = cc in omega arith)

-- a listing that is read is just what is written of its sections
six_there : (xs : List ℕ) (w : Words) → six_sections xs ≡ some w → Sound w × (xs ≡ written w)
unfolding six_sections written
six_there xs w e =
    let p = bound (bind (section (fixed 1) xs) eight) _ w e in
    let g = bound (section (fixed gate_words) p.from.rest) _ w p.then in
    let r = bound (section (headed row_size) g.from.rest) _ w g.then in
    let s = bound (section (fixed 1) r.from.rest) _ w r.then in
    let c = bound (section (fixed 1) s.from.rest) _ w s.then in
    let t = bound (section (headed table_size) c.from.rest) _ w c.then in
    let f = ended_there _ w t.from.rest t.then in
    let p' = eight_there (section (fixed 1) xs) p.from p.there in
    let g' = gates_there p.from.rest g.from g.there in
    let r' = rows_there g.from.rest r.from r.there in
    let t' = tables_there c.from.rest t.from t.there in
    subst (λ (y : Words). Sound y × (xs ≡ written y)) f.0 (
      record { eight-words = p'.1; whole_gates = g'.1; whole_rows = r'.1; whole_tables = t'.1 },
      plain_there xs p.from p'.0
          ∙ ap (counted (length p.from.front) p.from.front)
          (g'.0 ∙ ap (counted (length g.from.front / gate_words) g.from.front)
          (r'.0 ∙ ap (counted (length (rows_of r.from.front)) r.from.front)
          (plain_there r.from.rest s.from s.there ∙ ap (counted (length s.from.front) s.from.front)
          (plain_there s.from.rest c.from c.there ∙ ap (counted (length c.from.front) c.from.front)
          (t'.0 ∙ ap (counted (length (tables_of t.from.front)) t.from.front) f.1))))),
    )

pub read_sound : (xs : List ℕ) (w : Words) → read xs ≡ Rattle.listing.specs.Listing.whole w → Sound w × (xs ≡ written w)
unfolding read
read_sound xs w e = go (six_sections xs) refl e
  where
    go : (o : Option Words) → six_sections xs ≡ o → or_twenty o ≡ Rattle.listing.specs.Listing.whole w → Sound w × (xs ≡ written w)
    go none q h = absurd (let z : ◌≡◌ {A = ℕ} 0 1 = cc in omega arith)
    go (some v) q h = let k : v ≡ w = cc in six_there xs w (q ∙ ap some k)
