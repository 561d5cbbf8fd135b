-- Laws of records and of the first faulty one.
--
-- Main definitions: `Whole`, `Sized`, `Rest` (the records that a loop has still to read).
-- Main statements: `fault_head`, `fault_each` (what no fault says), `read-append` (pieces put end to end), and for loops `rest_begin`, `rest_whole`,
-- `rest-cut`, `rest_done`, `rest-front`.
use Rattle.std.specs.Prelude.{◌≡◌, ◌≢◌, length, get_or, take}
use Rattle.std.proofs.Math.Path.{refl, ap}
use Rattle.std.proofs.Common.{sym, ◌∙◌, not-suc-le-zero, arith, length-append, length-take-le, get_or-drop}
use Rattle.std.proofs.Math.Bool.{true, false}
use mathlib.Core.List.{List, [], ◌∷◌, ◌++◌}
use Prim.Native.Nat.{ℕ, zero, suc, ◌+◌, ◌-◌, ◌≤◌, ◌<◌}
use Rattle.std.proofs.Math.Decide.{ℕ_discrete, dec_le, dec_lt}
use Rattle.std.proofs.Math.ListN.{drop, length-drop}
use Rattle.std.proofs.lemmas.List.{drop-append-le, take-append-le}
use Rattle.std.proofs.Math.Seq.{drop-drop}
use Rattle.std.proofs.Math.Dec.{leb}
use borrow.Author.Tests.{le-leb, lt-leb, eq-eqb, ne_eqb}
use Rattle.base.specs.Pick.{pick}
use Rattle.base.specs.Each.{Each}
use Rattle.base.specs.Drops.{drop-none, drop-two, drop_last}
use Rattle.pieces.specs.Records.{Read, whole, cut, read_by, first_fault}
use Rattle.pieces.specs.Front.{front}

-- what no fault says of each
module _ {S X : Type 0} (fault : S → X → ℕ) (next : S → X → S) where
  pub fault_head : (s : S) (x : X) (xs : List X) → first_fault fault next s (x ∷ xs) ≡ 0 → (fault s x ≡ 0) × (first_fault fault next (next s x) xs ≡ 0)
  unfolding first_fault
  fault_head s x xs e = go (ℕ_discrete (fault s x) 0)
    where
      go : Dec (fault s x ≡ 0) → (fault s x ≡ 0) × (first_fault fault next (next s x) xs ≡ 0)
      go (yes z) = (z, rw (eq-eqb (fault s x) 0 z) at e)
      go (no d) = absurd (d (rw (ne_eqb (fault s x) 0 d) at e))

  pub fault_here : (s : S) (x : X) (xs : List X) → fault s x ≢ 0 → first_fault fault next s (x ∷ xs) ≡ fault s x
  unfolding first_fault
  fault_here s x xs d = rw (ne_eqb (fault s x) 0 d)

  pub fault_later : (s : S) (x : X) (xs : List X) → fault s x ≡ 0 → first_fault fault next s (x ∷ xs) ≡ first_fault fault next (next s x) xs
  unfolding first_fault
  fault_later s x xs e = rw (eq-eqb (fault s x) 0 e)

  pub fault_each : (P : X → Type 0) → ((s : S) (x : X) → fault s x ≡ 0 → P x) → (s : S) (xs : List X) → first_fault fault next s xs ≡ 0 → Each P xs
  fault_each P good s [] e = tt
  fault_each P good s (x ∷ xs) e = let h = fault_head s x xs e in (good s x h.0, fault_each P good (next s x) xs h.1)

-- two ways to number the faults that agree on each give the same first one
pub first_same : {S X : Type 0} (f g : S → X → ℕ) (next : S → X → S) → ((s : S) (x : X) → f s x ≡ g s x) → (s : S) (xs : List X) → first_fault f next s xs ≡ first_fault g next s xs
unfolding first_fault
first_same f g next e s [] = refl
first_same f g next e s (x ∷ xs) = rw (e s x, first_same f g next e (next s x) xs)

-- ---- records of pieces put end to end
abbrev pub Whole : Read → Type 0
Whole cut = ⊥
Whole (whole a b ws) = Unit {0}

abbrev pub Sized : (ℕ → ℕ → ℕ) → Read → Type 0
Sized size cut = Unit {0}
Sized size (whole a b ws) = length ws ≡ size a b

module _ (size : ℕ → ℕ → ℕ) where
  -- a record has the words that it says
  pub read_sized : (f : ℕ) (ws : List ℕ) → Each (Sized size) (read_by size f ws)
  unfolding read_by
  read_sized zero ws = tt
  read_sized (suc f) [] = tt
  read_sized (suc f) (a ∷ []) = (tt, tt)
  read_sized (suc f) (a ∷ (b ∷ ws)) = go (dec_le (size a b) (length ws)) (read_sized f (drop (size a b) ws))
    where
      n : ℕ
      n = size a b

      go : Dec (n ≤ length ws) → Each (Sized size) (read_by size f (drop n ws)) → Each (Sized size) (pick (leb n (length ws)) (whole a b (take n ws) ∷ read_by size f (drop n ws)) (cut ∷ []))
      go (yes h) r = rw (le-leb n (length ws) h) (length-take-le n ws h, r)
      go (no h) r = rw (lt-leb n (length ws) (omega arith)) (tt, tt)

  -- more fuel reads the same
  pub read_fuel : (f g : ℕ) (ws : List ℕ) → length ws ≤ f → length ws ≤ g → read_by size f ws ≡ read_by size g ws
  unfolding read_by
  read_fuel zero zero ws a b = refl
  read_fuel zero (suc g) [] a b = refl
  read_fuel zero (suc g) (w ∷ ws) a b = absurd (not-suc-le-zero a)
  read_fuel (suc f) zero [] a b = refl
  read_fuel (suc f) zero (w ∷ ws) a b = absurd (not-suc-le-zero b)
  read_fuel (suc f) (suc g) [] a b = refl
  read_fuel (suc f) (suc g) (x ∷ []) a b = refl
  read_fuel (suc f) (suc g) (x ∷ (y ∷ ws)) a b =
      rw (read_fuel f g (drop (size x y) ws) (omega (arith, length-drop (size x y) ws)) (omega (arith, length-drop (size x y) ws)))

  pub read-append : (f g e : ℕ) (xs ys : List ℕ) → length xs ≤ f → length ys ≤ g → length xs + length ys ≤ e → Each Whole (read_by size f xs)
      → read_by size e (xs ++ ys) ≡ read_by size f xs ++ read_by size g ys
  unfolding read_by
  read-append zero g e [] ys a b c w = read_fuel e g ys (omega arith) b
  read-append zero g e (x ∷ xs) ys a b c w = absurd (not-suc-le-zero a)
  read-append (suc f) g e [] ys a b c w = read_fuel e g ys (omega arith) b
  read-append (suc f) g e (x ∷ []) ys a b c (w, _) = absurd w
  read-append (suc f) g zero (x ∷ (y ∷ xs)) ys a b c w = absurd (omega arith)
  read-append (suc f) g (suc e) (x ∷ (y ∷ xs)) ys a b c w = go (dec_le (size x y) (length xs)) w
      (read-append f g e (drop (size x y) xs) ys (omega (arith, length-drop (size x y) xs)) b (omega (arith, length-drop (size x y) xs)))
    where
      n : ℕ
      n = size x y

      go : Dec (n ≤ length xs)
          → Each Whole (pick (leb n (length xs)) (whole x y (take n xs) ∷ read_by size f (drop n xs)) (cut ∷ []))
          → (Each Whole (read_by size f (drop n xs)) → read_by size e (drop n xs ++ ys) ≡ read_by size f (drop n xs) ++ read_by size g ys)
          → pick (leb n (length (xs ++ ys))) (whole x y (take n (xs ++ ys)) ∷ read_by size e (drop n (xs ++ ys))) (cut ∷ [])
          ≡ pick (leb n (length xs)) (whole x y (take n xs) ∷ read_by size f (drop n xs)) (cut ∷ []) ++ read_by size g ys
      go (yes h) q r =
          let t : leb n (length xs) ≡ true = le-leb n (length xs) h in
          let t' : leb n (length (xs ++ ys)) ≡ true = le-leb n (length (xs ++ ys)) (omega (arith, length-append xs ys)) in
          let q' = rw t at q in
          rw (t, t', take-append-le n xs ys h, drop-append-le n xs ys h, r q'.1)
      go (no h) q r =
          let t : leb n (length xs) ≡ false = lt-leb n (length xs) (omega arith) in
          let q' = rw t at q in absurd q'.0

-- ---- a loop over records: those from the word i on. The turns stand in no variable of the code
pub record Rest (size : ℕ → ℕ → ℕ) (ws : List ℕ) (i : ℕ) (rs : List Read) : Type 0 where
  pub turns : ℕ
  pub enough : length ws - i ≤ turns
  pub are : rs ≡ read_by size turns (drop i ws)

-- ---- the record at the front
module _ (size : ℕ → ℕ → ℕ) (ws : List ℕ) where
  pub front_short : length ws < 2 → front size ws ≡ cut
  unfolding front
  front_short h = rw (lt-leb 2 (length ws) h)

  pub front_cut : 2 ≤ length ws → length ws - 2 < size (get_or ws 0 0) (get_or ws 1 0) → front size ws ≡ cut
  unfolding front
  front_cut h k = rw (le-leb 2 (length ws) h, lt-leb (size (get_or ws 0 0) (get_or ws 1 0)) (length ws - 2) k)

  pub front_whole : 2 ≤ length ws → size (get_or ws 0 0) (get_or ws 1 0) ≤ length ws - 2
      → front size ws ≡ whole (get_or ws 0 0) (get_or ws 1 0) (take (size (get_or ws 0 0) (get_or ws 1 0)) (drop 2 ws))
  unfolding front
  front_whole h k = rw (le-leb 2 (length ws) h, le-leb (size (get_or ws 0 0) (get_or ws 1 0)) (length ws - 2) k)

-- the same, of the words from i on
module _ (size : ℕ → ℕ → ℕ) (ws : List ℕ) (i : ℕ) where
  first_word : get_or (drop i ws) 0 0 ≡ get_or ws i 0
  first_word = let z : i + 0 ≡ i = omega arith in rw z at (get_or-drop i ws 0 0)

  second_word : get_or (drop i ws) 1 0 ≡ get_or ws (i + 1) 0
  second_word = get_or-drop i ws 1 0

  pub front_at : i + 1 < length ws → size (get_or ws i 0) (get_or ws (i + 1) 0) ≤ length ws - (i + 2)
      → front size (drop i ws) ≡ whole (get_or ws i 0) (get_or ws (i + 1) 0) (take (size (get_or ws i 0) (get_or ws (i + 1) 0)) (drop (i + 2) ws))
  front_at h k =
      let l = length-drop i ws in
      let k' : size (get_or (drop i ws) 0 0) (get_or (drop i ws) 1 0) ≤ length (drop i ws) - 2 = rw (first_word, second_word) (omega arith) in
      rw (first_word, second_word, drop-drop 2 i ws) at (front_whole size (drop i ws) (omega arith) k')

  pub front-at-cut : i + 1 < length ws → length ws - (i + 2) < size (get_or ws i 0) (get_or ws (i + 1) 0) → front size (drop i ws) ≡ cut
  front-at-cut h k =
      let l = length-drop i ws in
      front_cut size (drop i ws) (omega arith) (rw (first_word, second_word) (omega arith))

  pub front-at_short : length ws ≤ i + 1 → front size (drop i ws) ≡ cut
  front-at_short h = front_short size (drop i ws) (omega (arith, length-drop i ws))

-- one whole record, and those after it
pub record Next (size : ℕ → ℕ → ℕ) (ws : List ℕ) (i : ℕ) (rs : List Read) : Type 0 where
  pub later : List Read
  pub split : rs ≡ whole (get_or ws i 0) (get_or ws (i + 1) 0) (take (size (get_or ws i 0) (get_or ws (i + 1) 0)) (drop (i + 2) ws)) ∷ later
  pub rest : Rest size ws (i + 2 + size (get_or ws i 0) (get_or ws (i + 1) 0)) later

module _ (size : ℕ → ℕ → ℕ) (ws : List ℕ) where
  pub rest_begin : Rest size ws 0 (read_by size (length ws) ws)
  rest_begin = record { turns = length ws; enough = omega arith; are = refl }

  none_left : (f : ℕ) → read_by size f [] ≡ []
  unfolding read_by
  none_left zero = refl
  none_left (suc f) = refl

  pub rest_done : (i : ℕ) (rs : List Read) → Rest size ws i rs → length ws ≤ i → rs ≡ []
  rest_done i rs r h = r.are ∙ ap (read_by size r.turns) (drop-none ws i h) ∙ none_left r.turns

  module _ (i : ℕ) (rs : List Read) (r : Rest size ws i rs) where
    a : ℕ
    a = get_or ws i 0

    b : ℕ
    b = get_or ws (i + 1) 0

    step : (f : ℕ) → i + 1 < length ws → read_by size (suc f) (drop i ws)
        ≡ pick (leb (size a b) (length (drop (i + 2) ws))) (whole a b (take (size a b) (drop (i + 2) ws)) ∷ read_by size f (drop (size a b) (drop (i + 2) ws))) (cut ∷ [])
    unfolding read_by a b
    step f h = ap (read_by size (suc f)) (drop-two ws i h)

    pub rest_whole : i + 1 < length ws → size (get_or ws i 0) (get_or ws (i + 1) 0) ≤ length ws - (i + 2) → Next size ws i rs
    unfolding a b
    rest_whole h k =
        let n = size (get_or ws i 0) (get_or ws (i + 1) 0) in
        let f : r.turns ≡ suc (r.turns - 1) = omega (arith, r.enough) in
        let l : leb n (length (drop (i + 2) ws)) ≡ true = le-leb n (length (drop (i + 2) ws)) (omega (arith, length-drop (i + 2) ws)) in
        let d : drop n (drop (i + 2) ws) ≡ drop (i + 2 + n) ws = drop-drop n (i + 2) ws in
        record {
          later = read_by size (r.turns - 1) (drop (i + 2 + n) ws);
          split = r.are ∙ ap (λ (t : ℕ). read_by size t (drop i ws)) f ∙ step (r.turns - 1) h ∙ rw (l, d);
          rest = record { turns = r.turns - 1; enough = omega (arith, r.enough); are = refl };
        }

    pub rest-cut : i + 1 < length ws → length ws - (i + 2) < size (get_or ws i 0) (get_or ws (i + 1) 0) → rs ≡ cut ∷ []
    unfolding a b
    rest-cut h k =
        let n = size (get_or ws i 0) (get_or ws (i + 1) 0) in
        let f : r.turns ≡ suc (r.turns - 1) = omega (arith, r.enough) in
        let l : leb n (length (drop (i + 2) ws)) ≡ false = lt-leb n (length (drop (i + 2) ws)) (omega (arith, length-drop (i + 2) ws)) in
        r.are ∙ ap (λ (t : ℕ). read_by size t (drop i ws)) f ∙ step (r.turns - 1) h ∙ rw l

    one_left : (f : ℕ) (w : ℕ) → read_by size (suc f) (w ∷ []) ≡ cut ∷ []
    unfolding read_by
    one_left f w = refl

    pub rest_short : i < length ws → length ws ≤ i + 1 → rs ≡ cut ∷ []
    rest_short h k =
        let f : r.turns ≡ suc (r.turns - 1) = omega (arith, r.enough) in
        r.are ∙ ap (λ (t : ℕ). read_by size t (drop i ws)) f ∙ ap (read_by size (suc (r.turns - 1))) (drop_last ws i h k) ∙ one_left (r.turns - 1) (get_or ws i 0)

    -- the records begin with the one at the front
    pub rest-front : i < length ws → (later : List Read) × (rs ≡ front size (drop i ws) ∷ later)
    rest-front h = go (dec_lt (i + 1) (length ws)) (dec_le (size (get_or ws i 0) (get_or ws (i + 1) 0)) (length ws - (i + 2)))
      where
        go : Dec (i + 1 < length ws) → Dec (size (get_or ws i 0) (get_or ws (i + 1) 0) ≤ length ws - (i + 2)) → (later : List Read) × (rs ≡ front size (drop i ws) ∷ later)
        go (no p) q = ([], rest_short h (omega arith) ∙ ap (λ (t : Read). t ∷ []) (sym (front-at_short size ws i (omega arith))))
        go (yes p) (no q) = ([], rest-cut p (omega arith) ∙ ap (λ (t : Read). t ∷ []) (sym (front-at-cut size ws i p (omega arith))))
        go (yes p) (yes q) = let n = rest_whole p q in (n.later, n.split ∙ ap (λ (t : Read). t ∷ n.later) (sym (front_at size ws i p q)))

-- a record at the front that is not cut short
pub record Uncut (size : ℕ → ℕ → ℕ) (ws : List ℕ) (i : ℕ) : Type 0 where
  pub two : i + 1 < length ws
  pub fits : size (get_or ws i 0) (get_or ws (i + 1) 0) ≤ length ws - (i + 2)
  pub is : front size (drop i ws) ≡ whole (get_or ws i 0) (get_or ws (i + 1) 0) (take (size (get_or ws i 0) (get_or ws (i + 1) 0)) (drop (i + 2) ws))

pub uncut : (size : ℕ → ℕ → ℕ) (ws : List ℕ) (i : ℕ) → front size (drop i ws) ≢ cut → Uncut size ws i
uncut size ws i d = go (dec_lt (i + 1) (length ws)) (dec_le (size (get_or ws i 0) (get_or ws (i + 1) 0)) (length ws - (i + 2)))
  where
    go : Dec (i + 1 < length ws) → Dec (size (get_or ws i 0) (get_or ws (i + 1) 0) ≤ length ws - (i + 2)) → Uncut size ws i
    go (no p) q = absurd (d (front-at_short size ws i (omega arith)))
    go (yes p) (no q) = absurd (d (front-at-cut size ws i p (omega arith)))
    go (yes p) (yes q) = record { two = p; fits = q; is = front_at size ws i p q }

-- ---- a loop that looks for the first fault of a piece's records
module _ (size : ℕ → ℕ → ℕ) {S : Type 0} (fault : S → Read → ℕ) (next : S → Read → S) (ws : List ℕ) where
  pub record Looking (first s : S) (i : ℕ) : Type 0 where
    pub within : i ≤ length ws
    pub left : List Read
    pub rest : Rest size ws i left
    pub same : first_fault fault next first (read_by size (length ws) ws) ≡ first_fault fault next s left

  pub looking_begin : (s : S) → Looking s s 0
  looking_begin s = record { within = omega arith; left = read_by size (length ws) ws; rest = rest_begin size ws; same = refl }

  none-left_fault : (s : S) → first_fault fault next s [] ≡ 0
  unfolding first_fault
  none-left_fault s = refl

  pub looking_done : (first s : S) (i : ℕ) → Looking first s i → length ws ≤ i → first_fault fault next first (read_by size (length ws) ws) ≡ 0
  looking_done first s i l h = l.same ∙ ap (first_fault fault next s) (rest_done size ws i l.left l.rest h) ∙ none-left_fault s

  pub looking-found : (first s : S) (i : ℕ) → Looking first s i → i < length ws → fault s (front size (drop i ws)) ≢ 0
      → first_fault fault next first (read_by size (length ws) ws) ≡ fault s (front size (drop i ws))
  looking-found first s i l h d =
      let f = rest-front size ws i l.left l.rest h in
      l.same ∙ ap (first_fault fault next s) f.1 ∙ fault_here fault next s (front size (drop i ws)) f.0 d

  pub looking-next : (first s : S) (i : ℕ) → Looking first s i → fault s cut ≢ 0 → fault s (front size (drop i ws)) ≡ 0
      → Looking first (next s (front size (drop i ws))) (i + 2 + size (get_or ws i 0) (get_or ws (i + 1) 0))
  looking-next first s i l bad e =
      let u = uncut size ws i (λ q. bad (ap (fault s) (sym q) ∙ e)) in
      let n = rest_whole size ws i l.left l.rest u.two u.fits in
      let split : l.left ≡ front size (drop i ws) ∷ n.later = n.split ∙ ap (λ (t : Read). t ∷ n.later) (sym u.is) in
      record {
        within = omega (arith, u.two, u.fits);
        left = n.later;
        rest = n.rest;
        same = l.same ∙ ap (first_fault fault next s) split ∙ fault_later fault next s (front size (drop i ws)) n.later e;
      }

  -- a loop over records without a fault: the one at the front, and those after it
  pub record Going (s : S) (i : ℕ) (left : List Read) : Type 0 where
    pub two : i + 1 < length ws
    pub fits : size (get_or ws i 0) (get_or ws (i + 1) 0) ≤ length ws - (i + 2)
    pub later : List Read
    pub split : left ≡ whole (get_or ws i 0) (get_or ws (i + 1) 0) (take (size (get_or ws i 0) (get_or ws (i + 1) 0)) (drop (i + 2) ws)) ∷ later
    pub rest : Rest size ws (i + 2 + size (get_or ws i 0) (get_or ws (i + 1) 0)) later
    pub good : fault s (whole (get_or ws i 0) (get_or ws (i + 1) 0) (take (size (get_or ws i 0) (get_or ws (i + 1) 0)) (drop (i + 2) ws))) ≡ 0
    pub fine : first_fault fault next (next s (whole (get_or ws i 0) (get_or ws (i + 1) 0) (take (size (get_or ws i 0) (get_or ws (i + 1) 0)) (drop (i + 2) ws)))) later ≡ 0

  pub going : (s : S) (i : ℕ) (left : List Read) → Rest size ws i left → fault s cut ≢ 0 → first_fault fault next s left ≡ 0 → i < length ws → Going s i left
  going s i left r bad e h =
      let f = rest-front size ws i left r h in
      let k = fault_head fault next s (front size (drop i ws)) f.0 (ap (first_fault fault next s) (sym f.1) ∙ e) in
      let u = uncut size ws i (λ q. bad (ap (fault s) (sym q) ∙ k.0)) in
      let n = rest_whole size ws i left r u.two u.fits in
      let j = fault_head fault next s _ n.later (ap (first_fault fault next s) (sym n.split) ∙ e) in
      record { two = u.two; fits = u.fits; later = n.later; split = n.split; rest = n.rest; good = j.0; fine = j.1 }
