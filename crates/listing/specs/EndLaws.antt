-- Laws of where a listing's sections end.
--
-- Main statements: `end_step`, `end-from`, `end_past`, `end-fixed` (n records end, one more); `found`, `missing`, `section_known`, `section_missing` (the two answers of a section);
-- `wrong_count`, `late-..` and `found_whole` (the whole test, from the first section that is missing); `product-leb` (a product against a bound, by a division).
use Rattle.std.specs.Prelude.{◌≡◌, ◌≢◌, List, length, get_or, leb, Some, None, Ok, Err}
use Rattle.std.proofs.Math.Path.{refl}
use Rattle.std.proofs.Common.{sym, ap, ◌∙◌, le-div_iff_mul-le, div-lt_iff_lt-mul, mul_comm, zero-mul, suc-mul}
use Prim.Native.Nat.{ℕ, zero, suc, ◌+◌, ◌-◌, ◌*◌, ◌/◌, ◌≤◌, ◌<◌}
use Rattle.std.proofs.Math.Decide.{dec_le, ℕ_discrete}
use native.Mathlib.Omega.{arith}
use borrow.Author.Tests.{le-leb, lt-leb, eq-eqb, ne_eqb}
use Rattle.selector.specs.Gates.{gate_words}
use Rattle.pieces.specs.Records.{row_size, table_size}
use Rattle.parameters.specs.Parameters.{parameter_words}
use Rattle.refusal.specs.declared.Refusal.TheVariants.{Listing}
use Rattle.listing.specs.Ends.{end_of, long_at, fixed_end, records_end, part, sections_at, judged, listing_from}
use Rattle.listing.specs.Places.{section_of}
use Rattle.listing.specs.declared.sections.Part.{Part}

-- ---- n records
module _ (size : ℕ → ℕ) where
  pub end_none : (at : ℕ) → end_of size 0 at ≡ at
  unfolding end_of
  end_none at = refl

  pub end_step : (n at : ℕ) → 0 < n → end_of size n at ≡ end_of size (n - 1) (at + size at)
  unfolding end_of
  end_step zero at h = absurd (omega arith)
  end_step (suc n) at h =
      let e : suc n - 1 ≡ n = omega arith in
      rw e

  -- records end no sooner than they begin
  pub end-from : (n at : ℕ) → at ≤ end_of size n at
  unfolding end_of
  end-from zero at = omega arith
  end-from (suc n) at = omega (arith, end-from n (at + size at))

  -- and one record or more no sooner than the first of them
  pub end_past : (n at : ℕ) → 0 < n → at + size at ≤ end_of size n at
  end_past n at h = omega (arith, end_step n at h, end-from (n - 1) (at + size at))

-- records that are all as long
pub end-fixed : (each n at : ℕ) → end_of (λ i. each) n at ≡ at + n * each
unfolding end_of
end-fixed each zero at = omega (arith, zero-mul each)
end-fixed each (suc n) at = omega (arith, end-fixed each n (at + each), suc-mul n each)

-- a section ends past its count
module _ (xs : List ℕ) (at : ℕ) where
  pub fixed_past : (each : ℕ) → at < fixed_end each xs at
  unfolding fixed_end
  fixed_past each = omega arith

  pub records_past : (size : ℕ → ℕ → ℕ) → at < records_end size xs at
  unfolding records_end
  records_past size = omega (arith, end-from (long_at size xs) (get_or xs at 0) (at + 1))

-- a product is within a bound when one factor is within the quotient: what no machine word need hold
pub product-leb : (a b room : ℕ) → a ≢ 0 → leb b (room / a) ≡ leb (a * b) room
product-leb a b room h = go (dec_le (a * b) room)
  where
    pos : 0 < a
    pos = omega arith

    go : Dec (a * b ≤ room) → leb b (room / a) ≡ leb (a * b) room
    go (yes p) = le-leb _ _ ((le-div_iff_mul-le pos).1 (rw (mul_comm a b) at p)) ∙ sym (le-leb _ _ p)
    go (no p) =
        let q : room / a < b = (div-lt_iff_lt-mul pos).1 (rw (mul_comm b a) (omega arith)) in
        lt-leb _ _ q ∙ sym (lt-leb (a * b) room (omega arith))

-- ---- one section
module _ (words at e : ℕ) where
  pub found : (start len : ℕ) → start ≡ at + 1 → start + len ≡ e → e ≤ words → Some (record { start = start; len = len }) ≡ section_of words at e
  found start len p q h =
      let k : e - (at + 1) ≡ len = omega arith in
      rw (le-leb e words h, k, p)

  pub missing : words < e → None ≡ section_of words at e
  missing h = simp (lt-leb _ _ h)

-- what an answer of a section says, the section ending past its count
pub record Known (words at e : ℕ) (p : Part) : Type 0 where
  pub is : p ≡ part at (p.start + p.len)
  pub begin : p.start ≡ at + 1
  pub end : p.start + p.len ≡ e
  pub within : e ≤ words

pub section_known : (words at e : ℕ) (p : Part) → at < e → Some p ≡ section_of words at e → Known words at e p
section_known words at e p past f = go (dec_le e words)
  where
    go : Dec (e ≤ words) → Known words at e p
    go (yes h) =
        let q : Some p ≡ Some (part at e) = f ∙ rw (le-leb e words h) in
        let i : p ≡ part at e = cc in
        let k : p.start + p.len ≡ e = ap (λ (x : Part). x.start + x.len) i ∙ omega arith in
        record { is = i ∙ ap (part at) (sym k); begin = ap (λ (x : Part). x.start) i; end = k; within = h }
    go (no h) =
        let q : Some p ≡ None = f ∙ sym (missing words at e (omega arith)) in
        let z : ◌≡◌ {A = ℕ} 0 1 = cc in
        absurd (omega arith)

pub section_missing : (words at e : ℕ) → None ≡ section_of words at e → words < e
section_missing words at e f = go (dec_le e words)
  where
    go : Dec (e ≤ words) → words < e
    go (yes h) =
        let q : None ≡ Some (part at e) = f ∙ rw (le-leb e words h) in
        let z : ◌≡◌ {A = ℕ} 0 1 = cc in
        absurd (omega arith)
    go (no h) = omega arith

-- ---- a loop over the records of a section: it stands at i, and so many are left
pub record Going (size : ℕ → ℕ → ℕ) (xs : List ℕ) (at left i : ℕ) : Type 0 where
  pub from : at < i
  pub within : i ≤ length xs
  pub same : records_end size xs at ≡ end_of (long_at size xs) left i

module _ (size : ℕ → ℕ → ℕ) (xs : List ℕ) (at : ℕ) where
  pub going_begin : at < length xs → Going size xs at (get_or xs at 0) (at + 1)
  unfolding records_end
  going_begin h = record { from = omega arith; within = omega arith; same = refl }

  module _ (left i : ℕ) (l : Going size xs at left i) where
    pub going_next : 0 < left → i + long_at size xs i ≤ length xs → Going size xs at (left - 1) (i + long_at size xs i)
    going_next h k = record { from = omega (arith, l.from); within = k; same = l.same ∙ end_step (long_at size xs) left i h }

    -- a record that does not fit ends past the words, and so do all
    pub going_gone : 0 < left → length xs < i + long_at size xs i → None ≡ section_of (length xs) at (records_end size xs at)
    going_gone h k = missing (length xs) at (records_end size xs at) (omega (arith, end_past (long_at size xs) left i h, l.same))

    pub going_done : left ≡ 0 → Some (record { start = at + 1; len = i - (at + 1) }) ≡ section_of (length xs) at (records_end size xs at)
    going_done z =
        let q : records_end size xs at ≡ i = l.same ∙ ap (λ (n : ℕ). end_of (long_at size xs) n i) z ∙ end_none (long_at size xs) i in
        found (length xs) at (records_end size xs at) (at + 1) (i - (at + 1)) refl (omega (arith, l.from)) (omega (arith, l.within))

-- ---- the whole test
-- each section ends where the definition says
pub record Ends (xs : List ℕ) (at g r s c t e : ℕ) : Type 0 where
  pub parameters : g ≡ fixed_end 1 xs at
  pub gates : r ≡ fixed_end gate_words xs g
  pub rows : s ≡ records_end row_size xs r
  pub s-words : c ≡ fixed_end 1 xs s
  pub cells : t ≡ fixed_end 1 xs c
  pub tables : e ≡ records_end table_size xs t

module _ (xs : List ℕ) (at g r s c t e : ℕ) where
  pub listing-judged : Ends xs at g r s c t e → listing_from xs at ≡ judged xs at g r s c t e
  unfolding listing_from
  listing-judged h = rw (← h.parameters, ← h.gates, ← h.rows, ← h.s-words, ← h.cells, ← h.tables)

  pub judged_count : g - (at + 1) ≢ parameter_words → judged xs at g r s c t e ≡ Err Listing
  unfolding judged
  judged_count h = simp (ne_eqb _ _ h)

  pub judged_late : e ≢ length xs → judged xs at g r s c t e ≡ Err Listing
  unfolding judged
  judged_late h = go (ℕ_discrete (g - (at + 1)) parameter_words)
    where
      go : Dec (g - (at + 1) ≡ parameter_words) → judged xs at g r s c t e ≡ Err Listing
      go (yes p) = simp (eq-eqb _ _ p, ne_eqb _ _ h)
      go (no p) = simp (ne_eqb _ _ p)

  pub judged_whole : g - (at + 1) ≡ parameter_words → e ≡ length xs → judged xs at g r s c t e ≡ Ok (sections_at at g r s c t e)
  unfolding judged
  judged_whole p q = simp (eq-eqb _ _ p, eq-eqb _ _ q)

-- the same from the first section that is missing: all later ones end still further on
module _ (xs : List ℕ) (at : ℕ) where
  abbrev ends : (g r s c t : ℕ) → g ≡ fixed_end 1 xs at → r ≡ fixed_end gate_words xs g → s ≡ records_end row_size xs r → c ≡ fixed_end 1 xs s → t ≡ fixed_end 1 xs c
      → Ends xs at g r s c t (records_end table_size xs t)
  ends g r s c t hg hr hs hc ht = record { parameters = hg; gates = hr; rows = hs; s-words = hc; cells = ht; tables = refl }

  pub late_tables : (g r s c t : ℕ) → g ≡ fixed_end 1 xs at → r ≡ fixed_end gate_words xs g → s ≡ records_end row_size xs r → c ≡ fixed_end 1 xs s → t ≡ fixed_end 1 xs c
      → records_end table_size xs t ≢ length xs → Err Listing ≡ listing_from xs at
  late_tables g r s c t hg hr hs hc ht h =
      sym (listing-judged xs at g r s c t _ (ends g r s c t hg hr hs hc ht) ∙ judged_late xs at g r s c t (records_end table_size xs t) h)

  pub late_cells : (g r s c : ℕ) → g ≡ fixed_end 1 xs at → r ≡ fixed_end gate_words xs g → s ≡ records_end row_size xs r → c ≡ fixed_end 1 xs s
      → length xs < fixed_end 1 xs c → Err Listing ≡ listing_from xs at
  late_cells g r s c hg hr hs hc h = late_tables g r s c (fixed_end 1 xs c) hg hr hs hc refl (λ z. omega (arith, records_past xs (fixed_end 1 xs c) table_size))

  pub late_s : (g r s : ℕ) → g ≡ fixed_end 1 xs at → r ≡ fixed_end gate_words xs g → s ≡ records_end row_size xs r → length xs < fixed_end 1 xs s → Err Listing ≡ listing_from xs at
  late_s g r s hg hr hs h = late_cells g r s (fixed_end 1 xs s) hg hr hs refl (omega (arith, fixed_past xs (fixed_end 1 xs s) 1))

  pub late_rows : (g r : ℕ) → g ≡ fixed_end 1 xs at → r ≡ fixed_end gate_words xs g → length xs < records_end row_size xs r → Err Listing ≡ listing_from xs at
  late_rows g r hg hr h = late_s g r (records_end row_size xs r) hg hr refl (omega (arith, fixed_past xs (records_end row_size xs r) 1))

  pub late_gates : (g : ℕ) → g ≡ fixed_end 1 xs at → length xs < fixed_end gate_words xs g → Err Listing ≡ listing_from xs at
  late_gates g hg h = late_rows g (fixed_end gate_words xs g) hg refl (omega (arith, records_past xs (fixed_end gate_words xs g) row_size))

  pub late_parameters : length xs < fixed_end 1 xs at → Err Listing ≡ listing_from xs at
  late_parameters h = late_gates (fixed_end 1 xs at) refl (omega (arith, fixed_past xs (fixed_end 1 xs at) gate_words))

  pub wrong_count : (g : ℕ) → g ≡ fixed_end 1 xs at → g - (at + 1) ≢ parameter_words → Err Listing ≡ listing_from xs at
  wrong_count g hg h = sym (listing-judged xs at g _ _ _ _ _ (ends g _ _ _ _ hg refl refl refl refl) ∙ judged_count xs at g _ _ _ _ _ h)

  -- the parts that the sections' answers hold are the six
  pub found_whole : (G R S C T E : ℕ) (p g r s c t : Part) → p ≡ part at G → g ≡ part G R → r ≡ part R S → s ≡ part S C → c ≡ part C T → t ≡ part T E
      → Ends xs at G R S C T E → G - (at + 1) ≡ parameter_words → E ≡ length xs
      → Ok (record { parameters = p; gates = g; rows = r; s_words = s; cells = c; tables = t }) ≡ listing_from xs at
  found_whole G R S C T E p g r s c t ep eg er es ec et h k q =
      let six : Ok (record { parameters = p; gates = g; rows = r; s_words = s; cells = c; tables = t }) ≡ Ok (sections_at at G R S C T E) = cc in
      six ∙ sym (listing-judged xs at G R S C T E h ∙ judged_whole xs at G R S C T E k q)

-- what a loop over the records of a section is proved by
pub ruleset record_walk = (missing, records_past, going_begin, going_next, going_gone, going_done)
