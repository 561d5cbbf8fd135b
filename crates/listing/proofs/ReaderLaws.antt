-- The reader of `Listing` and the places of `Ends` say the same.
--
-- Main statements: `listing-read` (the words at the places that the code answers are those that the reader gives, refusal for refusal); from it `read_whole` and `read_refused` (what a caller
-- knows after each of the code's answers), `refused_back`.
use Rattle.std.specs.Prelude.{◌≡◌, ◌≢◌, List, ◌++◌, take, drop, leb, Ok, Err}
use Rattle.std.proofs.Math.Path.{refl, sym, ap}
use Rattle.std.proofs.Common.{◌∙◌, drop-drop, take-add, length-take-le}
use Rattle.std.proofs.Math.Option.{Option, none, some, bind}
use Prim.Native.Nat.{ℕ, zero, suc, ◌+◌, ◌-◌, ◌≤◌, ◌<◌}
use Rattle.std.proofs.Math.Decide.{dec_le, dec_lt, ℕ_discrete}
use native.Mathlib.Omega.{arith}
use Rattle.std.proofs.Math.ListN.{length, get_or, length-drop}
use Rattle.std.proofs.Math.Seq.{get_or-drop}
use borrow.Author.Tests.{le-leb, lt-leb, eq-eqb, ne_eqb}
use Rattle.base.specs.Pick.{pick}
use Rattle.base.specs.Drops.{drop-none, drop-one}
use Rattle.selector.specs.Gates.{gate_words}
use Rattle.pieces.specs.Records.{row_size, table_size}
use Rattle.parameters.specs.Parameters.{parameter_words}
use Rattle.refusal.specs.Refusal.{refusal_number}
use Rattle.refusal.specs.declared.Refusal.{Refusal}
use Rattle.refusal.specs.declared.Refusal.TheVariants.{Listing}
use Rattle.listing.specs.Listing.{Taken, off, after, records, section, fixed, headed, Words, eight, ended, six_sections, whole, refused, or_twenty, read}
use Rattle.listing.specs.Ends.{end_of, long_at, fixed_end, records_end, sections_at, judged, listing_from}
use Rattle.listing.specs.Places.{words_at, parts_of}
use Rattle.listing.specs.declared.sections.Sections.{Sections}
use Rattle.listing.specs.EndLaws.{Ends, end-from, end-fixed, listing-judged, judged_count, judged_late, judged_whole, late_parameters, wrong_count, late_gates, late_rows, late_s, late_cells, late_tables, found_whole}

-- the words between two places, and those after them
abbrev between : List ℕ → ℕ → ℕ → Taken
between xs a e = record { front = take (e - a) (drop a xs); rest = drop e xs }

-- taken, if there are so many words
abbrev up_to : List ℕ → ℕ → ℕ → Option Taken
up_to xs a e = pick (leb e (length xs)) (some (between xs a e)) none

module _ (xs : List ℕ) (a e : ℕ) where
  here : e ≤ length xs → up_to xs a e ≡ some (between xs a e)
  here h = rw (le-leb e (length xs) h)

  gone : length xs < e → up_to xs a e ≡ none
  gone h = rw (lt-leb e (length xs) h)

off_at : (xs : List ℕ) (a n : ℕ) → a ≤ length xs → off n (drop a xs) ≡ up_to xs a (a + n)
unfolding off
off_at xs a n h = go (dec_le (a + n) (length xs))
  where
    l : length (drop a xs) ≡ length xs - a
    l = length-drop a xs

    go : Dec (a + n ≤ length xs) → off n (drop a xs) ≡ up_to xs a (a + n)
    go (yes k) =
        let q : a + n - a ≡ n = omega arith in
        rw (le-leb n (length (drop a xs)) (omega (arith, l)), le-leb (a + n) (length xs) k, q, drop-drop n a xs)
    go (no k) = rw (lt-leb n (length (drop a xs)) (omega (arith, l)), lt-leb (a + n) (length xs) (omega arith))

-- n records end where `end_of` says, by any two ways to say a record's length that agree
module _ (xs : List ℕ) (long : List ℕ → ℕ) (size : ℕ → ℕ) (same : (a : ℕ) → long (drop a xs) ≡ size a) where
  records-at : (n a : ℕ) → a ≤ length xs → records long n (drop a xs) ≡ up_to xs a (end_of size n a)
  unfolding records end_of bind
  records-at zero a h =
      let q : a - a ≡ 0 = omega arith in
      rw (le-leb a (length xs) h, q)
  records-at (suc n) a h = go (dec_le b (length xs)) (records-at n b)
    where
      b : ℕ
      b = a + size a

      e : ℕ
      e = end_of size n b

      first : off (long (drop a xs)) (drop a xs) ≡ up_to xs a b
      first = ap (λ (k : ℕ). off k (drop a xs)) (same a) ∙ off_at xs a (size a) h

      join : b ≤ e → take (size a) (drop a xs) ++ take (e - b) (drop b xs) ≡ take (e - a) (drop a xs)
      join k =
          let q : size a + (e - b) ≡ e - a = omega arith in
          rw (← q, take-add (size a) (e - b) (drop a xs), drop-drop (size a) a xs)

      then : Dec (e ≤ length xs) → b ≤ e → bind (up_to xs b e) (after (take (b - a) (drop a xs))) ≡ up_to xs a e
      then (yes k) m =
          let q : b - a ≡ size a = omega arith in
          rw (le-leb e (length xs) k, q, join m)
      then (no k) m = rw (lt-leb e (length xs) (omega arith))

      go : Dec (b ≤ length xs) → (b ≤ length xs → records long n (drop b xs) ≡ up_to xs b e) → records long (suc n) (drop a xs) ≡ up_to xs a e
      go (no k) rec = rw (first, gone xs a b (omega arith), gone xs a e (omega (arith, end-from size n b)))
      go (yes k) rec = rw (first, here xs a b k, rec k) (then (dec_le e (length xs)) (end-from size n b))

  -- a section ends where its records end, and without its count it is missing
  section-at : (a : ℕ) → section long (drop a xs) ≡ up_to xs (a + 1) (end_of size (get_or xs a 0) (a + 1))
  unfolding section
  section-at a = go (dec_lt a (length xs))
    where
      go : Dec (a < length xs) → section long (drop a xs) ≡ up_to xs (a + 1) (end_of size (get_or xs a 0) (a + 1))
      go (yes h) = rw (drop-one xs a h) (records-at (get_or xs a 0) (a + 1) (omega arith))
      go (no h) =
          let k : length xs ≤ a = omega arith in
          rw (drop-none xs a k) (sym (gone xs (a + 1) _ (omega (arith, end-from size (get_or xs a 0) (a + 1)))))

module _ (xs : List ℕ) where
  -- the sections of the two forms
  fixed-at : (each a : ℕ) → section (fixed each) (drop a xs) ≡ up_to xs (a + 1) (fixed_end each xs a)
  unfolding fixed_end
  fixed-at each a = section-at xs (fixed each) (λ i. each) (λ b. refl) a ∙ ap (up_to xs (a + 1)) (end-fixed each (get_or xs a 0) (a + 1))

  headed-at : (size : ℕ → ℕ → ℕ) (a : ℕ) → section (headed size) (drop a xs) ≡ up_to xs (a + 1) (records_end size xs a)
  unfolding records_end
  headed-at size a = section-at xs (headed size) (long_at size xs) same a
    where
      same : (b : ℕ) → headed size (drop b xs) ≡ long_at size xs b
      same b =
          let z : b + 0 ≡ b = omega arith in
          let p : get_or (drop b xs) 0 0 ≡ get_or xs b 0 = rw z at (get_or-drop b xs 0 0) in
          rw (p, get_or-drop b xs 1 0)

  module _ (each a : ℕ) where
    fixed-here : fixed_end each xs a ≤ length xs → section (fixed each) (drop a xs) ≡ some (between xs (a + 1) (fixed_end each xs a))
    fixed-here h = fixed-at each a ∙ here xs (a + 1) (fixed_end each xs a) h

    fixed_gone : length xs < fixed_end each xs a → section (fixed each) (drop a xs) ≡ none
    fixed_gone h = fixed-at each a ∙ gone xs (a + 1) (fixed_end each xs a) h

  module _ (size : ℕ → ℕ → ℕ) (a : ℕ) where
    headed-here : records_end size xs a ≤ length xs → section (headed size) (drop a xs) ≡ some (between xs (a + 1) (records_end size xs a))
    headed-here h = headed-at size a ∙ here xs (a + 1) (records_end size xs a) h

    headed_gone : length xs < records_end size xs a → section (headed size) (drop a xs) ≡ none
    headed_gone h = headed-at size a ∙ gone xs (a + 1) (records_end size xs a) h

  -- where the sections end
  abbrev g : ℕ
  g = fixed_end 1 xs 0

  abbrev r : ℕ
  r = fixed_end gate_words xs g

  abbrev s : ℕ
  s = records_end row_size xs r

  abbrev c : ℕ
  c = fixed_end 1 xs s

  abbrev t : ℕ
  t = fixed_end 1 xs c

  abbrev e : ℕ
  e = records_end table_size xs t

  abbrev words : Words
  words =
      record {
        parameters = take (g - 1) (drop 1 xs);
        gates = take (r - (g + 1)) (drop (g + 1) xs);
        rows = take (s - (r + 1)) (drop (r + 1) xs);
        s_words = take (c - (s + 1)) (drop (s + 1) xs);
        cells = take (t - (c + 1)) (drop (c + 1) xs);
        tables = take (e - (t + 1)) (drop (t + 1) xs);
      }

  every : Ends xs 0 g r s c t e
  every = record { parameters = refl; gates = refl; rows = refl; s-words = refl; cells = refl; tables = refl }

  counted : g ≤ length xs → length (take (g - 1) (drop 1 xs)) ≡ g - 1
  counted h = length-take-le (g - 1) (drop 1 xs) (omega (arith, length-drop 1 xs))

  parameters-here : g ≤ length xs → g - 1 ≡ parameter_words → bind (section (fixed 1) xs) eight ≡ some (between xs 1 g)
  unfolding bind
  parameters-here h k = rw (fixed-here 1 0 h, eq-eqb (length (take (g - 1) (drop 1 xs))) parameter_words (counted h ∙ k))

  parameters_wrong : g ≤ length xs → g - 1 ≢ parameter_words → bind (section (fixed 1) xs) eight ≡ none
  unfolding bind
  parameters_wrong h k = rw (fixed-here 1 0 h, ne_eqb (length (take (g - 1) (drop 1 xs))) parameter_words (λ q. k (sym (counted h) ∙ q)))

  parameters_gone : length xs < g → bind (section (fixed 1) xs) eight ≡ none
  unfolding bind
  parameters_gone h = rw (fixed_gone 1 0 h)

  -- both turn the listing down
  both_refuse : Err Listing ≡ listing_from xs 0 → six_sections xs ≡ none → parts_of xs (listing_from xs 0) ≡ read xs
  unfolding read
  both_refuse p q = ap (parts_of xs) (sym p) ∙ sym (ap or_twenty q)

  -- section after section, from the last: the first that is missing refuses
  module _ (hg : g ≤ length xs) (k : g - 1 ≡ parameter_words) where
    module _ (hr : r ≤ length xs) where
      module _ (hs : s ≤ length xs) where
        module _ (hc : c ≤ length xs) where
          module _ (ht : t ≤ length xs) where
            last_read : e ≤ length xs → six_sections xs ≡ ended words (drop e xs)
            unfolding six_sections bind
            last_read he = rw (parameters-here hg k, fixed-here gate_words g hr, headed-here row_size r hs, fixed-here 1 s hc, fixed-here 1 c ht, headed-here table_size t he)

            read-end : e ≤ length xs → Dec (e ≡ length xs) → parts_of xs (listing_from xs 0) ≡ read xs
            unfolding read
            read-end he (no d) =
                let l : length (drop e xs) ≢ 0 = λ z. d (omega (arith, length-drop e xs)) in
                both_refuse (late_tables xs 0 g r s c t refl refl refl refl refl d) (last_read he ∙ rw (ne_eqb (length (drop e xs)) 0 l))
            read-end he (yes d) =
                let l : length (drop e xs) ≡ 0 = omega (arith, length-drop e xs) in
                let q : six_sections xs ≡ some words = last_read he ∙ rw (eq-eqb (length (drop e xs)) 0 l) in
                ap (parts_of xs) (sym (found_whole xs 0 g r s c t e _ _ _ _ _ _ refl refl refl refl refl refl every k d))
                ∙ sym (ap or_twenty q)

            read-tables : Dec (e ≤ length xs) → parts_of xs (listing_from xs 0) ≡ read xs
            unfolding six_sections bind
            read-tables (yes he) = read-end he (ℕ_discrete e (length xs))
            read-tables (no h) =
                both_refuse (late_tables xs 0 g r s c t refl refl refl refl refl (λ z. omega arith))
                (rw (parameters-here hg k, fixed-here gate_words g hr, headed-here row_size r hs, fixed-here 1 s hc, fixed-here 1 c ht, headed_gone table_size t (omega arith)))

          read_cells : Dec (t ≤ length xs) → parts_of xs (listing_from xs 0) ≡ read xs
          unfolding six_sections bind
          read_cells (yes ht) = read-tables ht (dec_le e (length xs))
          read_cells (no h) =
              both_refuse (late_cells xs 0 g r s c refl refl refl refl (omega arith))
              (rw (parameters-here hg k, fixed-here gate_words g hr, headed-here row_size r hs, fixed-here 1 s hc, fixed_gone 1 c (omega arith)))

        read-s : Dec (c ≤ length xs) → parts_of xs (listing_from xs 0) ≡ read xs
        unfolding six_sections bind
        read-s (yes hc) = read_cells hc (dec_le t (length xs))
        read-s (no h) =
            both_refuse (late_s xs 0 g r s refl refl refl (omega arith)) (rw (parameters-here hg k, fixed-here gate_words g hr, headed-here row_size r hs, fixed_gone 1 s (omega arith)))

      read_rows : Dec (s ≤ length xs) → parts_of xs (listing_from xs 0) ≡ read xs
      unfolding six_sections bind
      read_rows (yes hs) = read-s hs (dec_le c (length xs))
      read_rows (no h) = both_refuse (late_rows xs 0 g r refl refl (omega arith)) (rw (parameters-here hg k, fixed-here gate_words g hr, headed_gone row_size r (omega arith)))

    read-gates : Dec (r ≤ length xs) → parts_of xs (listing_from xs 0) ≡ read xs
    unfolding six_sections bind
    read-gates (yes hr) = read_rows hr (dec_le s (length xs))
    read-gates (no h) = both_refuse (late_gates xs 0 g refl (omega arith)) (rw (parameters-here hg k, fixed_gone gate_words g (omega arith)))

  read-parameters : Dec (g ≤ length xs) → Dec (g - 1 ≡ parameter_words) → parts_of xs (listing_from xs 0) ≡ read xs
  unfolding six_sections bind
  read-parameters (yes h) (yes k) = read-gates h k (dec_le r (length xs))
  read-parameters (yes h) (no k) = both_refuse (wrong_count xs 0 g refl k) (rw (parameters_wrong h k))
  read-parameters (no h) k = both_refuse (late_parameters xs 0 (omega arith)) (rw (parameters_gone (omega arith)))

  -- the code's answer, taken for the words at its places, is what the reader says
  pub listing-read : parts_of xs (listing_from xs 0) ≡ read xs
  listing-read = read-parameters (dec_le g (length xs)) (ℕ_discrete (g - 1) parameter_words)

  -- what a caller knows once it has an answer of the code
  pub read_whole : (s : Sections) → Ok s ≡ listing_from xs 0 → read xs ≡ whole (words_at xs s)
  read_whole s q = sym (ap (parts_of xs) q ∙ listing-read)

  pub read_refused : (n : Refusal) → Err n ≡ listing_from xs 0 → read xs ≡ refused (refusal_number n)
  read_refused n q = sym (ap (parts_of xs) q ∙ listing-read)

  -- and back: what the reader turns down the code turns down, by the same number
  pub refused_back : (n : ℕ) → read xs ≡ refused n → (listing_from xs 0 ≡ Err Listing) × (refusal_number Listing ≡ n)
  refused_back n q = (k, let h : refused (refusal_number Listing) ≡ refused n = ap (parts_of xs) (sym k) ∙ listing-read ∙ q in cc)
    where
      j : listing_from xs 0 ≡ judged xs 0 g r s c t e
      j = listing-judged xs 0 g r s c t e every

      go : Dec (g - 1 ≡ parameter_words) → Dec (e ≡ length xs) → listing_from xs 0 ≡ Err Listing
      go (no p) d = j ∙ judged_count xs 0 g r s c t e p
      go (yes p) (no d) = j ∙ judged_late xs 0 g r s c t e d
      go (yes p) (yes d) =
          let h : whole (words_at xs (sections_at 0 g r s c t e)) ≡ refused n = ap (parts_of xs) (sym (j ∙ judged_whole xs 0 g r s c t e p d)) ∙ listing-read ∙ q in
          absurd cc

      k : listing_from xs 0 ≡ Err Listing
      k = go (ℕ_discrete (g - 1) parameter_words) (ℕ_discrete e (length xs))
