-- 01, 'Listing', once more: where each section ends. The contracts are stated by these definitions; `ReaderLaws` proves that the words at these places are those
-- that the reader of `Listing` gives.
--
-- Main definitions: `fixed_end`, `records_end` (where a section ends), `listing_from` (the places of the sections, or refusal 20).
--
-- All numbers are whole numbers, so nothing wraps. A word past the end counts as 0: each count and each record's head stands before the place where its section ends,
-- so a listing with a word missing ends past its last word, and just the whole ones end where the words end.
use Rattle.std.specs.Prelude.{List, ℕ, zero, suc, ◌+◌, ◌-◌, ◌*◌, length, get_or, eqb, Result, Ok, Err}
use Rattle.base.specs.Pick.{pick}
use Rattle.selector.specs.Gates.{gate_words}
use Rattle.pieces.specs.Records.{row_size, table_size}
use Rattle.parameters.specs.Parameters.{parameter_words}
use Rattle.refusal.specs.declared.Refusal.{Refusal}
use Rattle.refusal.specs.declared.Refusal.TheVariants.{Listing}
use Rattle.listing.specs.declared.sections.Part.{Part}
use Rattle.listing.specs.declared.sections.Sections.{Sections}

-- where n records end of which the first begins at a place, each as long as it says there
unfoldable pub end_of : (ℕ → ℕ) → ℕ → ℕ → ℕ
end_of size zero at = at
end_of size (suc n) at = end_of size n (at + size at)

-- how long the record at a place is: two words, and as many as they say
abbrev pub long_at : (ℕ → ℕ → ℕ) → List ℕ → ℕ → ℕ
long_at size xs at = 2 + size (get_or xs at 0) (get_or xs (at + 1) 0)

-- where a section ends whose count stands at a place: of records that are all as long, or of records that say their own length
unfoldable pub fixed_end : ℕ → List ℕ → ℕ → ℕ
fixed_end each xs at = at + 1 + get_or xs at 0 * each

unfoldable pub records_end : (ℕ → ℕ → ℕ) → List ℕ → ℕ → ℕ
records_end size xs at = end_of (long_at size xs) (get_or xs at 0) (at + 1)

-- a section's words: after the count, up to the next section
abbrev pub part : ℕ → ℕ → Part
part count end = record { start = count + 1; len = end - (count + 1) }

-- the six, from the places of their counts and the end
abbrev pub sections_at : ℕ → ℕ → ℕ → ℕ → ℕ → ℕ → ℕ → Sections
sections_at at g r s c t e =
    record {
      parameters = part at g;
      gates = part g r;
      rows = part r s;
      s_words = part s c;
      cells = part c t;
      tables = part t e;
    }

-- 20: the parameters are not eight, or the sections do not end where the words end
unfoldable pub judged : List ℕ → ℕ → ℕ → ℕ → ℕ → ℕ → ℕ → ℕ → Result Sections Refusal
judged xs at g r s c t e =
    pick (eqb (g - (at + 1)) parameter_words) (pick (eqb e (length xs)) (Ok (sections_at at g r s c t e)) (Err Listing)) (Err Listing)

-- the sections of a listing that begins at a place
unfoldable pub listing_from : List ℕ → ℕ → Result Sections Refusal
listing_from xs at =
    let g = fixed_end 1 xs at in
    let r = fixed_end gate_words xs g in
    let s = records_end row_size xs r in
    let c = fixed_end 1 xs s in
    let t = fixed_end 1 xs c in
    judged xs at g r s c t (records_end table_size xs t)
