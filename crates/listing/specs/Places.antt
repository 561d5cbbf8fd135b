-- What the places of `Ends` say of the words: for the proofs, and for functions that are handed places.
--
-- Main definitions: `section_of` (one section's place, if it is there), `cut`, `words_at`, `parts_of` (the words at the places).
use Rattle.std.specs.Prelude.{List, ℕ, take, drop, leb, Option, Some, None, Result, Ok, Err}
use Rattle.base.specs.Pick.{pick}
use Rattle.refusal.specs.Refusal.{refusal_number}
use Rattle.refusal.specs.declared.Refusal.{Refusal}
use Rattle.listing.specs.Listing.{Words, Reading, whole, refused}
use Rattle.listing.specs.Ends.{part}
use Rattle.listing.specs.declared.sections.Part.{Part}
use Rattle.listing.specs.declared.sections.Sections.{Sections}

-- the section between a count and an end, if there are so many words
abbrev pub section_of : ℕ → ℕ → ℕ → Option Part
section_of words count end = pick (leb end words) (Some (part count end)) None

-- the words that stand at a section's place
abbrev pub cut : List ℕ → Part → List ℕ
cut xs p = take p.len (drop p.start xs)

-- and at the places of all six
abbrev pub words_at : List ℕ → Sections → Words
words_at xs s =
    record {
      parameters = cut xs s.parameters;
      gates = cut xs s.gates;
      rows = cut xs s.rows;
      s_words = cut xs s.s_words;
      cells = cut xs s.cells;
      tables = cut xs s.tables;
    }

-- what an answer of the code says: the words at its places, or its refusal's number
abbrev pub parts_of : List ℕ → Result Sections Refusal → Reading
parts_of xs (Ok s) = whole (words_at xs s)
parts_of xs (Err refusal) = refused (refusal_number refusal)
