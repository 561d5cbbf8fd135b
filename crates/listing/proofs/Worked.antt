-- 01's worked listing, one for each reason of 20, and sizes that a product or a sum modulo 2^64 would get wrong: what the reader says and where the code's answer puts the
-- sections, both computed.
use Rattle.std.specs.Prelude.{◌≡◌, refl, List, [], ◌∷◌, ◌++◌, ℕ, ◌^◌, ◌-◌, Result, Ok, Err}
use Rattle.std.proofs.Math.Option.{bind}
use Rattle.refusal.specs.declared.Refusal.{Refusal}
use Rattle.refusal.specs.declared.Refusal.TheVariants.{Listing}
use Rattle.listing.specs.Listing.{off, records, section, six_sections, Reading, whole, refused, read}
use Rattle.listing.specs.Ends.{end_of, fixed_end, records_end, sections_at, judged, listing_from}
use Rattle.listing.proofs.ReaderLaws.{refused_back}
use Rattle.listing.specs.declared.sections.Sections.{Sections}

abbrev Says : List ℕ → Reading → Result Sections Refusal → Type 0
Says xs a l = (read xs ≡ a) × (listing_from xs 0 ≡ l)

abbrev Turns_down : List ℕ → Type 0
Turns_down xs = Says xs (refused 20) (Err Listing)

-- "8: 2 2 1 0 2 0 0 0; 2: 0 2 1, 1 0 0; 2: 0 1 5, 1 0; 0; 4: 0 1 1 9223372036854775808; 0."
parameters : List ℕ
parameters = 2 ∷ 2 ∷ 1 ∷ 0 ∷ 2 ∷ 0 ∷ 0 ∷ 0 ∷ []

gates : List ℕ
gates = 0 ∷ 2 ∷ 1 ∷ 1 ∷ 0 ∷ 0 ∷ []

rows : List ℕ
rows = 0 ∷ 1 ∷ 5 ∷ 1 ∷ 0 ∷ []

cells : List ℕ
cells = 0 ∷ 1 ∷ 1 ∷ 9223372036854775808 ∷ []

-- the worked listing but for the tables, and the parameters with sections to come
before-tables : List ℕ
before-tables = (8 ∷ parameters) ++ (2 ∷ gates) ++ (2 ∷ rows) ++ (0 ∷ []) ++ (4 ∷ cells)

after-parameters : List ℕ → List ℕ
after-parameters ws = (8 ∷ parameters) ++ ws

-- P8
worked : Says (before-tables ++ (0 ∷ [])) (whole (record { parameters = parameters; gates = gates; rows = rows; s_words = []; cells = cells; tables = [] })) (Ok (sections_at 0 9 16 22 23 28 29))
unfolding read six_sections section records off bind listing_from judged fixed_end records_end end_of parameters gates rows cells before-tables after-parameters
worked = (refl, refl)

-- wrong parameter count, with words that would do for the rest
seven : Turns_down (7 ∷ 2 ∷ 2 ∷ 1 ∷ 0 ∷ 2 ∷ 0 ∷ 0 ∷ 0 ∷ 0 ∷ 0 ∷ 0 ∷ 0 ∷ [])
unfolding read six_sections section records off bind listing_from judged fixed_end records_end end_of parameters gates rows cells before-tables after-parameters
seven = (refl, refl)

nine : Turns_down (9 ∷ 2 ∷ 2 ∷ 1 ∷ 0 ∷ 2 ∷ 0 ∷ 0 ∷ 0 ∷ 0 ∷ 0 ∷ 0 ∷ 0 ∷ 0 ∷ 0 ∷ [])
unfolding read six_sections section records off bind listing_from judged fixed_end records_end end_of parameters gates rows cells before-tables after-parameters
nine = (refl, refl)

-- input missing
nothing-at_all : Turns_down ([])
unfolding read six_sections section records off bind listing_from judged fixed_end records_end end_of parameters gates rows cells before-tables after-parameters
nothing-at_all = (refl, refl)

-- a count with too few words, or none, behind it
no_words : Turns_down (8 ∷ 2 ∷ 2 ∷ 1 ∷ 0 ∷ 2 ∷ 0 ∷ 0 ∷ [])
unfolding read six_sections section records off bind listing_from judged fixed_end records_end end_of parameters gates rows cells before-tables after-parameters
no_words = (refl, refl)

no_gates : Turns_down (after-parameters [])
unfolding read six_sections section records off bind listing_from judged fixed_end records_end end_of parameters gates rows cells before-tables after-parameters
no_gates = (refl, refl)

gate_cut : Turns_down (after-parameters (1 ∷ 0 ∷ 2 ∷ []))
unfolding read six_sections section records off bind listing_from judged fixed_end records_end end_of parameters gates rows cells before-tables after-parameters
gate_cut = (refl, refl)

row_headless : Turns_down (after-parameters (0 ∷ 1 ∷ 0 ∷ []))
unfolding read six_sections section records off bind listing_from judged fixed_end records_end end_of parameters gates rows cells before-tables after-parameters
row_headless = (refl, refl)

row_cut : Turns_down (after-parameters (0 ∷ 1 ∷ 0 ∷ 2 ∷ 5 ∷ []))
unfolding read six_sections section records off bind listing_from judged fixed_end records_end end_of parameters gates rows cells before-tables after-parameters
row_cut = (refl, refl)

s-words-cut : Turns_down (after-parameters (0 ∷ 0 ∷ 2 ∷ 5 ∷ []))
unfolding read six_sections section records off bind listing_from judged fixed_end records_end end_of parameters gates rows cells before-tables after-parameters
s-words-cut = (refl, refl)

cells_cut : Turns_down (after-parameters (0 ∷ 0 ∷ 0 ∷ 2 ∷ 5 ∷ []))
unfolding read six_sections section records off bind listing_from judged fixed_end records_end end_of parameters gates rows cells before-tables after-parameters
cells_cut = (refl, refl)

no_tables : Turns_down (before-tables)
unfolding read six_sections section records off bind listing_from judged fixed_end records_end end_of parameters gates rows cells before-tables after-parameters
no_tables = (refl, refl)

table_headless : Turns_down (before-tables ++ (1 ∷ 2 ∷ []))
unfolding read six_sections section records off bind listing_from judged fixed_end records_end end_of parameters gates rows cells before-tables after-parameters
table_headless = (refl, refl)

table-cut : Turns_down (before-tables ++ (1 ∷ 2 ∷ 3 ∷ 0 ∷ 0 ∷ 0 ∷ 0 ∷ 0 ∷ []))
unfolding read six_sections section records off bind listing_from judged fixed_end records_end end_of parameters gates rows cells before-tables after-parameters
table-cut = (refl, refl)

-- two rows of three words, and none of two
table_whole : Says (before-tables ++ (2 ∷ 3 ∷ 2 ∷ 1 ∷ 2 ∷ 3 ∷ 4 ∷ 5 ∷ 6 ∷ 2 ∷ 0 ∷ [])) (whole (record { parameters = parameters; gates = gates; rows = rows; s_words = []; cells = cells; tables = 3 ∷ 2 ∷ 1 ∷ 2 ∷ 3 ∷ 4 ∷ 5 ∷ 6 ∷ 2 ∷ 0 ∷ [] })) (Ok (sections_at 0 9 16 22 23 28 39))
unfolding read six_sections section records off bind listing_from judged fixed_end records_end end_of parameters gates rows cells before-tables after-parameters
table_whole = (refl, refl)

-- a word left over
left_over : Turns_down (before-tables ++ (0 ∷ 0 ∷ []))
unfolding read six_sections section records off bind listing_from judged fixed_end records_end end_of parameters gates rows cells before-tables after-parameters
left_over = (refl, refl)

-- a table of 2^32 by 2^32 words, and one of 2^64 - 1 by 2^64 - 1: 0 and 1 modulo 2^64
square_table : Turns_down (before-tables ++ (1 ∷ 2 ^ 32 ∷ 2 ^ 32 ∷ []))
unfolding read six_sections section records off bind listing_from judged fixed_end records_end end_of parameters gates rows cells before-tables after-parameters
square_table = (refl, refl)

largest_table : Turns_down (before-tables ++ (1 ∷ (2 ^ 64 - 1) ∷ (2 ^ 64 - 1) ∷ 0 ∷ []))
unfolding read six_sections section records off bind listing_from judged fixed_end records_end end_of parameters gates rows cells before-tables after-parameters
largest_table = (refl, refl)

-- a row whose length, two and 2^64 - 2, is 0 modulo 2^64
long_row : Turns_down (after-parameters (0 ∷ 1 ∷ 0 ∷ (2 ^ 64 - 2) ∷ 0 ∷ 0 ∷ 0 ∷ []))
unfolding read six_sections section records off bind listing_from judged fixed_end records_end end_of parameters gates rows cells before-tables after-parameters
long_row = (refl, refl)

-- a count of gates whose words are 2 modulo 2^64
many-gates : Turns_down (after-parameters (6148914691236517206 ∷ 0 ∷ 0 ∷ 0 ∷ 0 ∷ 0 ∷ 0 ∷ []))
unfolding read six_sections section records off bind listing_from judged fixed_end records_end end_of parameters gates rows cells before-tables after-parameters
many-gates = (refl, refl)

-- a table of width 0 is two words long however many rows it says, and a table of no rows however wide it is
thin_table : Says (after-parameters (0 ∷ 0 ∷ 0 ∷ 0 ∷ 1 ∷ 0 ∷ (2 ^ 64 - 1) ∷ [])) (whole (record { parameters = parameters; gates = []; rows = []; s_words = []; cells = []; tables = 0 ∷ (2 ^ 64 - 1) ∷ [] })) (Ok (sections_at 0 9 10 11 12 13 16))
unfolding read six_sections section records off bind listing_from judged fixed_end records_end end_of parameters gates rows cells before-tables after-parameters
thin_table = (refl, refl)

wide_table : Says (after-parameters (0 ∷ 0 ∷ 0 ∷ 0 ∷ 1 ∷ (2 ^ 64 - 1) ∷ 0 ∷ [])) (whole (record { parameters = parameters; gates = []; rows = []; s_words = []; cells = []; tables = (2 ^ 64 - 1) ∷ 0 ∷ [] })) (Ok (sections_at 0 9 10 11 12 13 16))
unfolding read six_sections section records off bind listing_from judged fixed_end records_end end_of parameters gates rows cells before-tables after-parameters
wide_table = (refl, refl)

-- the greatest count with nothing behind it
gates-counted : Turns_down (after-parameters ((2 ^ 64 - 1) ∷ []))
unfolding read six_sections section records off bind listing_from judged fixed_end records_end end_of parameters gates rows cells before-tables after-parameters
gates-counted = (refl, refl)

s-words-counted : Turns_down (after-parameters (0 ∷ 0 ∷ (2 ^ 64 - 1) ∷ []))
unfolding read six_sections section records off bind listing_from judged fixed_end records_end end_of parameters gates rows cells before-tables after-parameters
s-words-counted = (refl, refl)

cells_counted : Turns_down (after-parameters (0 ∷ 0 ∷ 0 ∷ (2 ^ 64 - 1) ∷ []))
unfolding read six_sections section records off bind listing_from judged fixed_end records_end end_of parameters gates rows cells before-tables after-parameters
cells_counted = (refl, refl)

-- so many records are no list to go through: the reader stops at the first that is missing, and the code's answer is its
rows_counted : Turns_down (after-parameters (0 ∷ (2 ^ 64 - 1) ∷ []))
unfolding read six_sections section records off bind parameters after-parameters
rows_counted = (refl, (refused_back (after-parameters (0 ∷ (2 ^ 64 - 1) ∷ [])) 20 refl).0)

tables-counted : Turns_down (after-parameters (0 ∷ 0 ∷ 0 ∷ 0 ∷ (2 ^ 64 - 1) ∷ []))
unfolding read six_sections section records off bind parameters after-parameters
tables-counted = (refl, (refused_back (after-parameters (0 ∷ 0 ∷ 0 ∷ 0 ∷ (2 ^ 64 - 1) ∷ [])) 20 refl).0)
