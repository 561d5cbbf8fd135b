-- 02, Change 2, what is answered of a gate, in words: "For each case of an enum answer, a definition gives this paper's number and values."
--
-- Main definitions: `Selection`, `selection_of`, `selection_number`, `selection_bits`, `selection_length`, `selection_bare`, `selector_of`. Main statement: `selection_steps`.
use Rattle.std.specs.Prelude.{ℕ, length, ◌≡◌, refl}
use Rattle.base.specs.Digits.{digits}
use Rattle.selector.specs.Paths.{Selector, a_path, bits_of, no_selector, steps, unknown_gate}

-- what is answered of a gate: a path, by its bits and its length, no selector, or that the gate is not known
pub data Selection : Type 0 where
  Path : ℕ → ℕ → Selection
  NoSelector : Selection
  UnknownGate : Selection

-- a path in words: "bits and a length"
abbrev pub selection_of : Selector → Selection
selection_of (a_path p) = Path (bits_of p) (length p)
selection_of no_selector = NoSelector
selection_of unknown_gate = UnknownGate

-- "or unknown gate, still 12"
abbrev pub selection_number : Selection → ℕ
selection_number (Path b l) = 0
selection_number NoSelector = 0
selection_number UnknownGate = 12

-- bits and length of a path; zeros where there is none
abbrev pub selection_bits : Selection → ℕ
selection_bits (Path b l) = b
selection_bits NoSelector = 0
selection_bits UnknownGate = 0

abbrev pub selection_length : Selection → ℕ
selection_length (Path b l) = l
selection_length NoSelector = 0
selection_length UnknownGate = 0

-- 1 for a gate that has no selector, which an empty path does not say
abbrev pub selection_bare : Selection → ℕ
selection_bare (Path b l) = 0
selection_bare NoSelector = 1
selection_bare UnknownGate = 0

-- words read as an answer
abbrev pub selector_of : Selection → Selector
selector_of (Path b l) = a_path (digits l b)
selector_of NoSelector = no_selector
selector_of UnknownGate = unknown_gate

-- bits and length are those of the steps, and zeros are those of none
pub selection_steps : (s : Selector) → (selection_bits (selection_of s) ≡ bits_of (steps s)) × (selection_length (selection_of s) ≡ length (steps s))
unfolding bits_of
selection_steps (a_path p) = (refl, refl)
selection_steps no_selector = (refl, refl)
selection_steps unknown_gate = (refl, refl)
