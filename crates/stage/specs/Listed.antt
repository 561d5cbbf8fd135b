-- 01, 'Listing': "20 ..; then as above in section order".
--
-- Main definitions: `words_answer`, `words_left`, `listed_answer`, `listed_left`. Main statements: `listed_whole`, `listed_refused`, `words_same`.
use Rattle.std.specs.Prelude.{◌≡◌, List, ℕ}
use Rattle.std.proofs.Math.Path.{sym}
use Rattle.std.proofs.Common.{ap}
use Rattle.parameters.specs.Parameters.{parameters_at}
use Rattle.parameters.specs.declared.parameters.Parameters.{Parameters}
use Rattle.pieces.specs.Setting.{Store}
use Rattle.listing.specs.Listing.{Words, Reading, whole, refused, read}
use Rattle.stage.specs.Circuit.{refused_by, stage_answer, stage_left}
use Rattle.stage.specs.Circuit.{Staged}

-- the circuit of a listing's six sections
abbrev pub words_answer : Words → Store → Staged
words_answer w b = stage_answer (parameters_at w.parameters) w.gates w.rows w.s_words w.cells w.tables b

abbrev pub words_left : Words → Store → Store
words_left w b = stage_left (parameters_at w.parameters) w.gates w.rows w.s_words w.cells w.tables b

-- "20 .., tested over the whole input before all else": a refusal of the listing writes no word and hands back a plan of zeros
abbrev pub answer_by : Reading → Store → Staged
answer_by (whole w) b = words_answer w b
answer_by (refused n) b = refused_by n

abbrev pub left_by : Reading → Store → Store
left_by (whole w) b = words_left w b
left_by (refused n) b = b

unfoldable pub listed_answer : List ℕ → Store → Staged
listed_answer ws b = answer_by (read ws) b

unfoldable pub listed_left : List ℕ → Store → Store
listed_left ws b = left_by (read ws) b

-- by what the reader says
module _ (ws : List ℕ) (b : Store) where
  pub listed_whole : (w : Words) → read ws ≡ whole w → (words_answer w b ≡ listed_answer ws b) × (words_left w b ≡ listed_left ws b)
  unfolding listed_answer listed_left
  listed_whole w e = (sym (ap (λ (r : Reading). answer_by r b) e), sym (ap (λ (r : Reading). left_by r b) e))

  pub listed_refused : (n : ℕ) → read ws ≡ refused n → (refused_by n ≡ listed_answer ws b) × (b ≡ listed_left ws b)
  unfolding listed_answer listed_left
  listed_refused n e = (sym (ap (λ (r : Reading). answer_by r b) e), sym (ap (λ (r : Reading). left_by r b) e))

-- the same circuit, from equal sections
pub words_same : (w : Words) (b : Store) (ps : Parameters) (g r s c t : List ℕ) → ps ≡ parameters_at w.parameters → g ≡ w.gates → r ≡ w.rows → s ≡ w.s_words → c ≡ w.cells → t ≡ w.tables
    → (stage_answer ps g r s c t b ≡ words_answer w b) × (stage_left ps g r s c t b ≡ words_left w b)
words_same w b ps g r s c t e₁ e₂ e₃ e₄ e₅ e₆ = (rw (e₁, e₂, e₃, e₄, e₅, e₆), rw (e₁, e₂, e₃, e₄, e₅, e₆))
