-- A padding in one call, by the room for its number of words.
--
-- Main statements: `pad_uncounted`, `pad_counted`.
use Rattle.std.specs.Prelude.{◌<◌, ◌≤◌, ℕ, leb, ◌≡◌}
use Rattle.std.proofs.Common.{not-suc-le-zero, arith, ◌∙◌}
use borrow.Author.Tests.{le-leb, lt-leb}
use Rattle.std.proofs.Math.ListN.{drop, length, set}
use mathlib.Core.List.{List, [], ◌++◌, ◌∷◌}
use Rattle.std.proofs.Math.Path.{ap, refl, sym}
use Rattle.base.specs.Pick.{pick_no, pick_yes}
use Rattle.padding.specs.Padding.{pad_answer, pad_left}
use Rattle.writer.specs.Hand.{Wrote}
use Rattle.capi.specs.Padded.{pad_call, pad_count, pad_out}

module _ (ws out count : List ℕ) where
  -- the part of the buffer that is lent then has no word
  pub pad_uncounted : length count < 1 → (r : Wrote) (part : List ℕ) → length part ≡ 0 → r ≡ pad_answer ws []
      → (r.number ≡ pad_call ws out count) × ((part ++ out ≡ pad_out ws out count) × (count ≡ pad_count ws out count))
  unfolding pad_call pad_out pad_count
  pad_uncounted h r part z e =
      let l = lt-leb 1 (length count) h in (
        ap (λ (x : Wrote). x.number) e ∙ ap (λ (o : List ℕ). (pad_answer ws o).number) (sym (pick_no (leb 1 (length count)) out [] l)),
        (none part z ∙ sym (pick_no (leb 1 (length count)) (pad_left ws out) out l), sym (rw l)),
      )
    where
      none : (k : List ℕ) → length k ≡ 0 → k ++ out ≡ out
      none [] z = refl
      none (x ∷ k) z = absurd (omega (arith, z))

  pub pad_counted : 1 ≤ length count → (r : Wrote) (o : List ℕ) → r ≡ pad_answer ws out → o ≡ pad_left ws out
      → (r.number ≡ pad_call ws out count) × ((o ≡ pad_out ws out count) × (set count 0 r.words ≡ pad_count ws out count))
  unfolding pad_call pad_out pad_count
  pad_counted h r o e f =
      let l = le-leb 1 (length count) h in (
        ap (λ (x : Wrote). x.number) e ∙ ap (λ (o : List ℕ). (pad_answer ws o).number) (sym (pick_yes (leb 1 (length count)) out [] l)),
        (f ∙ sym (pick_yes (leb 1 (length count)) (pad_left ws out) out l), first count h ∙ sym (rw (l, e))),
      )
    where
      first : (k : List ℕ) → 1 ≤ length k → set k 0 r.words ≡ r.words ∷ drop 1 k
      first [] z = absurd (not-suc-le-zero z)
      first (x ∷ k) z = refl
