-- Laws of words put into a lent buffer.
--
-- Main statements: `put-length`, `put-put` (one part after another is both at once), `put_next` (the same for a part that was put where it fits); `put_fits`, `put_short`, `put-nothing`, `put_front`.
use Rattle.std.specs.Prelude.{◌+◌, ◌<◌, ◌≤◌, ℕ, leb, drop, length, ◌≡◌}
use Rattle.std.proofs.Common.{le-leb, length-append, drop-drop, ◌∙◌, sym, zero-add, arith}
use Rattle.std.proofs.lemmas.Bool.{lt-leb}
use Rattle.std.proofs.Math.ListN.{take}
use Rattle.std.proofs.Math.Seq.{drop-paste, paste-zero, take-length, take-paste}
use Rattle.std.proofs.lemmas.List.{length-replicate}
use Rattle.std.proofs.lemmas.List.Edits.{length-paste}
use mathlib.Core.List.{List, [], ◌++◌, append_assoc}
use Rattle.std.proofs.Math.Path.{ap}
use Rattle.std.proofs.lemmas.Slice.{put_mid-paste}
use Rattle.base.specs.Pick.{pick_no, pick_yes}
use Rattle.writer.specs.Put.{put, put_if}

-- all the new words, between the old ones
put_is : (at : ℕ) (new old : List ℕ) → put at new old ≡ (take at old ++ new) ++ drop (at + length new) old
unfolding put
put_is at new old = ap (λ (l : List ℕ). (take at old ++ l) ++ drop (at + length new) old) (take-length new)

pub put-length : (at : ℕ) (new old : List ℕ) → at + length new ≤ length old → length (put at new old) ≡ length old
unfolding put
put-length at new old h = length-paste old at new (length new) h (omega arith)

module _ (at : ℕ) (a old : List ℕ) (h : at + length a ≤ length old) where
  put-before : take (at + length a) (put at a old) ≡ take at old ++ a
  unfolding put
  put-before = take-paste old at a (length a) (omega arith) (omega arith) ∙ ap (λ (l : List ℕ). take at old ++ l) (take-length a)

  put_behind : drop (at + length a) (put at a old) ≡ drop (at + length a) old
  unfolding put
  put_behind = drop-paste old at a (length a) (omega arith) (omega arith)

pub put-put : (at : ℕ) (a b old : List ℕ) → at + length a + length b ≤ length old → put (at + length a) b (put at a old) ≡ put at (a ++ b) old
put-put at a b old h =
    let n = at + length a in
    let e₁ = put-before at a old (omega arith) in
    let e₂ : drop (n + length b) (put at a old) ≡ drop (n + length b) old =
    sym (drop-drop (length b) n (put at a old)) ∙ ap (drop (length b)) (put_behind at a old (omega arith)) ∙ drop-drop (length b) n old
    in
    let e₃ : n + length b ≡ at + length (a ++ b) = omega (arith, length-append a b) in
    put_is n b (put at a old)
    ∙ ap (λ (l : List ℕ). (l ++ b) ++ drop (n + length b) (put at a old)) e₁
    ∙ ap (λ (l : List ℕ). ((take at old ++ a) ++ b) ++ l) e₂
    ∙ ap (λ (l : List ℕ). l ++ drop (n + length b) old) (append_assoc (take at old) a b)
    ∙ ap (λ (k : ℕ). (take at old ++ (a ++ b)) ++ drop k old) e₃
    ∙ sym (put_is at (a ++ b) old)

pub put_fits : (at : ℕ) (new old : List ℕ) → at + length new ≤ length old → put_if at new old ≡ put at new old
unfolding put_if
put_fits at new old h = pick_yes (leb (at + length new) (length old)) (put at new old) old (le-leb (at + length new) (length old) h)

pub put_short : (at : ℕ) (new old : List ℕ) → length old < at + length new → old ≡ put_if at new old
unfolding put_if
put_short at new old h = sym (pick_no (leb (at + length new) (length old)) (put at new old) old (lt-leb (at + length new) (length old) h))

-- a part more after the front ones
pub put_next : (from : ℕ) (front b old x y : List ℕ) (at : ℕ) → x ≡ put from front old → at ≡ from + length front → y ≡ put_if at b x → from + length front + length b ≤ length old
    → y ≡ put from (front ++ b) old
put_next from front b old x y at e k p h =
    let l : length x ≡ length old = ap length e ∙ put-length from front old (omega arith) in
    p ∙ put_fits at b x (omega arith) ∙ ap (put at b) e ∙ ap (λ (n : ℕ). put n b (put from front old)) k ∙ put-put from front b old h

pub put-nothing : (at : ℕ) (old : List ℕ) → old ≡ put at [] old
unfolding put
put-nothing at old = paste-zero old at []

pub put_front : (new old : List ℕ) → put 0 new old ≡ new ++ drop (length new) old
put_front new old = put_is 0 new old ∙ ap (λ (n : ℕ). new ++ drop n old) (zero-add (length new))

-- what a call that puts a part where it fits is proved by
pub ruleset whole_part = (put_fits, put_short, put_mid-paste, length-replicate)
