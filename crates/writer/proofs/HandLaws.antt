-- The answers of a call that hands out words: refused, too short a result slice, handed out.
--
-- Main statements: `handed-front`, `handed_short`, `handed-long`, `handed_whole`; `hand_refused`, `hand_short`, `hand_given`; `answer_refused`, `answer_short`, `answer-given`; `answer-zero`, `answer_other`.
use Rattle.std.specs.Prelude.{◌<◌, ◌≤◌, ℕ, eqb, leb, drop, length, List, ◌++◌, ◌≢◌, ◌≡◌}
use borrow.Author.Tests.{eq-eqb, le-leb, leb-true, lt-leb, ne_eqb}
use Rattle.std.proofs.Math.Seq.{drop-length}
use Rattle.std.proofs.Common.{append-nil, ◌∙◌, zero-add, arith}
use Rattle.std.proofs.Math.Path.{ap, refl, sym}
use Rattle.std.proofs.Math.Decide.{dec_le, ℕ_discrete}
use Rattle.base.specs.Firsts.{first_found, first-none, first-zero}
use Rattle.base.specs.Pick.{pick, pick_no, pick_yes, pick-zero}
use Rattle.writer.specs.Put.{put, put_if}
use Rattle.writer.specs.PutLaws.{put_front}
use Rattle.writer.specs.Hand.{Wrote, hand_answer, hand_left, hand_number, handed}

-- words put at the front
pub handed-front : (new old : List ℕ) → put_if 0 new old ≡ handed new old
unfolding put_if
handed-front new old =
    ap (λ (n : ℕ). pick (leb n (length old)) (put 0 new old) old) (zero-add (length new)) ∙ ap (λ (l : List ℕ). pick (leb (length new) (length old)) l old) (put_front new old)

pub handed_short : (new old : List ℕ) → length old < length new → old ≡ handed new old
handed_short new old h = sym (rw (lt-leb (length new) (length old) h))

pub handed-long : (new old : List ℕ) (n : ℕ) → length new ≡ n → n ≤ length old → new ++ drop n old ≡ handed new old
handed-long new old n e h =
    let k : length new ≤ length old = omega arith in
    ap (λ (j : ℕ). new ++ drop j old) (sym e) ∙ sym (rw (le-leb (length new) (length old) k))

-- a slice that is just as long holds what was handed, and nothing else
pub handed_whole : (new old : List ℕ) → length new ≡ length old → handed new old ≡ new
handed_whole new old e =
    sym (handed-long new old (length old) e (omega arith)) ∙ ap (λ (l : List ℕ). new ++ l) (drop-length old) ∙ append-nil new

module _ (n : ℕ) (new out : List ℕ) where
  -- ---- number and words left
  pub hand_refused : n ≢ 0 → (n ≡ hand_number n new out) × (out ≡ hand_left n new out)
  unfolding hand_number hand_left
  hand_refused d = (sym (first_found n _ d), sym (pick_no (eqb n 0) (handed new out) out (ne_eqb n 0 d)))

  pub hand_short : n ≡ 0 → length out < length new → (10 ≡ hand_number n new out) × (out ≡ hand_left n new out)
  unfolding hand_number hand_left
  hand_short e h = (
    sym (first-none n _ e ∙ pick_no (leb (length new) (length out)) 0 10 (lt-leb (length new) (length out) h)),
    handed_short new out h ∙ sym (pick_yes (eqb n 0) (handed new out) out (eq-eqb n 0 e)),
  )

  pub hand_given : n ≡ 0 → length new ≤ length out → (0 ≡ hand_number n new out) × (handed new out ≡ hand_left n new out)
  unfolding hand_number hand_left
  hand_given e h = (
    sym (first-none n _ e ∙ pick_yes (leb (length new) (length out)) 0 10 (le-leb (length new) (length out) h)),
    sym (pick_yes (eqb n 0) (handed new out) out (eq-eqb n 0 e)),
  )

  -- ---- the same with the number of words
  pub answer_refused : n ≢ 0 → ◌≡◌ {A = Wrote} (record { number = n; words = 0 }) (hand_answer n new out)
  unfolding hand_answer
  answer_refused d = rw (← (hand_refused d).0, ne_eqb n 0 d)

  pub answer_short : n ≡ 0 → length out < length new → ◌≡◌ {A = Wrote} (record { number = 10; words = 0 }) (hand_answer n new out)
  unfolding hand_answer
  answer_short e h = rw (← (hand_short e h).0)

  pub answer-given : n ≡ 0 → length new ≤ length out → ◌≡◌ {A = Wrote} (record { number = 0; words = length new }) (hand_answer n new out)
  unfolding hand_answer
  answer-given e h = rw (← (hand_given e h).0)

  -- what an answer says
  pub answer-zero : (hand_answer n new out).number ≡ 0 → (n ≡ 0) × ((hand_answer n new out).words ≡ length new) × (hand_left n new out ≡ new ++ drop (length new) out)
  unfolding hand_answer hand_number
  answer-zero e =
      let a = first-zero n _ e in
      let h = leb-true (length new) (length out) (pick-zero (leb (length new) (length out)) 0 10 (λ z. omega (arith, z)) a.1).0 in
      (a.0, ap (λ (w : Wrote). w.words) (sym (answer-given a.0 h)), sym (handed-long new out (length new) refl h ∙ (hand_given a.0 h).1))

  pub answer_other : (hand_answer n new out).number ≢ 0 → ((hand_answer n new out).words ≡ 0) × (hand_left n new out ≡ out)
  answer_other d = by (ℕ_discrete n 0) (dec_le (length new) (length out))
    where
      by : Dec (n ≡ 0) → Dec (length new ≤ length out) → ((hand_answer n new out).words ≡ 0) × (hand_left n new out ≡ out)
      by (no f) l = (ap (λ (w : Wrote). w.words) (sym (answer_refused f)), sym (hand_refused f).1)
      by (yes e) (no l) = let h : length out < length new = omega arith in (ap (λ (w : Wrote). w.words) (sym (answer_short e h)), sym (hand_short e h).1)
      by (yes e) (yes l) = absurd (d (ap (λ (w : Wrote). w.number) (sym (answer-given e l))))
