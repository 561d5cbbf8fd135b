-- 02, Change 1: "The padded circuit must meet everything promised of a full one.": the listing that a padding writes is taken by the run of a listing in any buffers that
-- have room, and leaves columns that are right for it.
--
-- Main definitions: `pad_listing`, `Full`. Main statements: `pad_full`, `pad_refused`, of the call's own answer.
use Rattle.std.specs.Prelude.{◌≡◌, ◌≢◌, true, false, ℕ}
use Rattle.std.proofs.Math.Path.{refl, ap}
use Rattle.std.proofs.Common.{sym, ◌∙◌, subst, arith}
use mathlib.Core.List.{List, ◌++◌}
use Rattle.std.proofs.Math.Option.{Option, none, some}
use Rattle.std.proofs.Math.ListN.{drop, length, take}
use Rattle.std.proofs.Math.Seq.{drop-append_seam, take-append_seam}
use Rattle.parameters.specs.Parameters.{parameters_at}
use Rattle.parameters.specs.declared.parameters.Parameters.{Parameters}
use Rattle.tree.specs.Plan.{planned}
use Rattle.tree.specs.PlanLaws.{planned_fault}
use Rattle.pieces.specs.Setting.{Store}
use Rattle.pieces.specs.Opening.{room_to_open}
use Rattle.columns.specs.SectionsLaws.{number_10, number_contents}
use Rattle.claim.specs.Statement.{setting_for, Right}
use Rattle.listing.specs.Listing.{Reading, Words, or_twenty, read, refused, six_sections, whole}
use Rattle.listing.specs.Writing.{written}
use Rattle.listing.proofs.Written.{Sound, read_sound}
use Rattle.stage.specs.Circuit.{stage_answer}
use Rattle.stage.proofs.CircuitLaws.{answer_refused, answer-taken, number-sections}
use Rattle.stage.specs.Listed.{listed_answer, listed_left, listed_whole}
use Rattle.stage.proofs.Accepted.{given, listed_right}
use Rattle.stage.specs.Circuit.{Staged}
use Rattle.writer.specs.Hand.{hand_answer}
use Rattle.writer.proofs.HandLaws.{answer_other, answer-zero}
use Rattle.padding.specs.Padding.{length_of, with_trace, padded_setting, padded, pad_number, pad_by, pad_left_by, pad_answer, pad_left}
use Rattle.padding.proofs.PaddingLaws.{Good, good, plan_fine, first_replaced}
use Rattle.padding.proofs.Kept.{padded-read}
use Rattle.padding.proofs.Accepted.{padded_accepted}

module _ (w : Words) (q : Sound w) (g : Good w) (b : Store) where
  abbrev v : Words
  v = padded w

  abbrev ps : Parameters
  ps = with_trace (length_of w) (parameters_at w.parameters)

  -- the number of the run, by the number of its sections
  run-number : (n : ℕ) → (stage_answer ps w.gates v.rows v.s_words v.cells v.tables b).number ≡ n → (listed_answer (written v) b).number ≡ n
  run-number n e =
      ap (λ (y : Staged). y.number) (sym (listed_whole (written v) b v (padded-read w q)).0)
      ∙ subst (λ (y : Parameters). (stage_answer y w.gates v.rows v.s_words v.cells v.tables b).number ≡ n) (sym (first_replaced w.parameters (length_of w))) e

  -- buffers with room: nothing is wrong with the circuit itself
  padded-taken : room_to_open (padded_setting w) b ≡ true → (listed_answer (written v) b).number ≡ 0
  padded-taken h =
      let n = number-sections ps w.gates v.rows v.s_words v.cells v.tables b (plan_fine w g)
      ∙ sym (number_contents (planned ps w.gates) b v.rows v.s_words v.cells v.tables (planned_fault ps w.gates (plan_fine w g)) h)
      ∙ padded_accepted w q g
      in
      run-number 0 (ap (λ (y : Staged). y.number) (sym (answer-taken ps w.gates v.rows v.s_words v.cells v.tables b n).0))

  padded_10 : room_to_open (padded_setting w) b ≡ false → (listed_answer (written v) b).number ≡ 10
  padded_10 h =
      let e = number_10 (planned ps w.gates) b v.rows v.s_words v.cells v.tables (planned_fault ps w.gates (plan_fine w g)) h in
      let n = e ∙ sym (number-sections ps w.gates v.rows v.s_words v.cells v.tables b (plan_fine w g)) in
      run-number 10 (ap (λ (y : Staged). y.number) (sym (answer_refused ps w.gates v.rows v.s_words v.cells v.tables b 10 n (λ z. omega (arith, z))).0))

-- ---- of the call, by its answer and the words that it leaves
-- the listing that the call says it wrote
abbrev pub pad_listing : List ℕ → List ℕ → List ℕ
pad_listing ws out = take (pad_answer ws out).words (pad_left ws out)

-- the columns in a store are right for the circuit of a listing's sections
abbrev pub RightFor : Words → Store → Type 1
RightFor v b = Right (setting_for (parameters_at v.parameters) v.gates) (given v.rows v.s_words v.cells v.tables) b

pub record Full (ws out : List ℕ) : Type 1 where
  -- the circuit that was given
  pub circuit : Words
  pub is_read : read ws ≡ whole circuit
  -- "Circuits come and go as listings.": what was written is read as the padded circuit
  pub listing : read (pad_listing ws out) ≡ whole (padded circuit)
  -- "The padded circuit must meet everything promised of a full one.": its run is accepted in all buffers that have room, refused with 10 in all others, and where
  -- it is accepted it leaves columns that are right for it
  pub accepted : (b : Store) → room_to_open (padded_setting circuit) b ≡ true → (listed_answer (pad_listing ws out) b).number ≡ 0
  pub short : (b : Store) → room_to_open (padded_setting circuit) b ≡ false → (listed_answer (pad_listing ws out) b).number ≡ 10
  pub right : (b : Store) → (listed_answer (pad_listing ws out) b).number ≡ 0 → RightFor (padded circuit) (listed_left (pad_listing ws out) b)
  -- "words past it keep their values"
  pub beyond : drop (pad_answer ws out).words (pad_left ws out) ≡ drop (pad_answer ws out).words out

-- a listing is refused with 20 only
twenty : (ws : List ℕ) (n : ℕ) → read ws ≡ refused n → n ≡ 20
unfolding read
twenty ws n e = by (six_sections ws) e
  where
    by : (o : Option Words) → or_twenty o ≡ refused n → n ≡ 20
    by none h = cc
    by (some w) h = absurd (let z : ◌≡◌ {A = ℕ} 0 1 = cc in omega arith)

module _ (ws out : List ℕ) where
  of_whole : (w : Words) → read ws ≡ whole w → (hand_answer (pad_number w) (written (padded w)) out).number ≡ 0 → Full ws out
  unfolding pad_answer pad_left
  of_whole w e z =
      let new = written (padded w) in
      let a = answer-zero (pad_number w) new out z in
      let n : (pad_answer ws out).words ≡ length new = ap (λ (r : Reading). (pad_by r out).words) e ∙ a.1 in
      let l : pad_left ws out ≡ new ++ drop (length new) out = ap (λ (r : Reading). pad_left_by r out) e ∙ a.2 in
      let q = (read_sound ws w e).0 in
      let g = good w a.0 in
      let is : pad_listing ws out ≡ new = ap (λ (k : ℕ). take k (pad_left ws out)) n ∙ ap (take (length new)) l ∙ take-append_seam new (drop (length new) out) in
      let listing : read (pad_listing ws out) ≡ whole (padded w) = ap read is ∙ padded-read w q in
      record {
        circuit = w;
        is_read = e;
        listing = listing;
        accepted = λ b h. ap (λ (l : List ℕ). (listed_answer l b).number) is ∙ padded-taken w q g b h;
        short = λ b h. ap (λ (l : List ℕ). (listed_answer l b).number) is ∙ padded_10 w q g b h;
        right = λ b d. listed_right (pad_listing ws out) b (padded w) listing d;
        beyond = ap (λ (k : ℕ). drop k (pad_left ws out)) n ∙ ap (drop (length new)) l ∙ drop-append_seam new (drop (length new) out) ∙ ap (λ (k : ℕ). drop k out) (sym n);
      }

  pub pad_full : (pad_answer ws out).number ≡ 0 → Full ws out
  unfolding pad_answer
  pad_full z = by (read ws) refl z
    where
      by : (r : Reading) → read ws ≡ r → (pad_by r out).number ≡ 0 → Full ws out
      by (whole w) e k = of_whole w e k
      by (refused n) e k = absurd (omega (arith, twenty ws n e, k))

  -- "no word is written" after a refusal
  pub pad_refused : (pad_answer ws out).number ≢ 0 → ((pad_answer ws out).words ≡ 0) × (pad_left ws out ≡ out)
  unfolding pad_answer pad_left
  pad_refused d = by (read ws) d
    where
      by : (r : Reading) → (pad_by r out).number ≢ 0 → ((pad_by r out).words ≡ 0) × (pad_left_by r out ≡ out)
      by (whole w) k = answer_other (pad_number w) (written (padded w)) out k
      by (refused n) k = (refl, refl)
