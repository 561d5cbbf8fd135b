-- The definitions on numerals.
use Rattle.std.specs.Prelude.{replicate, List, [], ◌++◌, ◌∷◌, ◌≡◌, refl, ℕ}
use Rattle.std.proofs.Math.Option.{bind}
use Rattle.base.specs.Exponent.{exponent_from}
use Rattle.labels.specs.Labels.{powers_of, representatives_number, representatives_of, taken_of}
use Rattle.labels.specs.Ranges.{ranges_fit}
use Rattle.calls.specs.Encoded.{calls_from}
use Rattle.listing.specs.Listing.{off, read, records, section, six_sections}
use Rattle.pieces.specs.Setting.{Store}
use Rattle.capi.specs.Calls.{ran_over}
use Rattle.capi.specs.Listed.{run_call, run_left, run_plan}
use Rattle.capi.specs.Planning.{plan_call, plan_left, representatives_call, representatives_left, with_room}

-- 19 before 10, and 10 before 12
ranks : (with_room 2 1 19 ≡ 19) × (with_room 2 1 12 ≡ 10) × (with_room 2 2 12 ≡ 12) × (with_room 2 1 0 ≡ 10) × (with_room 2 2 0 ≡ 0)
unfolding with_room
ranks = (refl, refl, refl, refl, refl)

-- seven parameters are 20, also where the plan's slice is too short; eight with a short slice are 10
counts : (plan_call (2 ∷ 2 ∷ 1 ∷ 0 ∷ 2 ∷ 0 ∷ 0 ∷ []) [] [] ≡ 20) × (plan_call (2 ∷ 2 ∷ 1 ∷ 0 ∷ 2 ∷ 0 ∷ 0 ∷ 0 ∷ []) [] (5 ∷ []) ≡ 10) × (plan_left (2 ∷ 2 ∷ 1 ∷ 0 ∷ 2 ∷ 0 ∷ 0 ∷ 0 ∷ []) [] (5 ∷ []) ≡ 5 ∷ [])
unfolding plan_call plan_left
counts = (refl, refl, refl)

-- an unknown kind and a call that is cut short are 20, before 10 for the numbers; an empty list is 0
lists : (ws : List ℕ) (b : Store)
    → ((ran_over ws (6 ∷ 0 ∷ []) [] b).answer.number ≡ 20) × ((ran_over ws (5 ∷ 0 ∷ 1 ∷ 2 ∷ 0 ∷ []) [] b).answer.number ≡ 20) × ((ran_over ws (5 ∷ 0 ∷ []) [] b).answer.number ≡ 10) × ((ran_over ws [] [] b).answer.number ≡ 0)
unfolding calls_from
lists ws b = (refl, refl, refl, refl)

-- no listing is 20, also where the plan's slice is too short; a listing with a short slice is 10, and writes nothing
listings : (b : Store)
    → (run_call [] [] b ≡ 20) × (run_call (8 ∷ 1 ∷ 1 ∷ 0 ∷ 0 ∷ 0 ∷ 0 ∷ 0 ∷ 0 ∷ 0 ∷ 0 ∷ 0 ∷ 0 ∷ 0 ∷ []) (5 ∷ []) b ≡ 10) × (run_plan [] (5 ∷ []) b ≡ 5 ∷ []) × (run_left [] [] b ≡ b)
unfolding run_call run_plan run_left read six_sections section records off bind
listings b = (refl, refl, refl, refl)

-- 128 words are too few for representatives; N = 3 leaves zeros, and the word behind them
representatives : (representatives_call 2 5 (replicate 128 7) ≡ 10) × (representatives_call 3 5 (replicate 130 7) ≡ 1) × (representatives_left 3 5 (replicate 130 7) ≡ replicate 129 0 ++ (7 ∷ []))
unfolding representatives_call representatives_left representatives_number representatives_of powers_of taken_of ranges_fit exponent_from
representatives = (refl, refl, refl)
