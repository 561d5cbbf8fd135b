-- The definitions on numerals.
use Rattle.std.specs.Prelude.{◌+◌, ◌-◌, replicate, false, true, [], ◌++◌, ◌∷◌, ◌≡◌, refl}
use Rattle.tree.specs.Plan.{zero_plan}
use Rattle.columns.specs.Intake.{zero_intake}
use Rattle.writer.specs.Hand.{handed}
use Rattle.encoding.specs.Encoding.{intake_words, lookup_fits, plan_length, plan_words, progress_length, progress_of, progressed, state_length}

-- mode 0 holds no width and no flag; there is no mode 5 and no flag 2
modes : (lookup_fits 0 0 0 ≡ true) × (lookup_fits 0 1 0 ≡ false) × (lookup_fits 0 0 1 ≡ false) × (lookup_fits 4 9 1 ≡ true) × (lookup_fits 4 9 2 ≡ false) × (lookup_fits 5 9 1 ≡ false)
unfolding lookup_fits
modes = (refl, refl, refl, refl, refl, refl)

-- words beyond those handed out keep their values; nothing goes into a slice that is too short
slices : (handed (1 ∷ 2 ∷ []) (7 ∷ 8 ∷ 9 ∷ []) ≡ 1 ∷ 2 ∷ 9 ∷ []) × (handed (1 ∷ 2 ∷ []) (7 ∷ []) ≡ 7 ∷ [])
slices = (refl, refl)

-- the lengths that callers in C and Rust have as numerals
lengths : (plan_length ≡ 1162) × (state_length ≡ 1296)
lengths = (refl, refl)

-- a plan and a state of zeros are zeros, as many as a plan and a state have
zeros : (plan_words zero_plan ≡ replicate plan_length 0) × (intake_words zero_intake ≡ replicate state_length 0)
zeros = (refl, refl)

-- what a call changes goes behind the words of the plan, and words beyond a state's keep their values; nothing goes into a slice that is too short
progress : (progressed (progress_of zero_intake) (replicate (state_length + 1) 9) ≡ replicate plan_length 9 ++ (replicate progress_length 0 ++ (9 ∷ []))) × (progressed (progress_of zero_intake) (replicate (state_length - 1) 9) ≡ replicate (state_length - 1) 9)
progress = (refl, refl)
