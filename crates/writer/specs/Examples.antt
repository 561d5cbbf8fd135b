-- The definitions on numerals.
use Rattle.std.specs.Prelude.{[], ◌∷◌, ◌≡◌, refl}
use Rattle.base.specs.Firsts.{or_number}
use Rattle.writer.specs.Besides.{besides}
use Rattle.writer.specs.Hand.{hand_answer, hand_left, hand_number}
use Rattle.writer.specs.Put.{put, put_if}

-- two words in the middle; two words of which the second does not fit
placed : (put 1 (8 ∷ 9 ∷ []) (1 ∷ 2 ∷ 3 ∷ 4 ∷ []) ≡ 1 ∷ 8 ∷ 9 ∷ 4 ∷ []) × (put_if 1 (8 ∷ 9 ∷ []) (1 ∷ 2 ∷ []) ≡ 1 ∷ 2 ∷ [])
unfolding put put_if
placed = (refl, refl)

-- two words at the front of three; a short buffer; a refusal
answers : (hand_answer 0 (8 ∷ 9 ∷ []) (1 ∷ 2 ∷ 3 ∷ []) ≡ record { number = 0; words = 2 }) × (hand_left 0 (8 ∷ 9 ∷ []) (1 ∷ 2 ∷ 3 ∷ []) ≡ 8 ∷ 9 ∷ 3 ∷ [])
    × (hand_answer 0 (8 ∷ 9 ∷ []) (1 ∷ []) ≡ record { number = 10; words = 0 }) × (hand_left 0 (8 ∷ 9 ∷ []) (1 ∷ []) ≡ 1 ∷ [])
    × (hand_answer 7 (8 ∷ 9 ∷ []) (1 ∷ 2 ∷ []) ≡ record { number = 7; words = 0 }) × (hand_left 7 (8 ∷ 9 ∷ []) (1 ∷ 2 ∷ []) ≡ 1 ∷ 2 ∷ [])
unfolding hand_answer hand_left hand_number or_number
answers = (refl, refl, refl, refl, refl, refl)

-- two columns of two words, each with one word of another pair below it
below : besides 2 1 2 (1 ∷ 2 ∷ 3 ∷ 4 ∷ []) (8 ∷ 9 ∷ []) ≡ 1 ∷ 2 ∷ 8 ∷ 3 ∷ 4 ∷ 9 ∷ []
unfolding besides
below = refl
