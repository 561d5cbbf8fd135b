-- What holds of each entry of a list.
--
-- Main definition: `Each`. Main statements: `each_append`, `each_at`.
use Rattle.std.specs.Prelude.{List, [], ◌∷◌, ◌++◌, ℕ, zero, suc, ◌<◌, length, get_or}
use Rattle.std.proofs.Common.{not-suc-le-zero, le_of_suc-le-suc}

abbrev pub Each : {X : Type 0} → (X → Type 0) → List X → Type 0
Each P [] = Unit {0}
Each P (x ∷ xs) = P x × Each P xs

pub each_append : {X : Type 0} (P : X → Type 0) (xs ys : List X) → Each P xs → Each P ys → Each P (xs ++ ys)
each_append P [] ys a b = b
each_append P (x ∷ xs) ys (p, a) b = (p, each_append P xs ys a b)

pub each_at : {X : Type 0} (P : X → Type 0) (xs : List X) (d : X) → Each P xs → (i : ℕ) → i < length xs → P (get_or xs i d)
each_at P [] d a i h = absurd (not-suc-le-zero h)
each_at P (x ∷ xs) d (p, a) zero h = p
each_at P (x ∷ xs) d (p, a) (suc i) h = each_at P xs d a i (le_of_suc-le-suc h)
