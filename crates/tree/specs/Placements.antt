-- A path in words, as the walk to a gate answers it, and the words of all paths, as one walk of the tree writes them.
--
-- Main definitions: `spelled`, `placed`.
use Rattle.std.specs.Prelude.{◌*◌, ◌+◌, ℕ, ltb, length, set, List, Option as Optional, Some, None}
use Rattle.std.proofs.Math.Option.{Option, none, some}
use Rattle.base.specs.Pick.{pick}
use Rattle.selector.specs.Paths.{bits_of}
use Rattle.base.specs.Limits.{most_gates}
use Rattle.selector.specs.Tree.{Tree, fork, leaf}
use Rattle.tree.specs.declared.paths.Path.{Path}

-- bits and length
abbrev pub spelled : Option (List ℕ) → Optional Path
spelled (some p) = Some (record { bits = bits_of p; length = length p })
spelled none = None

-- the words of all paths: bits and lengths, one of each a gate
pub record PathWords : Type 0 where
  pub bits : List ℕ
  pub lengths : List ℕ

abbrev pub path_words : List ℕ → List ℕ → PathWords
path_words bs ls = record { bits = bs; lengths = ls }

-- a tree's leaves written over the words s, where b and d are bits and length of the path to the tree and w is what a step to the left adds: the right side
-- first, then the left side over it; a gate without words is passed over
unfoldable pub placed : Tree → ℕ → ℕ → ℕ → PathWords → PathWords
placed (leaf g) b w d s = pick (ltb g most_gates) (path_words (set s.bits g b) (set s.lengths g d)) s
placed (fork l r) b w d s = placed l (b + w) (w * 2) (d + 1) (placed r b (w * 2) (d + 1) s)
