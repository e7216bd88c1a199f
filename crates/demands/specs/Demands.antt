-- The demands, as statements about what the calls leave.
--
-- Main definitions: `Collected`, `Inverted`, `Unchanged`.
use Rattle.std.specs.Prelude.{◌≡◌, List, [], ◌++◌, ℕ}
use Rattle.std.proofs.Math.Option.{none, some}
use Rattle.theory.specs.Presentation.{Word, Vector, spell, identity, Normal}
use Rattle.theory.specs.Replacement.{leftmost, steps}
use Rattle.theory.specs.Placing.{collect}
use Rattle.layout.specs.Header.{rank_of}
use Rattle.layout.specs.Relations.{presentation}
use Rattle.collector.specs.Calls.{Left}

-- "Vector and count are those of replacing the leftmost non-normal subword again and again": c leftmost replacements lead from the word of v
-- followed by w to the word of r, which is normal, and in which none is left.
pub record Collected (nums : List ℕ) (v : Vector) (w : Word) (c : ℕ) (r : Vector) : Type 0 where
  pub normal : Normal (presentation nums) (rank_of nums) 1 r
  pub replaced : steps (presentation nums) c (spell 1 v ++ w) ≡ some (spell 1 r)
  pub ended : leftmost (presentation nums) (spell 1 r) ≡ none

-- "The inverse is the one normal vector that collects to the identity after the given one", and c is the number of leftmost replacements from
-- the word of v followed by the word of r to the empty word.
pub record Inverted (nums : List ℕ) (v : Vector) (c : ℕ) (r : Vector) : Type 0 where
  pub normal : Normal (presentation nums) (rank_of nums) 1 r
  pub replaced : steps (presentation nums) c (spell 1 v ++ spell 1 r) ≡ some []
  pub clears : collect (presentation nums) (rank_of nums) 1 v (spell 1 r) ≡ identity (rank_of nums)
  pub only : (s : Vector) → Normal (presentation nums) (rank_of nums) 1 s
      → collect (presentation nums) (rank_of nums) 1 v (spell 1 s) ≡ identity (rank_of nums) → s ≡ r

-- The same number, count and vector. ("A larger budget or room never changes an accepted answer.")
pub record Unchanged (left other : Left) : Type 0 where
  pub number : left.number ≡ other.number
  pub count : left.count ≡ other.count
  pub vector : left.vector ≡ other.vector
