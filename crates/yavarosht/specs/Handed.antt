-- What a function of the C face hands out: the number that it returns, the numbers that it stores, and each lent slice at its exit, all
-- of them those of the call below it.
--
-- Main definitions: `Handed`, `HandedDepth`, `HandedPart`.
use Rattle.std.specs.Prelude.{◌≡◌, List, ℕ, length}
use Rattle.layout.specs.Judged.{judged}
use Rattle.layout.specs.Words.{word_of, word_at}
use Rattle.collector.specs.Calls.{Left, DepthAnswer}

-- Of collecting, a product or an inverse.
pub record Handed (left : Left) (number count : ℕ) (vector work : List ℕ) : Type 0 where
  pub number_is : number ≡ left.number
  pub count_is : count ≡ left.count
  pub vector_is : vector ≡ left.vector
  pub work_is : work ≡ left.work

-- Of a depth.
pub record HandedDepth (answer : DepthAnswer) (number depth : ℕ) : Type 0 where
  pub number_is : number ≡ answer.number
  pub depth_is : depth ≡ answer.depth

-- Of fetching: the number that the presentation gets, and the place and length of that stretch of the lent numbers which fetching gives.
pub record HandedPart (nums : List ℕ) (i j number start count : ℕ) : Type 0 where
  pub number_is : number ≡ judged nums
  pub start_is : start ≡ word_at nums i j
  pub count_is : count ≡ length (word_of nums i j)
