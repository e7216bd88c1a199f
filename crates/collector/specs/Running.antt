-- What holds where a run begins, and what it answers: for the inner functions.
--
-- Main definitions: `Begins`, `Tells`, `Ran`; `Sets`, `begun_at`, `Settled`; `Answers`.
use Rattle.std.specs.Prelude.{◌≡◌, List, true, false, ℕ, ◌*◌, ◌≤◌, ◌/◌, length, ltb, Result}
use Rattle.theory.specs.Presentation.{Vector, Normal}
use Rattle.layout.specs.Header.{rank_of}
use Rattle.layout.specs.Relations.{presentation}
use Rattle.slots.specs.Pieces.{pieces}
use Rattle.slots.specs.Stacked.{Stacked}
use Rattle.collector.specs.declared.Refused.{Refused}
use Rattle.collector.specs.Given.{number_in, count_in}
use Rattle.collector.specs.Run.{Outcome, done, refused, outcome}

-- A normal vector, a stack that stands, and a count within the budget.
pub record Begins (nums bodies : List ℕ) (v : Vector) (word : List ℕ) (budget count : ℕ) (ws : List ℕ) (d : ℕ) : Type 0 where
  pub normal : Normal (presentation nums) (rank_of nums) 1 v
  pub stacked : Stacked (rank_of nums) bodies word ws d
  pub paid : count ≤ budget

-- The answer, with the vector that is left, says the outcome.
abbrev pub Tells : Outcome → Result ℕ Refused → Vector → Type 0
Tells (done r c) answer v = (number_in answer ≡ 0) × (count_in answer ≡ c) × (v ≡ r)
Tells (refused k c) answer v = (number_in answer ≡ k) × (count_in answer ≡ c)

-- The run from the vector v, the d slots of ws and the count: v' and ws' are left.
pub record Ran (nums bodies : List ℕ) (v : Vector) (word : List ℕ) (budget count : ℕ) (ws : List ℕ) (d : ℕ) (v' : Vector) (ws' : List ℕ)
    (answer : Result ℕ Refused) : Type 0 where
  pub kept : length ws' ≡ length ws
  pub tells : Tells (outcome nums budget (length ws / 3) v (pieces bodies word ws d) count) answer v'

-- The same where d may exceed the room: the stack stands if it does not.
pub record Sets (nums bodies : List ℕ) (v : Vector) (word : List ℕ) (budget count : ℕ) (ws : List ℕ) (d : ℕ) : Type 0 where
  pub normal : Normal (presentation nums) (rank_of nums) 1 v
  pub stacked : 3 * d ≤ length ws → Stacked (rank_of nums) bodies word ws d
  pub paid : count ≤ budget
  pub few : d ≤ 1000

-- 10 where the starting slots exceed the room, else the run's outcome.
abbrev pub begun_at : List ℕ → List ℕ → Vector → List ℕ → ℕ → ℕ → List ℕ → ℕ → Outcome
begun_at nums bodies v word budget count ws d =
    elim (ltb (length ws) (3 * d)) [ true ↦ refused 10 count | false ↦ outcome nums budget (length ws / 3) v (pieces bodies word ws d) count ]

pub record Settled (nums bodies : List ℕ) (v : Vector) (word : List ℕ) (budget count : ℕ) (ws : List ℕ) (d : ℕ) (v' : Vector) (ws' : List ℕ)
    (answer : Result ℕ Refused) : Type 0 where
  pub kept : length ws' ≡ length ws
  pub tells : Tells (begun_at nums bodies v word budget count ws d) answer v'

-- The answer, with the vector and the workspace that are left, says the outcome.
pub record Answers (o : Outcome) (ws : List ℕ) (v' : Vector) (ws' : List ℕ) (answer : Result ℕ Refused) : Type 0 where
  pub kept : length ws' ≡ length ws
  pub tells : Tells o answer v'
