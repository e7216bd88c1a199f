-- A verdict in the numbers that C is given: what the check returns and stores for each case.
--
-- Main definitions: `verdict_number`, `HandedVerdict`.
use Rattle.std.specs.Prelude.{◌≡◌, List, ℕ, ◌/◌, length}
use Rattle.consistency.specs.declared.Verdict.{Verdict}
use Rattle.consistency.specs.declared.Verdict.TheVariants.{Pass, Differs, Refused, Stopped}
use Rattle.consistency.specs.Verdict.{number_of, values_of}
use Rattle.consistency.specs.Check.{check_of, work_after}

-- What the check returns: document 01's number, 0 for PASS; but DIFFERS, which is no refusal and has no number of its own there, gets the next
-- one, 11, so that C can tell it from PASS.
abbrev pub verdict_number : Verdict → ℕ
verdict_number Pass = number_of Pass
verdict_number (Differs o) = 11
verdict_number (Refused refusal) = number_of (Refused refusal)
verdict_number (Stopped refusal o) = number_of (Stopped refusal o)

-- What the check hands out: the verdict of these numbers with this budget and the room of this workspace, its two vectors, and the
-- workspace as the call below leaves it.
pub record HandedVerdict (nums : List ℕ) (budget : ℕ) (lent : List ℕ) (number : ℕ) (overlap left right work : List ℕ) : Type 0 where
  pub number_is : number ≡ verdict_number (check_of nums budget (length lent / 3)).verdict
  pub overlap_is : overlap ≡ values_of (check_of nums budget (length lent / 3)).verdict
  pub left_is : left ≡ (check_of nums budget (length lent / 3)).left
  pub right_is : right ≡ (check_of nums budget (length lent / 3)).right
  pub work_is : work ≡ work_after nums lent
