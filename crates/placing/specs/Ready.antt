-- What holds where a placing begins, and what it answers.
--
-- Main definitions: `Ground`, `Ready`, `Passes`, `Tells`, `Steps`.
use Rattle.std.specs.Prelude.{◌≡◌, List, ℕ, ◌≤◌, ◌<◌, ◌/◌, length, drop, Result, Ok, Err}
use Rattle.theory.specs.Presentation.{Vector, Normal}
use Rattle.layout.specs.declared.View.{View}
use Rattle.layout.specs.Header.{Seen, rank_of, bodies_at}
use Rattle.layout.specs.declared.refusal.Refusal.{Refusal}
use Rattle.layout.specs.Refusals.{given}
use Rattle.layout.specs.Judged.{judged}
use Rattle.layout.specs.Relations.{presentation}
use Rattle.slots.specs.Pieces.{Piece, pieces}
use Rattle.slots.specs.Stacked.{Sources, Stacked}
use Rattle.placing.specs.declared.Placement.{Placement}
use Rattle.placing.specs.Exchange.{cleared}
use Rattle.placing.specs.Step.{Step, refuse, lead, slots_after, step}

-- What a whole collection stands on: the numbers are accepted, the view is theirs, the strings are read from their bodies and from a
-- word that was judged.
pub record Ground (nums : List ℕ) (view : View) (bodies word : List ℕ) : Type 0 where
  pub accepts : judged nums ≡ 0
  pub seen : Seen nums view
  pub bodies_are : bodies ≡ drop (bodies_at nums) nums
  pub sources : Sources (rank_of nums) bodies word

-- What a placing begins with besides: a normal vector, and a stack of at least one slot.
pub record Ready (nums : List ℕ) (bodies : List ℕ) (v : Vector) (word ws : List ℕ) (d : ℕ) : Type 0 where
  pub normal : Normal (presentation nums) (rank_of nums) 1 v
  pub stacked : Stacked (rank_of nums) bodies word ws d
  pub some : 1 ≤ d

-- Steps 1 and 2 from the vector v and the d slots of ws, with the letter i: v' and ws' are left, and r is answered. Where there is no room
-- for the slots, r says so, and all that is said of ws' is its length.
pub record Passes (nums bodies word : List ℕ) (i : ℕ) (v : Vector) (ws : List ℕ) (d : ℕ) (v' : Vector) (ws' : List ℕ) (r : ℕ) : Type 0 where
  pub kept : length ws' ≡ length ws
  pub over : length ws / 3 < r → length ws / 3 < length (slots_after nums v (pieces bodies word ws d))
  pub slots : r ≤ length ws / 3 → pieces bodies word ws' r ≡ slots_after nums v (pieces bodies word ws d)
  pub stands : r ≤ length ws / 3 → Stacked (rank_of nums) bodies word ws' r
  pub vector : r ≤ length ws / 3 → v' ≡ cleared i v

-- The placement that an answer holds; nothing is said of it where the placing is refused.
abbrev pub placement_in : Result Placement Refusal → Placement
placement_in (Ok placement) = placement
placement_in (Err refusal) = record { depth = 0; exchanges = 0; powers = 0 }

-- What the answer r says of the step, with the vector and the slots that are left: the number of the refusal, or 0 with where it led.
abbrev pub Tells : Step → Result Placement Refusal → Vector → List Piece → Type 0
Tells (refuse k) r v slots = given r ≡ k
Tells (lead v' slots' e p) r v slots = (given r ≡ 0) × (v ≡ v') × (slots ≡ slots') × ((placement_in r).exchanges ≡ e) × ((placement_in r).powers ≡ p)

-- A placing from the vector v and the d slots of ws, with `left` of the budget: v' and ws' are left, and r is answered.
pub record Steps (nums bodies word : List ℕ) (left : ℕ) (v : Vector) (ws : List ℕ) (d : ℕ) (v' : Vector) (ws' : List ℕ)
    (r : Result Placement Refusal) : Type 0 where
  pub kept : length ws' ≡ length ws
  pub tells : Tells (step nums left (length ws / 3) v (pieces bodies word ws d)) r v' (pieces bodies word ws' (placement_in r).depth)
  pub stands : given r ≡ 0 → Stacked (rank_of nums) bodies word ws' (placement_in r).depth
