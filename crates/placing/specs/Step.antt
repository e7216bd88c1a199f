-- One placing, with BUDGET and ROOM.
--
-- Main definitions: `placing_of`, `slots_after`, `Step`, `step`.
use Rattle.std.specs.Prelude.{List, true, false, ℕ, suc, length, drop, ltb}
use Rattle.theory.specs.Presentation.{Vector}
use Rattle.theory.specs.Placing.{Placed, place, cost}
use Rattle.layout.specs.Relations.{presentation}
use Rattle.slots.specs.Pieces.{Piece, leading, taken}
use Rattle.placing.specs.Exchange.{exchange}

-- The placing of the letter that the slots begin with: the vector after steps 2 and 3, and the replacements.
abbrev pub placing_of : List ℕ → Vector → List Piece → Placed
placing_of nums v slots = place (presentation nums) 1 v (leading slots)

-- The slots after it: step 1 takes the letter, and step 2 puts what was exchanged. The entries above i begin at the index i.
abbrev pub slots_after : List ℕ → Vector → List Piece → List Piece
slots_after nums v slots = exchange nums (leading slots) (suc (leading slots)) (drop (leading slots) v) (taken slots)

-- A placing is refused, or leads to a vector and slots, with its exchanges and power uses.
pub data Step : Type 0 where
  refuse : (number : ℕ) → Step
  lead : (vector : Vector) (slots : List Piece) (exchanges powers : ℕ) → Step

-- "at each placing BUDGET before ROOM": 9 where "this placing would bring the count above the budget", `left` being what the budget
-- leaves above the count; 10 where "the slots after this placing exceed the room".
abbrev pub step : List ℕ → ℕ → ℕ → Vector → List Piece → Step
step nums left room v slots =
    elim (ltb left (cost (placing_of nums v slots))) [
      | true ↦ refuse 9
      | false ↦ elim (ltb room (length (slots_after nums v slots))) [
        | true ↦ refuse 10
        | false ↦ lead (placing_of nums v slots).vector (slots_after nums v slots) (placing_of nums v slots).exchanges (placing_of nums v slots).powers
      ]
    ]

-- The number of the refusal alone, 0 for none, judged as in `step`: `after` is how many slots there are after the placing.
abbrev pub due : ℕ → ℕ → ℕ → ℕ → ℕ
due left cost room after =
    elim (ltb left cost) [
      | true ↦ 9
      | false ↦ elim (ltb room after) [
        | true ↦ 10
        | false ↦ 0
      ]
    ]
