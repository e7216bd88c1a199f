-- Document 01's marked examples, as the lent slices that a caller hands over and what the calls answer, budgets and rooms included.
--
-- Main definitions: `D`, `Q`, `H`, `Z`; `Case`, `Holds`, `marked`.
use Rattle.std.specs.Prelude.{◌≡◌, List, [], ◌∷◌, ℕ, ◌*◌, replicate, take}
use Rattle.theory.specs.Presentation.{Vector}
use Rattle.layout.specs.Header.{rank_of}
use Rattle.collector.specs.Calls.{Left, collect_call, inverse_call}
use Rattle.consistency.specs.declared.Overlap.TheVariants.{Single}
use Rattle.consistency.specs.declared.Verdict.{Verdict}
use Rattle.consistency.specs.declared.Verdict.TheVariants.{Differs}
use Rattle.consistency.specs.Check.{check_of}

-- "D: p = 2, n = 3, only w_12 = x_3. Whole slice: `2 3 0 0 0 0 0 0 0 1 1 0 1 0 3 1`."
abbrev pub D : List ℕ
D = 2 ∷ 3 ∷ 0 ∷ 0 ∷ 0 ∷ 0 ∷ 0 ∷ 0 ∷ 0 ∷ 1 ∷ 1 ∷ 0 ∷ 1 ∷ 0 ∷ 3 ∷ 1 ∷ []

-- "Q: p = 2, n = 3, w_1 = w_2 = w_12 = x_3."
abbrev pub Q : List ℕ
Q = 2 ∷ 3 ∷ 0 ∷ 1 ∷ 1 ∷ 1 ∷ 2 ∷ 0 ∷ 2 ∷ 1 ∷ 3 ∷ 0 ∷ 3 ∷ 0 ∷ 3 ∷ 1 ∷ 3 ∷ 1 ∷ 3 ∷ 1 ∷ []

-- "H: p = 3, n = 4, w_12 = x_3, w_23 = x_4."
abbrev pub H : List ℕ
H = 3 ∷ 4 ∷ 0 ∷ 0 ∷ 0 ∷ 0 ∷ 0 ∷ 0 ∷ 0 ∷ 0 ∷ 0 ∷ 1 ∷ 1 ∷ 0 ∷ 1 ∷ 0 ∷ 1 ∷ 1 ∷ 2 ∷ 0 ∷ 2 ∷ 0 ∷ 3 ∷ 1 ∷ 4 ∷ 1 ∷ []

-- "Z: p = 2, n = 3, w_1 = x_2, w_12 = x_3."
abbrev pub Z : List ℕ
Z = 2 ∷ 3 ∷ 0 ∷ 1 ∷ 1 ∷ 0 ∷ 1 ∷ 0 ∷ 1 ∷ 1 ∷ 2 ∷ 0 ∷ 2 ∷ 0 ∷ 2 ∷ 1 ∷ 3 ∷ 1 ∷ []

-- What a case asks: the slice of the presentation, the vector, the word if any, the budget and the room.
pub data Asked : Type 0 where
  collecting : (numbers : List ℕ) (vector : Vector) (word : List ℕ) (budget room : ℕ) → Asked
  inverse_of : (numbers : List ℕ) (vector : Vector) (budget room : ℕ) → Asked

-- The workspace of so many slots.
abbrev pub slots_of : ℕ → List ℕ
slots_of room = replicate (3 * room) 0

abbrev pub asked : Asked → Left
asked (collecting nums v w budget room) = collect_call nums v w budget (slots_of room)
asked (inverse_of nums v budget room) = inverse_call nums v budget (slots_of room)

-- A case: a call with the number, the vector and the count that come back; or a check with its verdict and the n entries of both vectors.
pub data Case : Type 0 where
  call : (ask : Asked) (number : ℕ) (vector : Vector) (count : ℕ) → Case
  checking : (numbers : List ℕ) (budget room : ℕ) (verdict : Verdict) (left right : Vector) → Case

abbrev pub Holds : Case → Type 0
Holds (call ask number vector count) = ((asked ask).number ≡ number) × ((asked ask).vector ≡ vector) × ((asked ask).count ≡ count)
Holds (checking nums budget room verdict left right) =
    ((check_of nums budget room).verdict ≡ verdict)
    × (take (rank_of nums) (check_of nums budget room).left ≡ left)
    × (take (rank_of nums) (check_of nums budget room).right ≡ right)

abbrev pub AllHold : List Case → Type 0
AllHold [] = Unit {0}
AllHold (c ∷ cs) = Holds c × AllHold cs

abbrev pub one : Vector
one = 0 ∷ 0 ∷ 0 ∷ []

abbrev pub marked : List Case
marked =
    -- "D, x_2 x_1 on identity: (1,1,1), count 1. Budget 0 gives 9; budget 1 with room 1 gives 10; room 2 suffices."
    call (collecting D one (2 ∷ 1 ∷ 1 ∷ 1 ∷ []) 1 2) 0 (1 ∷ 1 ∷ 1 ∷ []) 1
    ∷ call (collecting D one (2 ∷ 1 ∷ 1 ∷ 1 ∷ []) 0 2) 9 one 0
    ∷ call (collecting D one (2 ∷ 1 ∷ 1 ∷ 1 ∷ []) 1 1) 10 one 0
    -- "D, x_2 x_1 x_2 x_1: (0,0,1), count 5, room 3 suffices and 2 doesn't."
    ∷ call (collecting D one (2 ∷ 1 ∷ 1 ∷ 1 ∷ 2 ∷ 1 ∷ 1 ∷ 1 ∷ []) 5 3) 0 (0 ∷ 0 ∷ 1 ∷ []) 5
    ∷ call (collecting D one (2 ∷ 1 ∷ 1 ∷ 1 ∷ 2 ∷ 1 ∷ 1 ∷ 1 ∷ []) 5 2) 10 one 0
    -- "Q, (1,0,1) then x_1: (0,0,0), count 3."
    ∷ call (collecting Q (1 ∷ 0 ∷ 1 ∷ []) (1 ∷ 1 ∷ []) 3 1) 0 one 3
    -- "Q, inverse of (1,0,0): (1,0,1), count 2."
    ∷ call (inverse_of Q (1 ∷ 0 ∷ 0 ∷ []) 2 1) 0 (1 ∷ 0 ∷ 1 ∷ []) 2
    -- "Q, x_2 x_1: (1,1,1); x_1 x_2: (1,1,0)."
    ∷ call (collecting Q one (2 ∷ 1 ∷ 1 ∷ 1 ∷ []) 1 2) 0 (1 ∷ 1 ∷ 1 ∷ []) 1
    ∷ call (collecting Q one (1 ∷ 1 ∷ 2 ∷ 1 ∷ []) 0 1) 0 (1 ∷ 1 ∷ 0 ∷ []) 0
    -- "H, x_2^2 x_1: (1,2,2,1), count 4, room 4."
    ∷ call (collecting H (0 ∷ one) (2 ∷ 2 ∷ 1 ∷ 1 ∷ []) 4 4) 0 (1 ∷ 2 ∷ 2 ∷ 1 ∷ []) 4
    -- "Empty word, room 0, budget 0: vector unchanged, count 0."
    ∷ call (collecting H (1 ∷ 0 ∷ 2 ∷ 1 ∷ []) [] 0 0) 0 (1 ∷ 0 ∷ 2 ∷ 1 ∷ []) 0
    -- "Z differs at family 4, i = 1: (1,1,1) against (1,1,0)."
    ∷ checking Z 100 10 (Differs (Single (record { 0 = 1 }))) (1 ∷ 1 ∷ 1 ∷ []) (1 ∷ 1 ∷ 0 ∷ [])
    ∷ []
