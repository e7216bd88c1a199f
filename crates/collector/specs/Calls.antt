-- The calls: what each answers, and what it leaves in every lent slice.
--
-- Main definitions: `Left`, `collect_call`, `product_call`, `inverse_call`, `depth_call`.
use Rattle.std.specs.Prelude.{◌≡◌, List, [], ◌∷◌, Bool, true, false, ℕ, zero, suc, ◌-◌, ◌/◌, length, get_or, replicate, eqb, Result, Ok, Err}
use Rattle.theory.specs.Presentation.{Vector}
use Rattle.theory.specs.Placing.{complement}
use Rattle.layout.specs.Header.{rank_of, exponent_of}
use Rattle.layout.specs.Judged.{judged}
use Rattle.slots.specs.Pieces.{power}
use Rattle.layout.specs.declared.refusal.Refusal.{Refusal}
use Rattle.layout.specs.Refusals.{given}
use Rattle.collector.specs.declared.Refused.{Refused}
use Rattle.collector.specs.Given.{number_in, count_in}
use Rattle.collector.specs.Run.{Outcome, done, refused, begun}
use Rattle.collector.specs.Inputs.{vector_right, word_right, word_slots, power_slots}

-- What a call leaves: its number and count, the vector that it may replace, and the workspace.
pub record Left : Type 0 where
  pub number : ℕ
  pub count : ℕ
  pub vector : Vector
  pub work : List ℕ

-- "Every refusal but 9 and 10 answers count 0 and touches nothing."
abbrev pub untouched : ℕ → Vector → List ℕ → Left
untouched k v ws = record { number = k; count = 0; vector = v; work = ws }

-- "A refusal 9 or 10 answers the count before the refused placing and leaves every vector as at entry. After DONE, 9 or 10 each number
-- of the workspace is 0."
abbrev pub closed : Outcome → Vector → List ℕ → Left
closed (done r c) v ws = record { number = 0; count = c; vector = r; work = replicate (length ws) 0 }
closed (refused k c) v ws = record { number = k; count = c; vector = v; work = replicate (length ws) 0 }

-- "its room is its length divided by 3, rounded down, in slots."
abbrev pub room_of : List ℕ → ℕ
room_of ws = length ws / 3

-- The number that a presentation and a vector get together: 0 if both are accepted.
abbrev pub vector_number : List ℕ → Vector → ℕ
vector_number nums v =
    elim (eqb (judged nums) 0) [ true ↦ elim (vector_right nums v) [ true ↦ 0 | false ↦ 7 ] | false ↦ judged nums ]

-- The number that a word gets.
abbrev pub word_number : List ℕ → List ℕ → ℕ
word_number nums w = elim (word_right nums w) [ true ↦ 0 | false ↦ 8 ]

-- "Checks run in the order 1 to 8 (left vector before right), then the starting slots, then at each placing BUDGET before ROOM."
abbrev pub judged_first : List ℕ → Vector → List ℕ → Left → Left
judged_first nums v ws go = elim (eqb (judged nums) 0) [ true ↦ go | false ↦ untouched (judged nums) v ws ]

abbrev pub vector_first : Bool → Vector → List ℕ → Left → Left
vector_first right v ws go = elim right [ true ↦ go | false ↦ untouched 7 v ws ]

abbrev pub word_first : Bool → Vector → List ℕ → Left → Left
word_first right v ws go = elim right [ true ↦ go | false ↦ untouched 8 v ws ]

-- Collecting a word onto a vector.
abbrev pub collect_call : List ℕ → Vector → List ℕ → ℕ → List ℕ → Left
collect_call nums v w budget ws =
    judged_first nums v ws
    (vector_first (vector_right nums v) v ws
    (word_first (word_right nums w) v ws (closed (begun nums budget (room_of ws) v (word_slots w) 0) v ws)))

-- The product of the left vector and the right one.
abbrev pub product_call : List ℕ → Vector → Vector → ℕ → List ℕ → Left
product_call nums u v budget ws =
    judged_first nums u ws
    (vector_first (vector_right nums u) u ws
    (vector_first (vector_right nums v) u ws (closed (begun nums budget (room_of ws) u (power_slots 1 v) 0) u ws)))

-- An entry of the inverse put before those that follow.
abbrev pub behind : ℕ → Outcome → Outcome
behind a (done r c) = done (a ∷ r) c
behind a (refused k c) = refused k c

-- "if entry i is then a, not 0, place x_i^(p - a) as one starting slot on an empty stack", from the vector v and the count c.
abbrev pub turned : List ℕ → ℕ → ℕ → ℕ → Vector → ℕ → Outcome
turned nums budget room i v c =
    elim (eqb (get_or v (i - 1) 0) 0) [
      | true ↦ done v c
      | false ↦ begun nums budget room v (power i (exponent_of nums i - get_or v (i - 1) 0) ∷ []) c
    ]

-- "Inverse: for i = 1 .. n .. The inverse has p - a at those i, otherwise 0. Budget and count run over the whole call." From the generator i
-- on, of which there are k: done is the inverse's entries from i on.
abbrev pub inverting : List ℕ → ℕ → ℕ → ℕ → ℕ → Vector → ℕ → Outcome
inverting nums budget room zero i v c = done [] c
inverting nums budget room (suc k) i v c =
    elim (turned nums budget room i v c) [
      | done r d ↦ behind (complement (exponent_of nums i) (get_or v (i - 1) 0)) (inverting nums budget room k (suc i) r d)
      | refused q d ↦ refused q d
    ]

abbrev pub inverse_call : List ℕ → Vector → ℕ → List ℕ → Left
inverse_call nums v budget ws =
    judged_first nums v ws
    (vector_first (vector_right nums v) v ws (closed (inverting nums budget (room_of ws) (rank_of nums) 1 v 0) v ws))

-- "Depth of a vector: the number of its first entry that isn't 0; n for the identity." The entries are those of g, g + 1, ..
abbrev pub first_entry : ℕ → ℕ → Vector → ℕ
first_entry none g [] = none
first_entry none g (zero ∷ v) = first_entry none (suc g) v
first_entry none g (suc a ∷ v) = g

-- What asking for a depth answers: its number, and the depth. A depth is no generator number.
pub record DepthAnswer : Type 0 where
  pub number : ℕ
  pub depth : ℕ

-- "a refused depth is 0".
abbrev pub depth_call : List ℕ → Vector → DepthAnswer
depth_call nums v =
    elim (eqb (judged nums) 0) [
      | true ↦ elim (vector_right nums v) [
        | true ↦ record { number = 0; depth = first_entry (rank_of nums) 1 v }
        | false ↦ record { number = 7; depth = 0 }
      ]
      | false ↦ record { number = judged nums; depth = 0 }
    ]

-- The answer, the vector and the workspace at exit are those.
pub record Leaves (left : Left) (answer : Result ℕ Refused) (vector work : List ℕ) : Type 0 where
  pub number : number_in answer ≡ left.number
  pub count : count_in answer ≡ left.count
  pub vector_is : vector ≡ left.vector
  pub work_is : work ≡ left.work

-- The depth that an answer holds, 0 where it is refused.
abbrev pub depth_in : Result ℕ Refusal → ℕ
depth_in (Ok depth) = depth
depth_in (Err refusal) = 0

-- The answer is that depth, or that refusal.
pub record Fathoms (told : DepthAnswer) (answer : Result ℕ Refusal) : Type 0 where
  pub number : given answer ≡ told.number
  pub depth : depth_in answer ≡ told.depth
