-- The run: placing after placing, until no slot is left or one is refused.
--
-- Main definitions: `Outcome`, `Runs` (the rules), `outcome` (the same as a function), `begun`.
use Rattle.std.specs.Prelude.{◌≡◌, List, [], ◌∷◌, true, false, ℕ, zero, suc, ◌+◌, ◌-◌, ◌*◌, length, ltb}
use Rattle.theory.specs.Presentation.{Vector}
use Rattle.layout.specs.Header.{prime_of, rank_of}
use Rattle.slots.specs.Pieces.{Piece, letters}
use Rattle.placing.specs.Step.{refuse, lead, step}

-- What a run comes to: DONE with the vector and the count, or the number 9 or 10 with "the count before the refused placing".
pub data Outcome : Type 0 where
  done : (vector : Vector) (count : ℕ) → Outcome
  refused : (number count : ℕ) → Outcome

-- "Collection ends when no slot is left. The count answered is the total": the rules, from a vector, slots and a count on.
pub data Runs (nums : List ℕ) (budget room : ℕ) : Vector → List Piece → ℕ → Outcome → Type 0 where
  ends : {v : Vector} {c : ℕ} → Runs nums budget room v [] c (done v c)
  stops : {v : Vector} {x : Piece} {below : List Piece} {c k : ℕ}
      → step nums (budget - c) room v (x ∷ below) ≡ refuse k
      → Runs nums budget room v (x ∷ below) c (refused k c)
  goes : {v v' : Vector} {x : Piece} {below slots : List Piece} {c e p : ℕ} {o : Outcome}
      → step nums (budget - c) room v (x ∷ below) ≡ lead v' slots e p
      → Runs nums budget room v' slots (c + (e + p)) o
      → Runs nums budget room v (x ∷ below) c o

-- The same as a function, which makes as many placings at most as its first number says. (Without any left it would answer 9: it is
-- proved, in proofs/Outcomes, that `enough` of them are always enough.)
abbrev pub run : ℕ → List ℕ → ℕ → ℕ → Vector → List Piece → ℕ → Outcome
run zero nums budget room v slots c = refused 9 c
run (suc f) nums budget room v [] c = done v c
run (suc f) nums budget room v (x ∷ below) c =
    elim (step nums (budget - c) room v (x ∷ below)) [
      | refuse k ↦ refused k c
      | lead v' slots e p ↦ run f nums budget room v' slots (c + (e + p))
    ]

-- A placing takes one letter off the slots, and puts less than n p letters for each exchange, which the budget pays.
abbrev pub enough : List ℕ → ℕ → List Piece → ℕ → ℕ
enough nums budget slots c = suc (length (letters slots) + rank_of nums * prime_of nums * (budget - c))

abbrev pub outcome : List ℕ → ℕ → ℕ → Vector → List Piece → ℕ → Outcome
outcome nums budget room v slots c = run (enough nums budget slots c) nums budget room v slots c

-- "then the starting slots, then at each placing": 10 where the "starting slots .. exceed the room".
abbrev pub begun : List ℕ → ℕ → ℕ → Vector → List Piece → ℕ → Outcome
begun nums budget room v slots c =
    elim (ltb room (length slots)) [ true ↦ refused 10 c | false ↦ outcome nums budget room v slots c ]
