-- The numbers given back: document 01's table.
--
-- Main definitions: `refusal_number` and `refusal_of`, the table read both ways; `given`.
use Rattle.std.specs.Prelude.{List, [], ◌∷◌, ℕ, ◌-◌, slice_index_or, Result, Ok, Err}
use Rattle.layout.specs.declared.refusal.Refusal.{Refusal}
use Rattle.layout.specs.declared.refusal.Refusal.TheVariants.{Short, Prime, Rank, Contents, Length, Body, Vector, Word, Budget, Room}

-- "1 SHORT, 2 PRIME, 3 RANK, 4 CONTENTS, 5 LENGTH, 6 BODY, 7 VECTOR, 8 WORD, 9 BUDGET, 10 ROOM".
abbrev pub refusal_number : Refusal → ℕ
refusal_number Short = 1
refusal_number Prime = 2
refusal_number Rank = 3
refusal_number Contents = 4
refusal_number Length = 5
refusal_number Body = 6
refusal_number Vector = 7
refusal_number Word = 8
refusal_number Budget = 9
refusal_number Room = 10

-- The table's refusals in their order, and the refusal that a number from 1 to 10 stands for.
abbrev pub refusals : List Refusal
refusals = Short ∷ Prime ∷ Rank ∷ Contents ∷ Length ∷ Body ∷ Vector ∷ Word ∷ Budget ∷ Room ∷ []

abbrev pub refusal_of : ℕ → Refusal
refusal_of k = slice_index_or refusals (k - 1) Room

-- The number that an answer gives back: 0, DONE, where nothing is refused.
abbrev pub given : {T : Type 0} → Result T Refusal → ℕ
given (Ok x) = 0
given (Err refusal) = refusal_number refusal
