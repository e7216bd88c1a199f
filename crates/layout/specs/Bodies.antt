-- The bodies: when the pairs of every relation are right.
--
-- Main definitions: `stretch_right`, `bodies_right`.
use Rattle.std.specs.Prelude.{List, [], ◌∷◌, Bool, true, false, ◌&&◌, ℕ, ◌+◌, ◌-◌, ltb, leb}
use Rattle.layout.specs.Every.{every}
use Rattle.layout.specs.Header.{rank_of, exponent_of}
use Rattle.layout.specs.Contents.{row_at, stretch_at}

-- "BODY: a generator too low for its relation, above n or not increasing; an exponent 0 or at least p": none of these. The
-- generator has to be above low, which is the relation's floor at its first pair and the generator before it at the others; e gives
-- each generator's exponent.
abbrev pub pair_right : (ℕ → ℕ) → ℕ → ℕ → ℕ → ℕ → Bool
pair_right e n low g a = ltb low g && (leb g n && (ltb 0 a && ltb a (e g)))

-- "A body pair is generator, exponent."
abbrev pub stretch_right : (ℕ → ℕ) → ℕ → ℕ → List ℕ → Bool
stretch_right e n low [] = true
stretch_right e n low (g ∷ []) = false
stretch_right e n low (g ∷ a ∷ w) = elim (pair_right e n low g a) [ true ↦ stretch_right e n g w | false ↦ false ]

-- "w_i uses only generators above i .. w_ij uses only generators above j": the floor of the word for j is j in every row. The c-th
-- entry of row i is the one for j = i + c + 1.
abbrev pub entry_right : List ℕ → ℕ → ℕ → Bool
entry_right nums i c = stretch_right (exponent_of nums) (rank_of nums) (i + c + 1) (stretch_at nums (row_at (rank_of nums) i + c))

abbrev pub row_right : List ℕ → ℕ → Bool
row_right nums i = every (entry_right nums i) (rank_of nums - i)

-- Rows 0 to n - 1; row n is empty.
abbrev pub bodies_right : List ℕ → Bool
bodies_right nums = every (row_right nums) (rank_of nums)
