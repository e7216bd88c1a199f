-- Decimal numbers as bytes.
--
-- Main definitions: `decimal`, `spaced`.
use Rattle.std.specs.Prelude.{List, [], ◌∷◌, ◌++◌, true, false, ℕ, zero, suc, ◌+◌, ◌/◌, ◌%◌, ltb}

-- The digits of a number below 10 are its one digit, and of any other those of its tenth part and then its last.
-- The first argument bounds how many there are, so that the recursion ends.
abbrev pub digits : ℕ → ℕ → List ℕ
digits zero n = []
digits (suc most) n = elim (ltb n 10) [ true ↦ (48 + n) ∷ [] | false ↦ digits most (n / 10) ++ ((48 + n % 10) ∷ []) ]

-- The number in decimals with no leading zeros, and 0 as `0`. A number has fewer digits than one more than itself.
unfoldable pub decimal : ℕ → List ℕ
decimal n = digits (suc n) n

-- Numbers one after the other, each with a space before it.
abbrev pub spaced : List ℕ → List ℕ
spaced [] = []
spaced (n ∷ ns) = 32 ∷ decimal n ++ spaced ns
