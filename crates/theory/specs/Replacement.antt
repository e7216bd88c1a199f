-- Leftmost replacement.
--
-- A non-normal subword, what replaces it, the leftmost one, and c leftmost replacements: what collecting is held against.
--
-- Main definitions: `replace_first`, `leftmost`, `steps`.
use Rattle.std.specs.Prelude.{[], ◌∷◌, ◌++◌, true, false, ℕ, zero, suc, eqb, ltb}
use Rattle.std.proofs.Math.Option.{Option, none, some}
use Rattle.theory.specs.Presentation.{Presentation, Word, power_word}

-- The word without the c letters i at its front, if it begins with so many.
abbrev pub strip : ℕ → ℕ → Word → Option Word
strip zero i w = some w
strip (suc c) i [] = none
strip (suc c) i (j ∷ w) = elim (eqb j i) [ true ↦ strip c i w | false ↦ none ]

-- "p equal letters in a row": the word after replacing x_j^e at its front by w_j.
abbrev pub replace_power : Presentation → ℕ → Word → Option Word
replace_power P j w = elim (strip (P.exponent j) j w) [ none ↦ none | some rest ↦ some (power_word P j ++ rest) ]

-- "A non-normal subword is p equal letters in a row, or x_j x_i with j > i. Replacement turns the first into w_i and the second
-- into x_i x_j w_ij": the word after replacing the non-normal subword that starts at its first letter, if one starts there.
abbrev pub replace_first : Presentation → Word → Option Word
replace_first P [] = none
replace_first P (j ∷ []) = replace_power P j (j ∷ [])
replace_first P (j ∷ i ∷ w) = elim (ltb i j) [ true ↦ some (i ∷ P.conjugate i j ++ w) | false ↦ replace_power P j (j ∷ i ∷ w) ]

-- The letter j kept in front.
abbrev pub behind : ℕ → Option Word → Option Word
behind j none = none
behind j (some w) = some (j ∷ w)

-- "The leftmost is the one that starts first."
abbrev pub leftmost : Presentation → Word → Option Word
leftmost P [] = none
leftmost P (j ∷ w) = elim (replace_first P (j ∷ w)) [ none ↦ behind j (leftmost P w) | some u ↦ some u ]

-- c leftmost replacements, one after the other, if there are so many.
abbrev pub steps : Presentation → ℕ → Word → Option Word
steps P zero w = some w
steps P (suc c) w = elim (leftmost P w) [ none ↦ none | some u ↦ steps P c u ]
