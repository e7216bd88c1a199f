-- The overlaps of document 01's consistency check, in their order, and what consistent means.
--
-- Main definitions: `Overlap`, `Among`, `left_side`, `right_side`, `overlapped`, `Consistent`, `overlaps`.
use Rattle.std.specs.Prelude.{◌≡◌, List, [], ◌∷◌, ◌++◌, ℕ, zero, suc, ◌-◌, ◌≤◌, ◌<◌, replicate}
use Rattle.theory.specs.Presentation.{Presentation, Word, power_word, identity}
use Rattle.theory.specs.Placing.{collect}

-- The four families: the overlapped words are x_k x_j x_i, x_j^e x_i, x_j x_i^e and x_i^(e + 1).
pub data Overlap : Type 0 where
  triple : (i j k : ℕ) → Overlap
  upper : (i j : ℕ) → Overlap
  lower : (i j : ℕ) → Overlap
  single : (i : ℕ) → Overlap

-- "i < j < k", "i < j", "i": all from m to n; for the whole group m is 1.
abbrev pub Among : Presentation → ℕ → Overlap → Type 0
Among P m (triple i j k) = (m ≤ i) × (i < j) × (j < k) × (k ≤ P.rank)
Among P m (upper i j) = (m ≤ i) × (i < j) × (j ≤ P.rank)
Among P m (lower i j) = (m ≤ i) × (i < j) × (j ≤ P.rank)
Among P m (single i) = (m ≤ i) × (i ≤ P.rank)

-- The left sides: "x_j x_k w_jk x_i", "w_j x_i", "x_i x_j w_ij x_i^(p-1)", "w_i x_i", with v_jk for x_k w_jk and v_ij for x_j w_ij.
abbrev pub left_side : Presentation → Overlap → Word
left_side P (triple i j k) = j ∷ P.conjugate j k ++ (i ∷ [])
left_side P (upper i j) = power_word P j ++ (i ∷ [])
left_side P (lower i j) = i ∷ P.conjugate i j ++ replicate (P.exponent i - 1) i
left_side P (single i) = power_word P i ++ (i ∷ [])

-- The right sides: "x_k x_i x_j w_ij", "x_j^(p-1) x_i x_j w_ij", "x_j w_i", "x_i w_i".
abbrev pub right_side : Presentation → Overlap → Word
right_side P (triple i j k) = k ∷ i ∷ P.conjugate i j
right_side P (upper i j) = replicate (P.exponent j - 1) j ++ (i ∷ P.conjugate i j)
right_side P (lower i j) = j ∷ power_word P i
right_side P (single i) = i ∷ power_word P i

-- The overlapped word, to which two relations apply at once.
abbrev pub overlapped : Presentation → Overlap → Word
overlapped P (triple i j k) = k ∷ j ∷ i ∷ []
overlapped P (upper i j) = replicate (P.exponent j) j ++ (i ∷ [])
overlapped P (lower i j) = j ∷ replicate (P.exponent i) i
overlapped P (single i) = replicate (suc (P.exponent i)) i

-- "Each side is collected from the identity": the overlap's sides end at the same vector. (k entries, the first generator is m.)
abbrev pub Agrees : Presentation → ℕ → ℕ → Overlap → Type 0
Agrees P k m o = collect P k m (identity k) (left_side P o) ≡ collect P k m (identity k) (right_side P o)

-- Consistent: every overlap of the four families agrees.
abbrev pub Consistent : Presentation → Type 0
Consistent P = (o : Overlap) → Among P 1 o → Agrees P P.rank 1 o

-- "Overlaps in order; within a family, i slowest, then j, then k, each rising". The generators from a on, c of them.
abbrev pub rising : ℕ → ℕ → List ℕ
rising a zero = []
rising a (suc c) = a ∷ rising (suc a) c

abbrev pub each : List ℕ → (ℕ → List Overlap) → List Overlap
each [] f = []
each (i ∷ is) f = f i ++ each is f

-- The generators of 1 .. n above i are n - i in number.
abbrev pub overlaps : ℕ → List Overlap
overlaps n =
    each (rising 1 n) (λ i. each (rising (suc i) (n - i)) (λ j. each (rising (suc j) (n - j)) (λ k. triple i j k ∷ [])))
    ++ (each (rising 1 n) (λ i. each (rising (suc i) (n - i)) (λ j. upper i j ∷ []))
    ++ (each (rising 1 n) (λ i. each (rising (suc i) (n - i)) (λ j. lower i j ∷ []))
    ++ each (rising 1 n) (λ i. single i ∷ [])))
