-- The lent numbers as a presentation of the theory.
--
-- Main definitions: `letters`, `exponents`, `presentation`.
use Rattle.std.specs.Prelude.{List, [], ◌∷◌, ◌++◌, true, false, ℕ, zero, suc, ◌-◌, replicate, set, eqb}
use Rattle.theory.specs.Presentation.{Presentation, Word, Vector, p_group}
use Rattle.layout.specs.Header.{prime_of, rank_of}
use Rattle.layout.specs.Contents.{stretch_of}

-- "Each w is a list of pairs (generator, exponent)": the word that the pairs spell, the letter g as often as its exponent says.
abbrev pub letters : List ℕ → Word
letters [] = []
letters (g ∷ []) = []
letters (g ∷ a ∷ w) = replicate a g ++ letters w

-- The exponents of the k generators from m on in pairs whose generators increase: those of the pairs, and 0 at the generators that
-- no pair has.
abbrev pub exponents : ℕ → ℕ → List ℕ → Vector
exponents zero m w = []
exponents (suc k) m [] = 0 ∷ exponents k (suc m) []
exponents (suc k) m (g ∷ []) = 0 ∷ exponents k (suc m) []
exponents (suc k) m (g ∷ a ∷ w) =
    elim (eqb g m) [ true ↦ a ∷ exponents k (suc m) w | false ↦ 0 ∷ exponents k (suc m) (g ∷ a ∷ w) ]

-- The same by setting the exponents down, one pair after the other, into a vector of all the generators: entry g - 1 is that of
-- the generator g. (`set-down` in proofs/Pairs joins the two.)
abbrev pub settled : Vector → List ℕ → Vector
settled v [] = v
settled v (g ∷ []) = v
settled v (g ∷ a ∷ w) = settled (set v (g - 1) a) w

-- w_i as the exponents of the generators i + 1, .., n.
abbrev pub power_of : List ℕ → ℕ → Vector
power_of nums i = exponents (rank_of nums - i) (suc i) (stretch_of nums i i)

-- w_ij as a word.
abbrev pub tail_of : List ℕ → ℕ → ℕ → Word
tail_of nums i j = letters (stretch_of nums i j)

-- "A presentation has a prime p and generators x_1 .. x_n. For each i, x_i^p = w_i .. For each i < j, x_j x_i = x_i x_j w_ij."
abbrev pub presentation : List ℕ → Presentation
presentation nums = p_group (prime_of nums) (rank_of nums) (power_of nums) (tail_of nums)
