-- The presentations D, Q, H and Z of document 01's examples, over which the proofs compute.
--
-- Main definitions: `named`, `D`, `Q`, `H`, `Z`.
use Rattle.std.specs.Prelude.{List, [], ◌∷◌, true, false, ◌&&◌, ℕ, zero, suc, ◌-◌, eqb}
use Rattle.theory.specs.Presentation.{Presentation, Word, Vector, p_group}

-- A relation's word that is not empty: w_ij, or w_i where j is i.
pub record Named : Type 0 where
  pub i : ℕ
  pub j : ℕ
  pub word : Word

-- "Words not named are empty."
abbrev pub word_at : List Named → ℕ → ℕ → Word
word_at [] i j = []
word_at (r ∷ rs) i j = elim (eqb r.i i && eqb r.j j) [ true ↦ r.word | false ↦ word_at rs i j ]

-- How often the letter i stands in the word.
abbrev pub occurrences : ℕ → Word → ℕ
occurrences i [] = 0
occurrences i (j ∷ w) = elim (eqb j i) [ true ↦ suc (occurrences i w) | false ↦ occurrences i w ]

-- The vector of a normal word, k entries from the generator m on.
abbrev pub exponents_of : ℕ → ℕ → Word → Vector
exponents_of zero m w = []
exponents_of (suc k) m w = occurrences m w ∷ exponents_of k (suc m) w

-- The p-group with n generators and the named words.
abbrev pub named : ℕ → ℕ → List Named → Presentation
named p n rs = p_group p n (λ i. exponents_of (n - i) (suc i) (word_at rs i i)) (word_at rs)

-- "D: p = 2, n = 3, only w_12 = x_3."
abbrev pub D : Presentation
D = named 2 3 (record { i = 1; j = 2; word = 3 ∷ [] } ∷ [])

-- "Q: p = 2, n = 3, w_1 = w_2 = w_12 = x_3."
abbrev pub Q : Presentation
Q = named 2 3 (record { i = 1; j = 1; word = 3 ∷ [] } ∷ record { i = 2; j = 2; word = 3 ∷ [] } ∷ record { i = 1; j = 2; word = 3 ∷ [] } ∷ [])

-- "H: p = 3, n = 4, w_12 = x_3, w_23 = x_4."
abbrev pub H : Presentation
H = named 3 4 (record { i = 1; j = 2; word = 3 ∷ [] } ∷ record { i = 2; j = 3; word = 4 ∷ [] } ∷ [])

-- "Z: p = 2, n = 3, w_1 = x_2, w_12 = x_3."
abbrev pub Z : Presentation
Z = named 2 3 (record { i = 1; j = 1; word = 2 ∷ [] } ∷ record { i = 1; j = 2; word = 3 ∷ [] } ∷ [])
