-- What a call is handed besides the presentation: vectors and words, when they are right, and the slots that a call starts with.
--
-- Main definitions: `vector_right`, `most_numbers`, `word_right`, `word_slots`, `power_slots`.
use Rattle.std.specs.Prelude.{List, [], ◌∷◌, Bool, true, false, ◌&&◌, ℕ, zero, suc, length, leb, ltb, eqb}
use Rattle.theory.specs.Presentation.{Vector}
use Rattle.layout.specs.Header.{rank_of, exponent_of}
use Rattle.slots.specs.Pieces.{Piece, power, string}

-- "VECTOR: length not n, or an entry at least p": neither. The entries are those of the generators g, g + 1, ..
abbrev pub entries_right : (ℕ → ℕ) → ℕ → Vector → Bool
entries_right e g [] = true
entries_right e g (a ∷ v) = elim (ltb a (e g)) [ true ↦ entries_right e (suc g) v | false ↦ false ]

abbrev pub vector_right : List ℕ → Vector → Bool
vector_right nums v = elim (eqb (length v) (rank_of nums)) [ true ↦ entries_right (exponent_of nums) 1 v | false ↦ false ]

-- "WORD: odd length, over 4,096 pairs, generator 0 or above n, exponent 0": none of these.
abbrev pub pairs_right : ℕ → List ℕ → Bool
pairs_right n [] = true
pairs_right n (g ∷ []) = false
pairs_right n (g ∷ a ∷ w) = elim (leb 1 g && (leb g n && leb 1 a)) [ true ↦ pairs_right n w | false ↦ false ]

-- 4,096 pairs, as numbers.
abbrev pub most_numbers : ℕ
most_numbers = 8192

abbrev pub word_right : List ℕ → List ℕ → Bool
word_right nums w = elim (leb (length w) most_numbers) [ true ↦ pairs_right (rank_of nums) w | false ↦ false ]

-- "Collecting: the input word as one string, none if empty."
abbrev pub word_slots : List ℕ → List Piece
word_slots [] = []
word_slots (g ∷ w) = string (g ∷ w) ∷ []

-- "Product: each entry e not 0 of the right vector as one power, lowest generator on top." The entries are those of g, g + 1, ..
abbrev pub power_slots : ℕ → Vector → List Piece
power_slots g [] = []
power_slots g (zero ∷ v) = power_slots (suc g) v
power_slots g (suc e ∷ v) = power g (suc e) ∷ power_slots (suc g) v
