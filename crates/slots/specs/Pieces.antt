-- What slots stand for: powers and strings, the word that they spell, and taking the top one.
--
-- Main definitions: `Piece`, `pieces`, `letters`, `leading`, `taken`.
use Rattle.std.specs.Prelude.{List, [], ◌∷◌, ◌++◌, map, ℕ, ◌*◌, ◌≤◌, take, drop, replicate}
use Rattle.theory.specs.Presentation.{Word}
use Rattle.layout.specs.Relations.{letters as pair_letters}
use Rattle.slots.specs.declared.Slot.{Slot}
use Rattle.slots.specs.declared.Slot.TheVariants.{Power, Relation, Input}
use Rattle.slots.specs.Slots.{stack, lessened}

-- "A slot is a power (i, e) with e at least 1, or a string: the unread rest, not empty, of an input word or relation word."
-- A string is its pairs one after the other: generator, exponent, generator, exponent, ..
pub data Piece : Type 0 where
  power : (i e : ℕ) → Piece
  string : (pairs : List ℕ) → Piece

-- k pairs, from the pair number s on.
abbrev pub stretch : List ℕ → ℕ → ℕ → List ℕ
stretch pairs s k = take (2 * k) (drop (2 * s) pairs)

-- What a slot stands for, over the bodies of the presentation and the input word.
abbrev pub meaning : List ℕ → List ℕ → Slot → Piece
meaning bodies word (Power i e) = power i.0 e.0
meaning bodies word (Relation s k) = string (stretch bodies s k)
meaning bodies word (Input s k) = string (stretch word s k)

abbrev pub pieces : List ℕ → List ℕ → List ℕ → ℕ → List Piece
pieces bodies word ws d = map (meaning bodies word) (stack ws d)

-- The letters of a slot: a power's, or those that its pairs spell.
abbrev pub piece_letters : Piece → Word
piece_letters (power i e) = replicate e i
piece_letters (string pairs) = pair_letters pairs

-- "The represented word is the vector, then the slots from the top down": the part of the slots.
abbrev pub letters : List Piece → Word
letters [] = []
letters (x ∷ below) = piece_letters x ++ letters below

-- "Take the top slot. From a power (i, e) .. From a string that begins (i, a)": i.
abbrev pub generator_of : Piece → ℕ
generator_of (power i e) = i
generator_of (string []) = 0
generator_of (string (i ∷ pairs)) = i

-- "put back the rest if any pair remains".
abbrev pub unread : List ℕ → List Piece → List Piece
unread [] below = below
unread (g ∷ pairs) below = string (g ∷ pairs) ∷ below

-- "From a power (i, e): if e > 1 put back (i, e - 1). From a string that begins (i, a): put back the rest if any pair remains,
-- and above it (i, a - 1) if a > 1."
abbrev pub rest : Piece → List Piece → List Piece
rest (power i e) below = lessened (power i) e below
rest (string []) below = below
rest (string (i ∷ [])) below = below
rest (string (i ∷ a ∷ pairs)) below = lessened (power i) a (unread pairs below)

-- The generator of the top slot, and the slots once it is taken.
abbrev pub leading : List Piece → ℕ
leading [] = 0
leading (x ∷ below) = generator_of x

abbrev pub taken : List Piece → List Piece
taken [] = []
taken (x ∷ below) = rest x below

-- A generator from 1 to n and an exponent at least 1.
pub record Pair (n g a : ℕ) : Type 0 where
  pub low : 1 ≤ g
  pub high : g ≤ n
  pub some : 1 ≤ a

abbrev pub Pairs : ℕ → List ℕ → Type 0
Pairs n [] = Unit {0}
Pairs n (g ∷ []) = ⊥
Pairs n (g ∷ a ∷ pairs) = Pair n g a × Pairs n pairs

-- "a power (i, e) with e at least 1, or a string: the unread rest, not empty".
abbrev pub WellFormed : ℕ → Piece → Type 0
WellFormed n (power i e) = Pair n i e
WellFormed n (string []) = ⊥
WellFormed n (string (g ∷ pairs)) = Pairs n (g ∷ pairs)

abbrev pub AllWellFormed : ℕ → List Piece → Type 0
AllWellFormed n [] = Unit {0}
AllWellFormed n (x ∷ below) = WellFormed n x × AllWellFormed n below
