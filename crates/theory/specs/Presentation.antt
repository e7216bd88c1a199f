-- Presentations, words and vectors.
--
-- What a presentation is, stated for every finite polycyclic presentation: each generator has an exponent of its own, and
-- x_j x_i = x_i v_ij with v_ij any normal word over the generators above i. The p-groups of document 01 are the instance in which
-- every exponent is p and v_ij = x_j w_ij (`p_group`, below).
--
-- Main definitions: `Presentation`, `spell`, `Normal`, `Over`, `Valid`, `p_group`.
use Rattle.std.specs.Prelude.{◌≡◌, List, [], ◌∷◌, ◌++◌, ℕ, zero, suc, ◌+◌, ◌≤◌, ◌<◌, replicate}

-- "generators x_1 .. x_n": a letter is the number of a generator, and a word is a list of letters.
abbrev pub Word : Type 0
Word = List ℕ

-- A vector lists the exponents of the generators m, m + 1, .., n for some first generator m; for the whole group m is 1.
-- Every definition below that walks down a vector takes its first generator m, and k, the number of its entries.
abbrev pub Vector : Type 0
Vector = List ℕ

-- "A presentation has .. generators x_1 .. x_n. For each i, x_i^p = w_i .. For each i < j, x_j x_i = x_i x_j w_ij."
--   rank          n
--   exponent i    the e with x_i^e = w_i
--   power i       w_i, as the exponents of the generators i + 1, .., n
--   conjugate i j   v_ij of x_j x_i = x_i v_ij, for i < j, as a word
pub record Presentation : Type 0 where
  pub rank : ℕ
  pub exponent : ℕ → ℕ
  pub power : ℕ → Vector
  pub conjugate : ℕ → ℕ → Word

-- "The vector (a_1, .., a_n) stands for" the word x_1^a_1 .. x_n^a_n: the word of a vector whose first generator is m.
abbrev pub spell : ℕ → Vector → Word
spell m [] = []
spell m (a ∷ v) = replicate a m ++ spell (suc m) v

-- The identity, k entries 0.
abbrev pub identity : ℕ → Vector
identity k = replicate k 0

-- "A word is normal if it is x_1^a_1 .. x_n^a_n with every a from 0 to p - 1": the vector has k entries, the first for the
-- generator m, and each is below its generator's exponent.
abbrev pub Normal : Presentation → ℕ → ℕ → Vector → Type 0
Normal P zero m [] = Unit {0}
Normal P zero m (a ∷ v) = ⊥
Normal P (suc k) m [] = ⊥
Normal P (suc k) m (a ∷ v) = (a < P.exponent m) × Normal P k (suc m) v

-- Every letter of the word is a generator from m on.
abbrev pub Over : Presentation → ℕ → Word → Type 0
Over P m [] = Unit {0}
Over P m (i ∷ w) = ((m ≤ i) × (i ≤ P.rank)) × Over P m w

-- The word of w_i.
abbrev pub power_word : Presentation → ℕ → Word
power_word P i = spell (suc i) (P.power i)

-- The word is normal over the k generators from m on.
pub record NormalWord (P : Presentation) (k m : ℕ) (w : Word) : Type 0 where
  pub vector : Vector
  pub normal : Normal P k m vector
  pub spelled : w ≡ spell m vector

-- "w_i uses only generators above i .. w_ij uses only generators above j": here, v_ij only generators above i. Both are normal
-- words, and every exponent is at least 2. There are k = n - i generators above i.
pub record Valid (P : Presentation) : Type 0 where
  pub exponents : (i : ℕ) → 1 ≤ i → i ≤ P.rank → 2 ≤ P.exponent i
  pub powers : (i k : ℕ) → 1 ≤ i → k + i ≡ P.rank → Normal P k (suc i) (P.power i)
  pub conjugates : (i j k : ℕ) → 1 ≤ i → i < j → j ≤ P.rank → k + i ≡ P.rank → NormalWord P k (suc i) (P.conjugate i j)

-- The p-groups: every exponent is p, and v_ij = x_j w_ij.
abbrev pub p_group : (p n : ℕ) → (ℕ → Vector) → (ℕ → ℕ → Word) → Presentation
p_group p n w ww = record { rank = n; exponent = λ i. p; power = w; conjugate = λ i j. j ∷ ww i j }
