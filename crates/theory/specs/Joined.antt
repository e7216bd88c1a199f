-- Joined words.
--
-- Main definitions: `Relation`, `Link`, `Joined`.
use Rattle.std.specs.Prelude.{[], ◌∷◌, ◌++◌, ℕ, ◌≤◌, ◌<◌, replicate}
use Rattle.theory.specs.Presentation.{Presentation, Word, power_word}

-- The relations among the generators from m on, left side and right side; for the whole group m is 1.
pub data Relation (P : Presentation) (m : ℕ) : Word → Word → Type 0 where
  power : (i : ℕ) → m ≤ i → i ≤ P.rank → Relation P m (replicate (P.exponent i) i) (power_word P i)
  exchange : (i j : ℕ) → m ≤ i → i < j → j ≤ P.rank → Relation P m (j ∷ i ∷ []) (i ∷ P.conjugate i j)

-- "each link exchanging one side of a relation for its other side, either way round": anywhere in a word.
pub data Link (P : Presentation) (m : ℕ) : Word → Word → Type 0 where
  forth : (a b : Word) {l r : Word} → Relation P m l r → Link P m (a ++ (l ++ b)) (a ++ (r ++ b))
  back : (a b : Word) {l r : Word} → Relation P m l r → Link P m (a ++ (r ++ b)) (a ++ (l ++ b))

-- "Two words are joined if a finite chain leads from one to the other."
pub data Joined (P : Presentation) (m : ℕ) : Word → Word → Type 0 where
  same : {u : Word} → Joined P m u u
  link : {u v w : Word} → Link P m u v → Joined P m v w → Joined P m u w
