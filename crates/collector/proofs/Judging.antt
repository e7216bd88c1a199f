-- What a right vector and a right word are: the judgements as facts of the theory and of the slots.
--
-- Main results:
--   `vector-normal`, `normal-vector`   a vector is right just if it is normal
--   `word-pairs`, `word-short`         a right word is pairs, and not too many
--   `power-formed`, `power-letters`    the slots that a product starts with, and the word that they spell
--   `word-formed`, `word-letters`      the same for the slots that collecting starts with
use mathlib.Core.Path.{◌≡◌, refl, ap, ◌∙◌}
use mathlib.Core.List.{List, [], ◌∷◌, ◌++◌, append-nil}
use mathlib.Core.Bool.{Bool, true, false}
use Prim.Native.Nat.{ℕ, zero, suc, ◌+◌, ◌*◌, ◌≤◌}
use native.Mathlib.Omega.{arith}
use borrow.Author.Tests.{leb-true, ltb-true, eqb-true, lt-ltb}
use lib.ListN.{length, replicate}
use lib.Dec.{leb, ltb, eqb}
use Rattle.theory.specs.Presentation.{Presentation, Word, Vector, spell, Normal}
use Rattle.theory.proofs.Words.{normal-length}
use Rattle.layout.specs.Header.{rank_of, exponent_of}
use Rattle.layout.specs.Relations.{presentation}
use Rattle.layout.specs.Relations as relations
use Rattle.slots.specs.Pieces.{letters, Pairs, AllWellFormed}
use Rattle.collector.specs.Inputs.{entries_right, vector_right, pairs_right, most_numbers, word_right, word_slots, power_slots}
use Rattle.collector.proofs.Looking.{vector-long, test-pair}

-- A judgement that holds: its first test does, and so does the rest.
both_true : (b c : Bool) → elim b [ true ↦ c | false ↦ false ] ≡ true → (b ≡ true) × (c ≡ true)
both_true true c h = (refl, h)
both_true false c h = let z : ◌≡◌ {A = ℕ} 0 1 = cc in absurd (omega arith)

module _ (P : Presentation) where
  entries-normal : (k m : ℕ) (v : Vector) → length v ≡ k → entries_right P.exponent m v ≡ true → Normal P k m v
  entries-normal zero m [] l h = tt
  entries-normal zero m (a ∷ v) l h = absurd (omega arith)
  entries-normal (suc k) m [] l h = absurd (omega arith)
  entries-normal (suc k) m (a ∷ v) l h =
      let t = both_true (ltb a (P.exponent m)) (entries_right P.exponent (suc m) v) h in
      (ltb-true a (P.exponent m) t.0, entries-normal k (suc m) v (omega arith) t.1)

  normal-entries : (k m : ℕ) (v : Vector) → Normal P k m v → entries_right P.exponent m v ≡ true
  normal-entries zero m [] p = refl
  normal-entries zero m (a ∷ v) p = absurd p
  normal-entries (suc k) m [] p = absurd p
  normal-entries (suc k) m (a ∷ v) p = rw (lt-ltb a (P.exponent m) p.0, entries_right) (normal-entries k (suc m) v p.1)

module _ (nums : List ℕ) (v : Vector) where
  pub vector-normal : vector_right nums v ≡ true → Normal (presentation nums) (rank_of nums) 1 v
  vector-normal h =
      let t = both_true (eqb (length v) (rank_of nums)) (entries_right (exponent_of nums) 1 v) h in
      entries-normal (presentation nums) (rank_of nums) 1 v (eqb-true (length v) (rank_of nums) t.0) t.1

  pub normal-vector : Normal (presentation nums) (rank_of nums) 1 v → vector_right nums v ≡ true
  normal-vector p =
      vector-long nums v (normal-length (presentation nums) (rank_of nums) 1 v p)
      ∙ normal-entries (presentation nums) (rank_of nums) 1 v p

right-pairs : (n : ℕ) (w : List ℕ) → pairs_right n w ≡ true → Pairs n w
right-pairs n [] h = tt
right-pairs n (g ∷ []) h = let z : ◌≡◌ {A = ℕ} 0 1 = cc in absurd (omega arith)
right-pairs n (g ∷ a ∷ w) h =
    let t = both_true _ (pairs_right n w) h in
    (test-pair n g a t.0, right-pairs n w t.1)

module _ (nums w : List ℕ) where
  pub word-pairs : word_right nums w ≡ true → Pairs (rank_of nums) w
  word-pairs h = right-pairs (rank_of nums) w (both_true (leb (length w) most_numbers) (pairs_right (rank_of nums) w) h).1

  -- "at most 4,096 pairs".
  pub word-short : word_right nums w ≡ true → length w ≤ 2 * 4096
  word-short h = let l = leb-true (length w) most_numbers (both_true (leb (length w) most_numbers) (pairs_right (rank_of nums) w) h).0 in omega arith

-- The slots that a product starts with: powers of generators from g on, which spell the vector.
powers-formed : (n g : ℕ) (v : Vector) → 1 ≤ g → length v + g ≤ suc n → AllWellFormed n (power_slots g v)
powers-formed n g [] l h = tt
powers-formed n g (zero ∷ v) l h = powers-formed n (suc g) v (omega arith) (omega arith)
powers-formed n g (suc e ∷ v) l h =
    (record { low = l; high = omega arith; some = omega arith }, powers-formed n (suc g) v (omega arith) (omega arith))

pub power-formed : (nums : List ℕ) (v : Vector) → Normal (presentation nums) (rank_of nums) 1 v → AllWellFormed (rank_of nums) (power_slots 1 v)
power-formed nums v p =
    powers-formed (rank_of nums) 1 v (omega arith) (omega (arith, normal-length (presentation nums) (rank_of nums) 1 v p))

pub power-letters : (g : ℕ) (v : Vector) → letters (power_slots g v) ≡ spell g v
power-letters g [] = refl
power-letters g (zero ∷ v) = power-letters (suc g) v
power-letters g (suc e ∷ v) = ap (λ (w : Word). replicate (suc e) g ++ w) (power-letters (suc g) v)

-- The slots that collecting starts with: the word, which spells what its pairs do.
pub word-formed : (nums w : List ℕ) → word_right nums w ≡ true → AllWellFormed (rank_of nums) (word_slots w)
word-formed nums [] h = tt
word-formed nums (g ∷ w) h = (word-pairs nums (g ∷ w) h, tt)

pub word-letters : (w : List ℕ) → letters (word_slots w) ≡ relations.letters w
word-letters [] = refl
word-letters (g ∷ w) = append-nil (relations.letters (g ∷ w))
