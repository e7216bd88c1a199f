-- Accepted numbers give a valid presentation of the theory; and the facts of each relation that the crates above go by.
--
-- Main results: `relation-pairs`, `power-word`, `conjugate-word`, `power-set-down`, `valid`.
use mathlib.Core.Path.{◌≡◌, refl, sym, subst}
use mathlib.Core.List.{List, ◌∷◌, ◌++◌}
use Prim.Native.Nat.{ℕ, suc, ◌+◌, ◌-◌, ◌<◌, ◌≤◌}
use native.Mathlib.Omega.{arith}
use lib.ListN.{length}
use Rattle.theory.specs.Presentation.{Vector, identity, Valid, power_word}
use Rattle.layout.specs.Header.{rank_of, exponent_of}
use Rattle.layout.specs.Contents.{row_at, stretch_at, stretch_of}
use Rattle.layout.specs.Bodies.{entry_right, row_right}
use Rattle.layout.specs.Judged.{judged}
use Rattle.layout.specs.Relations.{letters, exponents, settled, power_of, presentation}
use Rattle.layout.proofs.Every.{at}
use Rattle.layout.proofs.Rows.{Located, located}
use Rattle.layout.proofs.Accepted.{accepted}
use Rattle.layout.proofs.Relations.{Pairs, pair, pairs_of, Walk, walk, spelled, normal, set-down}

module _ (nums : List ℕ) (h : judged nums ≡ 0) where
  -- The c-th entry of row i.
  pub entry-pairs : (i c : ℕ) → i < rank_of nums → c < rank_of nums - i
      → Pairs (exponent_of nums) (rank_of nums) (i + c + 1) (stretch_at nums (row_at (rank_of nums) i + c))
  entry-pairs i c l m =
      pairs_of (exponent_of nums) (rank_of nums) (i + c + 1) _
      (at (entry_right nums i) (rank_of nums - i) c (at (row_right nums) (rank_of nums) i (accepted nums h).bodies l) m)

  -- The pairs of w_i (i = j) and of w_ij: generators above j.
  pub relation-pairs : (i j : ℕ) → 1 ≤ i → i ≤ j → j ≤ rank_of nums → Pairs (exponent_of nums) (rank_of nums) j (stretch_of nums i j)
  relation-pairs i j l m k = go (located (rank_of nums) i j l m k)
    where
      go : Located (rank_of nums) i j → Pairs (exponent_of nums) (rank_of nums) j (stretch_of nums i j)
      go s =
          subst (λ (x : ℕ). Pairs (exponent_of nums) (rank_of nums) j (stretch_at nums x)) (sym s.place)
          (subst (λ (x : ℕ). Pairs (exponent_of nums) (rank_of nums) x (stretch_at nums (row_at (rank_of nums) s.row + s.column))) s.floor
          (entry-pairs s.row s.column s.first s.within))

  positive : (m : ℕ) → 1 ≤ m → m ≤ rank_of nums → 0 < exponent_of nums m
  positive m l k = omega (arith, (accepted nums h).prime.above_one)

  -- w_i, generator by generator.
  pub power-walk : (i k : ℕ) → 1 ≤ i → k + i ≡ rank_of nums → Walk (exponent_of nums) k i (stretch_of nums i i) (power_of nums i)
  power-walk i k l e =
      subst (λ (x : ℕ). Walk (exponent_of nums) k i (stretch_of nums i i) (exponents x (suc i) (stretch_of nums i i))) (less e)
      (walk positive k (relation-pairs i i l (omega arith) (omega arith)) e)
    where
      less : k + i ≡ rank_of nums → k ≡ rank_of nums - i
      less e = omega arith

  -- The word of w_i is the word of its pairs.
  pub power-word : (i k : ℕ) → 1 ≤ i → k + i ≡ rank_of nums → power_word (presentation nums) i ≡ letters (stretch_of nums i i)
  power-word i k l e = spelled (power-walk i k l e)

  -- "set down the exponents of w_i. All entries above i are 0 at that moment."
  pub power-set-down : (i k : ℕ) (u : Vector) → 1 ≤ i → k + i ≡ rank_of nums → length u ≡ i
      → settled (u ++ identity k) (stretch_of nums i i) ≡ u ++ (presentation nums).power i
  power-set-down i k u l e q = set-down (power-walk i k l e) u q

  -- x_j w_ij, generator by generator above i.
  conjugate-walk : (i j k : ℕ) → 1 ≤ i → i < j → j ≤ rank_of nums → k + i ≡ rank_of nums
      → Walk (exponent_of nums) k i (j ∷ 1 ∷ stretch_of nums i j) (exponents k (suc i) (j ∷ 1 ∷ stretch_of nums i j))
  conjugate-walk i j k l m b e =
      walk positive k (pair m b (omega arith) (omega (arith, (accepted nums h).prime.above_one)) (relation-pairs i j l (omega arith) b)) e

  pub valid : Valid (presentation nums)
  valid =
      record {
        exponents = λ i l m. (accepted nums h).prime.above_one;
        powers = λ i k l e. normal (presentation nums) (power-walk i k l e);
        conjugates =
            λ i j k l m b e.
            record {
              vector = exponents k (suc i) (j ∷ 1 ∷ stretch_of nums i j);
              normal = normal (presentation nums) (conjugate-walk i j k l m b e);
              spelled = sym (spelled (conjugate-walk i j k l m b e));
            };
      }

-- v_ij of x_j x_i = x_i v_ij.
pub conjugate-word : (nums : List ℕ) (i j : ℕ) → (presentation nums).conjugate i j ≡ j ∷ letters (stretch_of nums i j)
conjugate-word nums i j = refl
