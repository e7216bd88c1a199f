-- The starts and the stretches of numbers whose contents and length are judged: every entry's stretch lies within the numbers.
--
-- Main results: `start_is`, `last_sum`, `within`, `stretch-fits`, `stretch-length`.
use mathlib.Core.Path.{◌≡◌, refl}
use mathlib.Core.List.{List}
use mathlib.Core.Bool.{true}
use Prim.Native.Nat.{ℕ, zero, suc, ◌+◌, ◌-◌, ◌*◌, ◌<◌, ◌≤◌}
use native.Mathlib.Omega.{arith}
use borrow.Author.Tests.{eqb-true}
use lib.ListN.{length, length-drop}
use lib.Seq.{length-take-le}
use Rattle.layout.specs.Header.{rank_of, entries}
use Rattle.layout.specs.Contents.{Measured, start_of, length_of, pairs_before, start_right, starts_right, body_at, stretch_at}
use Rattle.layout.proofs.Rows.{among}
use Rattle.layout.proofs.Every.{at}

-- "Each start equals the sum of all earlier lengths."
pub start_is : (nums : List ℕ) (e : ℕ) → starts_right nums ≡ true → e < entries (rank_of nums) → start_of nums e ≡ pairs_before nums e
start_is nums e h l = eqb-true _ _ (at (start_right nums) (entries (rank_of nums)) e h l)

-- All the pairs, from the last entry alone.
pub last_sum : (nums : List ℕ) → starts_right nums ≡ true → 1 ≤ entries (rank_of nums)
    → pairs_before nums (entries (rank_of nums)) ≡ start_of nums (entries (rank_of nums) - 1) + length_of nums (entries (rank_of nums) - 1)
last_sum nums h l = go (entries (rank_of nums)) l (start_is nums (entries (rank_of nums) - 1) h (omega arith))
  where
    go : (r : ℕ) → 1 ≤ r → start_of nums (r - 1) ≡ pairs_before nums (r - 1) → pairs_before nums r ≡ start_of nums (r - 1) + length_of nums (r - 1)
    go zero l s = absurd (omega arith)
    go (suc r) l s = rw (s, pred r) refl
      where
        pred : (r : ℕ) → suc r - 1 ≡ r
        pred r = omega arith

-- An entry's pairs are among all the pairs.
pub within : (nums : List ℕ) (m e : ℕ) → e < m → pairs_before nums e + length_of nums e ≤ pairs_before nums m
within nums m e h = among (pairs_before nums) (length_of nums) (λ k. refl) m e h

module _ (nums : List ℕ) (e : ℕ) (m : Measured nums) (l : e < entries (rank_of nums)) where
  pub stretch-fits : body_at nums e + 2 * length_of nums e ≤ length nums
  stretch-fits = omega (arith, m.size, start_is nums e m.starts l, within nums (entries (rank_of nums)) e l)

  pub stretch-length : length (stretch_at nums e) ≡ 2 * length_of nums e
  stretch-length =
      length-take-le (2 * length_of nums e) _ (rw (length-drop (body_at nums e) nums) (omega (arith, stretch-fits)))
