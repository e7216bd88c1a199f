-- How large accepted numbers are: "at most 820 contents entries and 10,660 pairs".
--
-- Main results: `all-few`; `Relation` and `relation`, which the crates above go by.
use mathlib.Core.Path.{◌≡◌, refl, subst}
use mathlib.Core.List.{List}
use Prim.Native.Nat.{ℕ, zero, suc, ◌+◌, ◌-◌, ◌*◌, ◌<◌, ◌≤◌}
use native.Mathlib.Omega.{arith}
use native.Mathlib.Nat.{add-zero, add-suc}
use borrow.Author.Tests.{leb-true}
use lib.ListN.{length}
use lib.Dec.{leb}
use Rattle.layout.specs.Header.{rank_of, bodies_at, entries, exponent_of}
use Rattle.layout.specs.Contents.{row_at, place_of, start_of, length_of, pairs_before, stretch_at}
use Rattle.layout.specs.Judged.{judged}
use Rattle.layout.proofs.Rows.{over-ranks, rows_all, in_row, place-fits}
use Rattle.layout.proofs.Stretches.{start_is, within, stretch-length}
use Rattle.layout.proofs.Accepted.{accepted}
use Rattle.layout.proofs.Relations.{Pairs, pairs-few}
use Rattle.layout.proofs.Valid.{entry-pairs, relation-pairs}

-- The most pairs that c entries of row i can have, and all entries of the rows before i: the word for j has at most n - j.
abbrev most_in_row : ℕ → ℕ → ℕ → ℕ
most_in_row n i zero = 0
most_in_row n i (suc c) = most_in_row n i c + (n - (i + c + 1))

abbrev most_before : ℕ → ℕ → ℕ
most_before n zero = 0
most_before n (suc i) = most_before n i + most_in_row n i (n - i)

most-few : (n : ℕ) → n ≤ 40 → most_before n n ≤ 10660
most-few n h = leb-true (most_before n n) 10660 (over-ranks (λ n. leb (most_before n n) 10660) refl n h)

module _ (nums : List ℕ) (h : judged nums ≡ 0) where
  abbrev n : ℕ
  n = rank_of nums

  entry-few : (i c : ℕ) → i < n → c < n - i → length_of nums (row_at n i + c) ≤ n - (i + c + 1)
  entry-few i c l m =
      omega (
        arith,
        pairs-few (entry-pairs nums h i c l m),
        stretch-length nums (row_at n i + c) (accepted nums h).measured (in_row n i c (accepted nums h).measured.most l m),
      )

  in-row-few : (i c : ℕ) → i < n → c ≤ n - i → pairs_before nums (row_at n i + c) ≤ pairs_before nums (row_at n i) + most_in_row n i c
  in-row-few i zero l m = rw (add-zero (row_at n i)) (omega arith)
  in-row-few i (suc c) l m =
      rw (add-suc (row_at n i) c) (omega (arith, in-row-few i c l (omega arith), entry-few i c l (omega arith)))

  rows_few : (i : ℕ) → i ≤ n → pairs_before nums (row_at n i) ≤ most_before n i
  rows_few zero l = omega arith
  rows_few (suc i) l = omega (arith, rows_few i (omega arith), in-row-few i (n - i) l (omega arith))

  -- "10,660 pairs".
  pub all-few : pairs_before nums (entries n) ≤ 10660
  all-few =
      subst (λ (r : ℕ). pairs_before nums r ≤ 10660) (rows_all n (accepted nums h).measured.most)
      (omega (arith, rows_few n (omega arith), most-few n (accepted nums h).measured.most))

-- What is known of w_i (i = j) or w_ij: e is its entry.
pub record Relation (nums : List ℕ) (i j e : ℕ) : Type 0 where
  -- the entry is one of the contents
  pub listed : e < entries (rank_of nums)
  -- its pairs are among the B pairs of the bodies, which are at most 10,660
  pub fits : start_of nums e + length_of nums e ≤ pairs_before nums (entries (rank_of nums))
  pub few : start_of nums e + length_of nums e ≤ 10660
  -- it has at most a pair for each generator above j
  pub short : length_of nums e ≤ rank_of nums - j
  -- its stretch has that many pairs and lies within the numbers
  pub long : length (stretch_at nums e) ≡ 2 * length_of nums e
  pub inside : bodies_at nums + 2 * (start_of nums e + length_of nums e) ≤ length nums
  -- generators above j, increasing, up to n; exponents from 1 to p - 1
  pub pairs : Pairs (exponent_of nums) (rank_of nums) j (stretch_at nums e)

pub relation : (nums : List ℕ) → judged nums ≡ 0 → (i j : ℕ) → 1 ≤ i → i ≤ j → j ≤ rank_of nums → Relation nums i j (place_of (rank_of nums) i j)
relation nums h i j l m k =
    record {
      listed = there;
      fits = fits;
      few = omega (arith, fits, all-few nums h);
      short = omega (arith, pairs-few pairs, long);
      long = long;
      inside = omega (arith, fits, (accepted nums h).measured.size);
      pairs = pairs;
    }
  where
    e : ℕ
    e = place_of (rank_of nums) i j

    there : e < entries (rank_of nums)
    there = place-fits (rank_of nums) i j (accepted nums h).measured.most l m k

    fits : start_of nums e + length_of nums e ≤ pairs_before nums (entries (rank_of nums))
    fits = omega (arith, start_is nums e (accepted nums h).measured.starts there, within nums (entries (rank_of nums)) e there)

    long : length (stretch_at nums e) ≡ 2 * length_of nums e
    long = stretch-length nums e (accepted nums h).measured there

    pairs : Pairs (exponent_of nums) (rank_of nums) j (stretch_at nums e)
    pairs = relation-pairs nums h i j l m k
