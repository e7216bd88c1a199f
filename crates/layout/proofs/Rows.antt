-- The rows of the contents, and where an entry stands among them. The closed form of their number is held against the rows by one
-- computed test over every rank.
--
-- Main results: `rows_all`, `among`, `in_row`, `located`.
use mathlib.Core.Path.{◌≡◌, refl}
use mathlib.Core.Bool.{Bool, true, false}
use Prim.Native.Nat.{ℕ, zero, suc, ◌+◌, ◌-◌, ◌*◌, ◌<◌, ◌≤◌}
use native.Mathlib.Omega.{arith}
use native.Mathlib.Decide.{dec_le}
use native.Mathlib.Nat.{mul-le-mul}
use borrow.Author.Tests.{eqb-true, leb-true, eqb-false}
use lib.Dec.{leb, eqb}
use Rattle.layout.specs.Every.{every}
use Rattle.layout.specs.Header.{entries}
use Rattle.layout.specs.Contents.{row_at, place_of}
use Rattle.layout.proofs.Every.{at}

-- A fact of every rank up to 40, by a test that computes.
pub over-ranks : (f : ℕ → Bool) → every f 41 ≡ true → (n : ℕ) → n ≤ 40 → f n ≡ true
over-ranks f t n h = at f 41 n t (omega arith)

-- "R = n(n + 1)/2": the rows together.
pub rows_all : (n : ℕ) → n ≤ 40 → row_at n n ≡ entries n
rows_all n h = eqb-true (row_at n n) (entries n) (over-ranks (λ n. eqb (row_at n n) (entries n)) refl n h)

-- "at most 820 contents entries".
pub entries-few : (n : ℕ) → n ≤ 40 → entries n ≤ 820
entries-few n h = leb-true (entries n) 820 (over-ranks (λ n. leb (entries n) 820) refl n h)

-- There is an entry, since there is a generator.
pub entries-some : (n : ℕ) → 1 ≤ n → 1 ≤ entries n
entries-some n l =
    let m : 2 ≤ n + 1 = omega arith in
    let z : 1 * 2 ≤ n * (n + 1) = mul-le-mul l m in
    omega arith

-- A term of a running sum is among the terms summed up later.
pub among : (s f : ℕ → ℕ) → ((k : ℕ) → s (suc k) ≡ s k + f k) → (m k : ℕ) → k < m → s k + f k ≤ s m
among s f step zero k h = absurd (omega arith)
among s f step (suc m) k h = go (dec_le m k) (λ l. among s f step m k l)
  where
    go : Dec (m ≤ k) → (k < m → s k + f k ≤ s m) → s k + f k ≤ s (suc m)
    go (yes l) r = rw (same l) (omega (arith, step m))
      where
        same : m ≤ k → k ≡ m
        same l = omega arith
    go (no n) r = let l : k < m = omega arith in omega (arith, r l, step m)

-- The c-th entry of row i is one of the contents.
pub in_row : (n i c : ℕ) → n ≤ 40 → i < n → c < n - i → row_at n i + c < entries n
in_row n i c h l m = omega (arith, among (row_at n) (λ k. n - k) (λ k. refl) n i l, rows_all n h)

-- Where the entry of (i, j) stands: row 0 for w_j, row i for w_ij, and the column counted from 0. Its floor is j.
pub record Located (n i j : ℕ) : Type 0 where
  pub row : ℕ
  pub column : ℕ
  pub place : place_of n i j ≡ row_at n row + column
  pub floor : row + column + 1 ≡ j
  pub first : row < n
  pub within : column < n - row

pub located : (n i j : ℕ) → 1 ≤ i → i ≤ j → j ≤ n → Located n i j
located n i j l m h = go (eqb i j) refl
  where
    go : (b : Bool) → eqb i j ≡ b → Located n i j
    go true e =
        record {
          row = 0;
          column = j - 1;
          place = rw (e, place_of) (omega arith);
          floor = omega arith;
          first = omega arith;
          within = omega arith;
        }
    go false e =
        let d : i < j = apart (eqb-false i j e) in
        record {
          row = i;
          column = j - i - 1;
          place = rw (e, place_of) refl;
          floor = omega arith;
          first = omega arith;
          within = omega arith;
        }
      where
        apart : (i ≡ j → ⊥) → i < j
        apart n = omega arith

-- It is one of the contents.
pub place-fits : (n i j : ℕ) → n ≤ 40 → 1 ≤ i → i ≤ j → j ≤ n → place_of n i j < entries n
place-fits n i j h l m k = go (located n i j l m k)
  where
    go : Located n i j → place_of n i j < entries n
    go s = rw s.place (in_row n s.row s.column h s.first s.within)
