-- The contents: their entries and order, the starts, and the stretch of the lent numbers that an entry names.
--
-- Main definitions: `start_of`, `length_of`, `row_at`, `place_of`, `pairs_before`, `contents_right`, `Measured`, `stretch_at`, `stretch_of`, `Lies`.
use Rattle.std.specs.Prelude.{◌≡◌, List, Bool, true, false, ℕ, zero, suc, ◌+◌, ◌-◌, ◌*◌, ◌≤◌, get_or, length, take, drop, ltb, eqb}
use Rattle.std.specs.Borrow.{Bor}
use Rattle.layout.specs.declared.Span.{Span}
use Rattle.layout.specs.Every.{every}
use Rattle.layout.specs.Header.{rank_of, contents_at, bodies_at, entries}

-- "The contents have R entries of two numbers: start and length, both counted in pairs." Entries are counted from 0.
abbrev pub start_of : List ℕ → ℕ → ℕ
start_of nums e = get_or nums (contents_at nums + 2 * e) 0

abbrev pub length_of : List ℕ → ℕ → ℕ
length_of nums e = get_or nums (contents_at nums + 2 * e + 1) 0

-- The span is that of the entry.
pub record Spans (nums : List ℕ) (e : ℕ) (span : Span) : Type 0 where
  pub start : span.start ≡ start_of nums e
  pub pairs : span.pairs ≡ length_of nums e

-- "Their order: w_1 .. w_n, then for i = 1 .. n and within it j = i + 1 .. n the word w_ij." The contents are rows: row 0 has the
-- n words w_j, and row i the n - i words w_ij. Row i begins after the rows before it.
abbrev pub row_at : ℕ → ℕ → ℕ
row_at n zero = 0
row_at n (suc i) = row_at n i + (n - i)

-- The entry for j in row i, whose first j is i + 1.
abbrev pub entry_at : ℕ → ℕ → ℕ → ℕ
entry_at n i j = row_at n i + (j - i - 1)

-- "(i, i) names w_i, (i, j) with i < j names w_ij."
abbrev pub place_of : ℕ → ℕ → ℕ → ℕ
place_of n i j = elim (eqb i j) [ true ↦ entry_at n 0 j | false ↦ entry_at n i j ]

-- "the sum of all earlier lengths". B is the sum over all the entries.
abbrev pub pairs_before : List ℕ → ℕ → ℕ
pairs_before nums zero = 0
pairs_before nums (suc e) = pairs_before nums e + length_of nums e

-- "Each start equals the sum of all earlier lengths, also where the length is 0."
abbrev pub start_right : List ℕ → ℕ → Bool
start_right nums e = eqb (start_of nums e) (pairs_before nums e)

abbrev pub starts_right : List ℕ → Bool
starts_right nums = every (start_right nums) (entries (rank_of nums))

-- "CONTENTS: fewer than 2 + 2R numbers, or a wrong start": neither.
abbrev pub contents_right : List ℕ → Bool
contents_right nums = elim (ltb (length nums) (bodies_at nums)) [ true ↦ false | false ↦ starts_right nums ]

-- "With B the sum of all lengths, the slice has exactly 2 + 2R + 2B numbers."
abbrev pub length_due : List ℕ → ℕ
length_due nums = bodies_at nums + 2 * pairs_before nums (entries (rank_of nums))

-- What is known once the contents and the length are judged: every entry's stretch lies within the numbers.
pub record Measured (nums : List ℕ) : Type 0 where
  pub least : 1 ≤ rank_of nums
  pub most : rank_of nums ≤ 40
  pub whole : bodies_at nums ≤ length nums
  pub starts : starts_right nums ≡ true
  pub size : length nums ≡ length_due nums

-- Where the body of an entry begins, "start measured from the first body".
abbrev pub body_at : List ℕ → ℕ → ℕ
body_at nums e = bodies_at nums + 2 * start_of nums e

-- So many pairs of the bodies, from a start on.
abbrev pub pairs_at : List ℕ → ℕ → ℕ → List ℕ
pairs_at nums start pairs = take (2 * pairs) (drop (bodies_at nums + 2 * start) nums)

abbrev pub stretch_at : List ℕ → ℕ → List ℕ
stretch_at nums e = pairs_at nums (start_of nums e) (length_of nums e)

-- A part of the lent numbers itself, which begins at the number `at`, of two bytes each: it lies where those numbers lie.
pub record Lies (numbers : Bor (List ℕ)) (at : ℕ) (part : Bor (List ℕ)) : Type 0 where
  pub block : part.ref_ptr.0 ≡ numbers.ref_ptr.0
  pub offset : part.ref_ptr.1 ≡ at * 2 + numbers.ref_ptr.1

-- The stretch that holds w_i (i = j) or w_ij, of numbers that are accepted.
abbrev pub stretch_of : List ℕ → ℕ → ℕ → List ℕ
stretch_of nums i j = stretch_at nums (place_of (rank_of nums) i j)
