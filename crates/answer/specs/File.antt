-- From the bytes of a file to the line: what the program prints.
--
-- Main definitions: `bytes_right`, `program_line`.
use Rattle.std.specs.Prelude.{List, Bool, true, false, ◌&&◌, ℕ, ◌%◌, length, eqb, leb}
use Rattle.text.specs.Numbers.{numbers_of}
use Rattle.layout.specs.Header.{headed, prime_of, rank_of}
use Rattle.consistency.specs.Check.{check_of}
use Rattle.line.specs.Line.{line_of, refused_line}

-- "An odd number of bytes, or over 45,924, prints `refused 5`."
abbrev pub bytes_right : List ℕ → Bool
bytes_right bytes = eqb (length bytes % 2) 0 && leb (length bytes) 45924

-- p and n of numbers that have a header, and 0 otherwise.
abbrev pub prime_in : List ℕ → ℕ
prime_in numbers = elim (headed numbers) [ true ↦ prime_of numbers | false ↦ 0 ]

abbrev pub rank_in : List ℕ → ℕ
rank_in numbers = elim (headed numbers) [ true ↦ rank_of numbers | false ↦ 0 ]

-- The line of the check's answer on these numbers.
unfoldable pub check_line : List ℕ → ℕ → ℕ → List ℕ
check_line numbers budget room = line_of (prime_in numbers) (rank_in numbers) (check_of numbers budget room)

-- The rule on the number of bytes comes first.
unfoldable pub answer_of : List ℕ → ℕ → ℕ → List ℕ
answer_of bytes budget room = elim (bytes_right bytes) [ true ↦ check_line (numbers_of bytes) budget room | false ↦ refused_line 5 ]

-- "with budget 1,000,000 and room 8,192"; a file that can't be read has no bytes.
abbrev pub program_line : List ℕ → List ℕ
program_line bytes = answer_of bytes 1000000 8192
