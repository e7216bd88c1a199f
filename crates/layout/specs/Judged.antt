-- The number that judging a presentation gives: document 01's table, "Checks run in the order 1 to 8", of which 1 to 6 are the
-- presentation's.
--
-- Main definition: `judged`.
use Rattle.std.specs.Prelude.{List, Bool, true, false, ◌&&◌, ℕ, length, leb, eqb}
use Rattle.layout.specs.Header.{headed, prime_of, rank_of}
use Rattle.layout.specs.Prime.{prime_to_251}
use Rattle.layout.specs.Contents.{contents_right, length_due}
use Rattle.layout.specs.Bodies.{bodies_right}

-- "n from 1 to 40".
abbrev pub rank_right : ℕ → Bool
rank_right n = leb 1 n && leb n 40

-- 1 SHORT, 2 PRIME, 3 RANK, 4 CONTENTS, 5 LENGTH, 6 BODY; 0 DONE: accepted.
abbrev pub judged : List ℕ → ℕ
judged nums =
    elim (headed nums) [
      | false ↦ 1
      | true ↦ elim (prime_to_251 (prime_of nums)) [
        | false ↦ 2
        | true ↦ elim (rank_right (rank_of nums)) [
          | false ↦ 3
          | true ↦ elim (contents_right nums) [
            | false ↦ 4
            | true ↦ elim (eqb (length nums) (length_due nums)) [
              | false ↦ 5
              | true ↦ elim (bodies_right nums) [ false ↦ 6 | true ↦ 0 ]
            ]
          ]
        ]
      ]
    ]
