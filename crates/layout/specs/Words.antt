-- Fetching a relation's word: what the fetched stretch holds, and where in the lent numbers it lies.
--
-- Main definitions: `word_of`, `word_at`.
use Rattle.std.specs.Prelude.{List, [], Bool, true, false, ◌&&◌, ℕ, leb, eqb}
use Rattle.layout.specs.Header.{rank_of}
use Rattle.layout.specs.Contents.{place_of, body_at, stretch_of}
use Rattle.layout.specs.Judged.{judged}

-- "(i, i) names w_i, (i, j) with i < j names w_ij", of the generators 1 to n.
abbrev pub names_relation : ℕ → ℕ → ℕ → Bool
names_relation n i j = leb 1 i && (leb i j && leb j n)

-- ".. and any other pair or a presentation that isn't accepted gives an empty stretch."
abbrev pub fetched : List ℕ → ℕ → ℕ → Bool
fetched nums i j = elim (eqb (judged nums) 0) [ true ↦ names_relation (rank_of nums) i j | false ↦ false ]

-- "Fetching a relation's word gives back that stretch of the lent numbers itself": its numbers ..
abbrev pub word_of : List ℕ → ℕ → ℕ → List ℕ
word_of nums i j = elim (fetched nums i j) [ true ↦ stretch_of nums i j | false ↦ [] ]

-- .. and the place of the first of them. The empty stretch of a refusal lies at the beginning.
abbrev pub word_at : List ℕ → ℕ → ℕ → ℕ
word_at nums i j = elim (fetched nums i j) [ true ↦ body_at nums (place_of (rank_of nums) i j) | false ↦ 0 ]
