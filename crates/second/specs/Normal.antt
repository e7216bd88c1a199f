-- A row of letters that is a normal word: nothing non-normal begins anywhere in it.
use Rattle.std.specs.Prelude.{ℕ, ◌+◌, ◌≤◌, ◌<◌, List, ◌≡◌, get_or}

-- of the first len letters, the one at k is not above the next
abbrev pub Rises : List ℕ → ℕ → ℕ → Type 0
Rises letters len k = k + 1 < len → get_or letters k 0 ≤ get_or letters (k + 1) 0

-- of the first len letters, the p from k on are not all equal
abbrev pub Changes : List ℕ → ℕ → ℕ → ℕ → Type 0
Changes letters len p k = k + p ≤ len → ((m : ℕ) → m < p → get_or letters (k + m) 0 ≡ get_or letters k 0) → ⊥

-- the first len letters are a normal word: no x_j x_i with j > i, and no p equal letters in a row
abbrev pub Normal : List ℕ → ℕ → ℕ → Type 0
Normal letters len p = (k : ℕ) → k < len → Rises letters len k × Changes letters len p k
