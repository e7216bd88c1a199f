-- The two sides of an overlap as starting slots: "Check: each power in a side as written below is one slot, each non-empty relation word
-- is one string, first part on top."
--
-- Main definitions: `left_pieces`, `right_pieces`; `side_pieces` and `SideRight`, the same for a side as the code has it.
use Rattle.std.specs.Prelude.{List, [], ◌∷◌, ℕ, ◌-◌, ◌≤◌, Option, Some, None}
use Rattle.theory.specs.Overlaps.{Overlap, triple, upper, lower, single}
use Rattle.layout.specs.Header.{exponent_of}
use Rattle.layout.specs.Contents.{stretch_of}
use Rattle.slots.specs.Pieces.{Piece, power, unread}
use Rattle.consistency.specs.declared.Part.{Part}
use Rattle.consistency.specs.declared.Side.{Side}

-- w_ij (w_i for i = j) on the parts that follow it: one string, none if it is empty.
abbrev pub worded : List ℕ → ℕ → ℕ → List Piece → List Piece
worded nums i j below = unread (stretch_of nums i j) below

-- "x_j x_k w_jk x_i", "w_j x_i", "x_i x_j w_ij x_i^(p-1)", "w_i x_i".
abbrev pub left_pieces : List ℕ → Overlap → List Piece
left_pieces nums (triple i j k) = power j 1 ∷ power k 1 ∷ worded nums j k (power i 1 ∷ [])
left_pieces nums (upper i j) = worded nums j j (power i 1 ∷ [])
left_pieces nums (lower i j) = power i 1 ∷ power j 1 ∷ worded nums i j (power i (exponent_of nums i - 1) ∷ [])
left_pieces nums (single i) = worded nums i i (power i 1 ∷ [])

-- "x_k x_i x_j w_ij", "x_j^(p-1) x_i x_j w_ij", "x_j w_i", "x_i w_i".
abbrev pub right_pieces : List ℕ → Overlap → List Piece
right_pieces nums (triple i j k) = power k 1 ∷ power i 1 ∷ power j 1 ∷ worded nums i j []
right_pieces nums (upper i j) = power j (exponent_of nums j - 1) ∷ power i 1 ∷ power j 1 ∷ worded nums i j []
right_pieces nums (lower i j) = power j 1 ∷ worded nums i i []
right_pieces nums (single i) = power i 1 ∷ worded nums i i []

-- A power on the parts that follow it, if there is one.
abbrev pub part_pieces : Option Part → List Piece → List Piece
part_pieces None below = below
part_pieces (Some part) below = power part.0.0 part.1.0 ∷ below

-- The parts of a side, first part on top.
abbrev pub side_pieces : List ℕ → Side → List Piece
side_pieces nums s =
    part_pieces s.first (part_pieces s.second (part_pieces s.third (worded nums s.i.0 s.j.0 (part_pieces s.last []))))

-- A part's generator is one of the n, and its exponent is at least 1.
pub record PartRight (n : ℕ) (part : Part) : Type 0 where
  pub low : 1 ≤ part.0.0
  pub high : part.0.0 ≤ n
  pub some : 1 ≤ part.1.0

-- The same of a part that a side may have.
abbrev pub IfPartRight : ℕ → Option Part → Type 0
IfPartRight n None = Unit {0}
IfPartRight n (Some part) = PartRight n part

pub record SideRight (n : ℕ) (s : Side) : Type 0 where
  pub first : IfPartRight n s.first
  pub second : IfPartRight n s.second
  pub third : IfPartRight n s.third
  pub last : IfPartRight n s.last
  pub word : (1 ≤ s.i.0) × (s.i.0 ≤ s.j.0) × (s.j.0 ≤ n)
