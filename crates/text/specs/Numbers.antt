-- The 16-bit numbers that a file's bytes hold.
--
-- Main definitions: `numbers_of`, `Unpacked`.
use Rattle.std.specs.Prelude.{◌≡◌, List, [], ◌∷◌, ℕ, ◌+◌, ◌*◌, ◌/◌, min, length}
use Rattle.std.proofs.lemmas.List.Edits.{sets}

-- "16-bit numbers, low byte first"; a last byte with no partner is passed over.
abbrev pub numbers_of : List ℕ → List ℕ
numbers_of [] = []
numbers_of (low ∷ []) = []
numbers_of (low ∷ high ∷ bytes) = (low + 256 * high) ∷ numbers_of bytes

-- The bytes' numbers stand from the first place on, as many as there is room for, and all else is as it was.
-- (`sets old 0 xs` stores the list xs from the place 0 on; a store past the end changes nothing.)
pub record Unpacked (bytes old new : List ℕ) (count : ℕ) : Type 0 where
  pub stored : new ≡ sets old 0 (numbers_of bytes)
  pub counted : count ≡ min (length bytes / 2) (length old)
