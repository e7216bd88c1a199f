-- What holds of the stack between two steps of the collector.
--
-- Main definitions: `Stacked`, the record that callers carry along, and `Took`, what taking the top slot does.
use Rattle.std.specs.Prelude.{◌≡◌, List, [], ◌∷◌, ℕ, ◌+◌, ◌*◌, ◌≤◌, length}
use Rattle.slots.specs.declared.Slot.{Slot}
use Rattle.slots.specs.declared.Slot.TheVariants.{Power, Relation, Input}
use Rattle.slots.specs.Slots.{stack}
use Rattle.slots.specs.Pieces.{Pair, Pairs, pieces, taken}

-- What strings are read from, within the ranges: "n from 1 to 40 (at most .. 10,660 pairs ..) .. An input word is pairs of
-- 16-bit numbers, generator 1 to n, exponent 1 to 65,535, at most 4,096 pairs".
pub record Sources (n : ℕ) (bodies word : List ℕ) : Type 0 where
  pub rank : n ≤ 40
  pub body_pairs : Pairs n bodies
  pub body_count : length bodies ≤ 2 * 10660
  pub word_pairs : Pairs n word
  pub word_count : length word ≤ 2 * 4096

-- k pairs from the pair number s on stand inside the list, and there is at least one.
pub record Inside (pairs : List ℕ) (s k : ℕ) : Type 0 where
  pub some : 1 ≤ k
  pub within : 2 * (s + k) ≤ length pairs

-- The slot is a power of one of n generators, or a string inside what it is read from.
abbrev pub Standing : ℕ → List ℕ → List ℕ → Slot → Type 0
Standing n bodies word (Power i e) = Pair n i.0 e.0
Standing n bodies word (Relation s k) = Inside bodies s k
Standing n bodies word (Input s k) = Inside word s k

abbrev pub AllStanding : ℕ → List ℕ → List ℕ → List Slot → Type 0
AllStanding n bodies word [] = Unit {0}
AllStanding n bodies word (x ∷ below) = Standing n bodies word x × AllStanding n bodies word below

-- The first d slots of the workspace are a stack over n generators.
pub record Stacked (n : ℕ) (bodies word ws : List ℕ) (d : ℕ) : Type 0 where
  pub sources : Sources n bodies word
  pub fits : 3 * d ≤ length ws
  pub slots : AllStanding n bodies word (stack ws d)

-- The top of the d slots of ws was taken, and r slots are left: ws' is the workspace then. If it has no room for r slots, all
-- that is said of it is its length.
pub record Took (bodies word ws : List ℕ) (d : ℕ) (ws' : List ℕ) (r : ℕ) : Type 0 where
  pub kept : length ws' ≡ length ws
  pub depth : r ≡ length (taken (pieces bodies word ws d))
  pub left : 3 * r ≤ length ws → pieces bodies word ws' r ≡ taken (pieces bodies word ws d)
  pub stacked : (n : ℕ) → Stacked n bodies word ws d → 3 * r ≤ length ws → Stacked n bodies word ws' r
