-- Pairs that are read from a list: the first of a stretch, and what holds of all of them.
--
-- Main laws: `stretch-step`, `pairs-stretch`, `pairs-at`, `pairs-widen`.
use mathlib.Core.Path.{◌≡◌}
use mathlib.Core.List.{List, [], ◌∷◌}
use Prim.Native.Nat.{ℕ, zero, suc, ◌+◌, ◌*◌, ◌-◌, ◌≤◌}
use native.Mathlib.Omega.{arith}
use native.Mathlib.Numerals.{add-one}
use lib.ListN.{get_or, take, drop}
use lib.Seq.{drop-cons}
use Rattle.slots.specs.Pieces.{stretch, Pair, Pairs}
use Rattle.slots.specs.Stacked.{Inside}

double : (k : ℕ) → 2 * suc k ≡ suc (suc (2 * k))
double k = omega arith

-- A stretch is its first pair and the stretch after it.
pub stretch-step
    : (ps : List ℕ) (s k : ℕ) → Inside ps s k
    → stretch ps s k ≡ get_or ps (2 * s) 0 ∷ get_or ps (2 * s + 1) 0 ∷ stretch ps (s + 1) (k - 1)
stretch-step ps s k h =
    let count : 2 * k ≡ suc (suc (2 * (k - 1))) = omega arith in
    let after : 2 * (s + 1) ≡ suc (suc (2 * s)) = omega arith in
    rw (after, count, drop-cons ps (2 * s) 0 (omega arith), drop-cons ps (suc (2 * s)) 0 (omega arith), add-one (2 * s))

module _ (n : ℕ) where
  pairs-drop : (s : ℕ) (ps : List ℕ) → Pairs n ps → Pairs n (drop (2 * s) ps)
  pairs-drop zero ps h = h
  pairs-drop (suc s) [] h = rw (double s) tt
  pairs-drop (suc s) (g ∷ []) h = absurd h
  pairs-drop (suc s) (g ∷ a ∷ ps) h = rw (double s) (pairs-drop s ps h.1)

  pairs-take : (k : ℕ) (ps : List ℕ) → Pairs n ps → Pairs n (take (2 * k) ps)
  pairs-take zero ps h = tt
  pairs-take (suc k) [] h = rw (double k) tt
  pairs-take (suc k) (g ∷ []) h = absurd h
  pairs-take (suc k) (g ∷ a ∷ ps) h = rw (double k) (h.0, pairs-take k ps h.1)

  pub pairs-stretch : (ps : List ℕ) (s k : ℕ) → Pairs n ps → Pairs n (stretch ps s k)
  pairs-stretch ps s k h = pairs-take k (drop (2 * s) ps) (pairs-drop s ps h)

  -- A pair of the list, by its number.
  pub pairs-at : (ps : List ℕ) (s k : ℕ) → Pairs n ps → Inside ps s k → Pair n (get_or ps (2 * s) 0) (get_or ps (2 * s + 1) 0)
  pairs-at ps s k h i =
      let p : Pairs n (get_or ps (2 * s) 0 ∷ get_or ps (2 * s + 1) 0 ∷ stretch ps (s + 1) (k - 1)) =
      rw (stretch-step ps s k i) at (pairs-stretch ps s k h) in
      p.0

-- Generators up to n are generators up to m.
pub pair-widen : {n m g a : ℕ} → n ≤ m → Pair n g a → Pair m g a
pair-widen le h = record { low = h.low; high = omega arith; some = h.some }

pub pairs-widen : (n m : ℕ) (ps : List ℕ) → n ≤ m → Pairs n ps → Pairs m ps
pairs-widen n m [] le h = tt
pairs-widen n m (g ∷ []) le h = absurd h
pairs-widen n m (g ∷ a ∷ ps) le h = (pair-widen le h.0, pairs-widen n m ps le h.1)
