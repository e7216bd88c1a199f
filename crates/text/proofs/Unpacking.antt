-- The numbers of a file's bytes, one by one.
--
-- Main laws: `numbers-length`, `number-at`, `store-next`, `store-end`.
use mathlib.Core.Path.{◌≡◌, refl, ap, ◌∙◌}
use mathlib.Core.List.{List, [], ◌∷◌}
use Prim.Native.Nat.{ℕ, zero, suc, ◌+◌, ◌/◌, ◌≤◌, ◌<◌, min}
use native.Mathlib.Omega.{arith, min_cases}
use lib.ListN.{length, get_or, set, take, drop}
use lib.Seq.{sets, set_out, drop-cons}
use lib.ListN.{drop_of_length-le}
use native.Mathlib.Numerals.{add-one}
use Rattle.std.proofs.lemmas.List.{get_or-take, length-take}
use Rattle.std.specs.Int.{from_le_bytes, w16}
use Rattle.std.specs.Simd.{first_chunks}
use Rattle.text.specs.Numbers.{numbers_of}

pub numbers-length : (bytes : List ℕ) → length (numbers_of bytes) ≡ length bytes / 2
numbers-length [] = refl
numbers-length (low ∷ []) = refl
numbers-length (low ∷ high ∷ bytes) = omega (arith, numbers-length bytes)

-- The number at a place is that of the pair of bytes there.
pub number-at : (bytes : List ℕ) (k i : ℕ) (none : List ℕ)
    → i < k
    → k ≡ length bytes / 2
    → from_le_bytes w16 (get_or (first_chunks 2 k bytes) i none) ≡ get_or (numbers_of bytes) i 0
number-at bytes zero i none h e = absurd (omega arith)
number-at [] (suc k) i none h e = absurd (omega arith)
number-at (low ∷ []) (suc k) i none h e = absurd (omega arith)
number-at (low ∷ high ∷ bytes) (suc k) zero none h e = omega arith
number-at (low ∷ high ∷ bytes) (suc k) (suc i) none h e = number-at bytes k i none (omega arith) (omega arith)

-- Stores past the end change nothing.
pub sets-out : (a l : List ℕ) (i : ℕ) → length l ≤ i → sets l i a ≡ l
sets-out [] l i h = refl
sets-out (x ∷ a) l i h = rw (set_out l i x h) (sets-out a l (suc i) (omega arith))

-- The store of one element more of a list, whose next element goes to the place k.
pub sets-step : (w l : List ℕ) (i k next : ℕ)
    → next ≡ k + 1
    → i < length w
    → sets (set l k (get_or w i 0)) next (drop (i + 1) w) ≡ sets l k (drop i w)
sets-step w l i k next e h =
    rw (add-one i, drop-cons w i 0 h) (ap (λ (j : ℕ). sets (set l k (get_or w i 0)) j (drop (suc i) w)) (omega arith))

-- The steps of the code, which goes through as many pairs of bytes as there is room for: the store of the number of the pair i, after
-- which the rest goes to the next place ..
pub store-next : (bytes l : List ℕ) (pairs : List (List ℕ)) (i count number : ℕ)
    → pairs ≡ first_chunks 2 (length bytes / 2) bytes
    → length pairs ≡ length bytes / 2
    → i < length (take count pairs)
    → number ≡ from_le_bytes w16 (get_or (take count pairs) i [])
    → sets (set l i number) (i + 1) (drop (i + 1) (numbers_of bytes)) ≡ sets l i (drop i (numbers_of bytes))
store-next bytes l pairs i count number cut many h e =
    ap
    (λ (x : ℕ). sets (set l i x) (i + 1) (drop (i + 1) (numbers_of bytes)))
    (e
    ∙ ap (λ (pair : List ℕ). from_le_bytes w16 pair) (get_or-take count pairs i [] (omega (arith, length-take count pairs)))
    ∙ ap (λ (l : List (List ℕ)). from_le_bytes w16 (get_or l i [])) cut
    ∙ number-at bytes (length bytes / 2) i [] (omega (arith, length-take count pairs, many)) refl)
    ∙ sets-step (numbers_of bytes) l i i (i + 1) refl (omega (arith, length-take count pairs, numbers-length bytes, many))

-- .. and where the count is reached, nothing of it is stored.
pub store-end : (bytes l : List ℕ) (pairs : List (List ℕ)) (i count : ℕ)
    → length pairs ≡ length bytes / 2
    → length (take count pairs) ≤ i
    → count ≡ min (length pairs) (length l)
    → sets l i (drop i (numbers_of bytes)) ≡ l
store-end bytes l pairs i count many h e =
    min_cases (length pairs) (length l) _
    (λ a m. ap (λ (t : List ℕ). sets l i t) (drop_of_length-le (numbers_of bytes) {i = i} (omega (arith, length-take count pairs, many, numbers-length bytes))))
    (λ b m. sets-out (drop i (numbers_of bytes)) l i (omega (arith, length-take count pairs)))

-- For `numbers_of`.
pub ruleset steps = (store-next, store-end)
