-- Setting down pairs, one after the other; and the pairs that accepted numbers hold can be set down.
--
-- Main results: `settable_front`, `settled_front`, `settled_end`, `settable`.
use mathlib.Core.Path.{◌≡◌, refl, sym, ap, subst}
use mathlib.Core.List.{List, [], ◌∷◌}
use Prim.Native.Nat.{ℕ, ◌+◌, ◌-◌, ◌*◌, ◌/◌, ◌≤◌, ◌<◌}
use native.Mathlib.Omega.{arith}
use lib.ListN.{length, get_or, set, drop}
use Rattle.theory.specs.Presentation.{Vector}
use Rattle.std.specs.Simd.{first_chunks}
use Rattle.layout.specs.Relations.{settled}
use Rattle.layout.proofs.Pairs.{pair_front}
use Rattle.layout.proofs.Relations.{Pairs, none, pair}
use Rattle.placing.specs.Settable.{Settable}

module _ (s : List ℕ) {pairs : List (List ℕ)} {j : ℕ} (are : pairs ≡ first_chunks 2 (length s / 2) s) (here : j < length s / 2) where
  pub settable_front : (n : ℕ) → Settable n (drop (2 * j) s)
      → ((1 ≤ get_or (get_or pairs j []) 0 0) × (get_or (get_or pairs j []) 0 0 ≤ n) × (get_or (get_or pairs j []) 1 0 < 256))
      × Settable n (drop (2 * (j + 1)) s)
  settable_front n f = subst (Settable n) (pair_front s are here) f

  pub settled_front : (v : Vector)
      → settled (set v (get_or (get_or pairs j []) 0 0 - 1) (get_or (get_or pairs j []) 1 0)) (drop (2 * (j + 1)) s) ≡ settled v (drop (2 * j) s)
  settled_front v = sym (ap (settled v) (pair_front s are here))

pub settled_end : (v : Vector) (left : List ℕ) → length left < 2 → settled v left ≡ v
settled_end v [] h = refl
settled_end v (g ∷ []) h = refl
settled_end v (g ∷ a ∷ left) h = absurd (omega arith)

-- The pairs of accepted numbers: each generator is one of the n, and each exponent below the generator's, at most 256.
pub settable : (e : ℕ → ℕ) (n : ℕ) → ((g : ℕ) → e g ≤ 256) → {low : ℕ} {w : List ℕ} → Pairs e n low w → Settable n w
settable e n few none = tt
settable e n few (pair {g = g} above within some below p) = let f : e g ≤ 256 = few g in ((omega arith, within, omega arith), settable e n few p)
