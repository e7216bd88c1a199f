-- The pairs of a stretch, cut off two numbers at a time: for the loops that walk a stretch.
--
-- Main results: `pair_front`, `pair-passes`, `pair-fails`, `pairs-end`.
use mathlib.Core.Path.{◌≡◌, refl, sym, ap, ◌∙◌, subst}
use mathlib.Core.List.{List, [], ◌∷◌}
use mathlib.Core.Bool.{Bool, true, false}
use Prim.Native.Nat.{ℕ, zero, suc, ◌+◌, ◌*◌, ◌/◌, ◌%◌, ◌<◌, ◌≤◌}
use native.Mathlib.Omega.{arith}
use native.Mathlib.Decide.{dec_lt}
use borrow.Author.Tests.{eq-eqb, ne_eqb}
use lib.ListN.{length, get_or, drop, drop_of_length-le}
use lib.Seq.{drop-cons}
use lib.Dec.{eqb}
use Rattle.std.specs.Simd.{first_chunks}
use Rattle.layout.specs.Bodies.{pair_right, stretch_right}

double : (j : ℕ) → 2 * suc j ≡ suc (suc (2 * j))
double j = omega arith

-- The two numbers of the pair number j, of those cut off.
abbrev first : List (List ℕ) → ℕ → ℕ
first pairs j = get_or (get_or pairs j []) 0 0

abbrev second : List (List ℕ) → ℕ → ℕ
second pairs j = get_or (get_or pairs j []) 1 0

-- What is left from the pair number j on begins with that pair.
pair-at : (s : List ℕ) (k j : ℕ) → j < k → 2 * k ≤ length s
    → drop (2 * j) s
    ≡ first (first_chunks 2 k s) j ∷ second (first_chunks 2 k s) j ∷ drop (2 * suc j) s
pair-at s zero j h l = absurd (omega arith)
pair-at [] (suc k) j h l = absurd (omega arith)
pair-at (g ∷ []) (suc k) j h l = absurd (omega arith)
pair-at (g ∷ a ∷ w) (suc k) zero h l = refl
pair-at (g ∷ a ∷ w) (suc k) (suc j) h l =
    let p = pair-at w k j (omega arith) (omega arith) in rw (double (suc j), double j) (rw (double j) at p)

-- The same of all its pairs, cut off.
pub pair_front : (s : List ℕ) {pairs : List (List ℕ)} {j : ℕ} → pairs ≡ first_chunks 2 (length s / 2) s → j < length s / 2
    → drop (2 * j) s ≡ get_or (get_or pairs j []) 0 0 ∷ get_or (get_or pairs j []) 1 0 ∷ drop (2 * (j + 1)) s
pair_front s {pairs} {j} are here =
    let next : suc j ≡ j + 1 = omega arith in
    subst (λ (k : ℕ). drop (2 * j) s ≡ first pairs j ∷ second pairs j ∷ drop (2 * k) s) next
    (subst (λ (ps : List (List ℕ)). drop (2 * j) s ≡ first ps j ∷ second ps j ∷ drop (2 * suc j) s) (sym are)
    (pair-at s (length s / 2) j here (omega arith)))

module _ (e : ℕ → ℕ) (n low : ℕ) (s : List ℕ) {pairs : List (List ℕ)} {j : ℕ} (are : pairs ≡ first_chunks 2 (length s / 2) s)
    (here : j < length s / 2) where
  -- A right pair leaves the rest to be judged, above its generator.
  pub pair-passes : pair_right e n low (first pairs j) (second pairs j) ≡ true
      → stretch_right e n low (drop (2 * j) s) ≡ stretch_right e n (first pairs j) (drop (2 * (j + 1)) s)
  pair-passes h =
      ap (stretch_right e n low) (pair_front s are here)
      ∙ ap (λ (b : Bool). elim b [ true ↦ stretch_right e n (first pairs j) (drop (2 * (j + 1)) s) | false ↦ false ]) h

  pub pair-fails : pair_right e n low (first pairs j) (second pairs j) ≡ false → stretch_right e n low (drop (2 * j) s) ≡ false
  pair-fails h =
      ap (stretch_right e n low) (pair_front s are here)
      ∙ ap (λ (b : Bool). elim b [ true ↦ stretch_right e n (first pairs j) (drop (2 * (j + 1)) s) | false ↦ false ]) h

-- After the last pair nothing is left, or half a pair.
pub pairs-end : (e : ℕ → ℕ) (n low : ℕ) (s : List ℕ) (j : ℕ) → j ≡ length s / 2 → stretch_right e n low (drop (2 * j) s) ≡ eqb (length s % 2) 0
pairs-end e n low s j h = go (dec_lt (2 * j) (length s))
  where
    go : Dec (2 * j < length s) → stretch_right e n low (drop (2 * j) s) ≡ eqb (length s % 2) 0
    go (yes m) =
        rw (drop-cons s (2 * j) 0 m, drop_of_length-le s {i = suc (2 * j)} (omega arith))
        (sym (ne_eqb (length s % 2) 0 (omega arith)))
    go (no m) =
        let z : length s ≤ 2 * j = omega arith in
        rw (drop_of_length-le s z) (sym (eq-eqb (length s % 2) 0 (omega arith)))
