-- What the starting slots of the calls stand for.
--
-- Main results: `word-start-means`, `word-start-standing`, `power-start-means`, `power-start-standing`.
use mathlib.Core.Path.{◌≡◌, refl, ap}
use mathlib.Core.List.{List, [], ◌∷◌, map}
use Prim.Native.Nat.{ℕ, zero, suc, ◌+◌, ◌*◌, ◌/◌, ◌≤◌}
use native.Mathlib.Omega.{arith}
use lib.ListN.{length}
use lib.Seq.{take_all}
use Rattle.theory.specs.Presentation.{Vector}
use Rattle.slots.specs.Pieces.{Piece, power, string, meaning, Pairs}
use Rattle.slots.specs.Stacked.{AllStanding}
use Rattle.collector.specs.Inputs.{word_slots, power_slots}
use Rattle.collector.specs.Starting.{word_start, power_start}

-- Pairs are two numbers each.
even : (n : ℕ) (w : List ℕ) → Pairs n w → 2 * (length w / 2) ≡ length w
even n [] p = refl
even n (g ∷ []) p = absurd p
even n (g ∷ a ∷ w) p = let h : 2 * (length w / 2) ≡ length w = even n w p.1 in omega arith

module _ (n : ℕ) (bodies : List ℕ) where
  pub word-start-means : (w : List ℕ) → Pairs n w → map (meaning bodies w) (word_start w) ≡ word_slots w
  word-start-means [] p = refl
  word-start-means (g ∷ w) p =
      let e : 2 * (length (g ∷ w) / 2) ≡ length (g ∷ w) = even n (g ∷ w) p in
      ap (λ (x : List ℕ). string x ∷ []) (take_all (2 * (length (g ∷ w) / 2)) (g ∷ w) (omega (arith, e)))

  pub word-start-standing : (w : List ℕ) → Pairs n w → AllStanding n bodies w (word_start w)
  word-start-standing [] p = tt
  word-start-standing (g ∷ w) p =
      let e : 2 * (length (g ∷ w) / 2) ≡ length (g ∷ w) = even n (g ∷ w) p in
      (record { some = omega (arith, e); within = omega (arith, e) }, tt)

  module _ (word : List ℕ) where
    pub power-start-means : (g : ℕ) (v : Vector) → map (meaning bodies word) (power_start g v) ≡ power_slots g v
    power-start-means g [] = refl
    power-start-means g (zero ∷ v) = power-start-means (suc g) v
    power-start-means g (suc e ∷ v) = ap (λ (l : List Piece). power g (suc e) ∷ l) (power-start-means (suc g) v)

    pub power-start-standing : (g : ℕ) (v : Vector) → 1 ≤ g → length v + g ≤ suc n → AllStanding n bodies word (power_start g v)
    power-start-standing g [] h f = tt
    power-start-standing g (zero ∷ v) h f = power-start-standing (suc g) v (omega arith) (omega arith)
    power-start-standing g (suc e ∷ v) h f =
        (record { low = h; high = omega arith; some = omega arith }, power-start-standing (suc g) v (omega arith) (omega arith))
