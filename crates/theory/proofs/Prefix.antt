-- The prefix law: placing x_i leaves the entries below i alone, and moves entry i by one modulo its exponent.
--
-- Main results: `put-below` and `put-at` for x_i with all that it puts, `place-below` and `place_at` for the one placing,
-- `collect-below` for a word. The entry of the generator d + m stands at d in a vector that starts at m.
use mathlib.Core.Path.{◌≡◌, refl, ap, ◌∙◌, subst}
use mathlib.Core.List.{[], ◌∷◌}
use Prim.Native.Nat.{ℕ, zero, suc, ◌+◌, ◌<◌}
use native.Mathlib.Omega.{arith}
use lib.ListN.{length, get_or}
use Rattle.theory.specs.Presentation.{Presentation, Word, Vector, Over}
use Rattle.theory.specs.Placing.{Placed, raised, place, put, collect}
use Rattle.theory.proofs.Words.{place-here, place-above, put-here, put-above}

module _ (P : Presentation) where
  pub put-below : (k m : ℕ) (v : Vector) (i d : ℕ) → d + m < i → get_or (put P k m v i) d 0 ≡ get_or v d 0
  put-below zero m v i d h = refl
  put-below (suc k) m [] i d h = refl
  put-below (suc k) m (a ∷ v) i zero h = ap (λ (x : Vector). get_or x 0 0) (put-above P k m a i v (omega arith))
  put-below (suc k) m (a ∷ v) i (suc d) h =
      ap (λ (x : Vector). get_or x (suc d) 0) (put-above P k m a i v (omega arith)) ∙ put-below k (suc m) v i d (omega arith)

  pub put-at : (k m : ℕ) (v : Vector) (i d : ℕ) → d + m ≡ i → d < k → length v ≡ k → get_or (put P k m v i) d 0 ≡ raised (P.exponent i) (get_or v d 0)
  put-at zero m v i d h f l = absurd (omega arith)
  put-at (suc k) m [] i d h f l = absurd (omega arith)
  put-at (suc k) m (a ∷ v) i zero h f l =
      let q : m ≡ i = omega arith in
      subst (λ (x : ℕ). get_or (put P (suc k) m (a ∷ v) x) 0 0 ≡ raised (P.exponent x) a) q (ap (λ (x : Vector). get_or x 0 0) (put-here P k m a v))
  put-at (suc k) m (a ∷ v) i (suc d) h f l =
      ap (λ (x : Vector). get_or x (suc d) 0) (put-above P k m a i v (omega arith)) ∙ put-at k (suc m) v i d (omega arith) (omega arith) (omega arith)

  pub place-below : (m : ℕ) (v : Vector) (i d : ℕ) → d + m < i → get_or (place P m v i).vector d 0 ≡ get_or v d 0
  place-below m [] i d h = refl
  place-below m (a ∷ v) i zero h = ap (λ (x : Placed). get_or x.vector 0 0) (place-above P m a i v (omega arith))
  place-below m (a ∷ v) i (suc d) h =
      ap (λ (x : Placed). get_or x.vector (suc d) 0) (place-above P m a i v (omega arith)) ∙ place-below (suc m) v i d (omega arith)

  pub place_at : (m : ℕ) (v : Vector) (i d : ℕ) → d + m ≡ i → d < length v → get_or (place P m v i).vector d 0 ≡ raised (P.exponent i) (get_or v d 0)
  place_at m [] i d h f = absurd (omega arith)
  place_at m (a ∷ v) i zero h f =
      let q : m ≡ i = omega arith in
      subst (λ (x : ℕ). get_or (place P m (a ∷ v) x).vector 0 0 ≡ raised (P.exponent x) a) q (ap (λ (x : Placed). get_or x.vector 0 0) (place-here P m a v))
  place_at m (a ∷ v) i (suc d) h f =
      ap (λ (x : Placed). get_or x.vector (suc d) 0) (place-above P m a i v (omega arith)) ∙ place_at (suc m) v i d (omega arith) (omega arith)

  -- A word whose letters are all above a generator leaves that generator's entry alone.
  pub collect-below : (k m : ℕ) (v : Vector) (w : Word) (d : ℕ) → Over P (suc (d + m)) w → get_or (collect P k m v w) d 0 ≡ get_or v d 0
  collect-below k m v [] d o = refl
  collect-below k m v (i ∷ w) d o = collect-below k m (put P k m v i) w d o.1 ∙ put-below k m v i d o.0.0
