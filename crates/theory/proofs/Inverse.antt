-- The inverse, on any valid presentation, consistent or not.
--
-- Main results:
--   `invert-normal`, `invert-clears`   the vector that document 01's rule builds is normal, and collects to the identity after the
--                                      given one
--   `invert-only`                      no other normal vector does
use mathlib.Core.Path.{◌≡◌, refl, sym, ap, ap₂, ◌∙◌}
use mathlib.Core.List.{[], ◌∷◌, tail}
use mathlib.Core.Bool.{Bool, true, false}
use Prim.Native.Nat.{ℕ, zero, suc, ◌+◌, ◌-◌, ◌≤◌, ◌<◌}
use native.Mathlib.Omega.{arith}
use lib.ListN.{replicate, get_or}
use lib.Dec.{ltb}
use borrow.Author.Tests.{eq-eqb, ltb-true, ltb-false}
use Rattle.theory.specs.Presentation.{Presentation, Vector, spell, identity, Normal, Valid}
use Rattle.theory.specs.Placing.{conjugates, raised, set_down, collect, complement, invert}
use Rattle.theory.proofs.Words.{spell-over, put-here}
use Rattle.theory.proofs.Collecting.{Level, above, raised-low, collect-append, collect-above, collect-normal}

-- The first entry of a vector.
abbrev head : Vector → ℕ
head v = get_or v 0 0

-- A normal vector of at least one entry is its first entry and the rest.
head_tail : (P : Presentation) (k m : ℕ) (v : Vector) → Normal P (suc k) m v → v ≡ head v ∷ tail v
head_tail P k m [] p = absurd p
head_tail P k m (a ∷ v) p = refl

module _ (P : Presentation) (valid : Valid P) where
  -- An entry that is raised b times by one modulo e.
  pub turned : ℕ → ℕ → ℕ → ℕ
  turned e a zero = a
  turned e a (suc b) = turned e (raised e a) b

  turned-low : (e a b : ℕ) → a + b < e → turned e a b ≡ a + b
  unfolding turned
  turned-low e a zero h = omega arith
  turned-low e a (suc b) h =
      ap (λ (x : ℕ). turned e x b) (raised-low e a (omega arith)) ∙ turned-low e (suc a) b (omega arith) ∙ (let q : suc a + b ≡ a + suc b = omega arith in q)

  raised-over : (e a : ℕ) → suc a ≡ e → raised e a ≡ 0
  raised-over e a h = rw (eq-eqb (suc a) e h, raised)

  -- Past the exponent the entry starts again from 0.
  turned-over : (e a b c : ℕ) → a + suc b ≡ e → c < e → turned e a (suc b + c) ≡ c
  unfolding turned
  turned-over e a zero c h l =
      let q : 1 + c ≡ suc c = omega arith in
      ap (turned e a) q ∙ ap (λ (x : ℕ). turned e x c) (raised-over e a (omega arith)) ∙ turned-low e 0 c (omega arith) ∙ (let r : 0 + c ≡ c = omega arith in r)
  turned-over e a (suc b) c h l =
      let q : suc (suc b) + c ≡ suc (suc b + c) = omega arith in
      ap (turned e a) q ∙ ap (λ (x : ℕ). turned e x (suc b + c)) (raised-low e a (omega arith)) ∙ turned-over e (suc a) b c (omega arith) l

  -- Placing x_m b times turns the first entry b times.
  block-head : (k m b : ℕ) (a : ℕ) (v : Vector) → head (collect P (suc k) m (a ∷ v) (replicate b m)) ≡ turned (P.exponent m) a b
  unfolding turned
  block-head k m zero a v = refl
  block-head k m (suc b) a v =
      ap (λ (x : Vector). head (collect P (suc k) m x (replicate b m))) (put-here P k m a v)
      ∙ block-head k m b (raised (P.exponent m) a) (collect P k (suc m) (set_down P k m a) (conjugates P m (spell (suc m) v)))

  -- The complement is the one number below the exponent that brings the entry back to 0.
  pub complement-below : (e a : ℕ) → a < e → complement e a < e
  complement-below e zero h = h
  complement-below e (suc a) h = omega arith

  pub complement-clears : (e a : ℕ) → a < e → turned e a (complement e a) ≡ 0
  unfolding turned
  complement-clears e zero h = refl
  complement-clears e (suc a) h =
      let q : e - suc a ≡ suc (e - suc (suc a)) + 0 = omega arith in
      ap (turned e (suc a)) q ∙ turned-over e (suc a) (e - suc (suc a)) 0 (omega arith) (omega arith)

  complement-only : (e a b : ℕ) → a < e → b < e → turned e a b ≡ 0 → b ≡ complement e a
  complement-only e a b h l t = go (ltb (a + b) e) refl
    where
      small : (x : ℕ) → x + b ≡ 0 → b ≡ complement e x
      small zero q = omega arith
      small (suc x) q = absurd (omega arith)

      large : (x : ℕ) → x < e → e ≡ x + b → b ≡ complement e x
      large zero y q = absurd (omega arith)
      large (suc x) y q = omega arith

      go : (c : Bool) → ltb (a + b) e ≡ c → b ≡ complement e a
      go true q =
          let r : a + b < e = ltb-true (a + b) e q in
          let s : turned e a b ≡ a + b = turned-low e a b r in
          small a (omega arith)
      go false q =
          let r : e ≤ a + b = ltb-false (a + b) e q in
          let c = a + b - e in
          let d = e - suc a in
          let w : b ≡ suc d + c = omega arith in
          let s : turned e a (suc d + c) ≡ c = turned-over e a d c (omega arith) (omega arith) in
          let u : turned e a b ≡ c = ap (turned e a) w ∙ s in
          large a h (omega arith)

  tail-normal : (k m : ℕ) (v : Vector) → Normal P (suc k) m v → Normal P k (suc m) (tail v)
  tail-normal k m [] p = absurd p
  tail-normal k m (a ∷ v) p = p.1

  -- What is left once x_m is placed b times: its entry turned, and the entries above it.
  pub block-left : (k m b a : ℕ) (v : Vector) → Level P (suc k) m → Normal P (suc k) m (a ∷ v)
      → collect P (suc k) m (a ∷ v) (replicate b m) ≡ turned (P.exponent m) a b ∷ tail (collect P (suc k) m (a ∷ v) (replicate b m))
  block-left k m b a v l p =
      head_tail P k m (collect P (suc k) m (a ∷ v) (replicate b m)) (collect-normal P valid (suc k) m (a ∷ v) (replicate b m) l p)
      ∙ ap (λ (x : ℕ). x ∷ tail (collect P (suc k) m (a ∷ v) (replicate b m))) (block-head k m b a v)

  -- So collecting the word of b ∷ r goes on among the entries above.
  spelled-on : (k m b a : ℕ) (v r : Vector) → Level P (suc k) m → Normal P (suc k) m (a ∷ v) → Normal P k (suc m) r
      → collect P (suc k) m (a ∷ v) (spell m (b ∷ r))
      ≡ turned (P.exponent m) a b ∷ collect P k (suc m) (tail (collect P (suc k) m (a ∷ v) (replicate b m))) (spell (suc m) r)
  spelled-on k m b a v r l p q =
      collect-append P (suc k) m (a ∷ v) (replicate b m) (spell (suc m) r)
      ∙ ap (λ (x : Vector). collect P (suc k) m x (spell (suc m) r)) (block-left k m b a v l p)
      ∙ collect-above P k m (turned (P.exponent m) a b) (tail (collect P (suc k) m (a ∷ v) (replicate b m))) (spell (suc m) r)
      (spell-over P k (suc m) r (omega (arith, l.fits)) q)

  pub above-normal : (k m b a : ℕ) (v : Vector) → Level P (suc k) m → Normal P (suc k) m (a ∷ v)
      → Normal P k (suc m) (tail (collect P (suc k) m (a ∷ v) (replicate b m)))
  above-normal k m b a v l p =
      tail-normal k m (collect P (suc k) m (a ∷ v) (replicate b m)) (collect-normal P valid (suc k) m (a ∷ v) (replicate b m) l p)

  pub invert-normal : (k m : ℕ) (v : Vector) → Level P k m → Normal P k m v → Normal P k m (invert P k m v)
  invert-normal zero m v l p = tt
  invert-normal (suc k) m [] l p = absurd p
  invert-normal (suc k) m (a ∷ v) l p =
      let b = complement (P.exponent m) a in (
        complement-below (P.exponent m) a p.0,
        invert-normal k (suc m) (tail (collect P (suc k) m (a ∷ v) (replicate b m))) (above l) (above-normal k m b a v l p),
      )

  pub invert-clears : (k m : ℕ) (v : Vector) → Level P k m → Normal P k m v → collect P k m v (spell m (invert P k m v)) ≡ identity k
  invert-clears zero m [] l p = refl
  invert-clears zero m (a ∷ v) l p = absurd p
  invert-clears (suc k) m [] l p = absurd p
  invert-clears (suc k) m (a ∷ v) l p =
      let b = complement (P.exponent m) a in
      let x = tail (collect P (suc k) m (a ∷ v) (replicate b m)) in
      let n : Normal P k (suc m) x = above-normal k m b a v l p in
      spelled-on k m b a v (invert P k (suc m) x) l p (invert-normal k (suc m) x (above l) n)
      ∙ ap₂ (λ (s : ℕ) (t : Vector). s ∷ t) (complement-clears (P.exponent m) a p.0) (invert-clears k (suc m) x (above l) n)

  pub invert-only : (k m : ℕ) (v r : Vector) → Level P k m → Normal P k m v → Normal P k m r → collect P k m v (spell m r) ≡ identity k
      → r ≡ invert P k m v
  invert-only zero m v [] l p q e = refl
  invert-only zero m v (b ∷ r) l p q e = absurd q
  invert-only (suc k) m [] r l p q e = absurd p
  invert-only (suc k) m (a ∷ v) [] l p q e = absurd q
  invert-only (suc k) m (a ∷ v) (b ∷ r) l p q e =
      go (complement-only (P.exponent m) a b p.0 q.0 (heads both))
      (λ n f. invert-only k (suc m) (tail (collect P (suc k) m (a ∷ v) (replicate b m))) r (above l) n q.1 f)
    where
      both : turned (P.exponent m) a b ∷ collect P k (suc m) (tail (collect P (suc k) m (a ∷ v) (replicate b m))) (spell (suc m) r) ≡ 0 ∷ identity k
      both = sym (spelled-on k m b a v r l p q.1) ∙ e

      heads : {x y : ℕ} {s t : Vector} → x ∷ s ≡ y ∷ t → x ≡ y
      heads z = cc

      tails : {x y : ℕ} {s t : Vector} → x ∷ s ≡ y ∷ t → s ≡ t
      tails z = cc

      go : b ≡ complement (P.exponent m) a
          → (Normal P k (suc m) (tail (collect P (suc k) m (a ∷ v) (replicate b m)))
          → collect P k (suc m) (tail (collect P (suc k) m (a ∷ v) (replicate b m))) (spell (suc m) r) ≡ identity k
          → r ≡ invert P k (suc m) (tail (collect P (suc k) m (a ∷ v) (replicate b m))))
          → b ∷ r ≡ invert P (suc k) m (a ∷ v)
      go c rest =
          ap₂ (λ (x : ℕ) (y : Vector). x ∷ y) c
          (rest (above-normal k m b a v l p) (tails both)
          ∙ ap (λ (x : ℕ). invert P k (suc m) (tail (collect P (suc k) m (a ∷ v) (replicate x m)))) c)
