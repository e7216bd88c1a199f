-- The pairs of a relation as words and vectors of the theory.
--
-- `Pairs e n low w`: the pairs w have increasing generators above low, up to n, and exponents from 1 to below e of the generator.
-- Main results: `pairs_of`, `pairs-few`, `rest`, `pair-at`; `spelled`, `normal` and `set-down` for the exponents of such
-- pairs; `letters-over` for their letters.
use mathlib.Core.Path.{◌≡◌, refl, sym, ap, ◌∙◌, subst}
use mathlib.Core.List.{List, [], ◌∷◌, ◌++◌}
use mathlib.Core.Bool.{Bool, true, false, ◌&&◌}
use Prim.Native.Nat.{ℕ, zero, suc, ◌+◌, ◌-◌, ◌*◌, ◌<◌, ◌≤◌}
use native.Mathlib.Omega.{arith}
use borrow.Author.Tests.{ltb-true, leb-true, eqb-true, eqb-false}
use lib.ListN.{length, get_or, drop, replicate, length-append, length-drop}
use lib.Seq.{append_snoc, set_at, drop-nil, get_or-drop}
use lib.Dec.{ltb, leb, eqb}
use Rattle.theory.specs.Presentation.{Presentation, Word, Vector, spell, identity, Normal, Over}
use Rattle.layout.specs.Bodies.{pair_right, stretch_right}
use Rattle.layout.specs.Relations.{letters, exponents, settled}
use Rattle.layout.proofs.Accepted.{and_left, and_right}

pub data Pairs (e : ℕ → ℕ) (n : ℕ) : ℕ → List ℕ → Type 0 where
  none : {low : ℕ} → Pairs e n low []
  pair : {low g a : ℕ} {w : List ℕ} → low < g → g ≤ n → 0 < a → a < e g → Pairs e n g w → Pairs e n low (g ∷ a ∷ w)

-- Pairs that were judged right are such.
pub pairs_of : (e : ℕ → ℕ) (n low : ℕ) (w : List ℕ) → stretch_right e n low w ≡ true → Pairs e n low w
pairs_of e n low [] h = none
pairs_of e n low (g ∷ []) h = let z : ◌≡◌ {A = ℕ} 0 1 = cc in absurd (omega arith)
pairs_of e n low (g ∷ a ∷ w) h = go (pair_right e n low g a) refl h (λ t. pairs_of e n g w t)
  where
    go : (b : Bool) → pair_right e n low g a ≡ b → elim b [ true ↦ stretch_right e n g w | false ↦ false ] ≡ true
        → (stretch_right e n g w ≡ true → Pairs e n g w) → Pairs e n low (g ∷ a ∷ w)
    go false q t r = let z : ◌≡◌ {A = ℕ} 0 1 = cc in absurd (omega arith)
    go true q t r =
        let x : leb g n && (ltb 0 a && ltb a (e g)) ≡ true = and_right (ltb low g) _ q in
        let y : ltb 0 a && ltb a (e g) ≡ true = and_right (leb g n) _ x in
        pair (ltb-true low g (and_left (ltb low g) _ q)) (leb-true g n (and_left (leb g n) _ x))
        (ltb-true 0 a (and_left (ltb 0 a) _ y)) (ltb-true a (e g) (and_right (ltb 0 a) _ y)) (r t)

module _ {e : ℕ → ℕ} {n : ℕ} where
  -- There are at most n - low pairs.
  pub pairs-few : {low : ℕ} {w : List ℕ} → Pairs e n low w → length w ≤ 2 * (n - low)
  pairs-few none = omega arith
  pairs-few (pair l m s t r) = omega (arith, pairs-few r)

  -- What is left after k pairs is such too, above a generator that is not below low.
  pub rest : {low : ℕ} {w : List ℕ} (k : ℕ) → Pairs e n low w → (m : ℕ) × (low ≤ m) × Pairs e n m (drop (2 * k) w)
  rest {low} zero r = (low, omega arith, r)
  rest {low} (suc k) none = (low, omega arith, rw (drop-nil (2 * suc k)) none)
  rest {low} (suc k) (pair {g = g} {a = a} {w = w} l m s t r) =
      let q = rest k r in
      (q.0, omega (arith, q.1), rw (two k) q.2)
    where
      two : (k : ℕ) → 2 * suc k ≡ suc (suc (2 * k))
      two k = omega arith

-- One pair: its generator and its exponent are in their ranges.
pub record PairAt (e : ℕ → ℕ) (n low g a : ℕ) : Type 0 where
  pub above : low < g
  pub within : g ≤ n
  pub some : 0 < a
  pub below : a < e g

module _ {e : ℕ → ℕ} {n : ℕ} where
  first : {low : ℕ} {w : List ℕ} → Pairs e n low w → 0 < length w → PairAt e n low (get_or w 0 0) (get_or w 1 0)
  first none h = absurd (omega arith)
  first (pair l m s t r) h = record { above = l; within = m; some = s; below = t }

  -- The k-th pair, counted from 0.
  pub pair-at : {low : ℕ} {w : List ℕ} (k : ℕ) → Pairs e n low w → 2 * k < length w
      → PairAt e n low (get_or w (2 * k) 0) (get_or w (2 * k + 1) 0)
  pair-at {low} {w} k r h =
      let q = rest k r in
      let f = first q.2 (rw (length-drop (2 * k) w) (omega arith)) in
      subst (λ (g : ℕ). PairAt e n low g (get_or w (2 * k + 1) 0)) (get_or-drop (2 * k) w 0 0 ∙ ap (λ (x : ℕ). get_or w x 0) (plus-0 k))
      (subst (λ (a : ℕ). PairAt e n low (get_or (drop (2 * k) w) 0 0) a) (get_or-drop (2 * k) w 1 0)
      (record { above = omega (arith, q.1, f.above); within = f.within; some = f.some; below = f.below }))
    where
      plus-0 : (k : ℕ) → 2 * k + 0 ≡ 2 * k
      plus-0 k = omega arith

longer : (u : Vector) (a : ℕ) {low : ℕ} → length u ≡ low → length (u ++ (a ∷ [])) ≡ suc low
longer u a h = length-append u (a ∷ []) ∙ plus-1 (length u) h
  where
    plus-1 : (m : ℕ) {low : ℕ} → m ≡ low → m + 1 ≡ suc low
    plus-1 m h = omega arith

-- The exponents of pairs, generator by generator: k generators above low, of which each is a pair's or has the exponent 0.
pub data Walk (e : ℕ → ℕ) : ℕ → ℕ → List ℕ → Vector → Type 0 where
  done : {low : ℕ} → Walk e zero low [] []
  skip : {k low : ℕ} {w : List ℕ} {v : Vector} → 0 < e (suc low) → Walk e k (suc low) w v → Walk e (suc k) low w (0 ∷ v)
  take-pair : {k low a : ℕ} {w : List ℕ} {v : Vector} → 0 < a → a < e (suc low) → Walk e k (suc low) w v
      → Walk e (suc k) low (suc low ∷ a ∷ w) (a ∷ v)

module _ {e : ℕ → ℕ} {n : ℕ} (positive : (m : ℕ) → 1 ≤ m → m ≤ n → 0 < e m) where
  pub walk : (k : ℕ) {low : ℕ} {w : List ℕ} → Pairs e n low w → k + low ≡ n → Walk e k low w (exponents k (suc low) w)
  walk zero none h = done
  walk zero (pair l m s t r) h = absurd (omega arith)
  walk (suc k) {low} none h = skip (positive (suc low) (omega arith) (omega arith)) (walk k none (omega arith))
  walk (suc k) {low} (pair {g = g} {a = a} {w = w} l m s t r) h =
      go (eqb g (suc low)) refl (λ x. walk k x (omega arith)) (λ x. walk k x (omega arith))
    where
      go : (b : Bool) → eqb g (suc low) ≡ b
          → (Pairs e n (suc low) w → Walk e k (suc low) w (exponents k (suc (suc low)) w))
          → (Pairs e n (suc low) (g ∷ a ∷ w) → Walk e k (suc low) (g ∷ a ∷ w) (exponents k (suc (suc low)) (g ∷ a ∷ w)))
          → Walk e (suc k) low (g ∷ a ∷ w)
          (elim b [ true ↦ a ∷ exponents k (suc (suc low)) w | false ↦ 0 ∷ exponents k (suc (suc low)) (g ∷ a ∷ w) ])
      go true q x y =
          let z : g ≡ suc low = eqb-true g (suc low) q in
          subst (λ (m : ℕ). Walk e (suc k) low (m ∷ a ∷ w) (a ∷ exponents k (suc (suc low)) w)) (sym z)
          (take-pair s (subst (λ (m : ℕ). a < e m) z t) (x (subst (λ (m : ℕ). Pairs e n m w) z r)))
      go false q x y =
          skip (positive (suc low) (omega arith) (omega arith)) (y (pair (above (eqb-false g (suc low) q)) m s t r))
        where
          above : (g ≡ suc low → ⊥) → suc low < g
          above d = omega arith

-- Spelled, they are the letters of the pairs.
pub spelled : {e : ℕ → ℕ} {k low : ℕ} {w : List ℕ} {v : Vector} → Walk e k low w v → spell (suc low) v ≡ letters w
spelled done = refl
spelled (skip p x) = spelled x
spelled {low = low} (take-pair {a = a} s t x) = ap (λ (u : Word). replicate a (suc low) ++ u) (spelled x)

-- They are a normal vector.
pub normal : (P : Presentation) {k low : ℕ} {w : List ℕ} {v : Vector} → Walk P.exponent k low w v → Normal P k (suc low) v
normal P done = tt
normal P (skip p x) = (p, normal P x)
normal P (take-pair s t x) = (t, normal P x)

-- The letters of pairs are generators above low.
over-more : (P : Presentation) (m a g : ℕ) (w : Word) → m ≤ g → g ≤ P.rank → Over P m w → Over P m (replicate a g ++ w)
over-more P m zero g w l h o = o
over-more P m (suc a) g w l h o = ((l, h), over-more P m a g w l h o)

pub letters-over : (P : Presentation) (m : ℕ) {e : ℕ → ℕ} {low : ℕ} {w : List ℕ} → Pairs e P.rank low w → m ≤ suc low → Over P m (letters w)
letters-over P m none h = tt
letters-over P m (pair {g = g} {a = a} {w = w} l b s t r) h =
    over-more P m a g (letters w) (omega arith) b (letters-over P m r (omega arith))

-- Setting the pairs down, one after the other, into a vector whose entries above low are 0, puts them there.
pub set-down : {e : ℕ → ℕ} {k low : ℕ} {w : List ℕ} {v : Vector} → Walk e k low w v → (u : Vector) → length u ≡ low
    → settled (u ++ identity k) w ≡ u ++ v
set-down done u h = refl
set-down {w = w} (skip {k = k} {v = v} p x) u h =
    ap (λ (z : Vector). settled z w) (sym (append_snoc u 0 (identity k)))
    ∙ set-down x (u ++ (0 ∷ [])) (longer u 0 h)
    ∙ append_snoc u 0 v
set-down (take-pair {k = k} {low = low} {a = a} {w = w} {v = v} s t x) u h =
    ap (λ (z : Vector). settled z w) (set_at u 0 (identity k) a (suc low - 1) (omega arith) ∙ sym (append_snoc u a (identity k)))
    ∙ set-down x (u ++ (a ∷ [])) (longer u a h)
    ∙ append_snoc u a v
