-- Laws of words and vectors: letters over a range, normal vectors, spelled words, images under conjugation.
--
-- Main results: `over-append`, `spell-identity`, `spell-over`, `conjugates-append`, `conjugates-over`, and the two faces of every
-- definition that walks down a vector: `place-here` and `place-above`, `put-here` and `put-above`.
use mathlib.Core.Path.{◌≡◌, refl, sym, ap, ◌∙◌}
use mathlib.Core.List.{[], ◌∷◌, ◌++◌, append_assoc, append-nil}
use mathlib.Core.Bool.{true, false}
use Prim.Native.Nat.{ℕ, zero, suc, ◌+◌, ◌-◌, ◌≤◌, ◌<◌}
use native.Mathlib.Omega.{arith}
use lib.ListN.{length, replicate}
use lib.Dec.{eqb}
use borrow.Author.Tests.{eq-eqb, ne_eqb}
use Rattle.theory.specs.Presentation.{Presentation, Word, Vector, spell, identity, Normal, Over, NormalWord, Valid, power_word}
use Rattle.theory.specs.Placing.{conjugates, total, raised, set_down, place, placed_here, keeping, summed, put, put_count, collect, power_uses}

pub eqb_same : (i : ℕ) → eqb i i ≡ true
eqb_same i = eq-eqb i i refl

pub eqb-above : (i m : ℕ) → m < i → eqb i m ≡ false
eqb-above i m h = ne_eqb i m (λ e. omega arith)

-- The letters of a block: one letter behind a block is one letter before it.
pub block-snoc : (a i : ℕ) (w : Word) → replicate a i ++ (i ∷ w) ≡ i ∷ (replicate a i ++ w)
block-snoc zero i w = refl
block-snoc (suc a) i w = ap {B = Word} (λ u. i ∷ u) (block-snoc a i w)

pub block-add : (a b i : ℕ) (w : Word) → replicate (a + b) i ++ w ≡ replicate a i ++ (replicate b i ++ w)
block-add zero b i w = let h : 0 + b ≡ b = omega arith in ap (λ (x : ℕ). replicate x i ++ w) h
block-add (suc a) b i w =
    let h : suc a + b ≡ suc (a + b) = omega arith in
    ap (λ (x : ℕ). replicate x i ++ w) h ∙ ap {B = Word} (λ u. i ∷ u) (block-add a b i w)

module _ (P : Presentation) where
  -- Letters over a range.
  pub over-append : (m : ℕ) (u w : Word) → Over P m u → Over P m w → Over P m (u ++ w)
  over-append m [] w p q = q
  over-append m (i ∷ u) w p q = (p.0, over-append m u w p.1 q)

  pub over-weaken : (l m : ℕ) (w : Word) → l ≤ m → Over P m w → Over P l w
  over-weaken l m [] h p = tt
  over-weaken l m (i ∷ w) h p = ((omega arith, p.0.1), over-weaken l m w h p.1)

  pub over-block : (m a i : ℕ) → m ≤ i → i ≤ P.rank → Over P m (replicate a i)
  over-block m zero i h l = tt
  over-block m (suc a) i h l = ((h, l), over-block m a i h l)

  -- A normal vector's word is over its generators.
  pub spell-over : (k m : ℕ) (v : Vector) → k + m ≡ suc P.rank → Normal P k m v → Over P m (spell m v)
  spell-over zero m [] f p = tt
  spell-over zero m (a ∷ v) f p = elim p [ ]
  spell-over (suc k) m [] f p = elim p [ ]
  spell-over (suc k) m (a ∷ v) f p =
      over-append m (replicate a m) (spell (suc m) v)
      (over-block m a m (omega arith) (omega arith))
      (over-weaken m (suc m) (spell (suc m) v) (omega arith) (spell-over k (suc m) v (omega arith) p.1))

  -- Normal vectors have k entries.
  pub normal-length : (k m : ℕ) (v : Vector) → Normal P k m v → length v ≡ k
  normal-length zero m [] p = refl
  normal-length zero m (a ∷ v) p = elim p [ ]
  normal-length (suc k) m [] p = elim p [ ]
  normal-length (suc k) m (a ∷ v) p = ap suc (normal-length k (suc m) v p.1)

  pub spell-identity : (k m : ℕ) → spell m (identity k) ≡ []
  spell-identity zero m = refl
  spell-identity (suc k) m = spell-identity k (suc m)

  pub total-identity : (k : ℕ) → total (identity k) ≡ 0
  total-identity zero = refl
  total-identity (suc k) = rw (total-identity k)

  -- The image of a word under conjugation by x_i.
  pub conjugates-append : (i : ℕ) (u w : Word) → conjugates P i (u ++ w) ≡ conjugates P i u ++ conjugates P i w
  conjugates-append i [] w = refl
  conjugates-append i (g ∷ u) w =
      ap (λ (x : Word). P.conjugate i g ++ x) (conjugates-append i u w) ∙ sym (append_assoc (P.conjugate i g) (conjugates P i u) (conjugates P i w))

  -- The image of a block, its last letter split off.
  pub conjugates-block : (i b g : ℕ) (z : Word)
      → conjugates P i (replicate b g) ++ (P.conjugate i g ++ z) ≡ conjugates P i (replicate (suc b) g) ++ z
  conjugates-block i zero g z = ap (λ (x : Word). x ++ z) (sym (append-nil (P.conjugate i g)))
  conjugates-block i (suc b) g z =
      append_assoc (P.conjugate i g) (conjugates P i (replicate b g)) (P.conjugate i g ++ z)
      ∙ ap (λ (x : Word). P.conjugate i g ++ x) (conjugates-block i b g z)
      ∙ sym (append_assoc (P.conjugate i g) (conjugates P i (replicate (suc b) g)) z)

  -- The two faces of placing: at the vector's first generator, and above it.
  pub place-here : (m a : ℕ) (v : Vector) → place P m (a ∷ v) m ≡ placed_here P m a v
  place-here m a v = rw (eqb_same m, place)

  pub place-above : (m a i : ℕ) (v : Vector) → m < i → place P m (a ∷ v) i ≡ keeping a (place P (suc m) v i)
  place-above m a i v h = rw (eqb-above i m h, place)

  pub put-here : (k m a : ℕ) (v : Vector)
      → put P (suc k) m (a ∷ v) m ≡ raised (P.exponent m) a ∷ collect P k (suc m) (set_down P k m a) (conjugates P m (spell (suc m) v))
  put-here k m a v = rw (eqb_same m, put)

  pub put-above : (k m a i : ℕ) (v : Vector) → m < i → put P (suc k) m (a ∷ v) i ≡ a ∷ put P k (suc m) v i
  put-above k m a i v h = rw (eqb-above i m h, put)

  pub put_count-here : (k m a : ℕ) (v : Vector)
      → put_count P (suc k) m (a ∷ v) m
      ≡ total v + power_uses (P.exponent m) a
      + summed (put P k (suc m)) (put_count P k (suc m)) (set_down P k m a) (conjugates P m (spell (suc m) v))
  put_count-here k m a v = rw (eqb_same m, put_count)

  pub put_count-above : (k m a i : ℕ) (v : Vector) → m < i → put_count P (suc k) m (a ∷ v) i ≡ put_count P k (suc m) v i
  put_count-above k m a i v h = rw (eqb-above i m h, put_count)

  module _ (valid : Valid P) where
    -- v_ij is over the generators above i.
    pub conjugate-over : (i j : ℕ) → 1 ≤ i → i < j → j ≤ P.rank → Over P (suc i) (P.conjugate i j)
    conjugate-over i j h l f = go (valid.conjugates i j (P.rank - i) h l f (omega arith))
      where
        go : NormalWord P (P.rank - i) (suc i) (P.conjugate i j) → Over P (suc i) (P.conjugate i j)
        go c = rw c.spelled (spell-over (P.rank - i) (suc i) c.vector (omega arith) c.normal)

    pub conjugates-over : (i : ℕ) (w : Word) → 1 ≤ i → Over P (suc i) w → Over P (suc i) (conjugates P i w)
    conjugates-over i [] h p = tt
    conjugates-over i (g ∷ w) h p =
        over-append (suc i) (P.conjugate i g) (conjugates P i w) (conjugate-over i g h p.0.0 p.0.1) (conjugates-over i w h p.1)

    pub power-over : (i : ℕ) → 1 ≤ i → i ≤ P.rank → Over P (suc i) (power_word P i)
    power-over i h l = spell-over (P.rank - i) (suc i) (P.power i) (omega arith) (valid.powers i (P.rank - i) h (omega arith))
