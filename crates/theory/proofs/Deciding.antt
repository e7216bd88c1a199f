-- Tests that compute, for a presentation that is given in numbers: is it valid, and do its overlaps agree?
--
-- Main results: `valid-by`, `consistent-by`.
use mathlib.Core.Path.{◌≡◌, refl, sym, subst}
use mathlib.Core.List.Memᴰ
use mathlib.Core.List.{List, [], ◌∷◌, Memᴰ}
use mathlib.Core.Bool.{Bool, true, false, ◌&&◌}
use mathlib.Core.Logic.{◌⊎◌, inl, inr}
use Prim.Native.Nat.{ℕ, zero, suc, ◌+◌, ◌-◌, ◌≤◌, ◌<◌}
use native.Mathlib.Omega.{arith}
use lib.Dec.{eqb, leb, ltb}
use borrow.Author.Tests.{eqb-true, leb-true, ltb-true}
use Rattle.theory.specs.Presentation.{Presentation, Word, Vector, spell, identity, Normal, NormalWord, Valid}
use Rattle.theory.specs.Placing.{collect}
use Rattle.theory.specs.Overlaps.{Overlap, left_side, right_side, Agrees, Consistent, overlaps}
use Rattle.theory.specs.Examples.{exponents_of}
use Rattle.theory.proofs.Collecting.{first-or-above}
use Rattle.theory.proofs.Listing.{listed}

both_left : (a b : Bool) → (a && b) ≡ true → a ≡ true
both_left true b e = refl
both_left false b e = e

both_right : (a b : Bool) → (a && b) ≡ true → b ≡ true
both_right true b e = e
both_right false b e = let z : ◌≡◌ {A = ℕ} 0 1 = cc in absurd (omega arith)

-- The test f passes at a, a + 1, .., a + c - 1.
abbrev pub passes : (ℕ → Bool) → ℕ → ℕ → Bool
passes f a zero = true
passes f a (suc c) = f a && passes f (suc a) c

passes_at : (f : ℕ → Bool) (a c i : ℕ) → passes f a c ≡ true → a ≤ i → i < a + c → f i ≡ true
passes_at f a zero i e h l = absurd (omega arith)
passes_at f a (suc c) i e h l = go (first-or-above a i h) (λ g. passes_at f (suc a) c i (both_right (f a) (passes f (suc a) c) e) g (omega arith))
  where
    go : (i ≡ a) ⊎ (a < i) → (a < i → f i ≡ true) → f i ≡ true
    go (inl q) r = subst (λ (x : ℕ). f x ≡ true) (sym q) (both_left (f a) (passes f (suc a) c) e)
    go (inr g) r = r g

abbrev pub same_lists : List ℕ → List ℕ → Bool
same_lists [] [] = true
same_lists [] (b ∷ y) = false
same_lists (a ∷ x) [] = false
same_lists (a ∷ x) (b ∷ y) = eqb a b && same_lists x y

same-lists-equal : (x y : List ℕ) → same_lists x y ≡ true → x ≡ y
same-lists-equal [] [] e = refl
same-lists-equal [] (b ∷ y) e = let z : ◌≡◌ {A = ℕ} 0 1 = cc in absurd (omega arith)
same-lists-equal (a ∷ x) [] e = let z : ◌≡◌ {A = ℕ} 0 1 = cc in absurd (omega arith)
same-lists-equal (a ∷ x) (b ∷ y) e =
    let p : a ≡ b = eqb-true a b (both_left (eqb a b) (same_lists x y) e) in
    let q : x ≡ y = same-lists-equal x y (both_right (eqb a b) (same_lists x y) e) in
    cc

module _ (P : Presentation) where
  abbrev n : ℕ
  n = P.rank

  abbrev pub normal-test : ℕ → ℕ → Vector → Bool
  normal-test zero m [] = true
  normal-test zero m (a ∷ v) = false
  normal-test (suc k) m [] = false
  normal-test (suc k) m (a ∷ v) = ltb a (P.exponent m) && normal-test k (suc m) v

  normal-by : (k m : ℕ) (v : Vector) → normal-test k m v ≡ true → Normal P k m v
  normal-by zero m [] e = tt
  normal-by zero m (a ∷ v) e = let z : ◌≡◌ {A = ℕ} 0 1 = cc in absurd (omega arith)
  normal-by (suc k) m [] e = let z : ◌≡◌ {A = ℕ} 0 1 = cc in absurd (omega arith)
  normal-by (suc k) m (a ∷ v) e =
      let t = ltb a (P.exponent m) in
      (ltb-true a (P.exponent m) (both_left t (normal-test k (suc m) v) e), normal-by k (suc m) v (both_right t (normal-test k (suc m) v) e))

  -- The word is the word of the vector that counts its letters, and that vector is normal.
  abbrev pub word_test : ℕ → ℕ → Word → Bool
  word_test k m w = normal-test k m (exponents_of k m w) && same_lists w (spell m (exponents_of k m w))

  word-by : (k m : ℕ) (w : Word) → word_test k m w ≡ true → NormalWord P k m w
  word-by k m w e =
      let a = normal-test k m (exponents_of k m w) in
      let b = same_lists w (spell m (exponents_of k m w)) in
      record { vector = exponents_of k m w; normal = normal-by k m (exponents_of k m w) (both_left a b e); spelled = same-lists-equal w (spell m (exponents_of k m w)) (both_right a b e) }

  abbrev pub valid-test : Bool
  valid-test =
      passes (λ i. leb 2 (P.exponent i)) 1 n
      && (passes (λ i. normal-test (n - i) (suc i) (P.power i)) 1 n
      && passes (λ i. passes (λ j. word_test (n - i) (suc i) (P.conjugate i j)) (suc i) (n - i)) 1 n)

  pub valid-by : valid-test ≡ true → Valid P
  valid-by e =
      record {
        exponents = λ i h f. leb-true 2 (P.exponent i) (passes_at _ 1 n i first h (omega arith));
        powers = λ i k h f.
            let q : n - i ≡ k = omega arith in
            subst (λ (x : ℕ). Normal P x (suc i) (P.power i)) q (normal-by (n - i) (suc i) (P.power i) (passes_at _ 1 n i second h (omega arith)));
        conjugates = λ i j k h l f g.
            let q : n - i ≡ k = omega arith in
            subst (λ (x : ℕ). NormalWord P x (suc i) (P.conjugate i j)) q
            (word-by (n - i) (suc i) (P.conjugate i j)
            (passes_at (λ x. word_test (n - i) (suc i) (P.conjugate i x)) (suc i) (n - i) j (passes_at _ 1 n i third h (omega arith)) l (omega arith)));
      }
    where
      a : Bool
      a = passes (λ i. leb 2 (P.exponent i)) 1 n

      b : Bool
      b = passes (λ i. normal-test (n - i) (suc i) (P.power i)) 1 n

      c : Bool
      c = passes (λ i. passes (λ j. word_test (n - i) (suc i) (P.conjugate i j)) (suc i) (n - i)) 1 n

      first : passes (λ i. leb 2 (P.exponent i)) 1 n ≡ true
      first = both_left a (b && c) e

      second : passes (λ i. normal-test (n - i) (suc i) (P.power i)) 1 n ≡ true
      second = both_left b c (both_right a (b && c) e)

      third : passes (λ i. passes (λ j. word_test (n - i) (suc i) (P.conjugate i j)) (suc i) (n - i)) 1 n ≡ true
      third = both_right b c (both_right a (b && c) e)

  abbrev pub agree-test : List Overlap → Bool
  agree-test [] = true
  agree-test (o ∷ os) = same_lists (collect P n 1 (identity n) (left_side P o)) (collect P n 1 (identity n) (right_side P o)) && agree-test os

  agree-by : (os : List Overlap) → agree-test os ≡ true → (o : Overlap) → Memᴰ o os → Agrees P n 1 o
  agree-by [] e o m = absurd (Memᴰ.not-nil m)
  agree-by (q ∷ os) e o m = go (Memᴰ.cases_cons m) (agree-by os (both_right t (agree-test os) e) o)
    where
      t : Bool
      t = same_lists (collect P n 1 (identity n) (left_side P q)) (collect P n 1 (identity n) (right_side P q))

      go : (o ≡ q) ⊎ Memᴰ o os → (Memᴰ o os → Agrees P n 1 o) → Agrees P n 1 o
      go (inl p) r = subst (λ (x : Overlap). Agrees P n 1 x) (sym p) (same-lists-equal _ _ (both_left t (agree-test os) e))
      go (inr s) r = r s

  pub consistent-by : agree-test (overlaps n) ≡ true → Consistent P
  consistent-by e o a = agree-by (overlaps n) e o (listed P o a)
