-- The list of overlaps is all of them: an overlap is among the presentation's if and only if it is listed.
--
-- Main results: `listed`, `among`.
use mathlib.Core.Path.{◌≡◌, refl, sym, subst}
use mathlib.Core.List.Memᴰ
use mathlib.Core.List.{List, [], ◌∷◌, ◌++◌, Memᴰ}
use mathlib.Core.Logic.{◌⊎◌, inl, inr}
use Prim.Native.Nat.{ℕ, zero, suc, ◌+◌, ◌-◌, ◌≤◌, ◌<◌}
use native.Mathlib.Omega.{arith}
use Rattle.theory.specs.Presentation.{Presentation}
use Rattle.theory.specs.Overlaps.{Overlap, triple, upper, lower, single, Among, rising, each, overlaps}
use Rattle.theory.proofs.Collecting.{first-or-above}

-- The generators a, a + 1, .., a + c - 1.
rising-has : (a c i : ℕ) → a ≤ i → i < a + c → Memᴰ i (rising a c)
rising-has a zero i h f = absurd (omega arith)
rising-has a (suc c) i h f = go (first-or-above a i h) (λ g. rising-has (suc a) c i g (omega arith))
  where
    go : (i ≡ a) ⊎ (a < i) → (a < i → Memᴰ i (rising (suc a) c)) → Memᴰ i (rising a (suc c))
    go (inl e) r = Memᴰ.head e
    go (inr g) r = Memᴰ.tail (r g)

rising-only : (a c i : ℕ) → Memᴰ i (rising a c) → (a ≤ i) × (i < a + c)
rising-only a zero i m = absurd (Memᴰ.not-nil m)
rising-only a (suc c) i m = go (Memᴰ.cases_cons m) (rising-only (suc a) c i)
  where
    go : (i ≡ a) ⊎ Memᴰ i (rising (suc a) c) → (Memᴰ i (rising (suc a) c) → (suc a ≤ i) × (i < suc a + c)) → (a ≤ i) × (i < a + suc c)
    go (inl e) r = (omega arith, omega arith)
    go (inr t) r = let h = r t in (omega arith, omega arith)

each-has : (is : List ℕ) (f : ℕ → List Overlap) (i : ℕ) (o : Overlap) → Memᴰ i is → Memᴰ o (f i) → Memᴰ o (each is f)
each-has [] f i o m p = absurd (Memᴰ.not-nil m)
each-has (j ∷ is) f i o m p = go (Memᴰ.cases_cons m) (λ t. each-has is f i o t p)
  where
    go : (i ≡ j) ⊎ Memᴰ i is → (Memᴰ i is → Memᴰ o (each is f)) → Memᴰ o (f j ++ each is f)
    go (inl e) r = Memᴰ.append_left (each is f) (subst (λ (x : ℕ). Memᴰ o (f x)) e p)
    go (inr t) r = Memᴰ.append_right (f j) (r t)

-- What holds of each list's overlaps holds of all.
each-only : (C : Overlap → Type 0) (is : List ℕ) (f : ℕ → List Overlap) → ((i : ℕ) (o : Overlap) → Memᴰ i is → Memᴰ o (f i) → C o)
    → (o : Overlap) → Memᴰ o (each is f) → C o
each-only C [] f h o m = absurd (Memᴰ.not-nil m)
each-only C (j ∷ is) f h o m = go (Memᴰ.append_cases (f j) m) (each-only C is f (λ i q t p. h i q (Memᴰ.tail t) p) o)
  where
    go : Memᴰ o (f j) ⊎ Memᴰ o (each is f) → (Memᴰ o (each is f) → C o) → C o
    go (inl p) r = h j o (Memᴰ.head refl) p
    go (inr t) r = r t

only : (o : Overlap) → Memᴰ o (o ∷ [])
only o = Memᴰ.head refl

module _ (P : Presentation) where
  abbrev n : ℕ
  n = P.rank

  -- The four families.
  abbrev triples : List Overlap
  triples = each (rising 1 n) (λ i. each (rising (suc i) (n - i)) (λ j. each (rising (suc j) (n - j)) (λ k. triple i j k ∷ [])))

  abbrev uppers : List Overlap
  uppers = each (rising 1 n) (λ i. each (rising (suc i) (n - i)) (λ j. upper i j ∷ []))

  abbrev lowers : List Overlap
  lowers = each (rising 1 n) (λ i. each (rising (suc i) (n - i)) (λ j. lower i j ∷ []))

  abbrev singles : List Overlap
  singles = each (rising 1 n) (λ i. single i ∷ [])

  pub listed : (o : Overlap) → Among P 1 o → Memᴰ o (overlaps n)
  listed (triple i j k) a =
      Memᴰ.append_left (uppers ++ (lowers ++ singles))
      (each-has (rising 1 n) _ i (triple i j k) (rising-has 1 n i a.0 (omega arith))
      (each-has (rising (suc i) (n - i)) _ j (triple i j k) (rising-has (suc i) (n - i) j (omega arith) (omega arith))
      (each-has (rising (suc j) (n - j)) (λ t. triple i j t ∷ []) k (triple i j k) (rising-has (suc j) (n - j) k (omega arith) (omega arith)) (only (triple i j k)))))
  listed (upper i j) a =
      Memᴰ.append_right triples
      (Memᴰ.append_left (lowers ++ singles)
      (each-has (rising 1 n) _ i (upper i j) (rising-has 1 n i a.0 (omega arith))
      (each-has (rising (suc i) (n - i)) (λ t. upper i t ∷ []) j (upper i j) (rising-has (suc i) (n - i) j (omega arith) (omega arith)) (only (upper i j)))))
  listed (lower i j) a =
      Memᴰ.append_right triples
      (Memᴰ.append_right uppers
      (Memᴰ.append_left singles
      (each-has (rising 1 n) _ i (lower i j) (rising-has 1 n i a.0 (omega arith))
      (each-has (rising (suc i) (n - i)) (λ t. lower i t ∷ []) j (lower i j) (rising-has (suc i) (n - i) j (omega arith) (omega arith)) (only (lower i j))))))
  listed (single i) a =
      Memᴰ.append_right triples
      (Memᴰ.append_right uppers
      (Memᴰ.append_right lowers (each-has (rising 1 n) (λ t. single t ∷ []) i (single i) (rising-has 1 n i a.0 (omega arith)) (only (single i)))))

  -- i from 1 to n, and j from i + 1 to n.
  pair-only : (f : ℕ → ℕ → List Overlap) → ((i j : ℕ) (o : Overlap) → 1 ≤ i → i < j → j ≤ n → Memᴰ o (f i j) → Among P 1 o)
      → (o : Overlap) → Memᴰ o (each (rising 1 n) (λ i. each (rising (suc i) (n - i)) (f i))) → Among P 1 o
  pair-only f h o m =
      each-only (Among P 1) (rising 1 n) (λ i. each (rising (suc i) (n - i)) (f i))
      (λ i q t p. each-only (Among P 1) (rising (suc i) (n - i)) (f i)
      (λ j r s u. let a = rising-only 1 n i t in let b = rising-only (suc i) (n - i) j s in h i j r a.0 b.0 (omega arith) u) q p)
      o m

  singleton : (o q : Overlap) → Among P 1 q → Memᴰ o (q ∷ []) → Among P 1 o
  singleton o q a m = subst (Among P 1) (sym (Memᴰ.eq_of_singleton m)) a

  pub among : (o : Overlap) → Memᴰ o (overlaps n) → Among P 1 o
  among o m = family (Memᴰ.append_cases triples m)
    where
      last : Memᴰ o singles → Among P 1 o
      last t =
          each-only (Among P 1) (rising 1 n) (λ i. single i ∷ [])
          (λ i q s p. let a = rising-only 1 n i s in singleton q (single i) (a.0, omega arith) p) o t

      third : Memᴰ o lowers ⊎ Memᴰ o singles → Among P 1 o
      third (inl t) = pair-only (λ i j. lower i j ∷ []) (λ i j q a b c p. singleton q (lower i j) (a, b, c) p) o t
      third (inr t) = last t

      second : Memᴰ o uppers ⊎ Memᴰ o (lowers ++ singles) → Among P 1 o
      second (inl t) = pair-only (λ i j. upper i j ∷ []) (λ i j q a b c p. singleton q (upper i j) (a, b, c) p) o t
      second (inr t) = third (Memᴰ.append_cases lowers t)

      family : Memᴰ o triples ⊎ Memᴰ o (uppers ++ (lowers ++ singles)) → Among P 1 o
      family (inl t) =
          pair-only (λ i j. each (rising (suc j) (n - j)) (λ k. triple i j k ∷ []))
          (λ i j q a b c p. each-only (Among P 1) (rising (suc j) (n - j)) (λ k. triple i j k ∷ [])
          (λ k r s u. let d = rising-only (suc j) (n - j) k s in singleton r (triple i j k) (a, b, d.0, omega arith) u) q p)
          o t
      family (inr t) = second (Memᴰ.append_cases uppers t)
