-- The test `prime_to_251` holds at exactly the primes from 2 to 251, and trial division up to the root decides it.
--
-- Main results: `enough` (for the loop), `prime-passes`, `passes-prime`.
use mathlib.Core.Path.{◌≡◌, refl, ap, ◌∙◌, subst}
use mathlib.Core.Bool.{Bool, true, false, not}
use mathlib.Core.Logic.{◌⊎◌, inl, inr}
use Prim.Native.Nat.{ℕ, zero, suc, ◌+◌, ◌-◌, ◌*◌, ◌/◌, ◌%◌, ◌<◌, ◌≤◌}
use native.Mathlib.Omega.{arith}
use native.Mathlib.Nat.{div-add-mod', mul-mod_left, mul-mod_right, mul-le-mul, mul-le-mul_right, mul-le-mul_left}
use native.Mathlib.Decide.{dec_lt}
use borrow.Author.Tests.{eqb-false, ne_eqb, eq-eqb, not-true, le-leb, lt-leb, leb-true}
use lib.Dec.{leb, eqb}
use Rattle.layout.specs.Prime.{Prime, undivided, prime_to_251}
use Rattle.layout.proofs.Every.{at, fail}

back : (d : ℕ) → 2 ≤ d → d ≡ d - 2 + 2
back d l = omega arith

-- What the test says of one divisor.
undivided-at : (p k d : ℕ) → undivided p k ≡ true → 2 ≤ d → d < k + 2 → p % d ≡ 0 → ⊥
undivided-at p k d h l m e =
    eqb-false (p % (d - 2 + 2)) 0 (not-true _ (at (λ d. not (eqb (p % (d + 2)) 0)) k (d - 2) h (omega arith)))
    (subst (λ (x : ℕ). p % x ≡ 0) (back d l) e)

-- The test from its failing nowhere.
undivided-of : (p k : ℕ) → ((d : ℕ) → 2 ≤ d → d < k + 2 → p % d ≡ 0 → ⊥) → undivided p k ≡ true
undivided-of p zero h = refl
undivided-of p (suc k) h =
    rw (undivided-of p k (λ d l m. h d l (omega arith)))
    (ap not (ne_eqb (p % (k + 2)) 0 (h (k + 2) (omega arith) (omega arith))))

-- A divisor d with no number from 2 to m below it dividing p has m * m at most p: its partner is at least m too.
partner : (p d m : ℕ) → ((c : ℕ) → 2 ≤ c → c < m → p % c ≡ 0 → ⊥) → 2 ≤ p → 2 ≤ d → d < p → p < m * m → p % d ≡ 0 → ⊥
partner p d m h p2 l lt sq e = go (dec_lt d m) (dec_lt (p / d) m)
  where
    whole : p / d * d ≡ p
    whole = omega (arith, div-add-mod' p d)

    two : 2 ≤ p / d
    two = small (p / d) whole
      where
        small : (q : ℕ) → q * d ≡ p → 2 ≤ q
        small zero w = absurd (omega arith)
        small (suc zero) w = absurd (omega arith)
        small (suc (suc q)) w = omega arith

    go : Dec (d < m) → Dec (p / d < m) → ⊥
    go (yes a) b = h d l a e
    go (no a) (yes b) = h (p / d) two b (subst (λ (x : ℕ). x % (p / d) ≡ 0) whole (mul-mod_right (p / d) d))
    go (no a) (no b) =
        let ml : m ≤ d = omega arith in
        let mq : m ≤ p / d = omega arith in
        let big : m * m ≤ p / d * d = mul-le-mul mq ml in
        omega (arith, whole)

-- Trial division up to the root is enough.
pub enough : (p m : ℕ) → 2 ≤ p → 2 ≤ m → undivided p (m - 2) ≡ true → p < m * m → undivided p (p - 2) ≡ true
enough p m p2 m2 h sq =
    undivided-of p (p - 2)
    (λ d l lt. partner p d m (λ c cl cm. undivided-at p (m - 2) c h cl (omega arith)) p2 l (omega arith) sq)

-- A divisor that was found settles it.
pub divided : (p d : ℕ) → 2 ≤ d → d < p → p % d ≡ 0 → undivided p (p - 2) ≡ false
divided p d l lt e =
    fail (λ d. not (eqb (p % (d + 2)) 0)) (p - 2) (d - 2) (omega arith)
    (ap not (eq-eqb (p % (d - 2 + 2)) 0 (subst (λ (x : ℕ). p % x ≡ 0) (back d l) e)))

-- .. of the test too, in range or not.
pub divided-fails : (p d : ℕ) → 2 ≤ d → d < p → p % d ≡ 0 → prime_to_251 p ≡ false
divided-fails p d l lt e = go (leb 2 p) (leb p 251) (divided p d l lt e)
  where
    go : (a b : Bool) → undivided p (p - 2) ≡ false
        → elim a [ true ↦ elim b [ true ↦ undivided p (p - 2) | false ↦ false ] | false ↦ false ] ≡ false
    go false b h = refl
    go true false h = refl
    go true true h = h

-- The test by its cases.
pub too_small : (p : ℕ) → p < 2 → prime_to_251 p ≡ false
too_small p h = rw (lt-leb 2 p h, prime_to_251)

pub too_large : (p : ℕ) → 251 < p → prime_to_251 p ≡ false
too_large p h = rw (le-leb 2 p (omega arith), lt-leb p 251 h, prime_to_251)

pub in-range : (p : ℕ) → 2 ≤ p → p ≤ 251 → prime_to_251 p ≡ undivided p (p - 2)
in-range p l h = rw (le-leb 2 p l, le-leb p 251 h, prime_to_251)

-- The test lets only primes from 2 to 251 pass ..
pub passes-prime : (p : ℕ) → prime_to_251 p ≡ true → Prime p × (p ≤ 251)
passes-prime p h = go (leb 2 p) refl (leb p 251) refl h
  where
    go : (a : Bool) → leb 2 p ≡ a → (b : Bool) → leb p 251 ≡ b
        → elim a [ true ↦ elim b [ true ↦ undivided p (p - 2) | false ↦ false ] | false ↦ false ] ≡ true → Prime p × (p ≤ 251)
    go false ea b eb t = let z : ◌≡◌ {A = ℕ} 0 1 = cc in absurd (omega arith)
    go true ea false eb t = let z : ◌≡◌ {A = ℕ} 0 1 = cc in absurd (omega arith)
    go true ea true eb t = (record { above_one = l; divisors = only }, leb-true p 251 eb)
      where
        l : 2 ≤ p
        l = leb-true 2 p ea

        inner : (d q : ℕ) → q * d ≡ p → 2 ≤ d → d < p → ⊥
        inner d q e dl lt = undivided-at p (p - 2) d t dl (omega arith) (subst (λ (x : ℕ). x % d ≡ 0) e (mul-mod_left q d))

        above : (d q : ℕ) → q * d ≡ p → p < d → ⊥
        above d zero e lt = omega (arith, l)
        above d (suc q) e lt = omega (arith, mul-le-mul_right d (one-le q))
          where
            one-le : (q : ℕ) → 1 ≤ suc q
            one-le q = omega arith

        only : (d q : ℕ) → q * d ≡ p → (d ≡ 1) ⊎ (d ≡ p)
        only d q e = pick (dec_lt d 2) (dec_lt d p) (dec_lt p d)
          where
            zero-not : q * d ≡ p → d ≡ 0 → ⊥
            zero-not e z = omega (arith, l, subst (λ (x : ℕ). q * x ≡ p) z e)

            pick : Dec (d < 2) → Dec (d < p) → Dec (p < d) → (d ≡ 1) ⊎ (d ≡ p)
            pick (yes a) y z = inl (one (zero-not e))
              where
                one : (d ≡ 0 → ⊥) → d ≡ 1
                one n = omega arith
            pick (no a) (yes b) z = absurd (inner d q e (omega arith) b)
            pick (no a) (no b) (yes c) = absurd (above d q e c)
            pick (no a) (no b) (no c) = inr (omega arith)

-- .. and each of them.
pub prime-passes : (p : ℕ) → Prime p → p ≤ 251 → prime_to_251 p ≡ true
prime-passes p h m = in-range p h.above_one m ∙ undivided-of p (p - 2) none
  where
    none : (d : ℕ) → 2 ≤ d → d < p - 2 + 2 → p % d ≡ 0 → ⊥
    none d l lt e = pick (h.divisors d (p / d) (omega (arith, div-add-mod' p d)))
      where
        pick : (d ≡ 1) ⊎ (d ≡ p) → ⊥
        pick (inl a) = omega arith
        pick (inr a) = omega (arith, h.above_one)

-- A step of the loop: d is below p while its square is at most p.
pub smaller : (p d : ℕ) → 2 ≤ d → d * d ≤ p → d < p
smaller p d l s = omega (arith, mul-le-mul_left d l)
