-- The laws of `every`: how a loop over all entries goes on, how it is left early, and what its end tells of each entry.
use mathlib.Core.Path.{◌≡◌, refl, sym, ◌∙◌, subst}
use mathlib.Core.Bool.{Bool, true, false}
use Prim.Native.Nat.{ℕ, zero, suc, ◌+◌, ◌<◌}
use native.Mathlib.Omega.{arith}
use native.Mathlib.Numerals.{add-one}
use native.Mathlib.Decide.{dec_lt}
use Rattle.layout.specs.Every.{every}

-- One more entry passes.
pub pass : (f : ℕ → Bool) (k : ℕ) → every f k ≡ true → f k ≡ true → every f (k + 1) ≡ true
pass f k h t = rw (add-one k, h) t

-- An entry that fails settles it.
pub fail : (f : ℕ → Bool) (m k : ℕ) → k < m → f k ≡ false → every f m ≡ false
fail f zero k h e = absurd (omega arith)
fail f (suc m) k h e = go (every f m) refl (dec_lt k m) (λ l. fail f m k l e)
  where
    go : (b : Bool) → every f m ≡ b → Dec (k < m) → (k < m → every f m ≡ false) → elim b [ true ↦ f m | false ↦ false ] ≡ false
    go false q d r = refl
    go true q (yes l) r = let z : ◌≡◌ {A = ℕ} 0 1 = cc (r l) in absurd (omega arith)
    go true q (no n) r = subst (λ (x : ℕ). f x ≡ false) (same n) e
      where
        same : (k < m → ⊥) → k ≡ m
        same n = omega arith

-- Where all pass, each does.
pub at : (f : ℕ → Bool) (m k : ℕ) → every f m ≡ true → k < m → f k ≡ true
at f m k h l = go (f k) refl
  where
    go : (b : Bool) → f k ≡ b → f k ≡ true
    go true q = q
    go false q = let z : true ≡ false = sym h ∙ fail f m k l q in q ∙ sym z
