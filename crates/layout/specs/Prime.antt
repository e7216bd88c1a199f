-- The primes from 2 to 251: what prime means, and the test that the judged number cites. That the test holds at exactly these
-- primes is proved in proofs/Primes.
--
-- Main definitions: `Prime`, `prime_to_251`.
use Rattle.std.specs.Prelude.{◌≡◌, Bool, true, false, not, ◌⊎◌, ℕ, ◌+◌, ◌-◌, ◌*◌, ◌%◌, ◌≤◌, leb, eqb}
use Rattle.layout.specs.Every.{every}

-- A prime is at least 2, and its divisors are 1 and itself.
pub record Prime (p : ℕ) : Type 0 where
  pub above_one : 2 ≤ p
  pub divisors : (d q : ℕ) → q * d ≡ p → (d ≡ 1) ⊎ (d ≡ p)

-- None of the k numbers 2, 3, .. divides p.
abbrev pub undivided : ℕ → ℕ → Bool
undivided p k = every (λ d. not (eqb (p % (d + 2)) 0)) k

-- "p a prime from 2 to 251": none of 2, .., p - 1 divides it.
abbrev pub prime_to_251 : ℕ → Bool
prime_to_251 p = elim (leb 2 p) [ true ↦ elim (leb p 251) [ true ↦ undivided p (p - 2) | false ↦ false ] | false ↦ false ]
