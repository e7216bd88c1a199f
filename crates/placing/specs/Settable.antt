-- Pairs whose exponents can be set down into a vector of bytes.
--
-- Main definition: `Settable`.
use Rattle.std.specs.Prelude.{List, [], ◌∷◌, ℕ, ◌≤◌, ◌<◌}

-- Each generator has an entry among the n, and each exponent is a byte.
abbrev pub Settable : ℕ → List ℕ → Type 0
Settable n [] = Unit {0}
Settable n (g ∷ []) = Unit {0}
Settable n (g ∷ a ∷ w) = ((1 ≤ g) × (g ≤ n) × (a < 256)) × Settable n w
