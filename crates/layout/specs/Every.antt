-- A test that holds at each number below k: how every "each entry is right" of the layout is said.
--
-- Main definition: `every`.
use Rattle.std.specs.Prelude.{Bool, true, false, ℕ, zero, suc}

abbrev pub every : (ℕ → Bool) → ℕ → Bool
every f zero = true
every f (suc k) = elim (every f k) [ true ↦ f k | false ↦ false ]
