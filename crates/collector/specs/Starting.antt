-- Starting slots as the workspace holds them.
--
-- Main definitions: `word_start`, `power_start`, `Put`, `Held`.
use Rattle.std.specs.Prelude.{◌≡◌, List, [], ◌∷◌, ℕ, zero, suc, ◌+◌, ◌*◌, ◌/◌, ◌≤◌, length}
use Rattle.theory.specs.Presentation.{Vector}
use Rattle.slots.specs.declared.Slot.{Slot}
use Rattle.slots.specs.declared.Slot.TheVariants.{Input}
use Rattle.slots.specs.Slots.{stack, power_of, Pushed}

-- "the input word as one string, none if empty".
abbrev pub word_start : List ℕ → List Slot
word_start [] = []
word_start (g ∷ w) = Input 0 (length (g ∷ w) / 2) ∷ []

-- "each entry e not 0 of the right vector as one power, lowest generator on top", the entries being those of g, g + 1, ..
abbrev pub power_start : ℕ → Vector → List Slot
power_start g [] = []
power_start g (zero ∷ v) = power_start (suc g) v
power_start g (suc e ∷ v) = power_of (record { 0 = g }) (suc e) ∷ power_start (suc g) v

-- A slot is put on d slots, or is not stored if there is no room for it: ws' is the workspace then.
pub record Put (slot : Slot) (ws : List ℕ) (d : ℕ) (ws' : List ℕ) : Type 0 where
  pub kept : length ws' ≡ length ws
  pub pushed : 3 * (d + 1) ≤ length ws → Pushed slot ws d ws'

-- The workspace holds these d slots, if it has the room for them.
pub record Held (slots : List Slot) (ws : List ℕ) (d : ℕ) : Type 0 where
  pub depth : d ≡ length slots
  pub fits : 3 * d ≤ length ws → stack ws d ≡ slots
