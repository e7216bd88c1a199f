-- Starting slots as they are put: what the workspace holds stands for these pieces.
--
-- Main definitions: `Laid`, `Lays`, `LaysPart`.
use Rattle.std.specs.Prelude.{◌≡◌, List, [], map, ℕ, ◌+◌, ◌≤◌, Option}
use Rattle.slots.specs.declared.Slot.{Slot}
use Rattle.slots.specs.Pieces.{Piece, meaning}
use Rattle.slots.specs.Stacked.{AllStanding}
use Rattle.collector.specs.Starting.{Held}
use Rattle.consistency.specs.declared.Part.{Part}
use Rattle.consistency.specs.Sides.{IfPartRight, part_pieces}

-- The workspace holds d slots, if it has the room for them, that stand for the pieces.
pub record Laid (n : ℕ) (bodies : List ℕ) (ps : List Piece) (ws : List ℕ) (d : ℕ) : Type 0 where
  pub slots : List Slot
  pub held : Held slots ws d
  pub standing : AllStanding n bodies [] slots
  pub means : map (meaning bodies []) slots ≡ ps

-- Putting at most one slot on the d slots of ws made the pieces into `more` of them: ws' and r are the workspace and its slots then.
pub record Lays (n : ℕ) (bodies : List ℕ) (more : List Piece → List Piece) (ws : List ℕ) (d : ℕ) (ws' : List ℕ) (r : ℕ) : Type 0 where
  pub most : r ≤ d + 1
  pub lays : (ps : List Piece) → Laid n bodies ps ws d → Laid n bodies (more ps) ws' r

-- The same for a power, whatever the presentation.
pub record LaysPart (part : Option Part) (ws : List ℕ) (d : ℕ) (ws' : List ℕ) (r : ℕ) : Type 0 where
  pub most : r ≤ d + 1
  pub lays : (n : ℕ) (bodies : List ℕ) → IfPartRight n part → (ps : List Piece) → Laid n bodies ps ws d → Laid n bodies (part_pieces part ps) ws' r
