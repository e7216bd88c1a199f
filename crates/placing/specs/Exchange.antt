-- Step 2 of a placing: what is put on the stack for the entries above the placed generator, which are set to 0.
--
-- Main definitions: `exchanged`, `exchange`, `cleared`.
use Rattle.std.specs.Prelude.{◌≡◌, List, [], ◌∷◌, ◌++◌, true, false, ℕ, zero, suc, ◌+◌, ◌-◌, ◌*◌, ◌≤◌, ◌<◌, length, take, eqb}
use Rattle.theory.specs.Presentation.{Vector, identity}
use Rattle.layout.specs.declared.Generator.{Generator}
use Rattle.layout.specs.declared.Span.{Span}
use Rattle.layout.specs.Header.{rank_of}
use Rattle.layout.specs.Contents.{start_of, length_of, entry_at, stretch_of}
use Rattle.slots.specs.declared.Slot.{Slot}
use Rattle.slots.specs.declared.Slot.TheVariants.{Relation}
use Rattle.slots.specs.Slots.{stack, power_of}
use Rattle.slots.specs.Pieces.{Piece, power, string}

-- "b times, put the string w_ig and then (g, 1)", on what stands below.
abbrev pub copies : ℕ → List ℕ → ℕ → List Piece → List Piece
copies zero w g below = below
copies (suc b) w g below = power g 1 ∷ string w ∷ copies b w g below

-- "For g .. with entry b not 0 .. If w_ig is empty, put (g, b). Otherwise, b times, put the string w_ig and then (g, 1)": w is w_ig.
abbrev pub exchanged : List ℕ → ℕ → ℕ → List Piece → List Piece
exchanged w g zero below = below
exchanged [] g (suc b) below = power g (suc b) ∷ below
exchanged (h ∷ w) g (suc b) below = copies (suc b) (h ∷ w) g below

-- "For g from n down to i + 1": the entries of v are those of g, g + 1, .., n. What is put for g stands on what is put for the
-- generators above it.
abbrev pub exchange : List ℕ → ℕ → ℕ → Vector → List Piece → List Piece
exchange nums i g [] below = below
exchange nums i g (b ∷ v) below = exchanged (stretch_of nums i g) g b (exchange nums i (suc g) v below)

-- The same as the workspace holds it: the slots of one entry, on the slots below. The string is the unread relation word of the span.
abbrev pub copies_of : ℕ → Slot → Generator → List Slot → List Slot
copies_of zero w g below = below
copies_of (suc b) w g below = power_of g 1 ∷ w ∷ copies_of b w g below

abbrev pub entry_slots : Span → Generator → ℕ → List Slot → List Slot
entry_slots span g zero below = below
entry_slots span g (suc b) below =
    elim (eqb span.pairs 0) [
      | true ↦ power_of g (suc b) ∷ below
      | false ↦ copies_of (suc b) (Relation span.start span.pairs) g below
    ]

-- What the contents say of an entry.
abbrev pub span_of : List ℕ → ℕ → Span
span_of nums e = record { start = start_of nums e; pairs = length_of nums e }

-- The slots of all entries of v, those of g, g + 1, .., n.
abbrev pub exchange_slots : List ℕ → ℕ → ℕ → Vector → List Slot → List Slot
exchange_slots nums i g [] below = below
exchange_slots nums i g (b ∷ v) below =
    entry_slots (span_of nums (entry_at (rank_of nums) i g)) (record { 0 = g }) b (exchange_slots nums i (suc g) v below)

-- "set the entry to 0", for each g above i: the vector after step 2.
abbrev pub cleared : ℕ → Vector → Vector
cleared i v = take i v ++ identity (length v - i)

-- The workspace ws was made to hold these slots if there is room for them, and r tells: ws' is the workspace then, with r slots, or r is
-- more than its room, by not much, and so are the slots.
pub record Filled (slots : List Slot) (ws ws' : List ℕ) (r : ℕ) : Type 0 where
  pub kept : length ws' ≡ length ws
  pub fits : 3 * r ≤ length ws → stack ws' r ≡ slots
  pub over : length ws < 3 * r → length ws < 3 * length slots
  pub near : 3 * r ≤ length ws + 1530
