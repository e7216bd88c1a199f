-- The stack as the workspace holds it: three numbers a slot.
--
-- Main definitions: `decode`, `stack`, what a slot begins with and leaves, `front_of`, `rest_of`, and what storing a slot does, `Pushed`.
use Rattle.std.specs.Prelude.{◌≡◌, Option, Some, None, if◌then◌else◌}
use Rattle.std.specs.Prelude.{List, [], ◌∷◌, Bool, true, false, ℕ, zero, suc, ◌+◌, ◌*◌, ◌-◌, ◌≤◌, length, get_or, set, ltb}
use Rattle.layout.specs.declared.Exponent.{Exponent}
use Rattle.layout.specs.declared.Generator.{Generator}
use Rattle.slots.specs.declared.Slot.{Slot}
use Rattle.slots.specs.declared.Slot.TheVariants.{Power, Relation, Input}

-- The slot of three numbers. The first one tells the kind by its range: a generator, 41 + start, or 20,000 + start.
abbrev pub slot_of : Bool → Bool → ℕ → ℕ → ℕ → Slot
slot_of true small a b c = Power (record { 0 = a }) (record { 0 = c })
slot_of false true a b c = Relation (a - 41) b
slot_of false false a b c = Input (a - 20000) b

abbrev pub decode : ℕ → ℕ → ℕ → Slot
decode a b c = slot_of (ltb a 41) (ltb a 20000) a b c

-- The three numbers that the workspace holds of a slot: a power has no pairs, and a string the exponent 1.
abbrev pub numbers_of : Slot → List ℕ
numbers_of (Power i e) = i.0 ∷ 0 ∷ e.0 ∷ []
numbers_of (Relation start pairs) = (41 + start) ∷ pairs ∷ 1 ∷ []
numbers_of (Input start pairs) = (20000 + start) ∷ pairs ∷ 1 ∷ []

-- Slot number d, the bottom one being 0.
abbrev pub slot_at : List ℕ → ℕ → Slot
slot_at ws d = decode (get_or ws (3 * d) 0) (get_or ws (3 * d + 1) 0) (get_or ws (3 * d + 2) 0)

-- "the slots from the top down": the first d slots of the workspace, the top one first.
abbrev pub stack : List ℕ → ℕ → List Slot
stack ws zero = []
stack ws (suc d) = slot_at ws d ∷ stack ws d

-- Three numbers stored as slot number d.
abbrev pub stored : List ℕ → ℕ → ℕ → ℕ → ℕ → List ℕ
stored ws d a b c = set (set (set ws (3 * d) a) (3 * d + 1) b) (3 * d + 2) c

-- What a slot must keep to for its numbers to tell it: a generator is at most 40, a start at most the number of pairs.
abbrev pub Sound : Slot → Type 0
Sound (Power i e) = i.0 ≤ 40
Sound (Relation start pairs) = start ≤ 10660
Sound (Input start pairs) = start ≤ 4096

-- The pair number s of a text.
abbrev pub pair_of : List ℕ → ℕ → Generator × Exponent
pair_of text s = (record { 0 = get_or text (2 * s) 0 }, record { 0 = get_or text (2 * s + 1) 0 })

-- The power that a slot begins with: its own, or the first pair of its string.
abbrev pub front_of : List ℕ → List ℕ → Slot → Generator × Exponent
front_of bodies word (Power i e) = (i, e)
front_of bodies word (Relation s k) = pair_of bodies s
front_of bodies word (Input s k) = pair_of word s

-- What is left of a slot below that power: nothing of a power, and of a string "the rest if any pair remains".
abbrev pub rest_of : Slot → Option Slot
rest_of (Power i e) = None
rest_of (Relation s k) = if ltb 1 k then Some (Relation (s + 1) (k - 1)) else None
rest_of (Input s k) = if ltb 1 k then Some (Input (s + 1) (k - 1)) else None

-- The slot was put on the d slots of ws: ws' is the workspace then.
pub record Pushed (slot : Slot) (ws : List ℕ) (d : ℕ) (ws' : List ℕ) : Type 0 where
  pub kept : length ws' ≡ length ws
  pub stacked : stack ws' (d + 1) ≡ slot ∷ stack ws d

-- What is put back only if a test holds.
abbrev pub on_top : {A : Type 0} → Bool → A → List A → List A
on_top true x below = x ∷ below
on_top false x below = below

-- "if e > 1 put back (i, e - 1)", for slots and for what they stand for: `put` makes the power of x_i from its exponent.
abbrev pub lessened : {A : Type 0} → (ℕ → A) → ℕ → List A → List A
lessened put e below = on_top (ltb 1 e) (put (e - 1)) below

-- The slot of a power.
abbrev pub power_of : Generator → ℕ → Slot
power_of i e = Power i (record { 0 = e })

-- The same for the pair (i, a) that is the pair number s of a text.
abbrev pub pair_lessened : List ℕ → ℕ → List Slot → List Slot
pair_lessened text s below = lessened (power_of (record { 0 = get_or text (2 * s) 0 })) (get_or text (2 * s + 1) 0) below

-- What is left of a string whose first letter was taken, on the slots below it: "put back the rest if any pair remains, and
-- above it (i, a - 1) if a > 1". It has k pairs, of which the first is the pair number s of the text; `after` is its rest.
abbrev pub remaining_of : List ℕ → ℕ → ℕ → Slot → List Slot → List Slot
remaining_of text s k after below = pair_lessened text s (on_top (ltb 1 k) after below)

-- The workspace ws was made to hold these r slots, if it has the room for them: ws' is the workspace then.
pub record Brought (slots : List Slot) (ws ws' : List ℕ) (r : ℕ) : Type 0 where
  pub kept : length ws' ≡ length ws
  pub depth : r ≡ length slots
  pub stacked : 3 * r ≤ length ws → stack ws' r ≡ slots
