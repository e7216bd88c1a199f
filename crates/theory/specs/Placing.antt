-- Placing one letter, and collecting a word onto a vector.
--
-- Document 01's "Placing one generator" with letters in place of slots, and with no budget and no room: those come with the
-- lent workspace, above this theory.
--
-- Main definitions: `place`, `Collects`, `collect`, `count`, `invert`.
use mathlib.Core.List.{[], ◌∷◌, ◌++◌, tail}
use Rattle.std.specs.Prelude.{Bool, true, false, ℕ, zero, suc, ◌+◌, ◌-◌, length, replicate, eqb}
use Rattle.theory.specs.Presentation.{Presentation, Word, Vector, spell, identity}

-- "For g from n down to i + 1 with entry b not 0 .. b times, put the string w_ig and then (g, 1)": the word that is put for the
-- letters of the cleared tail, each letter g giving v_ig.
abbrev pub conjugates : Presentation → ℕ → Word → Word
conjugates P i [] = []
conjugates P i (g ∷ w) = P.conjugate i g ++ conjugates P i w

-- The sum of the entries.
abbrev pub total : Vector → ℕ
total [] = 0
total (b ∷ v) = b + total v

-- "Add 1 to entry i. If it is now p, set it to 0": the entry, and whether the exponent e was reached.
abbrev pub reached : ℕ → ℕ → Bool
reached e a = eqb (suc a) e

abbrev pub raised : ℕ → ℕ → ℕ
raised e a = elim (reached e a) [ true ↦ 0 | false ↦ suc a ]

-- ".. and set down the exponents of w_i. All entries above i are 0 at that moment": the k entries above i.
abbrev pub set_down : Presentation → ℕ → ℕ → ℕ → Vector
set_down P k i a = elim (reached (P.exponent i) a) [ true ↦ P.power i | false ↦ identity k ]

-- "plus 1 if p was reached".
abbrev pub power_uses : ℕ → ℕ → ℕ
power_uses e a = elim (reached e a) [ true ↦ 1 | false ↦ 0 ]

-- One placing: the vector after it, the word that it puts on the stack, and its replacements, the exchanges and the power uses
-- apart.
pub record Placed : Type 0 where
  pub vector : Vector
  pub puts : Word
  pub exchanges : ℕ
  pub powers : ℕ

-- "The placing's replacements are the sum of those b, plus 1 if p was reached."
abbrev pub cost : Placed → ℕ
cost r = r.exchanges + r.powers

-- An entry below the placed generator stays as it is.
abbrev pub keeping : ℕ → Placed → Placed
keeping a r = record { vector = a ∷ r.vector; puts = r.puts; exchanges = r.exchanges; powers = r.powers }

-- Placing x_i on a vector whose first entry, a, is that of x_i: v is the tail.
abbrev pub placed_here : Presentation → ℕ → ℕ → Vector → Placed
placed_here P i a v =
    record {
      vector = raised (P.exponent i) a ∷ set_down P (length v) i a;
      puts = conjugates P i (spell (suc i) v);
      exchanges = total v;
      powers = power_uses (P.exponent i) a;
    }

-- Placing x_i on a vector whose first generator is m.
abbrev pub place : Presentation → ℕ → Vector → ℕ → Placed
place P m [] i = record { vector = []; puts = []; exchanges = 0; powers = 0 }
place P m (a ∷ v) i = elim (eqb i m) [ true ↦ placed_here P m a v | false ↦ keeping a (place P (suc m) v i) ]

-- Collecting: placing the letters of the word one after the other, what a placing puts before the rest, "ends when no slot is
-- left. The count answered is the total." `Collects P m v w c r`: from the vector v the word w collects to r with count c.
pub data Collects (P : Presentation) (m : ℕ) : Vector → Word → ℕ → Vector → Type 0 where
  done : {v : Vector} → Collects P m v [] 0 v
  next : {v : Vector} {i : ℕ} {w : Word} {c : ℕ} {r : Vector}
      → Collects P m (place P m v i).vector ((place P m v i).puts ++ w) c r
      → Collects P m v (i ∷ w) (cost (place P m v i) + c) r

-- The same as functions, which compute: `collect` gives the vector that `Collects` ends at, and `count` its count (proved in
-- proofs/Collecting). They go by the number k of the entries. A letter that stands at the first entry is placed there, and the
-- word that it puts is collected among the entries above.
abbrev pub folded : (Vector → ℕ → Vector) → Vector → Word → Vector
folded f v [] = v
folded f v (i ∷ w) = folded f (f v i) w

abbrev pub summed : (Vector → ℕ → Vector) → (Vector → ℕ → ℕ) → Vector → Word → ℕ
summed f c v [] = 0
summed f c v (i ∷ w) = c v i + summed f c (f v i) w

-- x_i and all that it puts, collected.
abbrev pub put : Presentation → ℕ → ℕ → Vector → ℕ → Vector
put P zero m v i = v
put P (suc k) m [] i = []
put P (suc k) m (a ∷ v) i =
    elim (eqb i m) [
      | true ↦ raised (P.exponent m) a ∷ folded (put P k (suc m)) (set_down P k m a) (placed_here P m a v).puts
      | false ↦ a ∷ put P k (suc m) v i
    ]

-- The replacements of x_i and of all that it puts.
abbrev pub put_count : Presentation → ℕ → ℕ → Vector → ℕ → ℕ
put_count P zero m v i = 0
put_count P (suc k) m [] i = 0
put_count P (suc k) m (a ∷ v) i =
    elim (eqb i m) [
      | true ↦ cost (placed_here P m a v) + summed (put P k (suc m)) (put_count P k (suc m)) (set_down P k m a) (placed_here P m a v).puts
      | false ↦ put_count P k (suc m) v i
    ]

abbrev pub collect : Presentation → ℕ → ℕ → Vector → Word → Vector
collect P k m v w = folded (put P k m) v w

abbrev pub count : Presentation → ℕ → ℕ → Vector → Word → ℕ
count P k m v w = summed (put P k m) (put_count P k m) v w

-- The product of two vectors: the right one's word collected onto the left one.
abbrev pub product : Presentation → ℕ → ℕ → Vector → Vector → Vector
product P k m u v = collect P k m u (spell m v)

-- "if entry i is then a, not 0, place x_i^(p - a) .. The inverse has p - a at those i, otherwise 0."
abbrev pub complement : ℕ → ℕ → ℕ
complement e zero = 0
complement e (suc a) = e - suc a

-- "Inverse: for i = 1 .. n": the entries of the inverse from the first generator m on. Once x_m^(e - a) is placed, entry m is 0,
-- and the entries above it go on.
abbrev pub invert : Presentation → ℕ → ℕ → Vector → Vector
invert P zero m v = []
invert P (suc k) m [] = []
invert P (suc k) m (a ∷ v) =
    complement (P.exponent m) a
    ∷ invert P k (suc m) (tail (collect P (suc k) m (a ∷ v) (replicate (complement (P.exponent m) a) m)))
