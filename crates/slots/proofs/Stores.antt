-- What a store does to the stack: it leaves the slots below alone, and the stored slot is read back.
--
-- Main laws: `pushed`, the whole of it, `stack_top`, `length-stack`.
use mathlib.Core.Path.{◌≡◌, refl, ap, ◌∙◌}
use mathlib.Core.List.{List, ◌∷◌}
use Prim.Native.Nat.{ℕ, zero, suc, ◌+◌, ◌*◌, ◌-◌, ◌≤◌}
use native.Mathlib.Omega.{arith}
use native.Mathlib.Numerals.{add-one}
use lib.ListN.{length, get_or, set}
use lib.Seq.{get_or-set_other}
use Rattle.std.proofs.Common.{rules}
use Rattle.std.proofs.lemmas.List.{places}
use Rattle.slots.specs.declared.Slot.{Slot}
use Rattle.slots.specs.declared.Slot.TheVariants.{Power, Relation, Input}
use Rattle.slots.specs.Slots.{decode, numbers_of, slot_at, stack, stored, Sound, Pushed}

-- A store at or past slot number d leaves the d slots below alone.
pub stack_set : (ws : List ℕ) (j x d : ℕ) → 3 * d ≤ j → stack (set ws j x) d ≡ stack ws d
stack_set ws j x zero h = refl
stack_set ws j x (suc d) h =
    rw (
      stack_set ws j x d (omega arith),
      get_or-set_other ws j (3 * d) x 0 (λ e. omega arith),
      get_or-set_other ws j (3 * d + 1) x 0 (λ e. omega arith),
      get_or-set_other ws j (3 * d + 2) x 0 (λ e. omega arith),
    )

stack-stored : (ws : List ℕ) (d a b c : ℕ) → stack (stored ws d a b c) d ≡ stack ws d
stack-stored ws d a b c =
    stack_set (set (set ws (3 * d) a) (3 * d + 1) b) (3 * d + 2) c d (omega arith)
    ∙ stack_set (set ws (3 * d) a) (3 * d + 1) b d (omega arith)
    ∙ stack_set ws (3 * d) a d (omega arith)

-- The stored slot is read back.
slot_at-stored : (ws : List ℕ) (d a b c : ℕ) → 3 * (d + 1) ≤ length ws → slot_at (stored ws d a b c) d ≡ decode a b c
slot_at-stored ws d a b c h =
    let first : get_or (stored ws d a b c) (3 * d) 0 ≡ a = search (rules, places) in
    let second : get_or (stored ws d a b c) (3 * d + 1) 0 ≡ b = search (rules, places) in
    let third : get_or (stored ws d a b c) (3 * d + 2) 0 ≡ c = search (rules, places) in
    rw (first, second, third)

-- The first number's range tells the kind.
decode-own : (s : Slot) → Sound s → decode (get_or (numbers_of s) 0 0) (get_or (numbers_of s) 1 0) (get_or (numbers_of s) 2 0) ≡ s
decode-own (Power i e) h = search rules
decode-own (Relation s k) h = search rules
decode-own (Input s k) h = search rules

-- The numbers of a slot tell it.
pub told : (slot : Slot) (l : List ℕ) → Sound slot → l ≡ numbers_of slot → decode (get_or l 0 0) (get_or l 1 0) (get_or l 2 0) ≡ slot
told slot l h e = ap (λ (t : List ℕ). decode (get_or t 0 0) (get_or t 1 0) (get_or t 2 0)) e ∙ decode-own slot h

-- Storing three numbers that tell a slot puts it on the stack.
pub pushed
    : {slot : Slot} (ws : List ℕ) (d a b c : ℕ) → 3 * (d + 1) ≤ length ws → decode a b c ≡ slot
    → Pushed slot ws d (stored ws d a b c)
pushed ws d a b c h told =
    record {
      kept = search (rules, places);
      stacked = rw (add-one d, stack-stored ws d a b c, slot_at-stored ws d a b c h ∙ told) refl;
    }

-- A stack that is not empty is its top slot on the others.
pub stack_top : (ws : List ℕ) (d : ℕ) → 1 ≤ d → stack ws d ≡ slot_at ws (d - 1) ∷ stack ws (d - 1)
stack_top ws zero h = absurd (omega arith)
stack_top ws (suc d) h = let e : d ≡ suc d - 1 = omega arith in ap (λ (k : ℕ). slot_at ws k ∷ stack ws k) e

-- There are as many slots as the depth says.
pub length-stack : (ws : List ℕ) (d : ℕ) → length (stack ws d) ≡ d
length-stack ws zero = refl
length-stack ws (suc d) = ap suc (length-stack ws d)
